-- A list that was lent whole came back with another content.
use Rattle.std.proofs.Common.{◌≡◌, ◌∙◌, ℕ, List, ◌++◌, length, take, ap}
use Rattle.std.proofs.Math.Seq.{take-append_seam}

pub came_back : {A : Type 0} (n : ℕ) (new rest : List A) → n ≡ length new → take n (new ++ rest) ≡ new
came_back n new rest e = ap (λ k. take k (new ++ rest)) e ∙ take-append_seam new rest
