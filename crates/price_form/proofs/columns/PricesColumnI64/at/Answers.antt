use Rattle.std.proofs.Common.{◌∙◌, ◌<◌, ◌≤◌, ◌+◌, ◌*◌, ℕ, List, length, arith, sym, subst}
use Rattle.std.specs.Int.{w64}
use Rattle.std.proofs.lemmas.Int.{to_z-of_z}
use Rattle.price_form.specs.Octets.{many_at, price_number_at}
use Rattle.price_form.proofs.Standing.{length-many, get-many}
use Rattle.price_form.proofs.columns.PricesColumnI64.at.Goals as goal

below : (xs : List ℕ) (from count i : ℕ) → i < length (many_at price_number_at 8 xs from count) → i < count
below xs from count i lt = subst (λ (n : ℕ). i < n) (length-many price_number_at 8 xs from count) lt

fits : (n from count i : ℕ) → from + count * 8 ≤ n → i < count → from + i * 8 + 8 ≤ n
fits n from count i le lt = omega (arith, le, lt)

pub overflow_mul-index : goal.overflow_mul-index
overflow_mul-index c = let s = c.args.self.now in omega (arith, fits (length s.octets.now) s.from s.count c.args.index s.inside (below s.octets.now s.from s.count c.args.index c.requires))

pub overflow_add-self : goal.overflow_add-self
overflow_add-self c = let s = c.args.self.now in omega (arith, fits (length s.octets.now) s.from s.count c.args.index s.inside (below s.octets.now s.from s.count c.args.index c.requires))

pub price_at-requires : goal.price_at-requires
price_at-requires c = let s = c.args.self.now in fits (length s.octets.now) s.from s.count c.args.index s.inside (below s.octets.now s.from s.count c.args.index c.requires)

pub returns : goal.returns
returns c = λ d. let s = c.args.self.now in to_z-of_z w64 c.price_at.result (record { sfits = c.price_at.type_inv }) ∙ c.price_at.ensures ∙ sym (get-many price_number_at 8 s.octets.now s.from s.count c.args.index d (below s.octets.now s.from s.count c.args.index c.requires))
