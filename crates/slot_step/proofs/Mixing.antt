-- Aims that were mixed for gates.
use Rattle.std.proofs.Common.{ap, ℕ, ◌<◌, List, [], ◌∷◌, ◌++◌, get_or, arith, zero, suc}
use Rattle.std.proofs.lemmas.List.Elements.{All-append, All-nil}
use Rattle.fixed_imm.specs.Aims.{AimState, mixed_aim}
use Rattle.track_life.specs.Tracks.{TrackState}
use Rattle.slot_step.specs.Certificates.{IsAt}
use Rattle.slot_step.specs.MixedAims.{IsMixedOf, AreMixed}
use Rattle.slot_step.proofs.Problems.{one_at}

pub none_mixed : (ts : List TrackState) → AreMixed ts []
none_mixed ts = All-nil (IsMixedOf ts)

-- one more
pub more_mixed : (ts : List TrackState) (ms : List (ℕ × AimState)) (m : ℕ × AimState) → IsMixedOf ts m → AreMixed ts ms → AreMixed ts (ms ++ m ∷ [])
more_mixed ts ms m is h = All-append (IsMixedOf ts) ms (m ∷ []) h (λ k d lt. one k d lt)
  where
    one : (k : ℕ) (d : ℕ × AimState) → k < 1 → IsMixedOf ts (get_or (m ∷ []) k d)
    one zero d lt = is
    one (suc k) d lt = absurd (omega (arith, lt))

-- the track at an index is one alone
pub mixed_at : (ts : List TrackState) (j : ℕ) (t : TrackState) → IsAt ts j t → IsMixedOf ts (j, mixed_aim t.aim)
mixed_at ts j t at u other = ap (λ (v : TrackState). mixed_aim v.aim) (one_at ts j t u at other)
