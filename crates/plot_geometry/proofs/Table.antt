-- The table of the code is what the definition gives.
use Rattle.std.proofs.Common.{◌≡◌, ◌∙◌, ap, ℕ, ◌<◌, refl, arith, get_or, ℤ, map}
use Rattle.std.specs.List.{range_with_len}
use Rattle.std.proofs.lemmas.List.FromFn.{get_or-map-range_with_len}
use Rattle.trk_base.specs.Numbers.{isqrt}
use Rattle.plot_geometry.specs.Turns.{half_angle, right_angle_halved}
use Rattle.plot_geometry.specs.declared.turns.TheConstants.{HALF_ANGLES}

table_is : HALF_ANGLES ≡ map half_angle (range_with_len 0 16)
unfolding right_angle_halved isqrt
table_is = refl

pub entry_is : (k : ℕ) (d : ℤ × ℤ) → k < 16 → get_or HALF_ANGLES k d ≡ half_angle k
entry_is k d h = ap (λ t. get_or t k d) table_is ∙ get_or-map-range_with_len half_angle 0 16 k k d h (omega arith)
