use Rattle.std.proofs.Common.{◌≡◌, arith, lit<, lit≤, ℕ, ◌+◌, ◌<◌, ◌^◌, ℤ, pos, ◌+ℤ◌, ◌*ℤ◌}
use Rattle.std.specs.Prelude.{FitsSigned}
use Rattle.std.proofs.lemmas.Int.{fits_signed_from_abs}
use Rattle.std.specs.Int.{w32, w64, w128, cast_signed, cast_unsigned}
use Rattle.trk_base.specs.Numbers.{round}
use Rattle.trk_base.proofs.Sizes.{Is, below, fits, is_cast64, is_pos, is_sub, minus, plus, rounded, size, times}
use Rattle.plot_geometry.proofs.Terms.{given}
use Rattle.scene_gen.specs.Sightings.{coordinate}
use Rattle.scene_gen.proofs.Wide.{wide32}
use Rattle.scene_gen.proofs.sightings.coordinate.Goals as goal

abbrev bits : ℤ → ℤ
bits z = cast_signed w128 (cast_unsigned w128 z)

-- both places in 1/64 m, in the order of the calls
moved_is : (from velocity : ℤ) (time : ℕ) {v t moved f : ℤ} → FitsSigned w32 from → FitsSigned w32 velocity → time < 2 ^ 32 → v ≡ cast_signed w32 (cast_unsigned w32 velocity) → t ≡ pos time → moved ≡ round (bits (bits v *ℤ bits t)) (pos 2048) → f ≡ cast_signed w32 (cast_unsigned w32 from)
    → Is (bits (bits f +ℤ bits moved)) (from +ℤ round (velocity *ℤ pos time) (pos 2048)) (2 ^ 31 + (2 ^ 52 + 1))
moved_is from velocity time fits_from fits_velocity small v t moved f = plus (wide32 from f fits_from) (rounded 2048 moved (times (wide32 velocity v fits_velocity) (given {x = pos time} (2 ^ 32) t (omega arith) tt) tt) tt tt) tt

pub overflow_sub-result : goal.overflow_sub-result
overflow_sub-result c = fits (is_sub (moved_is c.args.from c.args.velocity c.args.time c.ranges.from c.ranges.velocity c.ranges.time.fits c.from.ensures c.from-2.ensures c.round_div-moved.ensures c.from-3.ensures) (times (is_pos {n = 64}) (wide32 c.args.place c.from-4.ensures c.ranges.place) tt)) (lit< tt)

pub overflow_cast-result : goal.overflow_cast-result
overflow_cast-result c =
    let whole = minus (moved_is c.args.from c.args.velocity c.args.time c.ranges.from c.ranges.velocity c.ranges.time.fits c.from.ensures c.from-2.ensures c.round_div-moved.ensures c.from-3.ensures) (times (is_pos {n = 64}) (wide32 c.args.place c.from-4.ensures c.ranges.place) tt) tt in
    fits_signed_from_abs w64 _ (below whole (lit< tt))

pub returns-clause-value : goal.returns-clause-value
unfolding coordinate
returns-clause-value c = (is_cast64 (minus (moved_is c.args.from c.args.velocity c.args.time c.ranges.from c.ranges.velocity c.ranges.time.fits c.from.ensures c.from-2.ensures c.round_div-moved.ensures c.from-3.ensures) (times (is_pos {n = 64}) (wide32 c.args.place c.from-4.ensures c.ranges.place) tt) tt) (lit< tt)).same

pub returns-clause-bound : goal.returns-clause-bound
returns-clause-bound c = size (is_cast64 (minus (moved_is c.args.from c.args.velocity c.args.time c.ranges.from c.ranges.velocity c.ranges.time.fits c.from.ensures c.from-2.ensures c.round_div-moved.ensures c.from-3.ensures) (times (is_pos {n = 64}) (wide32 c.args.place c.from-4.ensures c.ranges.place) tt) tt) (lit< tt)) (lit≤ tt)
