use Rattle.std.proofs.Common.{◌+◌, ◌≤◌, refl, inl, inr, arith}
use Rattle.std.proofs.lemmas.Bool.{cases_lt}
use Rattle.track_life.proofs.Leaps.{leaps_set, reached, passed, leap_on}
use Rattle.track_life.proofs.held_numbers.next_free.Goals as goal

pub way-preserved : goal.way-preserved
way-preserved c =
    let ls = c.way.leaps in
    let i = c.way.place in
    let f = c.from.result in
    let l = c.way.invariant.leaps in
    let far = reached ls i f _ l c.way.invariant.below c.from.ensures refl in
    let on : i + c.from-place.result ≤ 65536 = omega (arith, far, c.from-place.ensures) in
    let here : i ≤ 65535 = let le = l.inside i c.way.invariant.below in omega (arith, le, c.way-test.true) in
    record {
      leaps = leaps_set ls i _ l here far;
      above = omega (arith, c.way.invariant.above);
      below = on;
      over = λ held h.
          let k = c.way.invariant.over held h in (
            leap_on held ls i f _ l here k.0 c.from.ensures refl,
            λ m ge below. elim (cases_lt m i) [
              | inl near ↦ k.1 m ge near
              | inr le ↦ passed held ls i f _ m k.0 c.from.ensures refl le (omega (arith, below, c.from-place.ensures))
            ],
          );
    }

pub returns : goal.returns
returns c = record {
  leaps = c.way.invariant.leaps;
  next = λ held h.
      let k = c.way.invariant.over held h in (
        k.0,
        record {
          above = c.way.invariant.above;
          below = c.way.invariant.below;
          over = k.1;
          free = λ le. k.0.stands c.way.place le (omega (arith, c.way-test.false));
        },
      );
}
