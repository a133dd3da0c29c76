use Rattle.std.proofs.Common.{◌≡◌, ◌∙◌, ◌∷◌, length, sym, subst, arith}
use Rattle.track_life.specs.Numbers.{is_among}
use Rattle.track_life.specs.HeldNumbers.{LeapOver}
use Rattle.track_life.proofs.Lent.{came_back}
use Rattle.track_life.proofs.FirstFree.{free_is, none_is}
use Rattle.track_life.proofs.held_numbers.HeldNumbers.take_free.Goals as goal

pub returns-then-place-le-GREATEST : goal.returns-then-place-le-GREATEST
returns-then-place-le-GREATEST c =
    λ numbers h.
    let k = c.first_free_place-place.ensures.first (is_among numbers) (subst (LeapOver (is_among numbers)) (sym c.self.view_is ∙ sym c.deref_mut.ensures.value) h) in
    let once : c.self.inside.leaps.len ≡ length c.first_free_place-place.new.leaps = omega (arith, c.deref_mut.ensures.len, c.first_free_place-place.auto.leaps) in
    let twice : c.self.inside.leaps.len ≡ length c.hold_at.new.leaps = omega (arith, c.deref_mut-then-place-le-GREATEST.ensures.len, c.hold_at.auto.leaps) in (
      subst (LeapOver (is_among (c.first_free_place-place.result ∷ numbers))) (sym (came_back _ _ _ twice))
          (c.hold_at.ensures.held numbers (subst (LeapOver (is_among numbers)) (sym (c.deref_mut-then-place-le-GREATEST.ensures.value ∙ came_back _ _ _ once)) k.0)),
      sym (free_is numbers c.args.arrival c.first_free_place-place.result k.1 c.if-place-le-GREATEST.true),
    )

pub returns-else-place-le-GREATEST : goal.returns-else-place-le-GREATEST
returns-else-place-le-GREATEST c =
    λ numbers h.
    let k = c.first_free_place-place.ensures.first (is_among numbers) (subst (LeapOver (is_among numbers)) (sym c.self.view_is ∙ sym c.deref_mut.ensures.value) h) in
    let once : c.self.inside.leaps.len ≡ length c.first_free_place-place.new.leaps = omega (arith, c.deref_mut.ensures.len, c.first_free_place-place.auto.leaps) in (
      subst (LeapOver (is_among numbers)) (sym (came_back _ _ _ once)) k.0,
      sym (none_is numbers c.args.arrival c.first_free_place-place.result k.1 c.if-place-le-GREATEST.false),
    )
