use Rattle.std.proofs.Common.{◌≡◌, ◌∙◌, ap, sym, ℕ, ◌-◌, arith}
use Rattle.scene_gen.specs.Bearings.{bearing_from, direction}
use Rattle.scene_gen.proofs.Digits.{next_is, room_set, room_clear, digit_set, digit_clear, digits_done}
use Rattle.scene_gen.proofs.bearings.bearing_from.Goals as goal

pub loop-k-preserved-then-lies_on : goal.loop-k-preserved-then-lies_on
loop-k-preserved-then-lies_on c =
    let inv = c.loop-k.invariant in
    let k = c.loop-k.k in
    let angle = c.loop-k.angle in
    let more = c.loop-k-test.true in
    let next = next_is k angle more inv.room in
    let read = c.of.ensures ∙ ap direction next in
    record {
      left = ap (λ (n : ℕ). bearing_from (k - 1) n c.args.point.0 c.args.point.1) next ∙ sym (digit_set k angle c.args.point.0 c.args.point.1 more read c.if-lies_on.ensures) ∙ inv.left;
      room = room_set k angle more inv.room;
    }

pub loop-k-preserved : goal.loop-k-preserved
loop-k-preserved c =
    let inv = c.loop-k.invariant in
    let k = c.loop-k.k in
    let angle = c.loop-k.angle in
    let more = c.loop-k-test.true in
    let read = c.of.ensures ∙ ap direction (next_is k angle more inv.room) in
    record {
      left = sym (digit_clear k angle c.args.point.0 c.args.point.1 more read c.if-lies_on.ensures) ∙ inv.left;
      room = room_clear k angle more inv.room;
    }

pub returns : goal.returns
returns c =
    let done : 0 ≡ c.loop-k.k = omega (arith, c.loop-k-test.false) in
    sym (digits_done c.loop-k.angle c.args.point.0 c.args.point.1) ∙ ap (λ (k : ℕ). bearing_from k c.loop-k.angle c.args.point.0 c.args.point.1) done ∙ c.loop-k.invariant.left
