use Rattle.std.proofs.Common.{◌∙◌, ap, sym, refl, rules}
use Rattle.std.specs.Prelude.{nat_eq, take, drop, ◌-◌}
use Rattle.std.specs.Cmp.Lexicographic.{pointwise}
use Rattle.cat062_out.specs.Tracks.{IsStamp, IsTrackLine}
use Rattle.cat062_out.proofs.TrackProfile.{track_there, no_track_there}
use Rattle.cat062_out.proofs.reader.first_track.Goals as goal

pub returns-then-eq-clause-found : goal.returns-then-eq-clause-found
returns-then-eq-clause-found c =
    let body = c.args.block.now.body.now in
    let has = c.in_ok-items.ensures.found in
    let is_stamp : IsStamp c.stamp_of-stamp.result = search rules in
    let is_line : IsTrackLine c.line_of-line.result = search rules in
    track_there body c.args.from has.0 c.in_ok-items.items has.1 c.in_ok-items.ensures.advances.1 c.stamp_of-stamp.result c.line_of-line.result c.in_ok-written.written.items c.in_ok-written.ensures.octets
    is_stamp is_line
    (ap (λ t. pointwise nat_eq t (take (c.in_ok-items.items.next - c.args.from) (drop c.args.from body))) (sym c.as_slice.ensures.value) ∙ sym c.eq.ensures ∙ c.if-eq.true)

pub returns-clause-none : goal.returns-clause-none
returns-clause-none c =
    let body = c.args.block.now.body.now in
    let has = c.in_ok-items.ensures.found in (
      no_track_there body c.args.from has.0 c.in_ok-items.items has.1 c.in_ok-items.ensures.advances.1 c.stamp_of-stamp.result c.line_of-line.result c.in_ok-written.written.items c.in_ok-written.ensures.octets
          c.stamp_of-stamp.ensures c.line_of-line.ensures
          (ap (λ t. pointwise nat_eq t (take (c.in_ok-items.items.next - c.args.from) (drop c.args.from body))) (sym c.as_slice.ensures.value) ∙ sym c.eq.ensures ∙ c.if-eq.false),
      refl,
    )
