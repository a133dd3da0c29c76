use Rattle.std.proofs.Common.{◌≡◌, ◌∙◌, ap, sym, ◌+◌, ◌-◌, ◌/◌, ◌≤◌, ◌++◌, length, take, drop, arith, length-append, length-drop, length-take}
use borrow.Rule.Slice.PartMut.{put_mid}
use Rattle.asterix_frame.specs.Encoding.{sized}
use Rattle.asterix_frame.proofs.Encodings.{length-field}
use Rattle.asterix_frame.proofs.Drafts.{some_last, long_of, record_is, moved_is, cut}
use Rattle.asterix_frame.proofs.record_writer.RecordWriter.finish.Goals as goal

pub overflow_sub-count : goal.overflow_sub-count
overflow_sub-count c = some_last c.self.inside.octets.items c.self.inside.sizes c.self.inside.last c.args.self c.self.invariant c.self.view_is c.requires

pub fspec_of-fspec-requires-clause-few : goal.fspec_of-fspec-requires-clause-few
fspec_of-fspec-requires-clause-few c = omega (arith, c.self.invariant.in_table)

pub overflow_sub-unused : goal.overflow_sub-unused
overflow_sub-unused c = omega (arith, c.self.invariant.in_table)

pub slice_bounds-copy_from_slice-end : goal.slice_bounds-copy_from_slice-end
slice_bounds-copy_from_slice-end c =
    let some = some_last c.self.inside.octets.items c.self.inside.sizes c.self.inside.last c.args.self c.self.invariant c.self.view_is c.requires in
    let long = long_of c.self.inside.octets.items c.self.inside.sizes c.self.inside.last c.self.invariant some in
    omega (arith, long, c.deref_mut.ensures.value, c.deref_mut.ensures.len)

pub slice_bounds-fspec-end : goal.slice_bounds-fspec-end
slice_bounds-fspec-end c =
    let count = (c.self.inside.last - 1) / 7 + 1 in
    let size = ap length c.fspec_of-fspec.ensures ∙ length-field (sized c.self.inside.sizes) 0 count in
    omega (arith, size, length-take count c.fspec_of-fspec.result)

pub slice_bounds-copy_from_slice-end-2 : goal.slice_bounds-copy_from_slice-end-2
slice_bounds-copy_from_slice-end-2 c = sym (ap length c.fspec_of-fspec.ensures ∙ length-field (sized c.self.inside.sizes) 0 ((c.self.inside.last - 1) / 7 + 1))

pub returns : goal.returns
returns c =
    let count = (c.self.inside.last - 1) / 7 + 1 in
    let unused = 4 - count in
    let octets = c.self.inside.octets.items in
    let fspec = take count c.fspec_of-fspec.result in
    let some = some_last octets c.self.inside.sizes c.self.inside.last c.args.self c.self.invariant c.self.view_is c.requires in
    let long = long_of octets c.self.inside.sizes c.self.inside.last c.self.invariant some in
    let few : count ≤ 4 = omega (arith, c.self.invariant.in_table) in
    let size = ap length c.fspec_of-fspec.ensures ∙ length-field (sized c.self.inside.sizes) 0 count in
    let written = put_mid unused (4 - unused) c.deref_mut.result.now c.copy_from_slice.new.self in
    let moved = take c.self.inside.octets.len (written ++ drop (length written) octets) in
    let moved-is = moved_is octets c.deref_mut.result.now c.copy_from_slice.new.self fspec unused c.self.inside.octets.len c.deref_mut.ensures.value c.copy_from_slice.ensures.after c.self.inside.octets.ok.0 (omega arith) (omega (arith, size, few)) long in
    let turned : c.rotate_left.new.self.items ≡ drop unused moved ++ take unused moved = c.rotate_left.ensures.items in
    let as_long : c.len.result ≡ length moved =
    omega (arith, c.len.ensures, c.rotate_left.new.self.ok.0, ap length turned, length-append (drop unused moved) (take unused moved), length-drop unused moved, length-take unused moved) in
    let short : c.truncate.new.self.items ≡ take (length moved - unused) (drop unused moved ++ take unused moved) = c.truncate.ensures.items ∙ (λ i. take (as_long i - unused) (turned i)) in
    cut octets fspec moved c.truncate.new.self.items count long few size moved-is short ∙ record_is octets c.self.inside.sizes c.self.inside.last c.args.self c.self.invariant c.self.view_is fspec c.fspec_of-fspec.ensures
