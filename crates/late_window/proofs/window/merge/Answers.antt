use Rattle.std.proofs.Common.{◌≡◌, ◌∙◌, sym, subst, ◌++◌, ◌-◌, ◌≤◌, length, take, drop}
use borrow.Rule.Slice.PartMut.{put_mid}
use Rattle.std.specs.List.Sorted.{IsPermutation}
use Rattle.late_window.specs.Folding.{below, from}
use Rattle.late_window.proofs.Merging.{AreMerged, merged, ok_holds, drop_behind, came_behind}
use Rattle.late_window.proofs.window.merge.Given.{Over}
use Rattle.late_window.proofs.window.merge.Goals as goal

abbrev Merged : (g : Over) (c : goal.Else-is_err g) → Type 0
Merged g c =
    let lent = c.deref_mut.result.now in
    let written = put_mid c.len_below-from.result (length lent - c.len_below-from.result) lent c.sort.new.self in
    let F = g.F.Fold in
    AreMerged F.key_of g.F.Item.Ord.cmp g.met.F.Item.Ord.total g.met.F.Fold.exact F.slot_of g.met.F.Fold.in_order g.met.F.Fold.slot_in_key c.args.slot c.args.items.now.items c.args.new.now
    (take c.extend_from_slice.new.self.len (written ++ drop (length written) c.extend_from_slice.new.self.items))

all_merged : (g : Over) (c : goal.Else-is_err g) → Merged g c
all_merged g c =
    let F = g.F.Fold in
    let cmp = g.F.Item.Ord.cmp in
    let items = c.args.items.now.items in
    let new = c.args.new.now in
    let slot = c.args.slot in
    let k = c.len_below-from.result in
    let same = c.deref.ensures.value in
    let within : k ≤ length items = subst (λ l. k ≤ length l) same c.len_below-from.ensures.within in
    let lows = subst (λ l. take k l ≡ below F.slot_of slot l) same c.len_below-from.ensures.below in
    let highs = subst (λ l. drop k l ≡ from F.slot_of slot l) same c.len_below-from.ensures.rest in
    let all = c.in_ok-extend_from_slice.ensures.items in
    let lent = c.deref_mut.ensures.value in
    let ys = c.sort.new.self in
    let moves = subst (λ l. IsPermutation l ys) (drop_behind k items new _ c.deref_mut.result.now _ lent all within highs) c.sort.ensures.permutation in
    let up = ok_holds c.sort.result (sym c.is_err.ensures.value ∙ c.if-is_err.false) c.sort.ensures.sorted in
    let total = g.met.F.Item.Ord.total in
    let laws = g.met.F.Fold in
    subst (AreMerged F.key_of cmp total laws.exact F.slot_of laws.in_order laws.slot_in_key slot items new)
    (sym (came_behind _ k items new _ c.deref_mut.result.now _ ys lent c.deref_mut.ensures.len all within lows c.sort.ensures.len))
    (merged F.key_of cmp total laws.exact F.slot_of laws.in_order laws.slot_in_key slot items new ys c.requires.rising c.requires.new c.requires.least moves up)

pub returns-clause-rising : goal.returns-clause-rising
returns-clause-rising g c = (all_merged g c).rise

pub returns-clause-more : goal.returns-clause-more
returns-clause-more g c = (all_merged g c).more

pub returns-clause-below : goal.returns-clause-below
returns-clause-below g c = (all_merged g c).low
