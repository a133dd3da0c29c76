use Rattle.std.proofs.Common.{◌≡◌, rules, sym, subst, subst₂}
use Rattle.std.specs.List.{AllByRecursion}
use Rattle.late_window.proofs.Groups.{slots_rise}
use Rattle.span_clusters.specs.Interleavings.{Interleaved}
use Rattle.span_clusters.specs.Parts.{ReachesItems}
use Rattle.span_clusters.specs.Jobs.{ReachesOneAs}
use Rattle.span_clusters.proofs.Interleavings.{swapped, first_rises, all_of_first}
use Rattle.span_clusters.proofs.PickedItems.{before_each}
use Rattle.span_clusters.proofs.FoundPairs.{each_within, early_of_each, early_of_all, reaches_none, none_more}
use Rattle.span_clusters.proofs.crossing.add_reached.Goals as goal

pub items_without-requires-clause-within : goal.items_without-requires-clause-within
items_without-requires-clause-within g c =
    let own : c.deref.result.now ≡ c.args.one.now.items = search rules in
    rw own (each_within c.args.done.now c.args.all.now c.requires.all c.args.one.now c.requires.one)

pub reaches_items-requires-clause-others_rise : goal.reaches_items-requires-clause-others_rise
reaches_items-requires-clause-others_rise g c =
    let own : c.deref.result.now ≡ c.args.one.now.items = search rules in
    let others = c.in_ok-others.others.items in
    let apart : Interleaved c.args.one.now.items others c.args.all.now = subst (λ xs. Interleaved xs others c.args.all.now) own c.in_ok-others.ensures in
    rw c.deref-4.ensures.value (first_rises g.F.Item.Ord.cmp g.F.Fold.key_of others c.args.one.now.items c.args.all.now (swapped c.args.one.now.items others c.args.all.now apart) c.requires.rising)

pub reaches_items-requires-clause-others_before : goal.reaches_items-requires-clause-others_before
reaches_items-requires-clause-others_before g c =
    let F = g.F.Fold in
    let one = c.args.one.now in
    let own : c.deref.result.now ≡ one.items = search rules in
    let start : c.one.inside.start ≡ one.start = search rules in
    let others = c.in_ok-others.others.items in
    let apart : Interleaved one.items others c.args.all.now = subst (λ xs. Interleaved xs others c.args.all.now) own c.in_ok-others.ensures in
    let mine = before_each F.slot_of F.is_before g.met.F.Fold.stays_before one.start one.items (slots_rise g.F.Item.Ord.cmp F.key_of F.slot_of g.met.F.Fold.in_order one.items (search rules)) (search rules) in
    let early = early_of_all F.slot_of F.is_before one.start c.args.done.now c.args.all.now c.requires.all (early_of_each F.slot_of F.is_before one c.args.done.now c.requires.parts.before c.requires.one mine) in
    subst₂ (λ s xs. AllByRecursion (λ x. F.is_before s (F.slot_of x)) xs) (sym start) (sym c.deref-4.ensures.value)
    (all_of_first (λ x. F.is_before one.start (F.slot_of x)) others one.items c.args.all.now (swapped one.items others c.args.all.now apart) early)

pub returns-then-not-branch : goal.returns-then-not-branch
returns-then-not-branch g c =
    let F = g.F.Fold in
    let gates = g.F.Separable.gates in
    let one = c.args.one.now in
    let own : c.deref.result.now ≡ one.items = search rules in
    let owned : c.deref-2.result.now ≡ one.items = search rules in
    let start : c.one.inside.start ≡ one.start = search rules in
    let others = c.in_ok-others.others.items in
    let apart : Interleaved one.items others c.args.all.now = subst (λ xs. Interleaved xs others c.args.all.now) own c.in_ok-others.ensures in
    let unreached : ReachesItems F.next F.slot_of gates c.one.inside.start c.deref-2.result.now c.deref-4.result.now → ⊥ = λ r. let t = c.in_ok-reaches_items.ensures.1 r in let f = c.if-not-branch.true in cc in
    let none : ReachesItems F.next F.slot_of gates one.start one.items others → ⊥ = λ r. unreached (subst (λ xs. ReachesItems F.next F.slot_of gates c.one.inside.start c.deref-2.result.now xs) (sym c.deref-4.ensures.value) (subst₂ (λ s xs. ReachesItems F.next F.slot_of gates s xs others) (sym start) (sym owned) r)) in
    none_more c.args.found.now (ReachesOneAs F.next F.slot_of gates one c.args.done.now) (λ a b h. reaches_none F.next F.slot_of gates F.key_of c.args.done.now c.args.all.now others c.requires.parts.keys c.requires.all one c.requires.one apart none a b h)

pub add_pairs-requires : goal.add_pairs-requires
add_pairs-requires g c =
    let F = g.F.Fold in
    let one = c.args.one.now in
    let own = before_each F.slot_of F.is_before g.met.F.Fold.stays_before one.start one.items (slots_rise g.F.Item.Ord.cmp F.key_of F.slot_of g.met.F.Fold.in_order one.items (search rules)) (search rules) in
    early_of_each F.slot_of F.is_before one c.args.done.now c.requires.parts.before c.requires.one own
