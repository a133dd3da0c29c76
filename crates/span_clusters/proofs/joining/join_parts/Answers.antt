use Rattle.std.proofs.Common.{subst, rules, ◌≡◌}
use Rattle.late_window.proofs.Groups.{slots_rise}
use Rattle.span_clusters.specs.Interleavings.{Interleaved}
use Rattle.span_clusters.proofs.Firsts.{first_of_both}
use Rattle.span_clusters.proofs.joining.join_parts.Goals as goal

pub charged-requires-clause-before : goal.charged-requires-clause-before
charged-requires-clause-before g c =
    let F = g.F.Fold in
    let zs = c.in_ok-items.items.items in
    let a : c.deref.result.now ≡ c.args.one.items = search rules in
    let b : c.deref-2.result.now ≡ c.args.other.items = search rules in
    let s : c.one.inside.start ≡ c.args.one.start = search rules in
    let u : c.other.inside.start ≡ c.args.other.start = search rules in
    rw (c.in_ok-start.ensures, s, u) (first_of_both F.slot_of F.is_before g.F.Separable.is_beside g.F.Separable.merged g.met.F.Fold.stays_before g.met.F.Separable.merged_before c.args.one.start c.args.other.start c.args.one.items c.args.other.items c.in_ok-items.items.items
    (subst (λ l. Interleaved c.args.one.items l zs) b (subst (λ l. Interleaved l c.deref-2.result.now zs) a c.in_ok-items.ensures.both)) c.requires.beside (slots_rise g.F.Item.Ord.cmp F.key_of F.slot_of g.met.F.Fold.in_order c.args.one.items (search rules)) (slots_rise g.F.Item.Ord.cmp F.key_of F.slot_of g.met.F.Fold.in_order c.args.other.items (search rules)) (search rules) (search rules) c.requires.one_before c.requires.other_before)
