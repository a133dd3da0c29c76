use Rattle.std.proofs.Common.{◌≡◌, ◌∙◌, length, map, take, drop, rules}
use Rattle.late_window.proofs.Groups.{slots_rise}
use Rattle.span_clusters.specs.Parts.{numbered}
use Rattle.span_clusters.specs.Jobs.{AreUsed}
use Rattle.span_clusters.proofs.CutParts.{if_cut, jobs_differ, is_partition, is_splitting}
use Rattle.span_clusters.proofs.parting.partition.Goals as goal

pub returns-clause-numbers : goal.returns-clause-numbers
returns-clause-numbers g c =
    let s = c.args.state.now in
    let xs = c.args.items.now in
    let given = c.in_ok-numbers.numbers.items in
    let parts = c.in_ok-parts.parts.items in
    let used : AreUsed given c.args.wish parts = search rules in
    let members = c.split_at.result.0.now in
    let items = c.split_at.result.1.now in
    let made : c.in_ok-drafts.drafts.items ≡ map (numbered g.F.Separable.picked s xs members items) parts = search rules in
    if_cut c.all_charged.result c.all_charged.ensures.parts (λ jobs e. jobs_differ g.F.Separable.picked s xs members items given c.args.wish parts used jobs (e ∙ made))

pub returns-clause-parts : goal.returns-clause-parts
returns-clause-parts g c =
    let s = c.args.state.now in
    let xs = c.args.items.now in
    let count = g.F.Separable.count in
    let given = c.in_ok-numbers.numbers.items in
    let parts = c.in_ok-parts.parts.items in
    let used : AreUsed given c.args.wish parts = search rules in
    let members = c.split_at.result.0.now in
    let items = c.split_at.result.1.now in
    let made : c.in_ok-drafts.drafts.items ≡ map (numbered g.F.Separable.picked s xs members items) parts = search rules in
    let front : members ≡ take (count s) given = search rules in
    let back : items ≡ drop (count s) given = search rules in
    let each_member : length members ≡ count s = search rules in
    let each_item : length items ≡ length xs = search rules in
    if_cut c.all_charged.result c.all_charged.ensures.parts (λ jobs e. is_partition g.F.Separable.picked s xs members items given c.args.wish parts used jobs (e ∙ made) count front back each_member each_item)

pub returns-clause-splitting : goal.returns-clause-splitting
returns-clause-splitting g c =
    let F = g.F.Fold in
    let s = c.args.state.now in
    let xs = c.args.items.now in
    let count = g.F.Separable.count in
    let given = c.in_ok-numbers.numbers.items in
    let parts = c.in_ok-parts.parts.items in
    let used : AreUsed given c.args.wish parts = search rules in
    let members = c.split_at.result.0.now in
    let items = c.split_at.result.1.now in
    let made : c.in_ok-drafts.drafts.items ≡ map (numbered g.F.Separable.picked s xs members items) parts = search rules in
    let front : members ≡ take (count s) given = search rules in
    let back : items ≡ drop (count s) given = search rules in
    let each_member : length members ≡ count s = search rules in
    let each_item : length items ≡ length xs = search rules in
    if_cut c.all_charged.result c.all_charged.ensures.parts (λ jobs e. is_splitting g.F.Separable.picked s xs members items given c.args.wish parts used jobs (e ∙ made) F.slot_of F.is_before g.F.Separable.is_beside g.F.Separable.merged count
    g.met.F.Fold.stays_before g.met.F.Separable.picks_all g.met.F.Separable.picks_before g.met.F.Separable.picks_beside g.met.F.Separable.picks_merged front back each_member each_item (slots_rise g.F.Item.Ord.cmp F.key_of F.slot_of g.met.F.Fold.in_order xs c.requires.rising) c.requires.before)
