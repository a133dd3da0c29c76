use Rattle.std.proofs.Common.{◌≡◌, ◌∙◌, ap, subst, sym, arith}
use Rattle.std.specs.List.{filter}
use Rattle.std.proofs.lemmas.List.{append-nil, take_all}
use Rattle.std.proofs.lemmas.List.Elements.{filter_more}
use Rattle.track_life.specs.Tables.{IsTable, is_kept, unexpired}
use Rattle.track_life.proofs.Expiry.{unexpired_is}
use Rattle.track_life.proofs.tables.expire.Goals as goal

all_kept : (c : goal.After-loop-track) → c.loop-track.kept.items ≡ filter (is_kept c.args.life.now c.args.slot) c.deref-track-items.result.now
all_kept c = c.loop-track.invariant ∙ ap (filter (is_kept c.args.life.now c.args.slot)) (take_all _ c.deref-track-items.result.now c.loop-track-test.false)

pub invariant_of-result : goal.invariant_of-result
unfolding unexpired
invariant_of-result c =
    let items = c.deref-track-items.result.now in
    subst IsTable (sym (all_kept c)) (unexpired_is c.args.life.now c.args.slot items (subst IsTable (sym c.deref-track-items.ensures.value) c.table.invariant))

pub loop-track-preserved : goal.loop-track-preserved
loop-track-preserved c =
    let more = filter_more (is_kept c.args.life.now c.args.slot) c.deref-track-items.result.now c.loop-track.track-index c.track-item.result c.loop-track-test.true in
    grind (arith, more, append-nil)

pub returns : goal.returns
unfolding unexpired
returns c = all_kept c ∙ ap (filter (is_kept c.args.life.now c.args.slot)) (c.deref-track-items.ensures.value ∙ c.table.view_is)
