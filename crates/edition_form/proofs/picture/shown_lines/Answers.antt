use Rattle.std.proofs.Common.{◌∙◌, ap, map, rules}
use Rattle.trk_base.specs.Numbers.{slot_of}
use Rattle.edition_form.specs.Lines.{shown_line}
use Rattle.std.proofs.lemmas.List.Sorted.{IsNonDecreasingBy-from_sort_by_key, answers_always}
use Rattle.edition_form.proofs.Shown.{lines_sorted, shown_among}
use Rattle.edition_form.proofs.picture.shown_lines.Goals as goal

pub returns : goal.returns
returns c =
    lines_sorted c.args.life.now c.args.time c.args.table.now _ _ (c.in_ok-lines.ensures ∙ ap (λ tracks. map (shown_line c.args.time) (shown_among c.args.life.now (slot_of c.args.time) tracks)) c.tracks.ensures)
    (IsNonDecreasingBy-from_sort_by_key (λ s. s.line.number) _ c.in_ok-sort_by_key.ensures.sorted (λ a r q k. search rules))
    (c.sort_by_key.ensures.stable (λ s. s.line.number) (answers_always _ _ _ (λ f a r g h. search rules)))
