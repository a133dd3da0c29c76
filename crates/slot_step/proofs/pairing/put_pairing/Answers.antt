use Rattle.std.proofs.Common.{◌≡◌, ◌∙◌, ◌<◌, ◌+◌, ◌++◌, ◌∷◌, [], ap, ℕ, List, length, take, get_or, Option, None, arith, subst, slice_set}
use Rattle.std.specs.Prelude.{option_map}
use Rattle.std.proofs.lemmas.List.{length-set}
use Rattle.assignment_dual.specs.Parts.{at_plots}
use Rattle.assignment_dual.specs.Renumbering.{number_at, renumbered}
use Rattle.slot_step.proofs.ComponentEdges.{map_more}
use Rattle.slot_step.proofs.Placing.{placed_own, placed_others}
use Rattle.slot_step.proofs.pairing.put_pairing.Goals as goal

pub loop-index-preserved : goal.loop-index-preserved
loop-index-preserved c =
    let plots = c.args.component.now.plots in
    let k = c.loop-index.index in
    let v = c.table_entry.result in
    let old = c.loop-index.pairing in
    let now : c.as_slice-plot-items.result.now ≡ plots = c.as_slice-plot-items.ensures in
    let lt : k < length plots = subst (λ (is : List ℕ). k < length is) now c.loop-index-test.true in
    let plot : get_or c.as_slice-plot-items.result.now k 0 ≡ get_or plots k 0 = ap (λ (is : List ℕ). get_or is k 0) now in
    let own : at_plots None (slice_set old (get_or plots k 0) v) (take (k + 1) plots) ≡ renumbered c.args.component.now.tracks (take (k + 1) c.args.own.now) =
    placed_own old plots k v c.requires.rising lt (omega (arith, c.requires.plots k 0 lt, c.loop-index.invariant.count))
    ∙ ap (λ (x : Option ℕ). at_plots None old (take k plots) ++ x ∷ []) (c.table_entry.ensures ∙ ap (λ (ts : List ℕ). option_map (number_at ts) (get_or c.args.own.now k None)) c.as_slice-tracks.ensures)
    ∙ map_more (option_map (number_at c.args.component.now.tracks)) c.args.own.now k None (at_plots None old (take k plots)) [] (omega (arith, lt, c.requires.count)) c.loop-index.invariant.own in
    record {
      count = length-set old (get_or c.as_slice-plot-items.result.now k 0) v ∙ c.loop-index.invariant.count;
      own = ap (λ (i : ℕ). at_plots None (slice_set old i v) (take (k + 1) plots)) plot ∙ own;
      others = λ p n. ap (λ (i : ℕ). get_or (slice_set old i v) p None) plot ∙ placed_others old plots k v lt p n ∙ c.loop-index.invariant.others p n;
    }
