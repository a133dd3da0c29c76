use Rattle.std.proofs.Common.{rules, ◌≡◌, ◌∙◌, ap, sym, subst, arith, List, ◌∷◌, ◌++◌, [], length}
use Rattle.std.specs.List.Sorted.{IsStrictlySortedBy}
use Rattle.std.specs.Vec.Iter.{into_iter_items, into_iter_len}
use Rattle.track_life.specs.Tracks.{TrackState}
use Rattle.late_window.specs.Folding.{latest}
use Rattle.track_parts.specs.Tracking.{by_birth}
use Rattle.track_parts.proofs.Runs.{Numbered, with_numbers, none_numbered, one_numbered, all_numbered}
use Rattle.track_parts.proofs.numbering.numbered_tables.Goals as goal

pub loop-run-init : goal.loop-run-init
loop-run-init c =
    let all = into_iter_items c.into_iter-run-iterator.result in
    record {
      count = let n : into_iter_len c.into_iter-run-iterator.result ≡ length all = search rules in n;
      tables = subst (λ (ts : List (List TrackState)). Numbered c.args.start.now all ts all) (sym c.in_ok-tables.ensures.items) (none_numbered c.args.start.now all);
    }

pub loop-run-preserved : goal.loop-run-preserved
loop-run-preserved c =
    let at = c.loop-run in
    let start = c.args.start.now in
    let all = into_iter_items c.into_iter-run-iterator.result in
    let run = c.in-Some.run' in
    let rest = into_iter_items c.next.new.self in
    let table = c.in_ok-table.table in
    let steps : into_iter_items at.run-iterator ≡ run ∷ rest = c.in-Some.ensures.steps.0 in
    let pushed : c.push.new.self.items ≡ at.tables.items ++ table ∷ [] = c.in_ok-push.ensures.items in
    let before = c.tracks.ensures ∙ c.latest_of.ensures ∙ ap (latest start) c.deref.ensures.value in
    record {
      count = let gone = c.in-Some.ensures.steps.1 in let was = at.invariant.count in let short = ap length steps in omega (arith, gone, was, short);
      tables = subst (λ (ts : List (List TrackState)). Numbered start all ts rest) (sym pushed)
          (one_numbered start all at.tables.items run rest table (subst (Numbered start all at.tables.items) steps at.invariant.tables)
          (λ up. c.in_ok-table.ensures.numbers (subst (IsStrictlySortedBy by_birth) (sym before) up) ∙ ap (λ b. with_numbers b run) before) c.in_ok-table.ensures.table);
    }

pub returns : goal.returns
returns c = λ life plots rises before same.
    let at = c.loop-run in
    let none : length (into_iter_items at.run-iterator) ≡ 0 = sym at.invariant.count ∙ c.in-None.ensures.steps.0 in
    all_numbered c.args.start.now (into_iter_items c.into_iter-run-iterator.result) at.tables.items (into_iter_items at.run-iterator) at.invariant.tables none life plots rises before (c.into_iter-run-iterator.ensures.into_iter_gives.0 ∙ same)
