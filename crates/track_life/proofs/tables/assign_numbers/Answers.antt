use Rattle.std.proofs.Common.{◌≡◌, ◌∙◌, sym, subst, List, Result, Ok, Err, arith}
use Rattle.std.specs.Prelude.{OnOk, OnErr}
use Rattle.track_life.specs.Tracks.{TrackState}
use Rattle.track_life.specs.Tables.{IsTable}
use Rattle.track_life.specs.Numbers.{assigned}
use Rattle.track_life.proofs.Lent.{came_back}
use Rattle.track_life.proofs.Numbering.{assigned_is}
use Rattle.track_life.proofs.tables.assign_numbers.Goals as goal

-- with memory and without
table_after : {E : Type 0} (r : Result (Unit {0}) E) (new old : List TrackState) → OnOk r (new ≡ assigned old) → OnErr r (new ≡ old) → IsTable old → IsTable new
table_after (Ok x) new old e d h = subst IsTable (sym e) (assigned_is old h)
table_after (Err x) new old e d h = subst IsTable (sym d) h

answers : {E : Type 0} (r : Result (Unit {0}) E) (after new old before : List TrackState) → after ≡ new → old ≡ before → OnOk r (new ≡ assigned old) → OnErr r (new ≡ old) → OnOk r (after ≡ assigned before) × OnErr r (after ≡ before)
answers (Ok x) after new old before a b e d = (a ∙ e ∙ (λ j. assigned (b j)), tt)
answers (Err x) after new old before a b e d = (tt, a ∙ d ∙ b)

pub invariant_of-table : goal.invariant_of-table
invariant_of-table c =
    subst IsTable (sym (came_back _ _ _ (omega (arith, c.deref_mut.ensures.len, c.give_numbers.auto.tracks))))
    (table_after c.give_numbers.result c.give_numbers.new.tracks c.deref_mut.result.now c.give_numbers.ensures.given c.give_numbers.ensures.unchanged (subst IsTable (sym c.deref_mut.ensures.value) c.table.invariant))

pub returns : goal.returns
returns c =
    let both = answers c.give_numbers.result _ c.give_numbers.new.tracks c.deref_mut.result.now c.args.table.now (came_back _ _ _ (omega (arith, c.deref_mut.ensures.len, c.give_numbers.auto.tracks))) (c.deref_mut.ensures.value ∙ c.table.view_is) c.give_numbers.ensures.given c.give_numbers.ensures.unchanged in
    record { given = both.0; unchanged = both.1 }
