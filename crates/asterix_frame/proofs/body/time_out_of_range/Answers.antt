use Rattle.std.proofs.Common.{◌≡◌, ◌∙◌, sym, ap, subst, inl, inr, ◌<◌, ℕ, true, Option, Some, None, arith}
use Rattle.std.specs.Prelude.{IfSome, IfNone, nat_le}
use Rattle.std.specs.Bool.{then_some}
use Rattle.std.proofs.lemmas.Bool.{cases_lt}
use Rattle.std.proofs.lemmas.Bool.Decides.{nat_tests}
use Rattle.std.proofs.lemmas.List.Elements.{recursion_from_All}
use Rattle.trk_base.specs.Numbers.{day}
use Rattle.asterix_frame.specs.DataRecords.{time_of}
use Rattle.asterix_frame.specs.Bodies.{IsSpan, elements_at, span_of}
use Rattle.asterix_frame.proofs.Placed.{span_within}
use Rattle.asterix_frame.proofs.Bodies.{no_time, time_at}
use Rattle.asterix_frame.proofs.body.time_out_of_range.Goals as goal

pub returns-in_err-first-clause-early : goal.returns-in_err-first-clause-early
returns-in_err-first-clause-early c =
    let spans = recursion_from_All (IsSpan c.args.body.now) c.args.frns.now c.requires in
    let none = no_time c.args.uap c.args.body.now c.args.frns.now spans (ap (λ frn. span_of frn c.args.frns.now) (sym c.time_of_day.ensures) ∙ sym (c.in_err-first.ensures)) in
    rw (c.from_residual.ensures, none) tt

pub slice_bounds-time_in-count : goal.slice_bounds-time_in-count
slice_bounds-time_in-count c = (span_within c.args.body.now c.time_of_day.result c.args.frns.now c.in_ok-first.first c.in_ok-first.end (recursion_from_All (IsSpan c.args.body.now) c.args.frns.now c.requires) (sym (c.in_ok-first.ensures))).0

pub slice_bounds-time_in-start : goal.slice_bounds-time_in-start
slice_bounds-time_in-start c = (span_within c.args.body.now c.time_of_day.result c.args.frns.now c.in_ok-first.first c.in_ok-first.end (recursion_from_All (IsSpan c.args.body.now) c.args.frns.now c.requires) (sym (c.in_ok-first.ensures))).0

pub slice_bounds-time_in-end : goal.slice_bounds-time_in-end
slice_bounds-time_in-end c = (span_within c.args.body.now c.time_of_day.result c.args.frns.now c.in_ok-first.first c.in_ok-first.end (recursion_from_All (IsSpan c.args.body.now) c.args.frns.now c.requires) (sym (c.in_ok-first.ensures))).1

pub returns-in_err-time-clause-early : goal.returns-in_err-time-clause-early
returns-in_err-time-clause-early c =
    let spans = recursion_from_All (IsSpan c.args.body.now) c.args.frns.now c.requires in
    let time = time_at c.args.uap c.args.body.now c.args.frns.now spans c.in_ok-first.first c.in_ok-first.end (ap (λ frn. span_of frn c.args.frns.now) (sym c.time_of_day.ensures) ∙ sym c.in_ok-first.ensures) in
    let none = time ∙ sym c.in_err-time.ensures in
    rw (c.from_residual-in_err-time.ensures, none) tt

-- what isn't told isn't out of range
early_of : (r : Option ℕ) (limit n first : ℕ) (P : Type 0) → r ≡ then_some (nat_le limit n) first → (n < limit → P) → IfNone r P
early_of None limit n first P e h =
    elim (cases_lt n limit) [
      | inl lt ↦ h lt
      | inr le ↦ absurd (let told : nat_le limit n ≡ true = grind (arith, nat_tests) in let some : None ≡ Some first = e ∙ ap (λ b. then_some b first) told in cc)
    ]
early_of (Some x) limit n first P e h = tt

pub returns-clause-early : goal.returns-clause-early
returns-clause-early c =
    let spans = recursion_from_All (IsSpan c.args.body.now) c.args.frns.now c.requires in
    let time = time_at c.args.uap c.args.body.now c.args.frns.now spans c.in_ok-first.first c.in_ok-first.end (ap (λ frn. span_of frn c.args.frns.now) (sym c.time_of_day.ensures) ∙ sym c.in_ok-first.ensures) in
    early_of c.then_some.result 11059200 c.from.result c.in_ok-first.first (IfSome (time_of c.args.uap (elements_at c.args.body.now c.args.frns.now)) (λ t. t < day)) c.then_some.ensures
    (λ lt. let below : c.in_ok-time.time < day = omega (arith, c.from.ensures, lt) in subst (λ o. IfSome o (λ t. t < day)) (c.in_ok-time.ensures ∙ sym time) below)
