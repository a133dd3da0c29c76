use Rattle.std.proofs.Common.{rules, ◌≡◌, ◌∙◌, ℕ, List, All, length, ap, sym, subst, Result, Err, arith}
use Rattle.std.proofs.lemmas.List.{get_or_default}
use Rattle.session_script.specs.declared.status.Status.{Status}
use Rattle.tracker_session.specs.Checking.{AllProve}
use Rattle.tracker_session.specs.Judging.{IsFirstFailure, Judged, ProvesAt}
use Rattle.tracker_session.proofs.Provings.{all_prove, first_fails, taking_judged}
use Rattle.tracker_session.proofs.commands.check.judge_prices.Goals as goal

pub returns-in_err-offsets : goal.returns-in_err-offsets
returns-in_err-offsets g c =
    let is : c.from_residual.result ≡ Err c.in_err-offsets.field-0.0 = search rules in
    subst (λ (r : Result ℕ Status). Judged c.args.octets.now r) (sym is) (taking_judged c.args.octets.now c.in_err-offsets.field-0.0 c.in_err-offsets.ensures.stops)

pub returns-in-None : goal.returns-in-None
returns-in-None g c =
    let octets = c.args.octets.now in
    let found = c.in_ok-offsets.ensures in
    let prove = subst (λ (o : List ℕ). All (ProvesAt octets) o) c.deref.ensures.value c.in-None.ensures in
    let many = ap (λ (o : List ℕ). length o) c.deref.ensures.value in
    let count : length c.in_ok-offsets.offsets.items ≡ c.len-count.result = omega (arith, many, c.deref.ensures.len, c.len-count.ensures) in
    subst (λ (n : ℕ). AllProve octets n) count (all_prove octets c.in_ok-offsets.offsets.items found.within found.file prove)

pub returns : goal.returns
returns g c =
    let octets = c.args.octets.now in
    let offsets = c.in_ok-offsets.offsets.items in
    let found = c.in_ok-offsets.ensures in
    let first = subst (λ (o : List ℕ). IsFirstFailure octets o c.in-Some.i) c.deref.ensures.value c.in-Some.ensures in
    let at = get_or_default offsets c.in-Some.i 0 c.index.result.now first.inside ∙ sym c.index.ensures in
    first_fails octets offsets c.in-Some.i c.index.result.now found.within found.file first at
