use Rattle.std.proofs.Common.{◌∙◌, ap, sym, subst, ◌+◌, drop, arith}
use Rattle.edition_form.specs.declared.telling.Told.{Told}
use Rattle.edition_form.specs.Telling.{IsUnderway}
use Rattle.edition_form.proofs.Stepping.{past_old_step, past_old_lines, past_now_step, past_now_lines, some_line, old_inside, now_inside, told_so}
use Rattle.edition_form.proofs.telling.Told.next.Goals as goal

pub returns-then-comes_old-clause-told : goal.returns-then-comes_old-clause-told
returns-then-comes_old-clause-told c =
    let first = sym c.comes_old.ensures ∙ c.if-comes_old.true in
    let inside = old_inside c.args.old.now (drop c.args.self.now.now_count c.args.now.now) c.args.self.now.old_count first in
    let d = some_line c.args.old.now c.args.self.now.old_count inside in
    subst (IsUnderway c.args.old.now c.args.now.now) (sym (c.past_old.ensures.told d)) (past_old_step c.args.old.now c.args.now.now c.args.self.now d c.requires.told inside first)

pub returns-then-comes_old-clause-line : goal.returns-then-comes_old-clause-line
returns-then-comes_old-clause-line c =
    let first = sym c.comes_old.ensures ∙ c.if-comes_old.true in
    let inside = old_inside c.args.old.now (drop c.args.self.now.now_count c.args.now.now) c.args.self.now.old_count first in
    let d = some_line c.args.old.now c.args.self.now.old_count inside in
    past_old_lines c.args.old.now c.args.now.now c.args.self.now d c.requires.told inside first
    ∙ sym (told_so c.args.old.now c.args.now.now _ _ _ _ (c.past_old.ensures.line d) (c.past_old.ensures.told d))

pub returns-then-comes_old-clause-further : goal.returns-then-comes_old-clause-further
returns-then-comes_old-clause-further c =
    let first = sym c.comes_old.ensures ∙ c.if-comes_old.true in
    let inside = old_inside c.args.old.now (drop c.args.self.now.now_count c.args.now.now) c.args.self.now.old_count first in
    let d = some_line c.args.old.now c.args.self.now.old_count inside in
    ap (λ (t : Told). t.old_count + t.now_count) (c.past_old.ensures.told d) ∙ omega arith

pub returns-else-comes_old-clause-told : goal.returns-else-comes_old-clause-told
returns-else-comes_old-clause-told c =
    let first = sym c.comes_old.ensures ∙ c.if-comes_old.false in
    let inside = now_inside c.args.old.now c.args.now.now c.args.self.now.old_count c.args.self.now.now_count c.requires.some_left first in
    let d = some_line c.args.now.now c.args.self.now.now_count inside in
    subst (IsUnderway c.args.old.now c.args.now.now) (sym c.past_now.ensures.told) (past_now_step c.args.old.now c.args.now.now c.args.self.now d c.requires.told inside first)

pub returns-else-comes_old-clause-line : goal.returns-else-comes_old-clause-line
returns-else-comes_old-clause-line c =
    let first = sym c.comes_old.ensures ∙ c.if-comes_old.false in
    let inside = now_inside c.args.old.now c.args.now.now c.args.self.now.old_count c.args.self.now.now_count c.requires.some_left first in
    let d = some_line c.args.now.now c.args.self.now.now_count inside in
    past_now_lines c.args.old.now c.args.now.now c.args.self.now d c.requires.told inside first
    ∙ sym (told_so c.args.old.now c.args.now.now _ _ _ _ (c.past_now.ensures.line d) c.past_now.ensures.told)
