use Rattle.std.proofs.Common.{◌≡◌, ◌∙◌, ℕ, ◌+◌, ◌*◌, sym, eqb}
use Rattle.std.proofs.lemmas.Bool.{cond_both, eqb-true, eqb-false}
use Rattle.fixed_imm.specs.Bounds.{weights}
use Rattle.fixed_imm.specs.Mixing.{share}
use Rattle.fixed_imm.specs.Correction.{posterior_weights}
use Rattle.fixed_imm.proofs.Narrow.{through64}
use Rattle.fixed_imm.proofs.weighing.posterior_weights.Goals as goal

-- the weights where no model is likely, and where one is
kept : (c l : ℕ × ℕ) → l.0 * c.0 + l.1 * c.1 ≡ 0 → c ≡ posterior_weights c l
unfolding posterior_weights
kept c l none =
    cond_both (eqb (l.0 * c.0 + l.1 * c.1) 0) c (weights (share (l.0 * c.0) (l.1 * c.1))) (λ x. c ≡ x)
    (λ _ _. c)
    (λ f. absurd (eqb-false _ _ f none))

changed : (c l : ℕ × ℕ) → (l.0 * c.0 + l.1 * c.1 ≡ 0 → ⊥) → weights (share (l.0 * c.0) (l.1 * c.1)) ≡ posterior_weights c l
unfolding posterior_weights
changed c l some =
    cond_both (eqb (l.0 * c.0 + l.1 * c.1) 0) c (weights (share (l.0 * c.0) (l.1 * c.1))) (λ x. weights (share (l.0 * c.0) (l.1 * c.1)) ≡ x)
    (λ t. absurd (some (eqb-true _ _ t)))
    (λ _ _. weights (share (l.0 * c.0) (l.1 * c.1)))

pub returns-then-n0-n1-eq0-clause-value : goal.returns-then-n0-n1-eq0-clause-value
returns-then-n0-n1-eq0-clause-value c =
    kept c.args.c c.args.l (sym (λ j. c.from.ensures j * c.from-2.ensures j + c.from-3.ensures j * c.from-4.ensures j) ∙ c.if-n0-n1-eq0.true)

pub returns-clause-value : goal.returns-clause-value
returns-clause-value c =
    let part = through64 c.posterior_share.type_inv ∙ c.posterior_share.ensures ∙ (λ j. share (c.from.ensures j * c.from-2.ensures j) (c.from-3.ensures j * c.from-4.ensures j)) in
    c.weights.ensures.value ∙ (λ j. weights (part j)) ∙ changed c.args.c c.args.l (λ e. c.if-n0-n1-eq0.false ((λ j. c.from.ensures j * c.from-2.ensures j + c.from-3.ensures j * c.from-4.ensures j) ∙ e))
