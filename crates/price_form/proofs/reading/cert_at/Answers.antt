use Rattle.std.proofs.Common.{◌∙◌, refl, sym, subst}
use Rattle.assignment_dual.specs.Problems.{Problem, IsProblem}
use Rattle.price_form.proofs.CertReading.{read_costs, read_value}
use Rattle.price_form.proofs.reading.cert_at.Goals as goal

pub invariant_of-result : goal.invariant_of-result
invariant_of-result c =
    subst (λ (p : Problem). IsProblem p) (sym (read_costs c.args.octets.now c.args.at c.args.counts c.requires.counts (c.of-3.ensures ∙ c.in_ok-edges.ensures))) c.requires.stands.problem

pub returns : goal.returns
returns c =
    read_value c.args.octets.now c.args.at c.args.counts c.requires.counts
    c.word_at.ensures refl (c.of.ensures ∙ c.in_ok-plots.ensures) (c.of-2.ensures ∙ c.in_ok-tracks.ensures)
    (c.of-3.ensures ∙ c.in_ok-edges.ensures) (c.of-4.ensures ∙ c.in_ok-pairing.ensures) (c.of-5.ensures ∙ c.in_ok-u.ensures) (c.of-6.ensures ∙ c.in_ok-v.ensures)
