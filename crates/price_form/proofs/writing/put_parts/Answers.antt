use Rattle.std.proofs.Common.{◌∙◌}
use Rattle.price_form.proofs.Encoded.{whole_cert}
use Rattle.price_form.proofs.writing.put_parts.Goals as goal

pub returns-clause-ok : goal.returns-clause-ok
returns-clause-ok c =
    let view = c.cert.view_is in
    whole_cert c.args.cert.now c.args.out.now.items c.in_ok-put_head.ensures.ok c.in_ok-put_gates.ensures.ok c.in_ok-put_proof.ensures.ok
    (λ j. (view j).slot) (λ j. (view j).radar) (λ j. (view j).costs.plots) (λ j. (view j).costs.tracks)
    (c.as_slice.ensures ∙ (λ j. (view j).plots)) (c.as_slice-2.ensures ∙ (λ j. (view j).tracks)) (c.as_slice-3.ensures ∙ (λ j. (view j).costs.edges))
    (c.as_slice-4.ensures ∙ (λ j. (view j).pairing)) (c.as_slice-5.ensures ∙ (λ j. (view j).u)) (c.as_slice-6.ensures ∙ (λ j. (view j).v))
