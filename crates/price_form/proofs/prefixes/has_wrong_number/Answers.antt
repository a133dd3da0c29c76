use Rattle.std.proofs.Common.{◌+◌, ◌*◌, ◌∙◌}
use Rattle.price_form.specs.Octets.{half_at}
use Rattle.price_form.specs.Prefixes.{in_edges}
use Rattle.price_form.proofs.WrongNumbers.{edges_read, number_answer}
use Rattle.price_form.proofs.prefixes.has_wrong_number.Goals as goal

pub returns-then-has_wrong_edge : goal.returns-then-has_wrong_edge
returns-then-has_wrong_edge c =
    let xs = c.args.octets.now in
    let p = c.args.at in
    let a = c.half_at-plots.ensures in
    let b = c.half_at-tracks.ensures in
    in_edges (edges_read xs p a b (c.half_at.ensures ∙ (λ j. half_at xs (p + 18 + a j * 8 + b j * 8))) c.if-has_wrong_edge.ensures)

pub returns : goal.returns
returns c =
    let xs = c.args.octets.now in
    let p = c.args.at in
    let a = c.half_at-plots.ensures in
    let b = c.half_at-tracks.ensures in
    number_answer xs p c.has_wrong_entry.result a b (c.half_at.ensures ∙ (λ j. half_at xs (p + 18 + a j * 8 + b j * 8))) c.if-plots-eq0.false c.if-tracks.false c.if-has_wrong_edge.ensures c.has_wrong_entry.ensures
