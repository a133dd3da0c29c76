use Rattle.std.proofs.Common.{rules, sym, subst, ◌≡◌, ◌∙◌, ◌∷◌}
use Rattle.std.proofs.lemmas.List.{take_rest}
use Rattle.std.proofs.lemmas.Result.{IfOk-weaker, IfErr-weaker}
use Rattle.recording.specs.Items.{ItemsEnd}
use Rattle.recording.proofs.Contents.{first_octet, begins_with}
use Rattle.recording.proofs.recorded.first_item.Goals as goal

pub returns-in_default-eq1-clause-found : goal.returns-in_default-eq1-clause-found
returns-in_default-eq1-clause-found c =
    let octets = c.args.octets.now in
    let first : first_octet octets ≡ 1 = search rules in
    let whole = begins_with octets 1 c.requires first in
    IfOk-weaker c.first_tick.result _ _ (λ x h. (h.0 c.args.header, whole ∙ h.1)) (rw (take_rest octets 1) at c.first_tick.ensures.found)

pub returns-in_default-eq1-clause-none : goal.returns-in_default-eq1-clause-none
returns-in_default-eq1-clause-none c =
    let octets = c.args.octets.now in
    let first : first_octet octets ≡ 1 = search rules in
    let whole = begins_with octets 1 c.requires first in
    IfErr-weaker c.first_tick.result _ _ (λ ending h. subst (ItemsEnd c.args.header ending) (sym whole) (h c.args.header)) (rw (take_rest octets 1) at c.first_tick.ensures.none)

pub returns-in_default-eq2-clause-found : goal.returns-in_default-eq2-clause-found
returns-in_default-eq2-clause-found c =
    let octets = c.args.octets.now in
    let first : first_octet octets ≡ 2 = search rules in
    let whole = begins_with octets 2 c.requires first in
    IfOk-weaker c.first_datagram.result _ _ (λ x h. (h.0 c.args.header, whole ∙ h.1)) (rw (take_rest octets 1) at c.first_datagram.ensures.found)

pub returns-in_default-eq2-clause-none : goal.returns-in_default-eq2-clause-none
returns-in_default-eq2-clause-none c =
    let octets = c.args.octets.now in
    let first : first_octet octets ≡ 2 = search rules in
    let whole = begins_with octets 2 c.requires first in
    IfErr-weaker c.first_datagram.result _ _ (λ ending h. subst (ItemsEnd c.args.header ending) (sym whole) (h c.args.header)) (rw (take_rest octets 1) at c.first_datagram.ensures.none)
