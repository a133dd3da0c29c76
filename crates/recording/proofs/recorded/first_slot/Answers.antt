use Rattle.std.proofs.Common.{arith, rules, inr, ◌≡◌, ◌∷◌, ◌<◌, length}
use Rattle.std.proofs.lemmas.List.{take_rest}
use Rattle.recording.proofs.BiasOctets.{slot_truncated, slot_stops}
use Rattle.recording.proofs.Contents.{after_first, first_octet}
use Rattle.recording.proofs.recorded.first_slot.Goals as goal

pub returns-in_default-clause-none : goal.returns-in_default-clause-none
returns-in_default-clause-none c = inr (slot_truncated c.args.octets.now (λ i. omega (arith, c.type_inv.octets i)) (omega (arith, c.in_default.len_below)))

pub returns-in_default-first_time-clause-none : goal.returns-in_default-first_time-clause-none
returns-in_default-first_time-clause-none c =
    let octets = c.args.octets.now in
    let short : length octets < 6 = search rules in
    inr (slot_truncated octets (λ i. omega (arith, c.type_inv.octets i)) short)

pub returns-then-slot-ge-SLOT_LIMIT-clause-none : goal.returns-then-slot-ge-SLOT_LIMIT-clause-none
returns-then-slot-ge-SLOT_LIMIT-clause-none c =
    let octets = c.args.octets.now in
    let found = rw (take_rest octets 1) at c.in-Some.ensures.found in
    slot_stops octets (first_octet octets) c.in-Some.slot _ c.in-Some.next.now (λ i. omega (arith, c.type_inv.octets i)) found.0 (after_first octets (omega (arith, c.in-len1-up.len_at_least))) found.1 (omega (arith, c.if-slot-ge-SLOT_LIMIT.true))
