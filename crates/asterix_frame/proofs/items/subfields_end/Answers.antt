use Rattle.std.proofs.Common.{◌≡◌, ◌++◌, ◌∷◌, refl, [], ◌*◌, ◌≤◌, ◌<◌, ℕ, false, length, take, drop, arith, length-take}
use Rattle.std.proofs.lemmas.List.{get_or_past, take_rest}
use Rattle.std.proofs.lemmas.Bool.{iff_false}
use Rattle.asterix_frame.specs.declared.tables.SubfieldFormat.TheVariants as subfields
use Rattle.asterix_frame.specs.Items.{IsSubfield, is_subfield, subfield_at}
use Rattle.asterix_frame.proofs.Prefixes.{read_none, read_more, read_less, read_next, read_whole, past_field, present_none}
use Rattle.asterix_frame.proofs.items.subfields_end.Goals as goal
use Rattle.asterix_frame.proofs.items.subfields_end.Goals.{then-is_present+in_ok-end, else-is_present}

pub loop-number-init : goal.loop-number-init
loop-number-init c = ([], read_none _ _ c.args.octets.now c.args.primary c.requires.within c.requires.field)

pub returns-in_err-end-clause-ends : goal.returns-in_err-end-clause-ends
returns-in_err-end-clause-ends c =
    let table = c.args.subfields.now in
    let inv = c.loop-number.invariant in
    let n = c.loop-number.number in
    let below : n < 7 * length (take c.args.primary c.args.octets.now) = omega (arith, length-take c.args.primary c.args.octets.now) in
    rw c.from_residual.ensures (record {
      field = take c.args.primary c.args.octets.now;
      elements = inv.0;
      number = n;
      left = _;
      rest = drop c.loop-number.end c.args.octets.now;
      begins = read_next (λ n. is_subfield (subfield_at table n)) (λ n octets. IsSubfield (subfield_at table n) octets) c.args.octets.now _ n c.loop-number.end inv.0 inv.1 below (c.is_present.ensures.0 c.if-is_present.true);
      ends = rw (take_rest c.args.octets.now c.loop-number.end) at c.in_err-end.ensures.ends;
    })

pub loop-number-preserved : goal.loop-number-preserved
loop-number-preserved c =
    let table = c.args.subfields.now in
    let octets = c.args.octets.now in
    let inv = c.loop-number.invariant in
    let n = c.loop-number.number in
    let at = c.loop-number.end in
    let below : n < 7 * length (take c.args.primary octets) = omega (arith, length-take c.args.primary octets) in
    elim c.if-is_present.branch [
      | then-is_present+in_ok-end w ↦
          let len = w.in_ok-end.field-0 in
          let found = rw (take_rest octets at) at w.in_ok-end.ensures.found in
          (inv.0 ++ record { number = n; octets = take len (drop at octets) } ∷ [], rw w.end-is (read_more _ _ octets _ n at len inv.0 inv.1 below (c.is_present.ensures.0 w.if-is_present.true) found.0 found.1))
      | else-is_present w ↦ (inv.0, rw w.end-is (read_less _ _ octets _ n at inv.0 inv.1 below (iff_false c.is_present.ensures w.if-is_present.false)))
    ]

pub returns-after-loop-number-clause-found : goal.returns-after-loop-number-clause-found
returns-after-loop-number-clause-found c =
    let table = c.args.subfields.now in
    let inv = c.loop-number.invariant in
    let none : (m : ℕ) → c.loop-number.number ≤ m → is_subfield (subfield_at table m) ≡ false = λ m h. rw (get_or_past table m subfields.Spare (omega arith)) refl in
    (inv.1.within, (_, inv.0, read_whole _ _ c.args.octets.now _ c.loop-number.number c.loop-number.end inv.0 inv.1 (present_none (λ n. is_subfield (subfield_at table n)) _ _ _ inv.1.begins.is_field.all_known none)))

pub returns-then-number-primary-clause-found : goal.returns-then-number-primary-clause-found
returns-then-number-primary-clause-found c =
    let inv = c.loop-number.invariant in
    (inv.1.within, (_, inv.0, read_whole _ _ c.args.octets.now _ c.loop-number.number c.loop-number.end inv.0 inv.1 (past_field (take c.args.primary c.args.octets.now) c.loop-number.number (omega (arith, length-take c.args.primary c.args.octets.now)))))
