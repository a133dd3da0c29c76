use Rattle.std.proofs.Common.{◌≡◌, ◌∙◌, refl, ap, sym, ◌+◌, ◌-◌, ◌*◌, ◌<◌, suc, [], ◌∷◌, ◌++◌, length, take, drop, arith, length-take}
use Rattle.std.proofs.lemmas.List.{get_or_past, take_rest}
use Rattle.std.proofs.lemmas.Bool.{iff_false}
use Rattle.asterix_frame.specs.declared.tables.ItemFormat.TheVariants as formats
use Rattle.asterix_frame.specs.Items.{IsItem, item_at}
use Rattle.asterix_frame.specs.Elements.{Element, octets_of}
use Rattle.asterix_frame.specs.Presence.{present_from}
use Rattle.asterix_frame.specs.Records.{knows, spans, in_item}
use Rattle.asterix_frame.proofs.Prefixes.{read_none, read_more, read_less, read_next, read_all, past_field, present_none}
use Rattle.asterix_frame.proofs.Walked.{spans_more, left_at}
use Rattle.asterix_frame.proofs.walk.walk_named.Goals as goal
use Rattle.asterix_frame.proofs.walk.walk_named.Goals.{then-is_present+in-Ok+in_ok-push-in-Ok, else-is_present, else-loop-number-test, then-loop-number-test+then-number-fspec}

pub loop-number-init : goal.loop-number-init
loop-number-init c =
    let octets = drop c.args.from c.args.block.now.body.now in
    ([], read_none _ _ octets c.args.fspec c.requires.within c.requires.field, c.in_ok-frns.ensures.items)

pub returns-in-Err : goal.returns-in-Err
returns-in-Err c =
    let table = c.args.table.now in
    let body = c.args.block.now.body.now in
    let octets = drop c.args.from body in
    let field = take c.args.fspec octets in
    let inv = c.loop-number.invariant in
    let n = c.loop-number.number in
    let end = c.loop-number.end in
    let whole = take_rest body c.args.from in
    let long : length field ≡ c.args.fspec = omega (arith, length-take c.args.fspec octets) in
    let below : n < 7 * length field = omega (arith, length-take c.args.fspec octets) in
    let here = rw whole at c.is_present.ensures in
    let begins = read_next (knows table) (λ n element. IsItem (item_at table n) element) octets field n end inv.0 inv.1 below (here.0 c.if-is_present.true) in
    let none = rw (whole, take_rest octets end) at c.in-Err.ensures.none in (
      c.args.from + end + c.in-Err.error.inside,
      omega arith,
      in_item (record {
        fspec = field;
        items = inv.0;
        number = n;
        left = present_from field (suc n) (7 * length field - suc n);
        at = c.args.from + end;
        inside = c.in-Err.error.inside;
        begins = rw (left_at body c.args.from end) at begins;
        none = rw (left_at body c.args.from end) at none;
        found_are = inv.2 ∙ ap (λ k. spans (c.args.from + k) inv.0) (sym long);
        at_is = omega (arith, inv.1.at_is);
        offset_is = refl;
      }),
    )

pub loop-number-preserved : goal.loop-number-preserved
loop-number-preserved c =
    let table = c.args.table.now in
    let body = c.args.block.now.body.now in
    let octets = drop c.args.from body in
    let field = take c.args.fspec octets in
    let inv = c.loop-number.invariant in
    let n = c.loop-number.number in
    let end = c.loop-number.end in
    let whole = take_rest body c.args.from in
    let long : length field ≡ c.args.fspec = omega (arith, length-take c.args.fspec octets) in
    let below : n < 7 * length field = omega (arith, length-take c.args.fspec octets) in
    let here = rw whole at c.is_present.ensures in
    elim c.if-is_present.branch [
      | then-is_present+in-Ok+in_ok-push-in-Ok w ↦
          let len = w.in-Ok.len in
          let item : Element = record { number = n; octets = take len (drop end octets) } in
          let found = rw (whole, take_rest octets end) at w.in-Ok.ensures.found in
          let read = read_more (knows table) (λ n element. IsItem (item_at table n) element) octets field n end len inv.0 inv.1 below (here.0 w.if-is_present.true) found.0 found.1 in
          let first : c.args.from + end ≡ c.args.from + c.args.fspec + length (octets_of inv.0) = omega (arith, inv.1.at_is) in
          let last : c.args.from + end + len ≡ c.args.from + end + length item.octets = omega (arith, found.0, length-take len (drop end octets)) in
          (inv.0 ++ item ∷ [], rw w.end-is read, ap (λ v. v.items) w.frns-is ∙ w.in_ok-push-in-Ok.ensures.items ∙ ap (λ t. t ++ (n + 1, c.args.from + end, c.args.from + end + len) ∷ []) inv.2 ∙ sym (spans_more (c.args.from + c.args.fspec) inv.0 item (c.args.from + end) (c.args.from + end + len) first last))
      | else-is_present w ↦
          (inv.0, rw w.end-is (read_less _ _ octets field n end inv.0 inv.1 below (iff_false here w.if-is_present.false)), ap (λ v. v.items) w.frns-is ∙ inv.2)
    ]

pub returns : goal.returns
returns c =
    let table = c.args.table.now in
    let body = c.args.block.now.body.now in
    let octets = drop c.args.from body in
    let field = take c.args.fspec octets in
    let inv = c.loop-number.invariant in
    let n = c.loop-number.number in
    let end = c.loop-number.end in
    let long : length field ≡ c.args.fspec = omega (arith, length-take c.args.fspec octets) in
    let none : present_from field n (7 * length field - n) ≡ [] =
    elim c.loop-number-test.branch [
      | else-loop-number-test w ↦ present_none (knows table) field n _ inv.1.begins.is_field.all_known (λ m h. rw (get_or_past table m formats.Spare (omega arith)) refl)
      | then-loop-number-test+then-number-fspec w ↦ past_field field n (omega arith)
    ] in
    record {
      fspec = field;
      items = inv.0;
      begins = rw (left_at body c.args.from end) at (read_all (knows table) (λ n element. IsItem (item_at table n) element) octets field n end inv.0 inv.1 none);
      found_are = inv.2 ∙ ap (λ k. spans (c.args.from + k) inv.0) (sym long);
      next_is = omega (arith, inv.1.at_is);
    }
