use Rattle.std.proofs.Common.{arith, ◌≡◌, ◌+◌, ◌-◌, length}
use Rattle.std.specs.List.{flat_map}
use Rattle.std.proofs.lemmas.Result.{IfOk-weaker}
use Rattle.recording.specs.Answers.{items_of}
use Rattle.recording.specs.Items.{item_octets}
use Rattle.recording.proofs.Contents.{contents_read, raw_items_fit}
use Rattle.recording.proofs.ItemOctets.{all_in_second}
use Rattle.recording.proofs.reading.read.Goals as goal

pub returns-in_default-clause-items_fit : goal.returns-in_default-clause-items_fit
returns-in_default-clause-items_fit c =
    IfOk-weaker c.read_raw.result _ _ (λ r h. raw_items_fit c.args.bytes.now c.args.goes_on r.header r.start (items_of r.items.items) r.fault c.in_default.ensures.none h) c.read_raw.ensures.reads

pub returns-clause-reads : goal.returns-clause-reads
returns-clause-reads c =
    let bytes = c.args.bytes.now in
    let found = c.in-Some-first_time.ensures.found in
    let w = c.in_ok-written.written in
    let octets = c.in-Some-first_time.octets.now in
    let offset = length bytes - length octets + w.offset in
    let at : offset ≡ length bytes - length octets + length (flat_map item_octets (items_of w.items.items)) = omega (arith, c.in_ok-written.ensures.offset) in
    contents_read bytes c.in-Some.after.now octets c.args.goes_on c.in-Some.header c.in-Some-first_time.start (items_of w.items.items) w.ending offset c.fault.result
    c.in-Some.ensures.found found.0 found.1 c.in_ok-written.ensures.items at c.fault.ensures

pub returns-clause-items_fit : goal.returns-clause-items_fit
returns-clause-items_fit c = all_in_second c.in-Some.header (items_of c.in_ok-written.written.items.items) c.in_ok-written.ensures.items.fit
