use Rattle.std.proofs.Common.{◌≡◌, ◌∙◌, ◌++◌, ap}
use Rattle.recording.specs.Raw.{ticks}
use Rattle.recording.specs.Answers.{items_of}
use Rattle.recording.proofs.Clocks.{closing_tick, closing_tick_is}
use Rattle.recording.proofs.Played.{raw_read}
use Rattle.recording.proofs.raw.read_raw.Goals as goal

pub returns-clause-reads : goal.returns-clause-reads
returns-clause-reads c =
    let p = c.in_ok-clock.field-0.player in
    let k = c.unwrap_or-start.result in
    let fault = c.fault-fault.result in
    let tick : c.closing_tick-tick.result ≡ closing_tick p.items.items k.last fault =
    closing_tick_is c.deref.result.now k.last fault c.closing_tick-tick.result c.closing_tick-tick.ensures.none c.closing_tick-tick.ensures.faulty c.closing_tick-tick.ensures.follows
    ∙ ap (λ t. closing_tick t k.last fault) c.deref.ensures.value in
    raw_read c.args.bytes.now c.args.goes_on p c.in_ok-clock.field-0.ending c.in_ok-clock.field-0.place fault k (items_of c.push_tick.new.items.items) c.requires.other_beginning c.in_ok-clock.ensures.all c.fault-fault.ensures c.unwrap_or-start.ensures
    (c.in_ok-push_tick.ensures ∙ ap (λ t. items_of p.items.items ++ ticks t) tick)
