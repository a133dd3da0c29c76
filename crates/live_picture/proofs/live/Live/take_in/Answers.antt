use Rattle.std.proofs.Common.{◌∙◌, sym, subst, List}
use Rattle.admission_log.specs.declared.events.Event.{Event}
use Rattle.station.specs.Tokens.{settings_of}
use Rattle.station.specs.Turns.{OnlySaw, Gathers}
use Rattle.live_picture.specs.Rounds.{gathered_log, cut_before, Follows}
use Rattle.live_picture.proofs.Following.{still, more_legal, continues, taken, no_more, given_back}
use Rattle.live_picture.proofs.live.Live.take_in.Goals as goal

pub absorb-requires : goal.absorb-requires
absorb-requires g c =
    let station = c.args.station.now in let old = c.args.self.now in let events = c.deref.result.now in
    let gathers = subst (λ (es : List Event). Gathers station old.conductor c.gather.new.by es) (sym c.deref.ensures.value) c.in_ok-events.ensures.gathers in
    record { continues = continues station old c.gather.new.by events c.requires.follows gathers }

pub put_back-requires : goal.put_back-requires
put_back-requires g c =
    let station = c.args.station.now in let old = c.args.self.now in let events = c.deref.result.now in
    let gathers = subst (λ (es : List Event). Gathers station old.conductor c.gather.new.by es) (sym c.deref.ensures.value) c.in_ok-events.ensures.gathers in
    no_more station old c.gather.new.by events c.requires.follows gathers c.len.result (c.len.ensures ∙ sym c.deref.ensures.len)

pub returns-in_err-events-clause-follows : goal.returns-in_err-events-clause-follows
returns-in_err-events-clause-follows g c = still c.args.station.now c.args.self.now c.gather.new.by c.requires.follows c.gather.ensures.own c.in_err-events.ensures.err c.gather.ensures.found.publications

pub returns-clause-follows : goal.returns-clause-follows
returns-clause-follows g c =
    let station = c.args.station.now in let old = c.args.self.now in let events = c.deref.result.now in
    let gathers = subst (λ (es : List Event). Gathers station old.conductor c.gather.new.by es) (sym c.deref.ensures.value) c.in_ok-events.ensures.gathers in
    let back = given_back station old c.gather.new.by events c.requires.follows gathers c.len.result (c.len.ensures ∙ sym c.deref.ensures.len) c.put_back.new.self (c.put_back.ensures.own station c.gather.ensures.own) c.put_back.ensures.turn c.put_back.ensures.gathered in
    subst (λ engine. Follows station (record { conductor = c.put_back.new.self; engine = engine; number = old.number })) (sym c.in-Err.ensures.err) back

pub returns-clause-saw : goal.returns-clause-saw
returns-clause-saw g c = subst (OnlySaw c.args.self.now.conductor.turn) (sym c.put_back.ensures.turn) c.gather.ensures.saw

pub returns-in-Ok-clause-follows : goal.returns-in-Ok-clause-follows
returns-in-Ok-clause-follows g c =
    let station = c.args.station.now in let old = c.args.self.now in let events = c.deref.result.now in let f = c.requires.follows in
    let gathers = subst (λ (es : List Event). Gathers station old.conductor c.gather.new.by es) (sym c.deref.ensures.value) c.in_ok-events.ensures.gathers in
    taken station old c.gather.new.by events f gathers c.absorb.new.self c.gather.ensures.own
    (c.in-Ok.ensures.stands (settings_of station) (gathered_log station old.conductor) f.stands.settled (cut_before station old.conductor) f.stands.stands (more_legal station old c.gather.new.by events f gathers))

pub returns-in-Ok-clause-gathers : goal.returns-in-Ok-clause-gathers
returns-in-Ok-clause-gathers g c = (_, c.in_ok-events.ensures.gathers)
