use Rattle.std.proofs.Common.{◌∙◌, ap, subst, ◌-◌, take, drop, length, arith}
use Rattle.admission_log.specs.Histories.{first}
use Rattle.tracker_engine.specs.Engines.{StandsFor}
use Rattle.tracker_engine.proofs.Advancing.{as_many, shown_there, more_legal, continues, taken_in}
use Rattle.tracker_engine.proofs.tests.advance.Goals as goal

pub absorb-requires : goal.absorb-requires
absorb-requires g c =
    let are = c.split_at-2.ensures.front ∙ ap (take (c.args.cut - c.args.from)) (c.split_at.ensures.back ∙ ap (drop c.args.from) c.events.ensures.value) in
    let s = c.requires.stands in
    record { continues = continues c.args.log.now c.args.from c.args.cut c.requires.later c.requires.within s.0 s.1 s.2 c.args.engine.now s.3 c.split_at-2.result.0.now are }

pub pictured-requires : goal.pictured-requires
pictured-requires g c =
    let log = c.args.log.now in
    let are = c.split_at-2.ensures.front ∙ ap (take (c.args.cut - c.args.from)) (c.split_at.ensures.back ∙ ap (drop c.args.from) c.events.ensures.value) in
    let s = c.requires.stands in
    let more = more_legal log c.args.from c.args.cut c.requires.later c.requires.within s.0 s.1 s.2 c.args.engine.now s.3 c.split_at-2.result.0.now are in
    let own = taken_in log c.args.from c.args.cut c.requires.later c.requires.within s.0 s.1 s.2 c.args.engine.now s.3 c.split_at-2.result.0.now are c.absorb.new.self (c.in_ok-absorb.ensures.stands s.0 (first c.args.from log) c.args.from s.1 s.3 more) in
    record { settled = record { settings = s.0; log = first c.args.cut log; before = s.1; stands = c.in_ok-settle.ensures.stands s.0 (first c.args.cut log) c.args.from s.1 own } }

pub edition-requires-clause-settled : goal.edition-requires-clause-settled
edition-requires-clause-settled g c =
    let log = c.args.log.now in
    let are = c.split_at-2.ensures.front ∙ ap (take (c.args.cut - c.args.from)) (c.split_at.ensures.back ∙ ap (drop c.args.from) c.events.ensures.value) in
    let s = c.requires.stands in
    let more = more_legal log c.args.from c.args.cut c.requires.later c.requires.within s.0 s.1 s.2 c.args.engine.now s.3 c.split_at-2.result.0.now are in
    let own = taken_in log c.args.from c.args.cut c.requires.later c.requires.within s.0 s.1 s.2 c.args.engine.now s.3 c.split_at-2.result.0.now are c.absorb.new.self (c.in_ok-absorb.ensures.stands s.0 (first c.args.from log) c.args.from s.1 s.3 more) in
    record { settings = s.0; log = first c.args.cut log; before = s.1; stands = c.in_ok-settle.ensures.stands s.0 (first c.args.cut log) c.args.from s.1 own }

pub show-requires-clause-rises : goal.show-requires-clause-rises
show-requires-clause-rises g c =
    let log = c.args.log.now in
    let are = c.split_at-2.ensures.front ∙ ap (take (c.args.cut - c.args.from)) (c.split_at.ensures.back ∙ ap (drop c.args.from) c.events.ensures.value) in
    let s = c.requires.stands in
    let more = more_legal log c.args.from c.args.cut c.requires.later c.requires.within s.0 s.1 s.2 c.args.engine.now s.3 c.split_at-2.result.0.now are in
    let own = taken_in log c.args.from c.args.cut c.requires.later c.requires.within s.0 s.1 s.2 c.args.engine.now s.3 c.split_at-2.result.0.now are c.absorb.new.self (c.in_ok-absorb.ensures.stands s.0 (first c.args.from log) c.args.from s.1 s.3 more) in
    let now = c.in_ok-settle.ensures.stands s.0 (first c.args.cut log) c.args.from s.1 own in
    omega (arith, now.before_is, now.before_within, as_many log c.args.from c.args.cut c.requires.later c.requires.within)

pub show-requires-clause-within : goal.show-requires-clause-within
show-requires-clause-within g c =
    let log = c.args.log.now in
    let are = c.split_at-2.ensures.front ∙ ap (take (c.args.cut - c.args.from)) (c.split_at.ensures.back ∙ ap (drop c.args.from) c.events.ensures.value) in
    let s = c.requires.stands in
    let more = more_legal log c.args.from c.args.cut c.requires.later c.requires.within s.0 s.1 s.2 c.args.engine.now s.3 c.split_at-2.result.0.now are in
    let own = taken_in log c.args.from c.args.cut c.requires.later c.requires.within s.0 s.1 s.2 c.args.engine.now s.3 c.split_at-2.result.0.now are c.absorb.new.self (c.in_ok-absorb.ensures.stands s.0 (first c.args.from log) c.args.from s.1 s.3 more) in
    let now = c.in_ok-settle.ensures.stands s.0 (first c.args.cut log) c.args.from s.1 own in
    omega (arith, now.count_is, as_many log c.args.from c.args.cut c.requires.later c.requires.within)

pub returns : goal.returns
returns g c settings before legal stands =
    let log = c.args.log.now in
    let are = c.split_at-2.ensures.front ∙ ap (take (c.args.cut - c.args.from)) (c.split_at.ensures.back ∙ ap (drop c.args.from) c.events.ensures.value) in
    let more = more_legal log c.args.from c.args.cut c.requires.later c.requires.within settings before legal c.args.engine.now stands c.split_at-2.result.0.now are in
    let own = taken_in log c.args.from c.args.cut c.requires.later c.requires.within settings before legal c.args.engine.now stands c.split_at-2.result.0.now are c.absorb.new.self (c.in_ok-absorb.ensures.stands settings (first c.args.from log) c.args.from before stands more) in
    let now = c.in_ok-settle.ensures.stands settings (first c.args.cut log) c.args.from before own in
    let shown = c.into_vec.ensures ∙ c.in_ok-edition.ensures.shown settings (first c.args.cut log) before now ∙ shown_there log c.args.from c.args.cut c.requires.later c.requires.within settings in
    let done = c.show.ensures settings (first c.args.cut log) (length (first c.args.cut log).events) before now shown in
    subst (λ n. StandsFor settings (first c.args.cut log) n c.args.cut c.show.new.self) (as_many log c.args.from c.args.cut c.requires.later c.requires.within) done
