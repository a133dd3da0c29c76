use Rattle.std.proofs.Common.{length}
use Rattle.live_picture.proofs.Telling.{tells}
use Rattle.live_picture.proofs.advancing.advance.Goals as goal

pub edition-requires-clause-settled : goal.edition-requires-clause-settled
edition-requires-clause-settled g c =
    let k = c.requires.standing in
    record { settings = k.settings; log = k.log; before = k.before; stands = c.in_ok-settle.ensures.stands k.settings k.log k.stands.settled k.before k.stands.stands }

pub returns-clause-tells : goal.returns-clause-tells
returns-clause-tells g c settings log before stands =
    let now = c.in_ok-settle.ensures.stands settings log stands.settled before stands.stands in
    tells settings log before c.args.number c.settle.new.self c.edition.result now (c.edition.ensures.edition settings log before now) (c.edition.ensures.shown settings log before now)

pub returns-clause-stands : goal.returns-clause-stands
returns-clause-stands g c settings log before stands = record { settled = length log.events; stands = c.in_ok-settle.ensures.stands settings log stands.settled before stands.stands }
