use Rattle.tracker_session.proofs.Nexts.{absorbed, continues}
use Rattle.tracker_session.proofs.editions.Editions.reach.Goals as goal

pub absorb-requires : goal.absorb-requires
absorb-requires g c =
    let editions = c.args.self.now in
    let h = c.requires.next in
    record { continues = continues editions.engine.settings h.0 c.args.newest.now editions h.1 }

pub returns-clause-stands : goal.returns-clause-stands
returns-clause-stands g c log h =
    let editions = c.args.self.now in
    let settings = editions.engine.settings in
    c.in_ok-settle.ensures.stands settings log editions.cut editions.cut (absorbed settings log c.args.newest.now editions h c.absorb.new.self c.in_ok-absorb.ensures.stands)

pub settle-requires-clause-least : goal.settle-requires-clause-least
settle-requires-clause-least g c κs lives = c.requires.workers.some

pub settle-requires-clause-most : goal.settle-requires-clause-most
settle-requires-clause-most g c κs lives = c.requires.workers.few

pub returns-in_err-settle-clause-bound : goal.returns-in_err-settle-clause-bound
returns-in_err-settle-clause-bound g c log slots h span =
    let editions = c.args.self.now in
    let settings = editions.engine.settings in
    c.settle.ensures.bound settings log editions.cut editions.cut slots (absorbed settings log c.args.newest.now editions h c.absorb.new.self c.in_ok-absorb.ensures.stands) span

pub returns-in_err-number-clause-bound : goal.returns-in_err-number-clause-bound
returns-in_err-number-clause-bound g c log slots h span =
    let editions = c.args.self.now in
    let settings = editions.engine.settings in
    c.settle.ensures.bound settings log editions.cut editions.cut slots (absorbed settings log c.args.newest.now editions h c.absorb.new.self c.in_ok-absorb.ensures.stands) span

pub returns-in_err-cut-clause-bound : goal.returns-in_err-cut-clause-bound
returns-in_err-cut-clause-bound g c log slots h span =
    let editions = c.args.self.now in
    let settings = editions.engine.settings in
    c.settle.ensures.bound settings log editions.cut editions.cut slots (absorbed settings log c.args.newest.now editions h c.absorb.new.self c.in_ok-absorb.ensures.stands) span

pub returns-clause-bound : goal.returns-clause-bound
returns-clause-bound g c log slots h span =
    let editions = c.args.self.now in
    let settings = editions.engine.settings in
    c.settle.ensures.bound settings log editions.cut editions.cut slots (absorbed settings log c.args.newest.now editions h c.absorb.new.self c.in_ok-absorb.ensures.stands) span
