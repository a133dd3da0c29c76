use Rattle.tracker_engine.specs.Engines.{with_events}
use Rattle.live_picture.proofs.tests.afresh.told_with.Goals as goal

pub advance-requires-clause-standing : goal.advance-requires-clause-standing
advance-requires-clause-standing g c κs within =
    let k = c.requires.continues in
    record {
      settings = k.settings;
      log = with_events k.log c.args.events.now;
      before = k.before;
      stands = record { settled = k.settled; stands = c.in_ok-absorb.ensures.stands k.settings k.log k.settled k.before k.stands k.legal };
    }

pub returns : goal.returns
returns g c settings log settled before stands legal =
    c.advance.ensures.tells settings (with_events log c.args.events.now) before (record { settled = settled; stands = c.in_ok-absorb.ensures.stands settings log settled before stands legal })
