use Rattle.std.proofs.Common.{rules, ◌≡◌, [], ℕ, sym, subst}
use Rattle.std.specs.Arc.{arc_value}
use Rattle.admission_log.specs.declared.settings.Settings.{Settings}
use Rattle.tracker_engine.specs.Engines.{StandsFor}
use Rattle.station.specs.Tokens.{settings_of, start_of}
use Rattle.live_picture.proofs.tests.opening.opened.Goals as goal

pub new-live-requires-clause-stands : goal.new-live-requires-clause-stands
new-live-requires-clause-stands c =
    let settings = arc_value c.args.settings.now in
    let stands : StandsFor settings (record { start = 4608000; events = [] }) 0 0 c.in_ok-engine.engine = search rules in
    let settings_are : settings_of c.in_ok-station.field-0.station ≡ settings = search rules in
    let start : start_of c.in_ok-station.field-0.station ≡ 4608000 = search rules in
    subst (λ (z : Settings × ℕ). StandsFor z.0 (record { start = z.1; events = [] }) 0 0 c.in_ok-engine.engine) (λ i. (sym settings_are i, sym start i)) stands
