use Rattle.std.proofs.Common.{◌∙◌, sym, ap}
use Rattle.admission_log.specs.Sources.{radar_of}
use Rattle.admission_log.proofs.Radars.{radar_found, no_radar}
use Rattle.admission_log.proofs.settings.Settings.radar.Goals as goal

pub returns-in-Some-clause-found : goal.returns-in-Some-clause-found
returns-in-Some-clause-found c =
    radar_found c.args.self.now.radars c.args.sac c.args.sic c.in-Some.index
    (ap (λ radars. radar_of radars c.args.sac c.args.sic) (sym c.as_slice.ensures) ∙ sym c.radar_of.ensures.index ∙ c.in-Some.is)

pub returns-in-None-clause-none : goal.returns-in-None-clause-none
returns-in-None-clause-none c =
    no_radar c.args.self.now.radars c.args.sac c.args.sic
    (ap (λ radars. radar_of radars c.args.sac c.args.sic) (sym c.as_slice.ensures) ∙ sym c.radar_of.ensures.index ∙ c.in-None.is)
