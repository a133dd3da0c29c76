use Rattle.std.proofs.Common.{◌∙◌, ap}
use Rattle.tracker_fold.specs.Priced.{told_octets}
use Rattle.tracker_fold.proofs.priced.PricedCerts.octets.Goals as goal

pub returns : goal.returns
returns c = c.deref.ensures.value ∙ c.self.invariant ∙ ap told_octets c.self.view_is
