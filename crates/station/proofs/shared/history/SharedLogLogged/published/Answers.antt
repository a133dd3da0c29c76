use Rattle.std.proofs.Common.{◌∙◌, ap}
use Rattle.std.specs.Prelude.{count_by}
use Rattle.station.specs.Newest.{is_publication}
use Rattle.station.specs.Shared.{events_of}
use Rattle.station.proofs.Counting.{counted}
use Rattle.station.proofs.shared.history.SharedLogLogged.published.Goals as goal

pub returns : goal.returns
returns c = c.published.ensures.value ∙ (counted c.self.inside.log.events ∙ ap (λ s. count_by is_publication (events_of s)) c.self.view_is)
