-- Spans of entries that are all plots of known radars: what is folded of them is what is folded of their plots.
use Rattle.std.specs.Prelude.{List, IsSome}
use Rattle.std.specs.List.{AllByRecursion}
use Rattle.plot_geometry.specs.declared.radars.RadarSettings.{RadarSettings}
use Rattle.price_form.specs.Certificates.{IsCert}
use Rattle.track_life.specs.Tracks.{TrackState}
use Rattle.slot_step.specs.declared.certs.KeyedCert.{KeyedCert}
use Rattle.admission_log.specs.declared.entries.Entry.{Entry}
use Rattle.tracker_fold.specs.declared.state.TrackerState.{TrackerState}
use Rattle.tracker_fold.specs.Steps.{plane}

-- each entry is a plot of one of these radars; none is a change of biases
abbrev pub AreAllPlots : List RadarSettings → List Entry → Type 0
AreAllPlots radars entries = AllByRecursion (λ e. IsSome (plane radars e)) entries

-- the state with these tracks
abbrev pub with_table : TrackerState → List TrackState → TrackerState
with_table s ts = record { life = s.life; radars = s.radars; table = ts }

-- every certificate of every slot can be written
abbrev pub AreWhole : List (List KeyedCert) → Type 0
AreWhole told = AllByRecursion (AllByRecursion (λ c. IsCert c.cert)) told
