-- Tracks beside the table before them, which has the numbers.
use Rattle.std.specs.Prelude.{List, [], ◌∷◌, if◌then◌else◌, Option, None, ℕ}
use Rattle.std.specs.List.{AllByRecursion}
use Rattle.std.specs.Ordering.{is_lt, is_eq}
use Rattle.trk_base.specs.declared.keys.Key.{Key}
use Rattle.trk_base.specs.Keys.{key_cmp}
use Rattle.price_form.specs.Certificates.{IsCert}
use Rattle.slot_step.specs.declared.certs.KeyedCert.{KeyedCert}
use Rattle.track_life.specs.declared.settings.LifeSettings.{LifeSettings}
use Rattle.track_life.specs.Tracks.{TrackState}
use Rattle.track_parts.specs.Members.{Tracks}

-- these tracks, where tracks live like this
abbrev pub living : LifeSettings → List TrackState → Tracks
living life ts = record { life = life; table = ts }

-- the tracks from the first on that isn't born before b
abbrev pub from_birth : Key → List TrackState → List TrackState
from_birth b [] = []
from_birth b (t ∷ ts) = if is_lt (key_cmp t.birth b) then from_birth b ts else t ∷ ts

-- the number of the first track, if it is born at b and has one
abbrev pub first_number : Key → List TrackState → Option ℕ
first_number b [] = None
first_number b (t ∷ ts) = if is_eq (key_cmp t.birth b) then t.number else None

-- each is a whole certificate
abbrev pub AreWhole : List KeyedCert → Type 0
AreWhole certs = AllByRecursion (λ c. IsCert c.cert) certs
