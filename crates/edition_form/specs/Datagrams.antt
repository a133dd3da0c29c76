-- The datagrams of an edition: what is shown, encoded (ASTERIX Parts 9, 10 and 15), against what was shown at the cut before.
use Rattle.std.specs.Prelude.{◌≡◌, ℕ, ◌-◌, ◌%◌, nat_le, if◌then◌else◌, ◌==◌, ◌*ℤ◌, List, [], ◌∷◌, ◌++◌, map, Option, Some, None, ℤ, pos}
use Rattle.std.specs.List.{list_any}
use Rattle.trk_base.specs.Numbers.{day, round}
use Rattle.asterix_frame.specs.Packing.{ArePacked}
use Rattle.plot_geometry.specs.declared.biases.Bias.{Bias}
use Rattle.plot_geometry.specs.declared.radars.RadarSettings.{RadarSettings}
use Rattle.cat062_out.specs.Tracks.{Stamp, TrackLine}
use Rattle.cat062_out.specs.TrackRecords.{track_record}
use Rattle.status_out.specs.RadarLines.{RadarLine}
use Rattle.status_out.specs.SensorRecords.{sensor_block}
use Rattle.status_out.specs.ServiceRecords.{service_block}
use Rattle.status_out.specs.declared.service_line.Line065.TheVariants.{Status, End}
use Rattle.admission_log.specs.declared.settings.Settings.{Settings}
use Rattle.admission_log.specs.Histories.{History, first}
use Rattle.edition_form.specs.declared.lines.ShownLine.{ShownLine}
use Rattle.edition_form.specs.Pictures.{Picture, picture_of}
use Rattle.edition_form.specs.Lines.{lines_of, told_lines}

-- who tells the edition, and at which time of day
abbrev pub stamp : Settings → ℕ → Stamp
stamp settings time = record { sac = settings.sac; sic = settings.sic; service = settings.service; tod = time % day }

-- ---- the states of the radars

-- CON of I063/060: 3, not connected, before the first service message; then 0, operational, for 12 s after the newest one, and else 1, degraded
abbrev pub con : ℕ → Option ℕ → ℕ
con time None = 3
con time (Some heard) = if nat_le (time - heard) 1536 then 0 else 1

-- a time bias in 1/128 s, in ms (I063/070)
abbrev pub milliseconds : ℤ → ℤ
milliseconds bias = round (pos 1000 *ℤ bias) (pos 128)

abbrev pub radar_line : ℕ → RadarSettings → Bias → Option ℕ → RadarLine
radar_line time radar bias service = record {
  sac = radar.sac;
  sic = radar.sic;
  con = con time service;
  time_ms = milliseconds radar.time_bias;
  gain = bias.gain;
  range = bias.range;
  azimuth = bias.azimuth;
}

-- of each radar, with its own bias and service message
abbrev pub radar_lines : ℕ → List RadarSettings → List Bias → List (Option ℕ) → List RadarLine
radar_lines time (radar ∷ radars) (bias ∷ biases) (service ∷ services) = radar_line time radar bias service ∷ radar_lines time radars biases services
radar_lines time _ _ _ = []

-- NOGO of I065/040: 0, operational, where some radar is, and else 1
abbrev pub nogo : List RadarLine → ℕ
nogo lines = if list_any (λ l. l.con == 0) lines then 0 else 1

-- ---- all of them

-- The records of the lines that are told, packed in blocks of category 62, each block a datagram; and then a datagram each: the states of
-- the radars, the state of the service, and the end of the batch, with the edition's number modulo 256.
pub record AreDatagrams (stamp : Stamp) (number : ℕ) (lines : List TrackLine) (radars : List RadarLine) (datagrams : List (List ℕ)) : Type 0 where
  pub blocks : List (List ℕ)
  pub packed : ArePacked 62 (map (track_record stamp) lines) blocks
  pub all : datagrams ≡ blocks ++ (sensor_block stamp radars ∷ service_block (Status stamp (nogo radars)) ∷ service_block (End stamp (number % 256)) ∷ [])

-- the lines of a picture's tracks
abbrev pub lines_in : Picture → List ShownLine
lines_in picture = lines_of picture.time picture.tracks

-- the states of a picture's radars
abbrev pub radars_in : Settings → Picture → List RadarLine
radars_in settings picture = radar_lines picture.time settings.radars picture.biases picture.services

-- those of a picture, as edition of that number, where these lines were shown at the cut before
abbrev pub ArePictured : Settings → Picture → List ShownLine → ℕ → List (List ℕ) → Type 0
ArePictured settings picture old number datagrams = AreDatagrams (stamp settings picture.time) number (told_lines old (lines_in picture)) (radars_in settings picture) datagrams

-- ---- of a log

-- the lines that are shown of a log
abbrev pub shown_of : Settings → History → List ShownLine
shown_of settings log = lines_in (picture_of settings log)

-- those at a cut of it; at 0 there are none
abbrev pub shown_at : Settings → History → ℕ → List ShownLine
shown_at settings log cut = if cut == 0 then [] else shown_of settings (first cut log)

-- the datagrams of a log, as edition of that number after the one at that cut
abbrev pub AreDatagramsOf : Settings → History → ℕ → ℕ → List (List ℕ) → Type 0
AreDatagramsOf settings log before number datagrams = ArePictured settings (picture_of settings log) (shown_at settings log before) number datagrams
