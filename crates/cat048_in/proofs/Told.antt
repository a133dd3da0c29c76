-- The times of day of reports.
use Rattle.std.proofs.Common.{◌≡◌, refl, ℕ, ◌<◌, List, [], ◌∷◌, Option, Some, None}
use Rattle.std.specs.Prelude.{map, IfSome}
use Rattle.std.proofs.lemmas.Bool.{lt-ltb}
use Rattle.trk_base.specs.Numbers.{day}
use Rattle.asterix_frame.specs.declared.tables.Uap.TheVariants.{Cat048}
use Rattle.asterix_frame.proofs.DataItems.{time_in_day}
use Rattle.cat048_in.specs.Values.{below_day}
use Rattle.asterix_frame.specs.DataRecords.{DataRecord, time_of}
use Rattle.asterix_frame.specs.Bodies.{AreDataRecords}
use Rattle.cat048_in.specs.Reports.{report_of, reports_of}

in_day : (time : Option ℕ) → IfSome time (λ t. t < day) → below_day time ≡ time
in_day None h = refl
in_day (Some t) h = rw (lt-ltb t day h) refl

-- in whole records each time of day is taken
pub timed : (records : List DataRecord) → AreDataRecords Cat048 records → map (λ r. r.tod) (reports_of records) ≡ map (λ r. time_of Cat048 r.items) records
unfolding report_of
timed [] h = refl
timed (r ∷ rs) h = λ i. in_day (time_of Cat048 r.items) (time_in_day Cat048 r.items h.0.are_items) i ∷ timed rs h.1 i
