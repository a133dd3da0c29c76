use Rattle.std.proofs.Common.{◌≡◌, refl, ap, List, [], ◌∷◌, ◌++◌, map}
use Rattle.std.specs.List.{AllByRecursion, flat_map, concat}
use Rattle.asterix_frame.specs.declared.tables.Uap.TheVariants.{Cat063}
use Rattle.cat062_out.specs.Tracks.{Stamp, IsStamp}
use Rattle.cat062_out.specs.Profile.{written}
use Rattle.cat062_out.proofs.Profiles.{one_list, one_refusal, not_both}
use Rattle.status_out.specs.RadarLines.{RadarLine, IsRadarLine}
use Rattle.status_out.specs.SensorRecords.{Message, IsMessage, AreSensorMessages, sensor_items, sensor_record}
use Rattle.status_out.proofs.SensorProfile.{sensor_profile}
use Rattle.status_out.proofs.Total.{some_sensor_reading}
use Rattle.status_out.proofs.laws.one_sensor_reading.Goals as goal

module _ (stamp : Stamp) (is : IsStamp stamp) where
  all_messages : (radars : List RadarLine) → AllByRecursion IsRadarLine radars → AllByRecursion IsMessage (map (λ line. (stamp, line)) radars)
  all_messages [] h = tt
  all_messages (line ∷ radars) h = ((is, h.0), all_messages radars h.1)

  records_are : (radars : List RadarLine) → concat (map (λ line. sensor_record (stamp, line)) radars) ≡ flat_map (written sensor_items) (map (λ line. (stamp, line)) radars)
  unfolding sensor_record
  records_are [] = refl
  records_are (line ∷ radars) = ap (λ x. written sensor_items (stamp, line) ++ x) (records_are radars)

  reads_back : (radars : List RadarLine) → AllByRecursion IsRadarLine radars → AreSensorMessages (concat (map (λ line. sensor_record (stamp, line)) radars)) (map (λ line. (stamp, line)) radars)
  reads_back radars h = record { are_values = all_messages radars h; whole = records_are radars }

pub returns : goal.returns
returns c = record {
  written = λ stamp radars is all. reads_back stamp is radars all;
  some = some_sensor_reading;
  one_list = one_list Message Cat063 IsMessage sensor_items sensor_profile;
  one_refusal = one_refusal Message Cat063 IsMessage sensor_items sensor_profile;
  not_both = not_both Message Cat063 IsMessage sensor_items sensor_profile;
}
