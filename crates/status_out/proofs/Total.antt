-- Each block of category 063 and of category 065 has a reading.
use Rattle.std.proofs.Common.{inl, inr, ℕ, ◌+◌, ◌<◌, ◌≤◌, ◌^◌, ◌⊎◌, List, arith}
use Rattle.asterix_frame.specs.declared.block.Block.{Block}
use Rattle.asterix_frame.specs.declared.tables.Uap.TheVariants.{Cat063, Cat065}
use Rattle.cat062_out.specs.declared.error.ProfileError.{ProfileError}
use Rattle.cat062_out.specs.Tracks.{IsStamp}
use Rattle.cat062_out.proofs.ProfileTotal.{some_of}
use Rattle.status_out.specs.declared.service_line.Line065.{Line065}
use Rattle.status_out.specs.declared.service_line.Line065.TheVariants.{Status, End}
use Rattle.status_out.specs.RadarLines.{RadarLine, IsRadarLine}
use Rattle.status_out.specs.SensorRecords.{Message, IsMessage, AreSensorMessages, IsSensorRefusal, sensor_items}
use Rattle.status_out.specs.ServiceRecords.{IsLine065, AreServiceMessages, IsServiceRefusal, service_items}
use Rattle.status_out.proofs.Judging.{Decided, both, below, fits_16, stamp_decided, judge}
use Rattle.status_out.proofs.SensorProfile.{sensor_profile, told_message, message_back}
use Rattle.status_out.proofs.ServiceProfile.{service_profile, told_line, line_back}

at_most : (n m : ℕ) → Decided (n ≤ m)
at_most n m =
    elim (below n (m + 1)) [
      | inl lt ↦ inl (omega (arith, lt))
      | inr no_less ↦ inr (λ le. no_less (omega (arith, le)))
    ]

radar_decided : (l : RadarLine) → Decided (IsRadarLine l)
radar_decided l =
    elim (both _ _ (below l.sac (2 ^ 8)) (both _ _ (below l.sic (2 ^ 8)) (both _ _ (at_most l.con 3) (both _ _ (fits_16 l.time_ms) (both _ _ (fits_16 l.gain) (both _ _ (fits_16 l.range) (fits_16 l.azimuth))))))) [
      | inl h ↦ inl (record { sac = h.0; sic = h.1.0; con = h.1.1.0; time_ms = h.1.1.1.0; gain = h.1.1.1.1.0; range = h.1.1.1.1.1.0; azimuth = h.1.1.1.1.1.1 })
      | inr n ↦ inr (λ h. n (h.sac, (h.sic, (h.con, (h.time_ms, (h.gain, (h.range, h.azimuth)))))))
    ]

message_decided : (m : Message) → Decided (IsMessage m)
message_decided m = both (IsStamp m.0) (IsRadarLine m.1) (stamp_decided m.0) (radar_decided m.1)

line_decided : (line : Line065) → Decided (IsLine065 line)
line_decided (Status stamp nogo) = both (IsStamp stamp) (nogo ≤ 1) (stamp_decided stamp) (at_most nogo 1)
line_decided (End stamp batch) = both (IsStamp stamp) (batch < 2 ^ 8) (stamp_decided stamp) (below batch (2 ^ 8))

pub some_sensor_reading : (block : Block) → ((messages : List Message) × AreSensorMessages block.body.now messages) ⊎ ((e : ProfileError) × IsSensorRefusal block e)
some_sensor_reading block = (some_of Message Cat063 IsMessage sensor_items sensor_profile (judge Message Cat063 IsMessage sensor_items sensor_profile told_message message_back message_decided) block).reading

pub some_service_reading : (block : Block) → ((lines : List Line065) × AreServiceMessages block.body.now lines) ⊎ ((e : ProfileError) × IsServiceRefusal block e)
some_service_reading block = (some_of Line065 Cat065 IsLine065 service_items service_profile (judge Line065 Cat065 IsLine065 service_items service_profile told_line line_back line_decided) block).reading
