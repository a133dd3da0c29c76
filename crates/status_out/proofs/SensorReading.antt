-- The state of a radar is read from its items.
use Rattle.std.proofs.Common.{◌≡◌, ◌∙◌, ap, ℕ, ◌*◌, ◌/◌, arith, Option, Some, None, ℤ, FitsSigned, to_z, of_z, w16}
use Rattle.std.proofs.lemmas.Int.{to_z-of_z}
use Rattle.status_out.specs.SensorRecords.{Message, IsMessage}

pub some_same : {A : Type 0} (a b : A) → Some a ≡ Some b → a ≡ b
some_same a b e = cc

-- what was read isn't missing
pub not_missing : {A B : Type 0} (read : Option A) (a : A) (told : Option B) (b : B) → read ≡ None → read ≡ Some a → told ≡ Some b
not_missing read a told b none some = absurd (cc)

signed_same : (read told : ℤ) → FitsSigned w16 told → Some read ≡ Some told → to_z w16 (of_z w16 read) ≡ told
signed_same read told fits e = ap (λ z. to_z w16 (of_z w16 z)) (some_same read told e) ∙ to_z-of_z w16 told fits

-- numbers that are those of a message make it
pub message_read : (m : Message) (sac sic service tod radar_sac radar_sic status : ℕ) (time_ms gain range azimuth : ℤ) → IsMessage m → ◌≡◌ {A = Option (ℕ × ℕ)} (Some (sac, sic)) (Some (m.0.sac, m.0.sic)) → Some service ≡ Some m.0.service → Some tod ≡ Some m.0.tod
    → ◌≡◌ {A = Option (ℕ × ℕ)} (Some (radar_sac, radar_sic)) (Some (m.1.sac, m.1.sic)) → Some status ≡ Some (64 * m.1.con) → Some time_ms ≡ Some m.1.time_ms → ◌≡◌ {A = Option (ℤ × ℤ)} (Some (gain, range)) (Some (m.1.gain, m.1.range)) → Some azimuth ≡ Some m.1.azimuth
    → ◌≡◌ {A = Message} (
      record { sac = sac; sic = sic; service = service; tod = tod },
      record {
        sac = radar_sac;
        sic = radar_sic;
        con = status / 64;
        time_ms = to_z w16 (of_z w16 time_ms);
        gain = to_z w16 (of_z w16 gain);
        range = to_z w16 (of_z w16 range);
        azimuth = to_z w16 (of_z w16 azimuth);
      },
    )
    m
message_read m sac sic service tod radar_sac radar_sic status time_ms gain range azimuth is source service_is tod_is radar status_is time_is ranges azimuth_is =
    let s : ◌≡◌ {A = ℕ × ℕ} (sac, sic) (m.0.sac, m.0.sic) = some_same _ _ source in
    let r : ◌≡◌ {A = ℕ × ℕ} (radar_sac, radar_sic) (m.1.sac, m.1.sic) = some_same _ _ radar in
    let g : ◌≡◌ {A = ℤ × ℤ} (gain, range) (m.1.gain, m.1.range) = some_same _ _ ranges in
    let service_same = some_same service m.0.service service_is in
    let tod_same = some_same tod m.0.tod tod_is in
    let con : status / 64 ≡ m.1.con = omega (arith, some_same status (64 * m.1.con) status_is) in
    let time = signed_same time_ms m.1.time_ms is.1.time_ms time_is in
    let gain_same = signed_same gain m.1.gain is.1.gain (ap (λ (p : ℤ × ℤ). Some p.0) g) in
    let range_same = signed_same range m.1.range is.1.range (ap (λ (p : ℤ × ℤ). Some p.1) g) in
    let azimuth_same = signed_same azimuth m.1.azimuth is.1.azimuth azimuth_is in
    λ i. (
      record { sac = (s i).0; sic = (s i).1; service = service_same i; tod = tod_same i },
      record { sac = (r i).0; sic = (r i).1; con = con i; time_ms = time i; gain = gain_same i; range = range_same i; azimuth = azimuth_same i },
    )
