-- What is told of the service is read from its items.
use Rattle.std.proofs.Common.{◌≡◌, ◌∙◌, ap, sym, refl, ℕ, ◌*◌, ◌≤◌, List, arith, Option, Some, None}
use Rattle.asterix_frame.specs.declared.tables.Uap.TheVariants.{Cat065}
use Rattle.asterix_frame.specs.Elements.{Element}
use Rattle.asterix_frame.specs.Values.{one_octet}
use Rattle.asterix_frame.specs.DataRecords.{item_octets, source_of, time_of}
use Rattle.asterix_frame.proofs.Written.{three_written}
use Rattle.cat062_out.specs.Tracks.{Stamp, IsStamp}
use Rattle.status_out.specs.declared.service_line.Line065.{Line065}
use Rattle.status_out.specs.declared.service_line.Line065.TheVariants.{Status, End}
use Rattle.status_out.specs.ServiceRecords.{IsLine065, service_items}
use Rattle.status_out.proofs.SensorReading.{some_same, not_missing}

-- ---- what every line tells

abbrev pub stamp_in : Line065 → Stamp
stamp_in (Status stamp nogo) = stamp
stamp_in (End stamp batch) = stamp

abbrev pub kind_in : Line065 → ℕ
kind_in (Status stamp nogo) = 1
kind_in (End stamp batch) = 2

is_stamp : (line : Line065) → IsLine065 line → IsStamp (stamp_in line)
is_stamp (Status stamp nogo) h = h.0
is_stamp (End stamp batch) h = h.0

pub source_is : (line : Line065) → source_of (service_items line) ≡ Some ((stamp_in line).sac, (stamp_in line).sic)
unfolding service_items
source_is (Status stamp nogo) = refl
source_is (End stamp batch) = refl

pub kind_is : (line : Line065) → one_octet (item_octets 2 (service_items line)) ≡ Some (kind_in line)
unfolding service_items
kind_is (Status stamp nogo) = refl
kind_is (End stamp batch) = refl

pub service_is : (line : Line065) → one_octet (item_octets 3 (service_items line)) ≡ Some (stamp_in line).service
unfolding service_items
service_is (Status stamp nogo) = refl
service_is (End stamp batch) = refl

pub tod_is : (line : Line065) → IsLine065 line → time_of Cat065 (service_items line) ≡ Some (stamp_in line).tod
unfolding service_items
tod_is (Status stamp nogo) h = three_written stamp.tod (omega (arith, h.0.tod))
tod_is (End stamp batch) h = three_written stamp.tod (omega (arith, h.0.tod))

-- numbers that are those of a line make its stamp
pub stamp_read : (line : Line065) (sac sic service tod : ℕ) → ◌≡◌ {A = Option (ℕ × ℕ)} (Some (sac, sic)) (Some ((stamp_in line).sac, (stamp_in line).sic)) → Some service ≡ Some (stamp_in line).service → Some tod ≡ Some (stamp_in line).tod
    → ◌≡◌ {A = Stamp} (record { sac = sac; sic = sic; service = service; tod = tod }) (stamp_in line)
stamp_read line sac sic service tod source service_same tod_same =
    let s : ◌≡◌ {A = ℕ × ℕ} (sac, sic) ((stamp_in line).sac, (stamp_in line).sic) = some_same _ _ source in
    let f = some_same service (stamp_in line).service service_same in
    let t = some_same tod (stamp_in line).tod tod_same in
    λ i. record { sac = (s i).0; sic = (s i).1; service = f i; tod = t i }

-- ---- what one kind tells

module _ (items : List Element) (kind : ℕ) (stamp : Stamp) where
  -- its octet isn't missing
  pub status_there : (line : Line065) (read : Option ℕ) (told : Option Line065) → service_items line ≡ items → Some kind ≡ Some (kind_in line) → kind ≡ 1 → read ≡ None → read ≡ one_octet (item_octets 6 items) → told ≡ Some line
  unfolding service_items
  status_there (Status s nogo) read told e k one none some = not_missing read (64 * nogo) told (Status s nogo) none (some ∙ ap (λ ps. one_octet (item_octets 6 ps)) (sym e))
  status_there (End s batch) read told e k one none some = absurd (omega (arith, one, some_same kind 2 k))

  pub batch_there : (line : Line065) (read : Option ℕ) (told : Option Line065) → service_items line ≡ items → Some kind ≡ Some (kind_in line) → kind ≡ 2 → read ≡ None → read ≡ one_octet (item_octets 5 items) → told ≡ Some line
  unfolding service_items
  batch_there (Status s nogo) read told e k two none some = absurd (omega (arith, two, some_same kind 1 k))
  batch_there (End s batch) read told e k two none some = not_missing read batch told (End s batch) none (some ∙ ap (λ ps. one_octet (item_octets 5 ps)) (sym e))

  -- its octet makes the line
  pub status_read : (line : Line065) (octet : ℕ) (told : Option Line065) → IsLine065 line → service_items line ≡ items → Some kind ≡ Some (kind_in line) → kind ≡ 1 → Some octet ≡ one_octet (item_octets 6 items) → stamp ≡ stamp_in line
      → ((nogo : ℕ) → nogo ≤ 1 → octet ≡ 64 * nogo → told ≡ Some (Status stamp nogo)) → told ≡ Some line
  unfolding service_items
  status_read (Status s nogo) octet told h e k one some same reads =
      reads nogo h.1 (some_same octet (64 * nogo) (some ∙ ap (λ ps. one_octet (item_octets 6 ps)) (sym e))) ∙ ap (λ t. Some (Status t nogo)) same
  status_read (End s batch) octet told h e k one some same reads = absurd (omega (arith, one, some_same kind 2 k))

  pub batch_read : (line : Line065) (octet : ℕ) → service_items line ≡ items → Some kind ≡ Some (kind_in line) → kind ≡ 2 → Some octet ≡ one_octet (item_octets 5 items) → stamp ≡ stamp_in line → Some (End stamp octet) ≡ Some line
  unfolding service_items
  batch_read (Status s nogo) octet e k two some same = absurd (omega (arith, two, some_same kind 1 k))
  batch_read (End s batch) octet e k two some same = let o = some_same octet batch (some ∙ ap (λ ps. one_octet (item_octets 5 ps)) (sym e)) in (λ i. Some (End (same i) (o i)))

  -- there is no other kind
  pub known_kind : (line : Line065) → Some kind ≡ Some (kind_in line) → (kind ≡ 1 → ⊥) → (kind ≡ 2 → ⊥) → ⊥
  known_kind (Status s nogo) k no_one no_two = no_one (some_same kind 1 k)
  known_kind (End s batch) k no_one no_two = no_two (some_same kind 2 k)
