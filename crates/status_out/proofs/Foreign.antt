-- A record that comes out otherwise when it is written again is that of no value.
use Rattle.std.proofs.Common.{◌≡◌, ◌∙◌, ap, sym, ℕ, ◌-◌, List, length, take, drop, arith, Option, Some, None}
use Rattle.std.proofs.Math.Seq.{take-append_seam}
use Rattle.asterix_frame.specs.declared.tables.Uap.{Uap}
use Rattle.asterix_frame.specs.declared.walk.ItemSpans.{ItemSpans}
use Rattle.asterix_frame.specs.Elements.{Element}
use Rattle.asterix_frame.specs.DataRecords.{DataRecord, record_octets}
use Rattle.asterix_frame.specs.Bodies.{HasDataRecord, elements_at}
use Rattle.cat062_out.specs.Profile.{written, BeginsForeign}
use Rattle.cat062_out.proofs.Profiles.{IsProfile}
use Rattle.cat062_out.proofs.ProfileReading.{foreign_there}

pub record_there : (uap : Uap) (body : List ℕ) (from : ℕ) (r : DataRecord) (s : ItemSpans) → HasDataRecord uap body from r s → take (s.next - from) (drop from body) ≡ record_octets r
record_there uap body from r s h =
    let size : s.next - from ≡ length (record_octets r) = omega (arith, h.next) in
    ap (λ n. take n (drop from body)) size ∙ ap (take (length (record_octets r))) h.octets ∙ take-append_seam (record_octets r) (drop s.next body)

module _ (T : Type 0) (uap : Uap) (Is : T → Type 0) (items : T → List Element) (profile : IsProfile uap Is items) (body : List ℕ) (from : ℕ) (r : DataRecord) (s : ItemSpans) (made : Option T) where
  -- its items are those of no value
  pub foreign_items : HasDataRecord uap body from r s → ((v : T) → Is v → items v ≡ elements_at body s.frns.items → made ≡ Some v) → made ≡ None → BeginsForeign uap Is items body from
  foreign_items h reads none = foreign_there T uap Is items profile body from r s made h reads (λ v e. absurd (cc))

  -- the value that has its items is written otherwise
  pub foreign_octets : (v : T) (octets : List ℕ) → HasDataRecord uap body from r s → ((v : T) → Is v → items v ≡ elements_at body s.frns.items → made ≡ Some v) → made ≡ Some v → octets ≡ written items v
      → (octets ≡ take (s.next - from) (drop from body) → ⊥) → BeginsForeign uap Is items body from
  foreign_octets v octets h reads is e other =
      foreign_there T uap Is items profile body from r s made h reads (λ w m same.
      let v_is_w : v ≡ w = cc in
      other (e ∙ ap (written items) v_is_w ∙ same ∙ sym (record_there uap body from r s h)))
