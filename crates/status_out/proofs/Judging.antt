-- Of each record it is known whether it is a value's, where the items of a value tell it and its range is decided.
use Rattle.std.proofs.Common.{◌≡◌, ◌∙◌, ap, sym, refl, subst, inl, inr, ℕ, ◌<◌, ◌^◌, ◌⊎◌, Bool, true, false, List, [], arith, append-nil, ℤ, pos, negsuc, nat_eq, FitsSigned, w16}
use Rattle.std.specs.Cmp.Lexicographic.{pointwise, bytes_decides}
use Rattle.std.proofs.lemmas.Bool.{cases_lt}
use Rattle.trk_base.specs.Numbers.{day}
use Rattle.asterix_frame.specs.declared.tables.Uap.{Uap}
use Rattle.asterix_frame.specs.Elements.{Element}
use Rattle.asterix_frame.specs.DataRecords.{DataRecord, IsDataRecord, record_octets}
use Rattle.asterix_frame.specs.Encoding.{record_of}
use Rattle.asterix_frame.proofs.DataRecordCodes.{record_code}
use Rattle.cat062_out.specs.Tracks.{Stamp, IsStamp}
use Rattle.cat062_out.specs.Profile.{written}
use Rattle.cat062_out.proofs.Profiles.{IsProfile, value_record}
use Rattle.cat062_out.proofs.ProfileTotal.{Judged}

-- ---- what is decided

abbrev pub Decided : Type 0 → Type 0
Decided P = P ⊎ (P → ⊥)

pub both : (P Q : Type 0) → Decided P → Decided Q → Decided (P × Q)
both P Q (inl p) (inl q) = inl (p, q)
both P Q (inl p) (inr n) = inr (λ h. n h.1)
both P Q (inr n) d = inr (λ h. n h.0)

pub below : (n m : ℕ) → Decided (n < m)
below n m =
    elim (cases_lt n m) [
      | inl lt ↦ inl lt
      | inr ge ↦ inr (λ lt. omega (arith, lt, ge))
    ]

pub fits_16 : (z : ℤ) → Decided (FitsSigned w16 z)
fits_16 (pos n) =
    elim (cases_lt n 32768) [
      | inl lt ↦ inl (grind arith)
      | inr ge ↦ inr (λ h. grind arith)
    ]
fits_16 (negsuc n) =
    elim (cases_lt n 32768) [
      | inl lt ↦ inl (grind arith)
      | inr ge ↦ inr (λ h. grind arith)
    ]

pub stamp_decided : (s : Stamp) → Decided (IsStamp s)
stamp_decided s =
    elim (both _ _ (below s.sac (2 ^ 8)) (both _ _ (below s.sic (2 ^ 8)) (both _ _ (below s.service (2 ^ 8)) (below s.tod day)))) [
      | inl h ↦ inl (record { sac = h.0; sic = h.1.0; service = h.1.1.0; tod = h.1.1.1 })
      | inr n ↦ inr (λ h. n (h.sac, (h.sic, (h.service, h.tod))))
    ]

octets_decided : (xs ys : List ℕ) → Decided (xs ≡ ys)
octets_decided xs ys = go (pointwise nat_eq xs ys) refl where
  go : (b : Bool) → pointwise nat_eq xs ys ≡ b → Decided (xs ≡ ys)
  go true e = inl ((bytes_decides xs ys).0 e)
  go false e = inr (λ same. let yes = (bytes_decides xs ys).1 same in (let no : true ≡ false = sym yes ∙ e in cc))

-- ---- a record

module _ (T : Type 0) (uap : Uap) (Is : T → Type 0) (items : T → List Element) (profile : IsProfile uap Is items) (told : List Element → T) (back : (v : T) → Is v → told (items v) ≡ v) (decide : (v : T) → Decided (Is v)) where
  -- a value of which it is the record is the one that its items tell
  is_told : (r : DataRecord) → IsDataRecord uap r → (v : T) → Is v → written items v ≡ record_octets r → v ≡ told r.items
  is_told r is v h e =
      let one = (record_code uap).same (record_of (items v)) r [] [] (value_record T uap Is items profile v h) is (append-nil _ ∙ e ∙ sym (append-nil _)) in
      sym (back v h) ∙ ap (λ x. told x.items) one.0

  pub judge : (r : DataRecord) → IsDataRecord uap r → Judged T uap Is items profile r
  judge r is =
      elim (both (Is (told r.items)) (written items (told r.items) ≡ record_octets r) (decide (told r.items)) (octets_decided (written items (told r.items)) (record_octets r))) [
        | inl h ↦ record { judged = inl (told r.items, h.0, h.1) }
        | inr n ↦ record {
          judged = inr (record {
            is_record = is;
            no_value = λ v h e.
                let same = is_told r is v h e in
                n (subst Is same h, sym (ap (written items) same) ∙ e);
          });
        }
      ]
