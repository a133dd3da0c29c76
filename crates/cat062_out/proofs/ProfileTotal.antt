-- Each block has a reading by a profile, where of each record it is known whether it is a value's.
use Rattle.std.proofs.Common.{◌≡◌, ◌∙◌, ap, sym, refl, subst, inl, inr, zero, suc, ℕ, ◌+◌, ◌<◌, ◌⊎◌, List, [], ◌∷◌, ◌++◌, length, arith, append_assoc}
use Rattle.std.specs.List.{flat_map, AllByRecursion}
use Rattle.asterix_frame.specs.declared.block.Block.{Block}
use Rattle.asterix_frame.specs.declared.tables.Uap.{Uap}
use Rattle.asterix_frame.specs.Elements.{Element}
use Rattle.asterix_frame.specs.DataRecords.{DataRecord, IsDataRecord, BeginsNoDataRecord, record_octets}
use Rattle.asterix_frame.specs.Bodies.{IsBody, BodyFault, body_of}
use Rattle.asterix_frame.proofs.Bodies.{some_reading}
use Rattle.asterix_frame.proofs.Sequences as sequences
use Rattle.cat062_out.specs.declared.error.ProfileError.{ProfileError}
use Rattle.cat062_out.specs.declared.error.ProfileError.TheVariants as errors
use Rattle.cat062_out.specs.Profile.{written, AreWritten, IsForeign, IsRefusal}
use Rattle.cat062_out.proofs.Profiles.{IsProfile, None, value_code}

module _ (T : Type 0) (uap : Uap) (Is : T → Type 0) (items : T → List Element) (profile : IsProfile uap Is items) where
  -- the record of a value, or of none
  pub record Judged (r : DataRecord) : Type 0 where
    pub judged : ((v : T) × Is v × (written items v ≡ record_octets r)) ⊎ IsForeign uap Is items r

  module _ (judge : (r : DataRecord) → IsDataRecord uap r → Judged r) where
    abbrev Step : List ℕ → Type 0
    Step o = sequences.Step T (written items) Is (None T uap Is items profile) (value_code T uap Is items profile) (λ _. Unit {0}) o

    first : (o : List ℕ) (r : DataRecord) (rest : List ℕ) → IsDataRecord uap r → o ≡ record_octets r ++ rest → Step o
    first o r rest is e =
        elim (judge r is).judged [
          | inl (v, h, w) ↦ record { step = inl (v, rest, h, e ∙ ap (λ x. x ++ rest) (sym w), tt) }
          | inr f ↦ record { step = inr (0, 0, (r, rest, f, e, refl)) }
        ]

    of_records : (o : List ℕ) (rs : List DataRecord) → 0 < length o → IsBody uap o rs → Step o
    of_records o [] some b = absurd (omega (arith, some, ap length b.whole))
    of_records o (r ∷ rs) some b = first o r (body_of rs) b.are_records.0 b.whole

    of_fault : (o : List ℕ) (offset cause : ℕ) (prefix : List DataRecord) → (f : BodyFault uap o offset cause) → f.prefix ≡ prefix → Step o
    of_fault o offset cause [] f e =
        let same : o ≡ f.rest = f.whole ∙ ap (λ rs. body_of rs ++ f.rest) e in
        record { step = inr (f.inside, suc cause, subst (λ x. BeginsNoDataRecord uap x f.inside cause) (sym same) f.none) }
    of_fault o offset cause (r ∷ rs) f e =
        let are = subst (AllByRecursion (IsDataRecord uap)) e f.are_records in
        first o r (body_of rs ++ f.rest) are.0 (f.whole ∙ ap (λ rs. body_of rs ++ f.rest) e ∙ append_assoc (record_octets r) (body_of rs) f.rest)

    step : (o : List ℕ) → Unit {0} → 0 < length o → Step o
    step o _ some =
        elim (some_reading uap o) [
          | inl (rs, b) ↦ of_records o rs some b
          | inr (offset, cause, f) ↦ of_fault o offset cause f.prefix f refl
        ]

    -- the reading of a block
    pub record Reading (block : Block) : Type 0 where
      pub reading : ((vs : List T) × AreWritten Is items block.body.now vs) ⊎ ((e : ProfileError) × IsRefusal uap Is items block e)

    told : (block : Block) (offset number : ℕ) → sequences.FirstFault T (written items) Is (None T uap Is items profile) block.body.now offset number → Reading block
    told block offset zero f =
        let (foreign, rest, is, e, i) = f.none in
        record {
          reading = inr (
            errors.Profile (block.at + length (flat_map (written items) f.prefix)),
            record { prefix = f.prefix; foreign = foreign; rest = rest; are_values = f.all; whole = f.whole ∙ ap (λ x. flat_map (written items) f.prefix ++ x) e; is_foreign = is; at_is = refl },
          );
        }
    told block offset (suc cause) f = record {
      reading = inr (
        errors.Malformed (record { offset = block.at + length (flat_map (written items) f.prefix) + f.inside; cause = cause }),
        record { prefix = f.prefix; rest = f.rest; inside = f.inside; are_values = f.all; whole = f.whole; none = f.none; offset_is = refl },
      );
    }

    pub some_of : (block : Block) → Reading block
    some_of block =
        elim (sequences.some_reading T (written items) Is (None T uap Is items profile) (value_code T uap Is items profile) (λ _. Unit {0}) step (length block.body.now) block.body.now (omega arith) tt).reading [
          | inl (vs, w) ↦ record { reading = inl (vs, record { are_values = w.all; whole = w.whole }) }
          | inr (offset, number, f) ↦ told block offset number f
        ]
