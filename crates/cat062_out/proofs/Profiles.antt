-- A block has at most one reading by a profile: as the records of values, or as a first refusal.
use Rattle.std.proofs.Common.{◌≡◌, ◌∙◌, ap, sym, refl, subst, zero, suc, ℕ, ◌+◌, ◌<◌, List, [], ◌++◌, length, arith, length-append}
use Rattle.std.specs.List.{flat_map}
use Rattle.asterix_frame.specs.declared.block.Block.{Block}
use Rattle.asterix_frame.specs.declared.tables.Uap.{Uap}
use Rattle.asterix_frame.specs.Elements.{Element}
use Rattle.asterix_frame.specs.DataRecords.{DataRecord, IsDataRecord, BeginsNoDataRecord, record_octets}
use Rattle.asterix_frame.specs.Encoding.{AreDataItems, record_of}
use Rattle.asterix_frame.proofs.DataRecordCodes.{record_code}
use Rattle.asterix_frame.proofs.Encodings.{is_record}
use Rattle.asterix_frame.proofs.Sequences as sequences
use Rattle.cat062_out.specs.declared.error.ProfileError.{ProfileError}
use Rattle.cat062_out.specs.declared.error.ProfileError.TheVariants as errors
use Rattle.cat062_out.specs.Profile.{written, AreWritten, IsForeign, IsRefusal}

-- the items of each value are a record of the category, and no two values have the same ones
pub record IsProfile {T : Type 0} (uap : Uap) (Is : T → Type 0) (items : T → List Element) : Type 0 where
  pub are_items : (value : T) → Is value → AreDataItems uap (items value)
  pub one_value : (v w : T) → Is v → Is w → items v ≡ items w → v ≡ w

module _ (T : Type 0) (uap : Uap) (Is : T → Type 0) (items : T → List Element) (profile : IsProfile uap Is items) where
  pub value_record : (v : T) → Is v → IsDataRecord uap (record_of (items v))
  value_record v h = is_record uap (items v) (profile.are_items v h)

  -- ---- values are a code

  -- A refusal as a number: 0 is a foreign record, else it is one more than the cause.
  abbrev pub None : List ℕ → ℕ → ℕ → Type 0
  None octets inside zero = (foreign : DataRecord) × (rest : List ℕ) × IsForeign uap Is items foreign × (octets ≡ record_octets foreign ++ rest) × (inside ≡ 0)
  None octets inside (suc cause) = BeginsNoDataRecord uap octets inside cause

  some : (v : T) → Is v → 0 < length (written items v)
  some v h = (record_code uap).some (record_of (items v)) (value_record v h)

  same : (v w : T) (r t : List ℕ) → Is v → Is w → written items v ++ r ≡ written items w ++ t → (v ≡ w) × (r ≡ t)
  same v w r t hv hw e =
      let one = (record_code uap).same (record_of (items v)) (record_of (items w)) r t (value_record v hv) (value_record w hw) e in
      (profile.one_value v w hv hw (ap (λ x. x.items) one.0), one.1)

  not_none : (v : T) (r : List ℕ) (inside cause : ℕ) → Is v → None (written items v ++ r) inside cause → ⊥
  not_none v r inside zero h (foreign, rest, f, e, i) =
      let one = (record_code uap).same (record_of (items v)) foreign r rest (value_record v h) f.is_record e in
      f.no_value v h (ap record_octets one.0)
  not_none v r inside (suc cause) h none = (record_code uap).not_none (record_of (items v)) r inside cause (value_record v h) none

  not_empty : (inside cause : ℕ) → None [] inside cause → ⊥
  not_empty inside zero (foreign, rest, f, e, i) = omega (arith, (record_code uap).some foreign f.is_record, ap length e, length-append (record_octets foreign) rest)
  not_empty inside (suc cause) none = (record_code uap).not_empty inside cause none

  foreign_no_fault : (o : List ℕ) (foreign : DataRecord) (rest : List ℕ) (inside cause : ℕ) → IsForeign uap Is items foreign → o ≡ record_octets foreign ++ rest → BeginsNoDataRecord uap o inside cause → ⊥
  foreign_no_fault o foreign rest inside cause f e none = (record_code uap).not_none foreign rest inside cause f.is_record (subst (λ z. BeginsNoDataRecord uap z inside cause) e none)

  one_none : (o : List ℕ) (i c i' c' : ℕ) → None o i c → None o i' c' → (i ≡ i') × (c ≡ c')
  one_none o i zero i' zero (foreign, rest, f, e, z) (foreign', rest', f', e', z') = (z ∙ sym z', refl)
  one_none o i zero i' (suc c') (foreign, rest, f, e, z) none = absurd (foreign_no_fault o foreign rest i' c' f e none)
  one_none o i (suc c) i' zero none (foreign, rest, f, e, z) = absurd (foreign_no_fault o foreign rest i c f e none)
  one_none o i (suc c) i' (suc c') none none' = let one = (record_code uap).one_fault o i c i' c' none none' in (one.0, ap suc one.1)

  pub value_code : sequences.AreCode T (written items) Is None
  value_code = record { some = some; same = same; not_none = not_none; not_empty = not_empty; one_fault = one_none }

  -- ---- one reading

  abbrev Whole : List ℕ → List T → Type 0
  Whole = sequences.Whole T (written items) Is None

  abbrev FirstFault : List ℕ → ℕ → ℕ → Type 0
  FirstFault = sequences.FirstFault T (written items) Is None

  to_whole : (body : List ℕ) (vs : List T) → AreWritten Is items body vs → Whole body vs
  to_whole body vs h = record { all = h.are_values; whole = h.whole }

  -- the refusal of that number
  abbrev error_of : ℕ → ℕ → ℕ → ProfileError
  error_of at offset zero = errors.Profile (at + offset)
  error_of at offset (suc cause) = errors.Malformed (record { offset = at + offset; cause = cause })

  record Told (block : Block) (e : ProfileError) : Type 0 where
    offset : ℕ
    number : ℕ
    fault : FirstFault block.body.now offset number
    error_is : e ≡ error_of block.at offset number

  to_told : (block : Block) (e : ProfileError) → IsRefusal uap Is items block e → Told block e
  to_told block (errors.Malformed m) f = record {
    offset = length (flat_map (written items) f.prefix) + f.inside;
    number = suc m.cause;
    fault = record { prefix = f.prefix; rest = f.rest; inside = f.inside; all = f.are_values; whole = f.whole; none = f.none; offset_is = refl };
    error_is = let e : m.offset ≡ block.at + (length (flat_map (written items) f.prefix) + f.inside) = omega (arith, f.offset_is) in (λ i. errors.Malformed (record { offset = e i; cause = m.cause }));
  }
  to_told block (errors.Profile at) f = record {
    offset = length (flat_map (written items) f.prefix);
    number = 0;
    fault = record {
      prefix = f.prefix;
      rest = record_octets f.foreign ++ f.rest;
      inside = 0;
      all = f.are_values;
      whole = f.whole;
      none = (f.foreign, f.rest, f.is_foreign, refl, refl);
      offset_is = omega arith;
    };
    error_is = ap errors.Profile f.at_is;
  }
  to_told block errors.NoMemory f = absurd f

  pub one_list : (body : List ℕ) (vs ws : List T) → AreWritten Is items body vs → AreWritten Is items body ws → vs ≡ ws
  one_list body vs ws a b = sequences.one_list T (written items) Is None value_code body vs ws (to_whole body vs a) (to_whole body ws b)

  pub one_refusal : (block : Block) (e e' : ProfileError) → IsRefusal uap Is items block e → IsRefusal uap Is items block e' → e ≡ e'
  one_refusal block e e' f g =
      let x = to_told block e f in
      let y = to_told block e' g in
      let one = sequences.one_fault T (written items) Is None value_code block.body.now x.offset x.number y.offset y.number x.fault y.fault in
      x.error_is ∙ (λ i. error_of block.at (one.0 i) (one.1 i)) ∙ sym y.error_is

  pub not_both : (block : Block) (vs : List T) (e : ProfileError) → AreWritten Is items block.body.now vs → IsRefusal uap Is items block e → ⊥
  not_both block vs e a f = let x = to_told block e f in sequences.not_both T (written items) Is None value_code block.body.now vs x.offset x.number (to_whole block.body.now vs a) x.fault
