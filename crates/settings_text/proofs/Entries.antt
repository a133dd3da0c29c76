-- The entries of the array of radars, read one by one.
use Rattle.std.proofs.Common.{◌≡◌, ◌∙◌, ℕ, zero, suc, ◌+◌, ◌<◌, List, [], ◌∷◌, ◌++◌, length, get_or, take, min, Bool, ◌&&◌, true, inl, inr, Option, Some, None, refl, ap, subst, sym, arith}
use Rattle.std.specs.Prelude.{nat_lt}
use Rattle.std.specs.List.{AllZip, list_all}
use Rattle.std.proofs.lemmas.Bool.{lt-ltb, cases_lt}
use Rattle.std.proofs.lemmas.List.{take_more, take_all, take-map, get_or-map, length-map}
use Rattle.std.proofs.lemmas.Slice.Zip.{all_zipped_more, AllZip-long}
use Rattle.toml.specs.Data.{Members, as_table}
use Rattle.toml.specs.View.{view, items_view}
use Rattle.toml.specs.declared.value.Value.{Value}
use Rattle.plot_geometry.specs.declared.radars.RadarSettings.{RadarSettings}
use Rattle.settings_text.specs.Keys.{radar_keys}
use Rattle.settings_text.specs.declared.faults.SettingsFault.{SettingsFault}
use Rattle.settings_text.specs.declared.faults.SettingsFault.TheVariants.{Range}
use Rattle.settings_text.specs.Tables.{path}
use Rattle.settings_text.specs.Numbers.{radar_numbers}
use Rattle.settings_text.specs.Documents.{IsRadar, entries, tables_of, entry_faults, numbered_faults, entries_faults}
use Rattle.settings_text.specs.declared.faults.SettingsError.{SettingsError}
use Rattle.settings_text.specs.declared.faults.SettingsError.TheVariants.{Fault, NoMemory}
use Rattle.settings_text.specs.Answers.{IsFirst, OnFault}
use Rattle.settings_text.proofs.Reading.{no_faults}

-- the first in a list is the first in a longer one
pub first_in_front : (fault : SettingsFault) (xs ys : List SettingsFault) → IsFirst fault xs → IsFirst fault (xs ++ ys)
first_in_front fault xs ys first = (first.0 ++ ys, ap (λ zs. zs ++ ys) first.1)

-- nothing is wrong with an entry that gives a radar its numbers
no_entry_faults : (radar : ℕ) (entry : Option Members) (settings : RadarSettings) → IsRadar entry settings → entry_faults radar entry ≡ []
no_entry_faults radar None settings is = absurd is
no_entry_faults radar (Some table) settings is = no_faults (Some radar) table radar_keys (radar_numbers settings) is

pub no_numbered_faults : (first : ℕ) (entries : List (Option Members)) (radars : List RadarSettings) → AllZip IsRadar entries radars → numbered_faults first entries ≡ []
no_numbered_faults first [] radars each = refl
no_numbered_faults first (entry ∷ entries) [] each = absurd each
no_numbered_faults first (entry ∷ entries) (radar ∷ radars) each = rw (no_entry_faults first entry radar each.0, no_numbered_faults (first + 1) entries radars each.1)

-- the first entry with which something is wrong
pub first_entry_fault : (first : ℕ) (entries : List (Option Members)) (radars : List RadarSettings) (i : ℕ) (d : Option Members) (fault : SettingsFault) → i < length entries
    → AllZip IsRadar (take i entries) radars → IsFirst fault (entry_faults (first + i) (get_or entries i d)) → IsFirst fault (numbered_faults first entries)
first_entry_fault first [] radars i d fault h each found = absurd (omega arith)
first_entry_fault first (entry ∷ entries) radars zero d fault h each found =
    let same : first + 0 ≡ first = omega arith in
    first_in_front fault (entry_faults first entry) (numbered_faults (first + 1) entries) (subst (λ n. IsFirst fault (entry_faults n entry)) same found)
first_entry_fault first (entry ∷ entries) [] (suc i) d fault h each found = absurd each
first_entry_fault first (entry ∷ entries) (radar ∷ radars) (suc i) d fault h each found =
    let same : first + suc i ≡ first + 1 + i = omega arith in
    rw (no_entry_faults first entry radar each.0)
    (first_entry_fault (first + 1) entries radars i d fault (omega arith) each.1 (subst (λ n. IsFirst fault (entry_faults n (get_or entries i d))) same found))

-- what is wrong with the first 32 comes first
pub first_of_entries : (entries : List (Option Members)) (fault : SettingsFault) → 0 < length entries → IsFirst fault (numbered_faults 0 (take 32 entries)) → IsFirst fault (entries_faults entries)
first_of_entries [] fault h found = absurd (omega arith)
first_of_entries (entry ∷ entries) fault h found = first_in_front fault (numbered_faults 0 (take 32 (entry ∷ entries))) _ found

-- then that there are more
pub too_many_entries : (entries : List (Option Members)) (radars : List RadarSettings) → AllZip IsRadar (take 32 entries) radars → 32 < length entries → IsFirst (Range (path (Some 32) 8)) (entries_faults entries)
too_many_entries [] radars each more = absurd (omega arith)
too_many_entries (entry ∷ entries) radars each more =
    let long : nat_lt 32 (length (entry ∷ entries)) ≡ true = lt-ltb 32 (length (entry ∷ entries)) more in
    ([], rw (no_numbered_faults 0 (take 32 (entry ∷ entries)) radars each, long) refl)

-- what a value is as an entry
abbrev pub entry_of : Value → Option Members
entry_of value = as_table (view value)

entry_at : (values : List Value) (i : ℕ) (value : Value) → i < length values → value ≡ get_or values i value → get_or (tables_of values) i (entry_of value) ≡ entry_of value
entry_at values i value h is = get_or-map entry_of values i value (entry_of value) h ∙ ap entry_of (sym is)

pub one_more_radar : (values : List Value) (radars : List RadarSettings) (i : ℕ) (value : Value) (radar : RadarSettings) → i < length values → value ≡ get_or values i value
    → AllZip IsRadar (take i (tables_of values)) radars → IsRadar (entry_of value) radar → AllZip IsRadar (take (i + 1) (tables_of values)) (radars ++ radar ∷ [])
one_more_radar values radars i value radar h is each this =
    rw (take_more (tables_of values) i (entry_of value) (omega (arith, length-map values entry_of)), entry_at values i value h is)
    (all_zipped_more IsRadar (take i (tables_of values)) radars (entry_of value) radar each this)

pub first_value_fault : (values : List Value) (radars : List RadarSettings) (i : ℕ) (value : Value) (fault : SettingsFault) → i < length values → value ≡ get_or values i value
    → AllZip IsRadar (take i (tables_of values)) radars → IsFirst fault (entry_faults i (entry_of value)) → IsFirst fault (numbered_faults 0 (tables_of values))
first_value_fault values radars i value fault h is each found =
    let same : 0 + i ≡ i = omega arith in
    first_entry_fault 0 (tables_of values) radars i (entry_of value) fault (omega (arith, length-map values entry_of)) each
    (rw (entry_at values i value h is, same) found)

-- the entries of an array, as the array's values have them
pub entries_are : (values : List Value) → entries (items_view values) ≡ tables_of values
entries_are [] = refl
entries_are (value ∷ values) = ap (λ rest. entry_of value ∷ rest) (entries_are values)

-- the first 32 of them
pub front_is : (values : List Value) → tables_of (take (min (length values) 32) values) ≡ take 32 (tables_of values)
front_is values =
    elim (cases_lt 32 (length values)) [
      | inl more ↦ (let least : min (length values) 32 ≡ 32 = omega arith in rw least (sym (take-map entry_of 32 values)))
      | inr all ↦ (let least : min (length values) 32 ≡ length values = omega arith in
          rw (least, take_all (length values) values (omega arith), take_all 32 (tables_of values) (omega (arith, length-map values entry_of))))
    ]

-- as many radars as entries
pub radars_counted : (values : List Value) (radars : List RadarSettings) → AllZip IsRadar (tables_of values) radars → length radars ≡ length values
radars_counted values radars each = AllZip-long IsRadar (tables_of values) radars each ∙ length-map values entry_of

-- what is wrong with the first 32 is what is wrong first
pub faults_of_front : (error : SettingsError) (values : List Value) → 0 < length values → OnFault error (λ fault. IsFirst fault (numbered_faults 0 (tables_of (take (min (length values) 32) values))))
    → OnFault error (λ fault. IsFirst fault (entries_faults (tables_of values)))
faults_of_front (Fault fault) values some found = first_of_entries (tables_of values) fault (omega (arith, length-map values entry_of)) (rw (front_is values) at found)
faults_of_front NoMemory values some found = tt

-- a test of each entry, as the values have them
pub all_entries : (test : Option Members → Bool) (values : List Value) → list_all test (tables_of values) ≡ list_all (λ value. test (entry_of value)) values
all_entries test [] = refl
all_entries test (value ∷ values) = ap (λ rest. test (entry_of value) && rest) (all_entries test values)
