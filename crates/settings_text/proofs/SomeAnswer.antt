-- Octets have an answer: settings or a fault.
use Rattle.std.proofs.Common.{◌≡◌, ◌∙◌, ℕ, zero, suc, ◌+◌, ◌<◌, ◌≤◌, ℤ, pos, negsuc, ◌≤ℤ◌, true, List, [], ◌∷◌, ◌++◌, length, get_or, take, Option, Some, None, Result, Ok, Err, inl, inr, ◌⊎◌, refl, ap, sym, subst, arith, lit<}
use Rattle.std.specs.List.{AllZip}
use Rattle.std.specs.Str.{IsUtf8, is_utf8}
use Rattle.std.proofs.lemmas.Bool.{cases_Bool, cases_lt, lt-ltb, true≢false}
use Rattle.std.proofs.lemmas.Option.{none-some}
use Rattle.std.proofs.lemmas.Int.{ints}
use Rattle.std.proofs.lemmas.List.{take_all, length-take, get_or_default}
use Rattle.std.proofs.lemmas.Slice.Zip.{AllZip-long}
use Rattle.std.proofs.lemmas.Str.{IsUtf8-from_is_utf8, is_utf8-from_IsUtf8}
use Rattle.toml.specs.Data.{Members}
use Rattle.toml.specs.Parse.{parse_document}
use Rattle.plot_geometry.specs.declared.radars.RadarSettings.{RadarSettings}
use Rattle.admission_log.specs.declared.settings.Settings.{Settings}
use Rattle.admission_log.specs.Sources.{HaveOwnSources, radar_of}
use Rattle.admission_log.proofs.Radars.{found_within}
use Rattle.settings_text.specs.Keys.{Key, system_keys, radar_keys}
use Rattle.settings_text.specs.declared.faults.SettingsFault.{SettingsFault}
use Rattle.settings_text.specs.declared.faults.SettingsFault.TheVariants.{Syntax, Unknown, Duplicate}
use Rattle.settings_text.specs.Tables.{KeyFault, number_at, Gives, faults, is_within, AreWithin}
use Rattle.settings_text.specs.Numbers.{system_numbers, radar_numbers}
use Rattle.settings_text.specs.Documents.{system_of, radars_of, system_faults, numbered_faults, entries_faults, radars_faults, number_faults, is_known, IsRadar, SystemGives, AreRadars}
use Rattle.settings_text.specs.Answers.{IsDocument, IsSettings, IsFaultOf, wrong_number, unknown_key, duplicate, no_document, in_document, IsSettingsAnswer, Repeats}
use Rattle.settings_text.proofs.Ranges.{blank, range_at, by_index, gives_within}
use Rattle.settings_text.proofs.Repeating.{own_more, repeats_at}

-- two lists that are empty together
empty_parts : {X : Type 0} (xs ys : List X) → xs ++ ys ≡ [] → (xs ≡ []) × (ys ≡ [])
empty_parts [] ys e = (refl, e)
empty_parts (x ∷ xs) ys e = absurd (omega (arith, ap length e))

-- the numbers of keys with which nothing is wrong
abbrev Given : Members → List Key → Type 0
Given table keys = (numbers : List ℤ) × Gives table keys numbers

one_given : (radar : Option ℕ) (table : Members) (key : Key) (others : List Key) (found : Result ℤ KeyFault) → number_at table key ≡ found → faults radar table (key ∷ others) ≡ []
    → (faults radar table others ≡ [] → Given table others) → Given table (key ∷ others)
one_given radar table key others (Ok number) is none rest = (let more = rest (rw is at none) in (number ∷ more.0, (is, more.1)))
one_given radar table key others (Err flaw) is none rest = absurd (omega (arith, ap length (rw is at none)))

given : (radar : Option ℕ) (table : Members) (keys : List Key) → faults radar table keys ≡ [] → Given table keys
given radar table [] none = ([], tt)
given radar table (key ∷ others) none = one_given radar table key others (number_at table key) refl none (given radar table others)

-- a number that isn't below 0
natural : (z : ℤ) → pos 0 ≤ℤ z → (n : ℕ) × (pos n ≡ z)
natural (pos n) h = (n, refl)
natural (negsuc n) h = absurd (omega (arith, ints))

-- the radar of twelve numbers in range
some_radar : (numbers : List ℤ) → AreWithin radar_keys numbers → (radar : RadarSettings) × (radar_numbers radar ≡ numbers)
some_radar numbers within =
    let long = AllZip-long (λ key number. is_within key number ≡ true) radar_keys numbers within in
    let sac = range_at radar_keys numbers 0 blank within (lit< tt) in
    let sic = range_at radar_keys numbers 1 blank within (lit< tt) in
    let x = range_at radar_keys numbers 2 blank within (lit< tt) in
    let y = range_at radar_keys numbers 3 blank within (lit< tt) in
    let height = range_at radar_keys numbers 4 blank within (lit< tt) in
    let north = range_at radar_keys numbers 5 blank within (lit< tt) in
    let range_gain = range_at radar_keys numbers 6 blank within (lit< tt) in
    let range_bias = range_at radar_keys numbers 7 blank within (lit< tt) in
    let azimuth_bias = range_at radar_keys numbers 8 blank within (lit< tt) in
    let time_bias = range_at radar_keys numbers 9 blank within (lit< tt) in
    let range_sigma = range_at radar_keys numbers 10 blank within (lit< tt) in
    let azimuth_sigma = range_at radar_keys numbers 11 blank within (lit< tt) in
    let a = natural _ sac.0 in
    let b = natural _ sic.0 in
    let n = natural _ north.0 in
    let rs : (n : ℕ) × (pos n ≡ get_or numbers 10 (pos 0)) = natural _ (omega (arith, ints)) in
    let as' : (n : ℕ) × (pos n ≡ get_or numbers 11 (pos 0)) = natural _ (omega (arith, ints)) in (
      record {
        sac = a.0;
        sic = b.0;
        x = get_or numbers 2 (pos 0);
        y = get_or numbers 3 (pos 0);
        height = get_or numbers 4 (pos 0);
        north = n.0;
        range_gain = get_or numbers 6 (pos 0);
        range_bias = get_or numbers 7 (pos 0);
        azimuth_bias = get_or numbers 8 (pos 0);
        time_bias = get_or numbers 9 (pos 0);
        range_sigma = rs.0;
        azimuth_sigma = as'.0;
        x_range = omega (arith, ints);
        y_range = omega (arith, ints);
        height_range = height;
        range_gain_range = omega (arith, ints);
        range_bias_range = omega (arith, ints);
        azimuth_bias_range = omega (arith, ints);
        time_bias_range = omega (arith, ints);
        range_sigma_range = (omega (arith, ints, rs.1), omega (arith, ints, rs.1));
        azimuth_sigma_range = (omega (arith, ints, as'.1), omega (arith, ints, as'.1));
      },
      (λ i. a.1 i ∷ b.1 i ∷ get_or numbers 2 (pos 0) ∷ get_or numbers 3 (pos 0) ∷ get_or numbers 4 (pos 0) ∷ n.1 i ∷ get_or numbers 6 (pos 0) ∷ get_or numbers 7 (pos 0)
          ∷ get_or numbers 8 (pos 0) ∷ get_or numbers 9 (pos 0) ∷ rs.1 i ∷ as'.1 i ∷ [])
          ∙ sym (by_index 12 numbers long),
    )

-- the settings of seven numbers in range and of radars
some_settings : (numbers : List ℤ) (radars : List RadarSettings) → AreWithin system_keys numbers → 1 ≤ length radars → length radars ≤ 32 → HaveOwnSources radars
    → (settings : Settings) × (system_numbers settings ≡ numbers) × (settings.radars ≡ radars)
some_settings numbers radars within some most own =
    let long = AllZip-long (λ key number. is_within key number ≡ true) system_keys numbers within in
    let window = range_at system_keys numbers 3 blank within (lit< tt) in
    let hits = range_at system_keys numbers 4 blank within (lit< tt) in
    let tentative = range_at system_keys numbers 5 blank within (lit< tt) in
    let confirmed = range_at system_keys numbers 6 blank within (lit< tt) in
    let a = natural (get_or numbers 0 (pos 0)) (range_at system_keys numbers 0 blank within (lit< tt)).0 in
    let b = natural (get_or numbers 1 (pos 0)) (range_at system_keys numbers 1 blank within (lit< tt)).0 in
    let s = natural (get_or numbers 2 (pos 0)) (range_at system_keys numbers 2 blank within (lit< tt)).0 in
    let w = natural (get_or numbers 3 (pos 0)) (omega (arith, ints)) in
    let h = natural (get_or numbers 4 (pos 0)) (omega (arith, ints)) in
    let t = natural (get_or numbers 5 (pos 0)) (omega (arith, ints)) in
    let k = natural (get_or numbers 6 (pos 0)) (omega (arith, ints)) in (
      record {
        sac = a.0;
        sic = b.0;
        service = s.0;
        window = w.0;
        life = record {
          hits = h.0;
          keep_tentative = t.0;
          keep_confirmed = k.0;
          hits_range = (omega (arith, ints, h.1), omega (arith, ints, h.1));
          keep_tentative_range = (omega (arith, ints, t.1), omega (arith, ints, t.1));
          keep_confirmed_range = (omega (arith, ints, k.1), omega (arith, ints, k.1));
        };
        radars = radars;
        window_range = (omega (arith, ints, w.1), omega (arith, ints, w.1));
        radars_range = (some, most);
        own_sources = own;
      },
      (λ i. a.1 i ∷ b.1 i ∷ s.1 i ∷ w.1 i ∷ h.1 i ∷ t.1 i ∷ k.1 i ∷ []) ∙ sym (by_index 7 numbers long),
      refl,
    )

-- the radars of entries with which nothing is wrong
some_radars : (first : ℕ) (entries : List (Option Members)) → numbered_faults first entries ≡ [] → (radars : List RadarSettings) × AllZip IsRadar entries radars
some_radars first [] none = ([], tt)
some_radars first (None ∷ entries) none = absurd (omega (arith, ap length none))
some_radars first (Some table ∷ entries) none =
    let parts = empty_parts (faults (Some first) table radar_keys) (numbered_faults (first + 1) entries) none in
    let numbers = given (Some first) table radar_keys parts.0 in
    let radar = some_radar numbers.0 (gives_within table radar_keys numbers.0 refl numbers.1) in
    let others = some_radars (first + 1) entries parts.1 in
    (radar.0 ∷ others.0, (subst (Gives table radar_keys) (sym radar.1) numbers.1, others.1))

record Radars (document : Members) : Type 0 where
  pub radars : List RadarSettings
  pub are : AreRadars document radars
  pub some : 1 ≤ length radars
  pub most : length radars ≤ 32

radars_of_entries : (document : Members) (entries : List (Option Members)) → radars_of document ≡ Some (Some entries) → entries_faults entries ≡ [] → Radars document
radars_of_entries document [] stand none = absurd (omega (arith, ap length none))
radars_of_entries document (entry ∷ entries) stand none =
    let all = entry ∷ entries in
    let parts = empty_parts (numbered_faults 0 (take 32 all)) _ none in
    elim (cases_lt 32 (length all)) [
      | inl more ↦ absurd (omega (arith, ap length (rw (lt-ltb 32 (length all) more) at parts.1)))
      | inr short ↦ (let front : take 32 all ≡ all = take_all 32 all short in
          let found = some_radars 0 all (subst (λ es. numbered_faults 0 es ≡ []) front parts.0) in
          let long = AllZip-long IsRadar all found.0 found.1 in
          record {
            radars = found.0;
            are = record { entries = all; stand = stand; each = found.1 };
            some = omega (arith, long);
            most = omega (arith, long);
          })
    ]

document_radars : (document : Members) (at : Option (Option (List (Option Members)))) → radars_of document ≡ at → radars_faults at ≡ [] → Radars document
document_radars document None is none = absurd (omega (arith, ap length none))
document_radars document (Some None) is none = absurd (omega (arith, ap length none))
document_radars document (Some (Some entries)) is none = radars_of_entries document entries is none

document_system : (document : Members) (at : Option (Option Members)) → system_of document ≡ at → system_faults at ≡ [] → (numbers : List ℤ) × SystemGives document numbers
document_system document None is none = absurd (omega (arith, ap length none))
document_system document (Some None) is none = absurd (omega (arith, ap length none))
document_system document (Some (Some table)) is none =
    let numbers = given None table system_keys none in
    (numbers.0, record { table = table; stands = is; gives = numbers.1 })

-- some radar repeats an earlier one, or none of the first does
abbrev Repeated : List RadarSettings → Type 0
Repeated radars = (radar first : ℕ) × Repeats radars radar first

one_more : (radars : List RadarSettings) (i : ℕ) (radar : RadarSettings) (found : Option ℕ) → i < length radars → radar ≡ get_or radars i radar → HaveOwnSources (take i radars)
    → radar_of (take i radars) radar.sac radar.sic ≡ found → Repeated radars ⊎ HaveOwnSources (take (i + 1) radars)
one_more radars i radar None h is own found = inr (own_more radars i radar h is own found)
one_more radars i radar (Some first) h is own found = inl (i, first, repeats_at radars i radar first h is own found (found_within (take i radars) radar.sac radar.sic first found))

repeated_or_own : (radars : List RadarSettings) (i : ℕ) → i ≤ length radars → Repeated radars ⊎ HaveOwnSources (take i radars)
repeated_or_own radars zero h = inr (λ j k d lt within same. absurd (omega (arith, length-take 0 radars)))
repeated_or_own [] (suc i) h = absurd (omega arith)
repeated_or_own (radar ∷ radars) (suc i) h =
    let all = radar ∷ radars in
    let this = get_or all i radar in
    let next : i + 1 ≡ suc i = omega arith in
    elim (repeated_or_own all i (omega arith)) [
      | inl repeated ↦ inl repeated
      | inr own ↦ subst (λ n. Repeated all ⊎ HaveOwnSources (take n all)) next
          (one_more all i this (radar_of (take i all) this.sac this.sic) (omega arith) (get_or_default all i radar this (omega arith)) own refl)
    ]

abbrev InDocument : Members → Result Settings SettingsFault → Type 0
InDocument document (Ok settings) = IsSettings document settings
InDocument document (Err fault) = IsFaultOf document fault

abbrev SomeIn : Members → Type 0
SomeIn document = (answer : Result Settings SettingsFault) × InDocument document answer

-- a document whose numbers are right, and whose keys are known
last_answer : (document : Members) → number_faults document ≡ [] → is_known document ≡ true → (numbers : List ℤ) × SystemGives document numbers → Radars document → SomeIn document
last_answer document right known system found =
    elim (repeated_or_own found.radars (length found.radars) (omega arith)) [
      | inl repeated ↦ (Err (Duplicate repeated.0 repeated.1), duplicate right known repeated.0 repeated.1 (record { radars = found.radars; are_radars = found.are; repeats = repeated.2 }) refl)
      | inr own ↦ (let all : HaveOwnSources found.radars = rw (take_all (length found.radars) found.radars (omega arith)) at own in
          let settings = some_settings system.0 found.radars (gives_within system.1.table system_keys system.0 refl system.1.gives) found.some found.most all in (
            Ok settings.0,
            record {
              system = subst (SystemGives document) (sym settings.1) system.1;
              radars = subst (AreRadars document) (sym settings.2) found.are;
              known = known;
            },
          ))
    ]

-- by what is wrong with its numbers
by_faults : (document : Members) (faults : List SettingsFault) → number_faults document ≡ faults → SomeIn document
by_faults document (fault ∷ rest) wrong = (Err fault, wrong_number (rest, wrong))
by_faults document [] right =
    let parts = empty_parts (system_faults (system_of document)) (radars_faults (radars_of document)) right in
    elim (cases_Bool (is_known document)) [
      | inl known ↦ last_answer document right known (document_system document (system_of document) refl parts.0) (document_radars document (radars_of document) refl parts.1)
      | inr unknown ↦ (Err Unknown, unknown_key right unknown refl)
    ]

abbrev SomeAnswer : List ℕ → Type 0
SomeAnswer octets = (answer : Result Settings SettingsFault) × IsSettingsAnswer octets answer

of_document : (octets : List ℕ) (document : Members) → IsDocument octets document → (answer : Result Settings SettingsFault) → InDocument document answer → IsSettingsAnswer octets answer
of_document octets document is (Ok settings) found = (document, is, found)
of_document octets document is (Err fault) found = in_document document is found

not_one : (octets : List ℕ) → ((document : Members) → ¬ IsDocument octets document) → SomeAnswer octets
not_one octets none = (Err Syntax, no_document none refl)

by_document : (octets : List ℕ) (parsed : Option Members) → parse_document octets ≡ parsed → length octets ≤ 65536 → IsUtf8 octets → SomeAnswer octets
by_document octets None is small text = not_one octets (λ document d. none-some document (sym is ∙ d.parsed))
by_document octets (Some document) is small text =
    let whole : IsDocument octets document = record { small = small; text = text; parsed = is } in
    let found = by_faults document (number_faults document) refl in
    (found.0, of_document octets document whole found.0 found.1)

pub some_answer : (octets : List ℕ) → SomeAnswer octets
some_answer octets =
    elim (cases_lt 65536 (length octets)) [
      | inl long ↦ not_one octets (λ document d. absurd (omega (arith, d.small)))
      | inr small ↦ elim (cases_Bool (is_utf8 octets)) [
        | inl text ↦ by_document octets (parse_document octets) refl small (IsUtf8-from_is_utf8 octets text)
        | inr no_text ↦ not_one octets (λ document d. true≢false (sym (is_utf8-from_IsUtf8 octets d.text) ∙ no_text))
      ]
    ]
