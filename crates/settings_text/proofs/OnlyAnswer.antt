-- Octets have one answer at most.
use Rattle.std.proofs.Common.{◌≡◌, ◌∙◌, ℕ, zero, suc, ◌<◌, ◌≤◌, ℤ, pos, neg_ℤ, ◌≤ℤ◌, List, [], ◌∷◌, length, get_or, take, Option, Some, None, Result, Ok, Err, inl, inr, refl, ap, sym, subst, rules, arith}
use Rattle.std.specs.Prelude.{unsigned_abs, slice_get, IfOk, IfErr}
use Rattle.std.specs.List.{AllZip}
use Rattle.std.proofs.Props.{props}
use Rattle.std.proofs.lemmas.Bool.{cases_lt, true≢false}
use Rattle.std.proofs.lemmas.List.{get_or-take, length-take}
use Rattle.std.proofs.lemmas.Option.{same_Some, get_or_from_slice_get}
use Rattle.toml.specs.Data.{Members}
use Rattle.track_life.specs.declared.settings.LifeSettings.{LifeSettings}
use Rattle.plot_geometry.specs.declared.radars.RadarSettings.{RadarSettings}
use Rattle.admission_log.specs.declared.settings.Settings.{Settings}
use Rattle.admission_log.specs.Sources.{HasSource, HaveOwnSources}
use Rattle.settings_text.specs.Keys.{Key, system_keys, radar_keys}
use Rattle.settings_text.specs.declared.faults.SettingsFault.{SettingsFault}
use Rattle.settings_text.specs.declared.faults.SettingsFault.TheVariants.{Duplicate}
use Rattle.settings_text.specs.declared.faults.SettingsError.{SettingsError}
use Rattle.settings_text.specs.declared.faults.SettingsError.TheVariants.{Fault, NoMemory}
use Rattle.settings_text.specs.Tables.{Gives}
use Rattle.settings_text.specs.Numbers.{system_numbers, radar_numbers}
use Rattle.settings_text.specs.Documents.{number_faults, IsRadar, SystemGives, AreRadars}
use Rattle.settings_text.specs.Answers.{IsDocument, IsSettings, IsFaultOf, wrong_number, unknown_key, duplicate, IsSettingsFault, no_document, in_document, IsSettingsAnswer, Repeats, HasDuplicate, IsFirst, OnFault, Agrees}
use Rattle.settings_text.proofs.Right.{numbers_right}

-- radars with the same numbers are one, since each of their ranges has one proof
abbrev RadarFields : Type 0
RadarFields = ℕ × ℕ × ℤ × ℤ × ℤ × ℕ × ℤ × ℤ × ℤ × ℤ × ℕ × ℕ

abbrev radar_fields : RadarSettings → RadarFields
radar_fields r = (r.sac, r.sic, r.x, r.y, r.height, r.north, r.range_gain, r.range_bias, r.azimuth_bias, r.time_bias, r.range_sigma, r.azimuth_sigma)

abbrev RadarFacts : RadarFields → Type 0
RadarFacts t =
    (unsigned_abs t.2 ≤ 1000000) × (unsigned_abs t.3 ≤ 1000000) × ((neg_ℤ (pos 500) ≤ℤ t.4) × (t.4 ≤ℤ pos 9000)) × (unsigned_abs t.6 ≤ 10000) × (unsigned_abs t.7 ≤ 1000)
    × (unsigned_abs t.8 ≤ 1000) × (unsigned_abs t.9 ≤ 1280) × ((10 ≤ t.10) × (t.10 ≤ 1000)) × ((1 ≤ t.11) × (t.11 ≤ 200))

abbrev radar_facts : (r : RadarSettings) → RadarFacts (radar_fields r)
radar_facts r = (r.x_range, r.y_range, r.height_range, r.range_gain_range, r.range_bias_range, r.azimuth_bias_range, r.time_bias_range, r.range_sigma_range, r.azimuth_sigma_range)

abbrev radar_made : (t : RadarFields) → RadarFacts t → RadarSettings
radar_made t f = record {
  sac = t.0;
  sic = t.1;
  x = t.2;
  y = t.3;
  height = t.4;
  north = t.5;
  range_gain = t.6;
  range_bias = t.7;
  azimuth_bias = t.8;
  time_bias = t.9;
  range_sigma = t.10;
  azimuth_sigma = t.11;
  x_range = f.0;
  y_range = f.1;
  height_range = f.2;
  range_gain_range = f.3;
  range_bias_range = f.4;
  azimuth_bias_range = f.5;
  time_bias_range = f.6;
  range_sigma_range = f.7;
  azimuth_sigma_range = f.8;
}

radar_facts_prop : (t : RadarFields) → IsProp (RadarFacts t)
radar_facts_prop t = hlevel props

radar_made_same : (s t : RadarFields) (e : RadarFacts s) (f : RadarFacts t) → s ≡ t → radar_made s e ≡ radar_made t f
radar_made_same s t e f h =
    let P : RadarFields → Type 0 = λ z. (g : RadarFacts z) → radar_made s e ≡ radar_made z g in
    subst P h (λ g. ap (radar_made s) (radar_facts_prop s e g)) f

-- the number at an index, with and without its sign
abbrev at : ℕ → List ℤ → ℤ
at k numbers = get_or numbers k (pos 0)

abbrev size_at : ℕ → List ℤ → ℕ
size_at k numbers = unsigned_abs (get_or numbers k (pos 0))

pub same_radar : (r s : RadarSettings) → radar_numbers r ≡ radar_numbers s → r ≡ s
same_radar r s h =
    let fields : ◌≡◌ {A = RadarFields} (radar_fields r) (radar_fields s) =
    λ i. (size_at 0 (h i), size_at 1 (h i), at 2 (h i), at 3 (h i), at 4 (h i), size_at 5 (h i), at 6 (h i), at 7 (h i), at 8 (h i), at 9 (h i), size_at 10 (h i), size_at 11 (h i)) in
    radar_made_same (radar_fields r) (radar_fields s) (radar_facts r) (radar_facts s) fields

-- settings with the same numbers and the same radars are one
abbrev LifeFacts : ℕ × ℕ × ℕ → Type 0
LifeFacts t = ((1 ≤ t.0) × (t.0 ≤ 8)) × ((1 ≤ t.1) × (t.1 ≤ 60)) × ((1 ≤ t.2) × (t.2 ≤ 60))

abbrev life_made : (t : ℕ × ℕ × ℕ) → LifeFacts t → LifeSettings
life_made t f = record { hits = t.0; keep_tentative = t.1; keep_confirmed = t.2; hits_range = f.0; keep_tentative_range = f.1; keep_confirmed_range = f.2 }

life_facts_prop : (t : ℕ × ℕ × ℕ) → IsProp (LifeFacts t)
life_facts_prop t = hlevel props

life_made_same : (s t : ℕ × ℕ × ℕ) (e : LifeFacts s) (f : LifeFacts t) → s ≡ t → life_made s e ≡ life_made t f
life_made_same s t e f h =
    let P : ℕ × ℕ × ℕ → Type 0 = λ z. (g : LifeFacts z) → life_made s e ≡ life_made z g in
    subst P h (λ g. ap (life_made s) (life_facts_prop s e g)) f

same_life : (s t : LifeSettings) → s.hits ≡ t.hits → s.keep_tentative ≡ t.keep_tentative → s.keep_confirmed ≡ t.keep_confirmed → s ≡ t
same_life s t a b c =
    life_made_same (s.hits, s.keep_tentative, s.keep_confirmed) (t.hits, t.keep_tentative, t.keep_confirmed) (s.hits_range, s.keep_tentative_range, s.keep_confirmed_range)
    (t.hits_range, t.keep_tentative_range, t.keep_confirmed_range) (λ i. (a i, b i, c i))

abbrev Fields : Type 0
Fields = ℕ × ℕ × ℕ × ℕ × LifeSettings × List RadarSettings

abbrev Facts : Fields → Type 0
Facts t = ((2 ≤ t.3) × (t.3 ≤ 120)) × ((1 ≤ length t.5) × (length t.5 ≤ 32)) × HaveOwnSources t.5

abbrev made : (t : Fields) → Facts t → Settings
made t f = record { sac = t.0; sic = t.1; service = t.2; window = t.3; life = t.4; radars = t.5; window_range = f.0; radars_range = f.1; own_sources = f.2 }

facts_prop : (t : Fields) → IsProp (Facts t)
facts_prop t = hlevel props

made_same : (s t : Fields) (e : Facts s) (f : Facts t) → s ≡ t → made s e ≡ made t f
made_same s t e f h =
    let P : Fields → Type 0 = λ z. (g : Facts z) → made s e ≡ made z g in
    subst P h (λ g. ap (made s) (facts_prop s e g)) f

pub same_settings : (s t : Settings) → system_numbers s ≡ system_numbers t → s.radars ≡ t.radars → s ≡ t
same_settings s t h radars =
    let life = same_life s.life t.life (ap (size_at 4) h) (ap (size_at 5) h) (ap (size_at 6) h) in
    made_same (s.sac, s.sic, s.service, s.window, s.life, s.radars) (t.sac, t.sic, t.service, t.window, t.life, t.radars) (s.window_range, s.radars_range, s.own_sources)
    (t.window_range, t.radars_range, t.own_sources) (λ i. (size_at 0 (h i), size_at 1 (h i), size_at 2 (h i), size_at 3 (h i), life i, radars i))

-- a table gives keys one list of numbers
ok_same : {A B : Type 0} (x y : A) → ◌≡◌ {A = Result A B} (Ok x) (Ok y) → x ≡ y
ok_same x y e = search rules

same_numbers : (table : Members) (keys : List Key) (numbers others : List ℤ) → Gives table keys numbers → Gives table keys others → numbers ≡ others
same_numbers table [] [] [] g h = refl
same_numbers table [] [] (m ∷ others) g h = absurd h
same_numbers table [] (n ∷ numbers) others g h = absurd g
same_numbers table (key ∷ keys) [] others g h = absurd g
same_numbers table (key ∷ keys) (n ∷ numbers) [] g h = absurd h
same_numbers table (key ∷ keys) (n ∷ numbers) (m ∷ others) g h =
    let first = ok_same n m (sym g.0 ∙ h.0) in
    let rest = same_numbers table keys numbers others g.1 h.1 in
    (λ i. first i ∷ rest i)

same_system : (document : Members) (numbers others : List ℤ) → SystemGives document numbers → SystemGives document others → numbers ≡ others
same_system document numbers others g h =
    let table : g.table ≡ h.table = same_Some _ _ (same_Some _ _ (sym g.stands ∙ h.stands)) in
    same_numbers h.table system_keys numbers others (subst (λ t. Gives t system_keys numbers) table g.gives) h.gives

one_radar : (entry : Option Members) (r s : RadarSettings) → IsRadar entry r → IsRadar entry s → r ≡ s
one_radar None r s g h = absurd g
one_radar (Some table) r s g h = same_radar r s (same_numbers table radar_keys (radar_numbers r) (radar_numbers s) g h)

same_each : (entries : List (Option Members)) (radars others : List RadarSettings) → AllZip IsRadar entries radars → AllZip IsRadar entries others → radars ≡ others
same_each [] [] [] g h = refl
same_each [] [] (s ∷ others) g h = absurd h
same_each [] (r ∷ radars) others g h = absurd g
same_each (entry ∷ entries) [] others g h = absurd g
same_each (entry ∷ entries) (r ∷ radars) [] g h = absurd h
same_each (entry ∷ entries) (r ∷ radars) (s ∷ others) g h =
    let first = one_radar entry r s g.0 h.0 in
    let rest = same_each entries radars others g.1 h.1 in
    (λ i. first i ∷ rest i)

same_radars : (document : Members) (radars others : List RadarSettings) → AreRadars document radars → AreRadars document others → radars ≡ others
same_radars document radars others g h =
    let entries : g.entries ≡ h.entries = same_Some _ _ (same_Some _ _ (sym g.stand ∙ h.stand)) in
    same_each h.entries radars others (subst (λ es. AllZip IsRadar es radars) entries g.each) h.each

-- among radars with their own sources no two are alike
not_alike : (radars : List RadarSettings) (n i j : ℕ) (one other : RadarSettings) → HaveOwnSources (take n radars) → i < j → j < n → j < length radars
    → slice_get radars i ≡ Some one → slice_get radars j ≡ Some other → HasSource one.sac one.sic other → ⊥
not_alike radars n i j one other own before within there one_is other_is same =
    let first : get_or (take n radars) i one ≡ one = get_or-take n radars i one (omega arith) ∙ get_or_from_slice_get radars i one one one_is in
    let second : get_or (take n radars) j one ≡ other = get_or-take n radars j one (omega arith) ∙ get_or_from_slice_get radars j other one other_is in
    own i j one before (omega (arith, length-take n radars)) (rw (first, second) same)

radar_within : (radars : List RadarSettings) (i : ℕ) (radar : RadarSettings) → slice_get radars i ≡ Some radar → i < length radars
radar_within [] i radar is = absurd (search rules)
radar_within (r ∷ radars) zero radar is = omega arith
radar_within (r ∷ radars) (suc i) radar is = omega (arith, radar_within radars i radar is)

not_earlier : (radars : List RadarSettings) (radar first other second : ℕ) → Repeats radars radar first → Repeats radars other second → radar < other → ⊥
not_earlier radars radar first other second g h before =
    not_alike radars other first radar g.one g.other h.least g.earlier before (radar_within radars radar g.other g.other_is) g.one_is g.other_is g.same

not_before : (radars : List RadarSettings) (radar first second : ℕ) → Repeats radars radar first → Repeats radars radar second → first < second → ⊥
not_before radars radar first second g h before =
    let both : g.other ≡ h.other = same_Some _ _ (sym g.other_is ∙ h.other_is) in
    let source : HasSource g.one.sac g.one.sic h.other = subst (HasSource g.one.sac g.one.sic) both g.same in
    not_alike radars radar first second g.one h.one g.least before h.earlier (radar_within radars second h.one h.one_is) g.one_is h.one_is (sym h.same.0 ∙ source.0, sym h.same.1 ∙ source.1)

one_index : (a b : ℕ) → (a < b → ⊥) → (b < a → ⊥) → a ≡ b
one_index a b h k =
    elim (cases_lt a b) [
      | inl before ↦ absurd (h before)
      | inr after ↦ elim (cases_lt b a) [
        | inl later ↦ absurd (k later)
        | inr same ↦ omega arith
      ]
    ]

same_repeats : (radars : List RadarSettings) (radar first other second : ℕ) → Repeats radars radar first → Repeats radars other second → (radar ≡ other) × (first ≡ second)
same_repeats radars radar first other second g h =
    let place = one_index radar other (not_earlier radars radar first other second g h) (not_earlier radars other second radar first h g) in
    let k : Repeats radars radar second = subst (λ n. Repeats radars n second) (sym place) h in
    (place, one_index first second (not_before radars radar first second g k) (not_before radars radar second first k g))

-- two answers of one document
no_repeat : (document : Members) (settings : Settings) (radar first : ℕ) → IsSettings document settings → HasDuplicate document radar first → ⊥
no_repeat document settings radar first is has =
    let same = same_radars document has.radars settings.radars has.are_radars is.radars in
    let g = subst (λ rs. Repeats rs radar first) same has.repeats in
    let whole = radar_within settings.radars radar g.other g.other_is in
    own_not settings.radars settings.own_sources g
  where
    own_not : (radars : List RadarSettings) → HaveOwnSources radars → Repeats radars radar first → ⊥
    own_not radars own g =
        own first radar g.one g.earlier (radar_within radars radar g.other g.other_is)
        (rw (get_or_from_slice_get radars first g.one g.one g.one_is, get_or_from_slice_get radars radar g.other g.one g.other_is) g.same)

settings_right : (document : Members) (settings : Settings) → IsSettings document settings → number_faults document ≡ []
settings_right document settings is = numbers_right document (system_numbers settings) settings.radars is.system is.radars settings.radars_range.0 settings.radars_range.1

no_fault : (document : Members) (settings : Settings) (fault : SettingsFault) → IsSettings document settings → IsFaultOf document fault → ⊥
no_fault document settings fault is (wrong_number wrong) = absurd (omega (arith, ap length (sym (settings_right document settings is) ∙ wrong.1)))
no_fault document settings fault is (unknown_key right unknown same) = true≢false (sym is.known ∙ unknown)
no_fault document settings fault is (duplicate right known radar first has same) = no_repeat document settings radar first is has

first_same : (xs : List SettingsFault) (f g : SettingsFault) → IsFirst f xs → IsFirst g xs → f ≡ g
first_same xs f g a b = ap (λ zs. get_or zs 0 f) (sym a.1 ∙ b.1)

none_first : (xs : List SettingsFault) (f : SettingsFault) → xs ≡ [] → IsFirst f xs → ⊥
none_first xs f none first = absurd (omega (arith, ap length (sym none ∙ first.1)))

same_duplicate : (document : Members) (radar first other second : ℕ) → HasDuplicate document radar first → HasDuplicate document other second → Duplicate radar first ≡ Duplicate other second
same_duplicate document radar first other second g h =
    let same = same_radars document g.radars h.radars g.are_radars h.are_radars in
    let places = same_repeats h.radars radar first other second (subst (λ rs. Repeats rs radar first) same g.repeats) h.repeats in
    (λ i. Duplicate (places.0 i) (places.1 i))

same_fault : (document : Members) (f g : SettingsFault) → IsFaultOf document f → IsFaultOf document g → f ≡ g
same_fault document f g (wrong_number a) (wrong_number b) = first_same (number_faults document) f g a b
same_fault document f g (wrong_number a) (unknown_key right unknown is) = absurd (none_first (number_faults document) f right a)
same_fault document f g (wrong_number a) (duplicate right known radar first has is) = absurd (none_first (number_faults document) f right a)
same_fault document f g (unknown_key right unknown is) (wrong_number b) = absurd (none_first (number_faults document) g right b)
same_fault document f g (unknown_key right unknown is) (unknown_key right' unknown' is') = is ∙ sym is'
same_fault document f g (unknown_key right unknown is) (duplicate right' known radar first has is') = absurd (true≢false (sym known ∙ unknown))
same_fault document f g (duplicate right known radar first has is) (wrong_number b) = absurd (none_first (number_faults document) g right b)
same_fault document f g (duplicate right known radar first has is) (unknown_key right' unknown is') = absurd (true≢false (sym known ∙ unknown))
same_fault document f g (duplicate right known radar first has is) (duplicate right' known' other second has' is') = is ∙ same_duplicate document radar first other second has has' ∙ sym is'

same_document : (octets : List ℕ) (d e : Members) → IsDocument octets d → IsDocument octets e → d ≡ e
same_document octets d e g h = same_Some d e (sym g.parsed ∙ h.parsed)

settings_or_fault : (octets : List ℕ) (document : Members) (settings : Settings) (fault : SettingsFault) → IsDocument octets document → IsSettings document settings → IsSettingsFault octets fault → ⊥
settings_or_fault octets document settings fault is has (no_document none same) = none document is
settings_or_fault octets document settings fault is has (in_document d is' found) =
    no_fault document settings fault has (subst (λ x. IsFaultOf x fault) (same_document octets d document is' is) found)

one_fault : (octets : List ℕ) (f g : SettingsFault) → IsSettingsFault octets f → IsSettingsFault octets g → f ≡ g
one_fault octets f g (no_document none same) (no_document none' same') = same ∙ sym same'
one_fault octets f g (no_document none same) (in_document d is found) = absurd (none d is)
one_fault octets f g (in_document d is found) (no_document none same) = absurd (none d is)
one_fault octets f g (in_document d is found) (in_document e is' found') = same_fault e f g (subst (λ x. IsFaultOf x f) (same_document octets d e is is') found) found'

pub only_answer : (octets : List ℕ) (a b : Result Settings SettingsFault) → IsSettingsAnswer octets a → IsSettingsAnswer octets b → a ≡ b
only_answer octets (Ok s) (Ok t) g h =
    let same = same_document octets g.0 h.0 g.1 h.1 in
    let is : IsSettings h.0 s = subst (λ d. IsSettings d s) same g.2 in
    ap Ok (same_settings s t (same_system h.0 (system_numbers s) (system_numbers t) is.system h.2.system) (same_radars h.0 s.radars t.radars is.radars h.2.radars))
only_answer octets (Ok s) (Err f) g h = absurd (settings_or_fault octets g.0 s f g.1 g.2 h)
only_answer octets (Err f) (Ok t) g h = absurd (settings_or_fault octets h.0 t f h.1 h.2 g)
only_answer octets (Err f) (Err k) g h = ap Err (one_fault octets f k g h)

-- so a result that is an answer is the only one
pub agrees : (octets : List ℕ) (result : Result Settings SettingsError) (answer : Result Settings SettingsFault) → IfOk result (λ settings. IsSettingsAnswer octets (Ok settings))
    → IfErr result (λ error. OnFault error (λ fault. IsSettingsAnswer octets (Err fault))) → IsSettingsAnswer octets answer → Agrees result answer
agrees octets (Ok settings) answer ok err given = only_answer octets answer (Ok settings) given ok
agrees octets (Err (Fault fault)) answer ok err given = only_answer octets answer (Err fault) given err
agrees octets (Err NoMemory) answer ok err given = tt
