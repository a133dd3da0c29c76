-- Which tracks are shown, one after the other.
use Rattle.std.proofs.Common.{◌≡◌, ◌∙◌, ap, sym, refl, ℕ, ◌<◌, ◌≤◌, ◌+◌, ◌*◌, Bool, true, false, cond, List, [], ◌∷◌, ◌++◌, map, length, get_or, drop, arith, append_assoc, append-nil, Option, Some, None}
use Rattle.std.specs.Prelude.{filter, ◌&&◌, is_some, unwrap_or, if◌then◌else◌}
use Rattle.std.specs.List.Sorted.{IsNonDecreasingBy, IsStableByKey}
use Rattle.std.specs.Ordering.{nat_cmp}
use Rattle.std.proofs.lemmas.Bool.{leb-true}
use Rattle.std.proofs.lemmas.Int.{ints}
use Rattle.std.proofs.lemmas.List.{drop_more, drop_all}
use Rattle.trk_base.specs.Numbers.{slot_of}
use Rattle.fixed_imm.specs.Bounds.{IsTimeStep, time_step}
use Rattle.track_life.specs.declared.settings.LifeSettings.{LifeSettings}
use Rattle.track_life.specs.Tracks.{TrackState}
use Rattle.track_life.specs.Tables.{is_kept, keep, unexpired}
use Rattle.edition_form.specs.declared.lines.ShownLine.{ShownLine}
use Rattle.edition_form.specs.Numbered.{in_rising_number}
use Rattle.edition_form.specs.Pictures.{is_shown, number_of, shown_tracks}
use Rattle.edition_form.specs.Lines.{line_of, lines_of, shown_line}
use Rattle.edition_form.specs.Showing.{shown_number}
use Rattle.edition_form.proofs.Sorting.{sorted_is, map_rising}

-- a track that has a number to be shown by
pub record IsShownBy (life : LifeSettings) (slot : ℕ) (t : TrackState) (n : ℕ) : Type 0 where
  pub kept : is_kept life slot t ≡ true
  pub confirmed : t.confirmed ≡ true
  pub number : t.number ≡ Some n

shown_by : (kept confirmed : Bool) (number : Option ℕ) (n : ℕ) → (if confirmed && kept then number else None) ≡ Some n → (kept ≡ true) × (confirmed ≡ true) × (number ≡ Some n)
shown_by true true number n e = (refl, refl, e)
shown_by false true number n e = absurd (cc)
shown_by true false number n e = absurd (cc)
shown_by false false number n e = absurd (cc)

pub is_shown_by : (life : LifeSettings) (slot : ℕ) (t : TrackState) (n : ℕ) → shown_number life slot t ≡ Some n → IsShownBy life slot t n
is_shown_by life slot t n e =
    let h = shown_by (is_kept life slot t) t.confirmed t.number n e in
    record { kept = h.0; confirmed = h.1; number = h.2 }

pub number_is : (life : LifeSettings) (slot : ℕ) (t : TrackState) (n : ℕ) → shown_number life slot t ≡ Some n → n ≡ number_of t
number_is life slot t n e = sym (ap (λ o. unwrap_or o 0) (is_shown_by life slot t n e).number)

-- ---- the tracks that are shown, in the table's order

abbrev pub shown_among : LifeSettings → ℕ → List TrackState → List TrackState
shown_among life slot ts = filter is_shown (unexpired life slot ts)

passed : (kept confirmed some : Bool) (t : TrackState) (ts : List TrackState) → (is_shown t ≡ (confirmed && some)) → kept ≡ true → confirmed ≡ true → some ≡ true → filter is_shown (cond kept (t ∷ ts) ts) ≡ t ∷ filter is_shown ts
passed kept confirmed some t ts e a b c = rw (a, e, b, c) refl

pub one_shown : (life : LifeSettings) (slot : ℕ) (t : TrackState) (ts : List TrackState) (n : ℕ) → shown_number life slot t ≡ Some n → shown_among life slot (t ∷ ts) ≡ t ∷ shown_among life slot ts
unfolding unexpired
one_shown life slot t ts n e =
    let h = is_shown_by life slot t n e in
    passed (is_kept life slot t) t.confirmed (is_some t.number) t (filter (is_kept life slot) ts) refl h.kept h.confirmed (ap is_some h.number)

left_out : (kept confirmed : Bool) (number : Option ℕ) (t : TrackState) (ts : List TrackState) → is_shown t ≡ (confirmed && is_some number) → (if confirmed && kept then number else None) ≡ None → filter is_shown (cond kept (t ∷ ts) ts) ≡ filter is_shown ts
left_out false confirmed number t ts e h = refl
left_out true false number t ts e h = rw e refl
left_out true true None t ts e h = rw e refl
left_out true true (Some n) t ts e h = absurd (cc)

pub none_shown : (life : LifeSettings) (slot : ℕ) (t : TrackState) (ts : List TrackState) → shown_number life slot t ≡ None → shown_among life slot (t ∷ ts) ≡ shown_among life slot ts
unfolding unexpired
none_shown life slot t ts e = left_out (is_kept life slot t) t.confirmed t.number t (filter (is_kept life slot) ts) refl e

pub none_among : (life : LifeSettings) (slot : ℕ) → shown_among life slot [] ≡ []
unfolding unexpired
none_among life slot = refl

-- the lines of those before index i are collected
abbrev pub AreCollected : LifeSettings → ℕ → ℕ → List TrackState → ℕ → List ShownLine → Type 0
AreCollected life slot time ts i lines = lines ++ map (shown_line time) (shown_among life slot (drop i ts)) ≡ map (shown_line time) (shown_among life slot ts)

at_index : (life : LifeSettings) (slot : ℕ) (ts : List TrackState) (i : ℕ) (t : TrackState) → i < length ts → t ≡ get_or ts i t → shown_among life slot (drop i ts) ≡ shown_among life slot (t ∷ drop (i + 1) ts)
at_index life slot ts i t inside e = ap (shown_among life slot) (drop_more ts i t inside ∙ ap (λ x. x ∷ drop (i + 1) ts) (sym e))

pub collected_one : (life : LifeSettings) (slot time : ℕ) (ts : List TrackState) (i : ℕ) (t : TrackState) (n : ℕ) (lines more : List ShownLine) → i < length ts → t ≡ get_or ts i t → shown_number life slot t ≡ Some n
    → more ≡ lines ++ shown_line time t ∷ [] → AreCollected life slot time ts i lines → AreCollected life slot time ts (i + 1) more
collected_one life slot time ts i t n lines more inside e shown added h =
    let rest = map (shown_line time) (shown_among life slot (drop (i + 1) ts)) in
    ap (λ xs. xs ++ rest) added ∙ append_assoc lines (shown_line time t ∷ []) rest
    ∙ ap (λ xs. lines ++ map (shown_line time) xs) (sym (at_index life slot ts i t inside e ∙ one_shown life slot t (drop (i + 1) ts) n shown)) ∙ h

pub collected_none : (life : LifeSettings) (slot time : ℕ) (ts : List TrackState) (i : ℕ) (t : TrackState) (lines more : List ShownLine) → i < length ts → t ≡ get_or ts i t → shown_number life slot t ≡ None
    → more ≡ lines → AreCollected life slot time ts i lines → AreCollected life slot time ts (i + 1) more
collected_none life slot time ts i t lines more inside e none same h =
    ap (λ xs. xs ++ map (shown_line time) (shown_among life slot (drop (i + 1) ts))) same
    ∙ ap (λ xs. lines ++ map (shown_line time) xs) (sym (at_index life slot ts i t inside e ∙ none_shown life slot t (drop (i + 1) ts) none)) ∙ h

pub collected_all : (life : LifeSettings) (slot time : ℕ) (ts : List TrackState) (i : ℕ) (lines : List ShownLine) → length ts ≤ i → AreCollected life slot time ts i lines → lines ≡ map (shown_line time) (shown_among life slot ts)
collected_all life slot time ts i lines past h =
    sym (append-nil lines) ∙ ap (λ xs. lines ++ map (shown_line time) xs) (sym (ap (shown_among life slot) (drop_all i ts past) ∙ none_among life slot)) ∙ h

-- ---- in rising number

keeps_number : (time : ℕ) (t : TrackState) → (shown_line time t).line.number ≡ number_of t
unfolding line_of
keeps_number time t = refl

pub lines_sorted : (life : LifeSettings) (time : ℕ) (table : List TrackState) (xs ys : List ShownLine) → xs ≡ map (shown_line time) (shown_among life (slot_of time) table)
    → IsNonDecreasingBy (λ s. s.line.number) ys → IsStableByKey (λ s. s.line.number) nat_cmp xs ys → ys ≡ lines_of time (shown_tracks life time table)
lines_sorted life time table xs ys e up stable =
    sorted_is (λ s. s.line.number) xs ys up stable ∙ ap (in_rising_number (λ s. s.line.number)) e
    ∙ sym (map_rising number_of (λ s. s.line.number) (shown_line time) (keeps_number time) (shown_among life (slot_of time) table))

-- ---- the time since a track's last plot

keep_limit : (life : LifeSettings) (confirmed : Bool) → keep life confirmed ≤ 60
keep_limit life true = life.keep_confirmed_range.1
keep_limit life false = life.keep_tentative_range.1

-- a track that is kept at a time is a minute old at most
pub step_of : (life : LifeSettings) (time : ℕ) (t : TrackState) → is_kept life (slot_of time) t ≡ true → t.aim.time < time → IsTimeStep (time_step t.aim.time time)
step_of life time t kept earlier =
    let limit = keep_limit life t.confirmed in
    let near = leb-true (64 * slot_of time) (t.aim.time + 128 * keep life t.confirmed) kept in
    record { from = omega (arith, ints, earlier); to = omega (arith, ints, earlier, near, limit) }
