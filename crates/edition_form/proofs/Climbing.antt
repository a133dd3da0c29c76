-- Lines whose numbers differ rise in their order.
use Rattle.std.proofs.Common.{◌≡◌, ◌≢◌, ap, sym, subst, refl, ℕ, ◌<◌, ◌≤◌, false, List, [], ◌∷◌, arith, eqb, nat_lt, Option, Some, None}
use Rattle.std.specs.Prelude.{◌==◌, unwrap_or}
use Rattle.std.specs.declared.cmp.Ordering.TheVariants.{Less}
use Rattle.std.specs.List.{AllByRecursion, IsDistinct}
use Rattle.std.specs.List.Sorted.{IsStrictlySortedBy}
use Rattle.std.proofs.lemmas.Bool.{cond_both, lt-ltb, ltb-true, ltb-false, eqb-false}
use Rattle.trk_base.specs.Keys.{key_cmp}
use Rattle.late_window.specs.SlotFirst.{slot_first}
use Rattle.late_window.proofs.Lists.{all_weaker}
use Rattle.track_life.specs.declared.settings.LifeSettings.{LifeSettings}
use Rattle.track_life.specs.Tracks.{TrackState}
use Rattle.track_life.specs.Numbers.{held}
use Rattle.edition_form.specs.declared.lines.ShownLine.{ShownLine}
use Rattle.edition_form.specs.Numbered.{put, in_rising_number}
use Rattle.edition_form.specs.Pictures.{HaveOwnNumbers, number_of}
use Rattle.edition_form.specs.Lines.{RiseByNumber, line_of, lines_of, shown_cmp}
use Rattle.edition_form.specs.Showing.{shown_number}
use Rattle.edition_form.specs.Telling.{Climb, DontFall}
use Rattle.edition_form.proofs.Rising.{all_put, all_rising}
use Rattle.edition_form.proofs.Shown.{shown_among, one_shown, none_shown, none_among, is_shown_by}

module _ {X : Type 0} (number : X → ℕ) where
  abbrev pub Climbs : List X → Type 0
  Climbs [] = Unit {0}
  Climbs (x ∷ xs) = AllByRecursion (λ y. number x < number y) xs × Climbs xs

  abbrev pub Differ : List X → Type 0
  Differ [] = Unit {0}
  Differ (x ∷ xs) = AllByRecursion (λ y. number x ≢ number y) xs × Differ xs

  put_climbs : (x : X) (ys : List X) → Climbs ys → AllByRecursion (λ y. number x ≢ number y) ys → Climbs (put number x ys)
  put_climbs x [] h d = (tt, tt)
  put_climbs x (y ∷ ys) h d =
      cond_both (nat_lt (number y) (number x)) (y ∷ put number x ys) (x ∷ y ∷ ys) Climbs
      (λ e. (all_put number (λ z. number y < number z) x ys (ltb-true (number y) (number x) e) h.0, put_climbs x ys h.1 d.1))
      (λ e.
      let le = ltb-false (number y) (number x) e in
      let other : number x ≢ number y = d.0 in
      let lt : number x < number y = omega (arith, le, other) in
      ((lt, all_weaker (λ z. number y < number z) (λ z. number x < number z) (λ z k. omega (arith, lt, k)) ys h.0), h))

  pub all_climb : (xs : List X) → Differ xs → Climbs (in_rising_number number xs)
  all_climb [] d = tt
  all_climb (x ∷ xs) d = put_climbs x (in_rising_number number xs) (all_climb xs d.1) (all_rising number (λ y. number x ≢ number y) xs d.0)

-- ---- the numbers that are held

shown_or_not : (life : LifeSettings) (slot : ℕ) (t : TrackState) (P : Type 0) → ((n : ℕ) → shown_number life slot t ≡ Some n → P) → (shown_number life slot t ≡ None → P) → P
shown_or_not life slot t P f g =
    let at : (o : Option ℕ) → shown_number life slot t ≡ o → P = λ o. elim o as (λ o. shown_number life slot t ≡ o → P) [ Some n ↦ λ e. f n e | None ↦ λ e. g e ] in
    at (shown_number life slot t) refl

held_one : (t : TrackState) (ts : List TrackState) (n : ℕ) → t.number ≡ Some n → held (t ∷ ts) ≡ n ∷ held ts
held_one t ts n e = rw e refl

all_held_rest : (P : ℕ → Type 0) (t : TrackState) (ts : List TrackState) → AllByRecursion P (held (t ∷ ts)) → AllByRecursion P (held ts)
all_held_rest P t ts h =
    let at : (o : Option ℕ) → t.number ≡ o → AllByRecursion P (held ts) = λ o. elim o as (λ o. t.number ≡ o → AllByRecursion P (held ts)) [
      | Some n ↦ λ e. let k : AllByRecursion P (n ∷ held ts) = subst (AllByRecursion P) (held_one t ts n e) h in k.1
      | None ↦ λ e. let k : held (t ∷ ts) ≡ held ts = rw e refl in subst (AllByRecursion P) k h
    ] in
    at t.number refl

all_shown : (P : ℕ → Type 0) (life : LifeSettings) (slot : ℕ) (ts : List TrackState) → AllByRecursion P (held ts) → AllByRecursion (λ u. P (number_of u)) (shown_among life slot ts)
all_shown P life slot [] h = subst (AllByRecursion (λ (u : TrackState). P (number_of u))) (sym (none_among life slot)) tt
all_shown P life slot (t ∷ ts) h =
    let rest = all_shown P life slot ts (all_held_rest P t ts h) in
    shown_or_not life slot t (AllByRecursion (λ (u : TrackState). P (number_of u)) (shown_among life slot (t ∷ ts)))
    (λ n e.
    let number = (is_shown_by life slot t n e).number in
    let k : AllByRecursion P (n ∷ held ts) = subst (AllByRecursion P) (held_one t ts n number) h in
    let own : P (number_of t) = subst P (sym (ap (λ o. unwrap_or o 0) number)) k.0 in
    subst (AllByRecursion (λ (u : TrackState). P (number_of u))) (sym (one_shown life slot t ts n e)) (own, rest))
    (λ e. subst (AllByRecursion (λ (u : TrackState). P (number_of u))) (sym (none_shown life slot t ts e)) rest)

distinct_rest : (t : TrackState) (ts : List TrackState) → HaveOwnNumbers (t ∷ ts) → HaveOwnNumbers ts
unfolding IsDistinct
distinct_rest t ts h =
    let at : (o : Option ℕ) → t.number ≡ o → HaveOwnNumbers ts = λ o. elim o as (λ o. t.number ≡ o → HaveOwnNumbers ts) [
      | Some n ↦ λ e. let k : IsDistinct ◌==◌ (n ∷ held ts) = subst (IsDistinct ◌==◌) (held_one t ts n e) h in k.1
      | None ↦ λ e. let k : held (t ∷ ts) ≡ held ts = rw e refl in subst (IsDistinct ◌==◌) k h
    ] in
    at t.number refl

others_differ : (t : TrackState) (ts : List TrackState) (n : ℕ) → t.number ≡ Some n → HaveOwnNumbers (t ∷ ts) → AllByRecursion (λ m. n ≢ m) (held ts)
unfolding IsDistinct
others_differ t ts n e h =
    let k : IsDistinct ◌==◌ (n ∷ held ts) = subst (IsDistinct ◌==◌) (held_one t ts n e) h in
    all_weaker (λ m. eqb n m ≡ false) (λ m. n ≢ m) (λ m f. eqb-false n m f) (held ts) k.0

shown_differ : (life : LifeSettings) (slot : ℕ) (ts : List TrackState) → HaveOwnNumbers ts → Differ number_of (shown_among life slot ts)
shown_differ life slot [] h = subst (Differ number_of) (sym (none_among life slot)) tt
shown_differ life slot (t ∷ ts) h =
    let rest = shown_differ life slot ts (distinct_rest t ts h) in
    shown_or_not life slot t (Differ number_of (shown_among life slot (t ∷ ts)))
    (λ n e.
    let number = (is_shown_by life slot t n e).number in
    let is : n ≡ number_of t = sym (ap (λ o. unwrap_or o 0) number) in
    let others = all_shown (λ m. n ≢ m) life slot ts (others_differ t ts n number h) in
    subst (Differ number_of) (sym (one_shown life slot t ts n e)) (subst (λ m. AllByRecursion (λ (u : TrackState). m ≢ number_of u) (shown_among life slot ts)) is others, rest))
    (λ e. subst (Differ number_of) (sym (none_shown life slot t ts e)) rest)

-- ---- the lines of tracks

lines_above : (n time : ℕ) (ts : List TrackState) → AllByRecursion (λ u. n < number_of u) ts → AllByRecursion (λ s. n < s.line.number) (lines_of time ts)
unfolding line_of
lines_above n time [] h = tt
lines_above n time (t ∷ ts) h = (h.0, lines_above n time ts h.1)

lines_climb : (time : ℕ) (ts : List TrackState) → Climbs number_of ts → Climb (lines_of time ts)
unfolding line_of
lines_climb time [] h = tt
lines_climb time (t ∷ ts) h = (lines_above (number_of t) time ts h.0, lines_climb time ts h.1)

pub shown_climb : (life : LifeSettings) (time slot : ℕ) (table : List TrackState) → HaveOwnNumbers table → Climb (lines_of time (in_rising_number number_of (shown_among life slot table)))
shown_climb life time slot table own = lines_climb time (in_rising_number number_of (shown_among life slot table)) (all_climb number_of (shown_among life slot table) (shown_differ life slot table own))

-- ---- lines that rise by number and birth

not_above : (a b : ShownLine) → shown_cmp a b ≡ Less → a.line.number ≤ b.line.number
not_above a b e = slot_first (λ (s : ShownLine). s.line.number) (λ (s t : ShownLine). key_cmp s.birth t.birth) a b e

pub dont_fall : (lines : List ShownLine) → RiseByNumber lines → DontFall lines
unfolding IsStrictlySortedBy
dont_fall [] h = tt
dont_fall (s ∷ ss) h = (all_weaker (λ t. shown_cmp s t ≡ Less) (λ t. s.line.number ≤ t.line.number) (λ t e. not_above s t e) ss h.0, dont_fall ss h.1)

lower_first : (a b : ShownLine) → a.line.number < b.line.number → shown_cmp a b ≡ Less
lower_first a b h = rw (lt-ltb a.line.number b.line.number h) refl

pub rises : (lines : List ShownLine) → Climb lines → RiseByNumber lines
unfolding IsStrictlySortedBy
rises [] h = tt
rises (s ∷ ss) h = (all_weaker (λ t. s.line.number < t.line.number) (λ t. shown_cmp s t ≡ Less) (λ t k. lower_first s t k) ss h.0, rises ss h.1)

-- ---- one of them, and none

pub one_number : (t : TrackState) → HaveOwnNumbers (t ∷ [])
unfolding IsDistinct
one_number t =
    let at : (o : Option ℕ) → t.number ≡ o → HaveOwnNumbers (t ∷ []) = λ o. elim o as (λ o. t.number ≡ o → HaveOwnNumbers (t ∷ [])) [
      | Some n ↦ λ e. let k : held (t ∷ []) ≡ n ∷ [] = rw e refl in subst (IsDistinct ◌==◌) (sym k) (tt, tt)
      | None ↦ λ e. let k : held (t ∷ []) ≡ [] = rw e refl in subst (IsDistinct ◌==◌) (sym k) tt
    ] in
    at t.number refl

pub no_lines : RiseByNumber []
unfolding IsStrictlySortedBy
no_lines = tt
