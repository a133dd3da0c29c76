-- What is seen, moment by moment, and what of it comes.
use Rattle.std.proofs.Common.{◌≡◌, ◌∙◌, ap, refl, inl, inr, ℕ, zero, suc, ◌+◌, ◌-◌, ◌*◌, ◌<◌, ◌≤◌, ◌⊎◌, min, List, [], ◌∷◌, ◌++◌, map, cond, arith}
use Rattle.std.specs.Prelude.{filter}
use Rattle.std.specs.List.{flat_map, range_with_len}
use Rattle.std.proofs.lemmas.Bool.{cases_lt, ne_eqb}
use Rattle.std.proofs.lemmas.List.{append-nil, map-append}
use Rattle.std.proofs.lemmas.List.Elements.{filter-append}
use Rattle.rand_pcg.specs.Lcg.{Lcg}
use Rattle.recording.specs.Items.{Item}
use Rattle.scene_gen.specs.declared.fleet.Aircraft.{Aircraft}
use Rattle.scene_gen.specs.Delays.{Plot, Sent, after_delay, after_delays, delay, delayed}
use Rattle.scene_gen.specs.Scenes.{come_at, plots, plots_of, seen_at}
use Rattle.scene_gen.specs.Skies.{seen_before}
use Rattle.scene_gen.proofs.Coming.{comes, item_of}
use Rattle.scene_gen.proofs.Delaying.{delayed-append}
use Rattle.scene_gen.proofs.Runs.{run_split, zero_first}

-- the plots of one moment, and of so many moments from one on
abbrev pub seen : List Aircraft → ℕ → List Plot
seen aircraft t = plots_of t (seen_at aircraft t)

abbrev many : List Aircraft → ℕ → ℕ → List Plot
many aircraft a n = flat_map (λ t. plots_of t (seen_at aircraft t)) (range_with_len a n)

-- nothing was seen before the start
pub seen_none : (aircraft : List Aircraft) (seconds : ℕ) → seen_before aircraft seconds 0 ≡ []
seen_none aircraft seconds = let none : min 0 (128 * seconds) ≡ 0 = omega arith in ap (many aircraft 0) none

-- one moment more
pub seen_next : (aircraft : List Aircraft) (seconds t : ℕ) → t < 128 * seconds → seen_before aircraft seconds (t + 1) ≡ seen_before aircraft seconds t ++ seen aircraft t
seen_next aircraft seconds t within =
    let count : min (t + 1) (128 * seconds) ≡ min t (128 * seconds) + 1 = omega arith in
    let here : 0 + min t (128 * seconds) ≡ t = omega arith in
    ap (many aircraft 0) count ∙ run_split (seen aircraft) 0 (min t (128 * seconds)) 1
    ∙ ap (λ (l : List Plot). seen_before aircraft seconds t ++ l) (ap (λ (b : ℕ). many aircraft b 1) here ∙ append-nil (seen aircraft t))

-- and none past the end
pub seen_past : (aircraft : List Aircraft) (seconds t : ℕ) → 128 * seconds ≤ t → seen_before aircraft seconds (t + 1) ≡ seen_before aircraft seconds t
seen_past aircraft seconds t past = let count : min (t + 1) (128 * seconds) ≡ min t (128 * seconds) = omega arith in ap (many aircraft 0) count

come_append : (ps qs : List Sent) (t : ℕ) → come_at (ps ++ qs) t ≡ come_at ps t ++ come_at qs t
come_append ps qs t = ap (map item_of) (filter-append (comes t) ps qs) ∙ map-append item_of (filter (comes t) ps) (filter (comes t) qs)

-- what was seen later doesn't come yet
none_of : (late a t : ℕ) (g : Lcg) (items : List Item) → t < a → come_at (delayed late g (plots_of a items)) t ≡ []
unfolding delayed
none_of late a t g [] h = refl
none_of late a t g (x ∷ xs) h =
    let rest : List Sent = delayed late (after_delay late g) (plots_of a xs) in
    ap (λ b. map item_of (cond b (record { time = a + delay late g; item = x } ∷ filter (comes t) rest) (filter (comes t) rest))) (ne_eqb (a + delay late g) t (λ e. omega (arith, e)))
    ∙ none_of late a t (after_delay late g) xs h

none_many : (aircraft : List Aircraft) (late a n t : ℕ) (g : Lcg) → t < a → come_at (delayed late g (many aircraft a n)) t ≡ []
unfolding delayed
none_many aircraft late a zero t g h = refl
none_many aircraft late a (suc n) t g h =
    let first : List Plot = seen aircraft a in
    let rest : List Plot = many aircraft (a + 1) n in
    ap (λ (l : List Sent). come_at l t) (delayed-append late g first rest) ∙ come_append (delayed late g first) (delayed late (after_delays late g first) rest) t
    ∙ (λ i. none_of late a t g (seen_at aircraft a) h i ++ none_many aircraft late (a + 1) n t (after_delays late g first) (omega (arith, h)) i)

none_left : (aircraft : List Aircraft) (late a n t : ℕ) (g : Lcg) → (t < a) ⊎ (n ≡ 0) → come_at (delayed late g (many aircraft a n)) t ≡ []
unfolding delayed
none_left aircraft late a n t g (inl h) = none_many aircraft late a n t g h
none_left aircraft late a n t g (inr e) = ap (λ (k : ℕ). come_at (delayed late g (many aircraft a k)) t) e

-- what comes at a moment was seen by then
pub come_now : (aircraft : List Aircraft) (seconds late t : ℕ) (g : Lcg) → come_at (delayed late g (plots aircraft seconds)) t ≡ come_at (delayed late g (seen_before aircraft seconds (t + 1))) t
come_now aircraft seconds late t g =
    let m = min (t + 1) (128 * seconds) in
    let n = 128 * seconds - m in
    let whole : 128 * seconds ≡ m + n = omega arith in
    let first : List Plot = seen_before aircraft seconds (t + 1) in
    let all : plots aircraft seconds ≡ first ++ many aircraft m n = ap (many aircraft 0) whole ∙ run_split (seen aircraft) 0 m n ∙ ap (λ (b : ℕ). first ++ many aircraft b n) (zero_first m) in
    let left : (t < m) ⊎ (n ≡ 0) = elim (cases_lt t (128 * seconds)) [ inl lt ↦ inl (omega (arith, lt)) | inr ge ↦ inr (omega (arith, ge)) ] in
    ap (λ (l : List Plot). come_at (delayed late g l) t) all ∙ ap (λ (l : List Sent). come_at l t) (delayed-append late g first (many aircraft m n))
    ∙ come_append (delayed late g first) (delayed late (after_delays late g first) (many aircraft m n)) t
    ∙ ap (λ (l : List Item). come_at (delayed late g first) t ++ l) (none_left aircraft late m n t (after_delays late g first) left) ∙ append-nil (come_at (delayed late g first) t)
