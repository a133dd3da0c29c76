-- Plots that are delayed one after the other.
use Rattle.std.proofs.Common.{◌≡◌, ◌∙◌, ap, sym, subst, refl, ℕ, ◌+◌, ◌%◌, ◌<◌, ◌≤◌, List, [], ◌∷◌, ◌++◌, length, take, get_or, set, true, false, cond, ltb, arith}
use Rattle.std.proofs.lemmas.Bool.{le-ltb, lt-ltb}
use Rattle.std.proofs.lemmas.List.{append_assoc, map-append, take_more}
use Rattle.rand_pcg.specs.Lcg.{Lcg}
use Rattle.recording.specs.Items.{Item, item_octets, tick}
use Rattle.scene_gen.specs.Delays.{Plot, Sent, after_delay, after_delays, delay, delayed}
use Rattle.scene_gen.specs.OnWay.{AreOnWay}
use Rattle.scene_gen.specs.Scenes.{plots_of}
use Rattle.scene_gen.specs.Draws.{after, drawn}
use Rattle.scene_gen.proofs.Coming.{sent_one}
use Rattle.scene_gen.proofs.Drawing.{one_more}

pub delayed-append : (late : ℕ) (g : Lcg) (ps qs : List Plot) → delayed late g (ps ++ qs) ≡ delayed late g ps ++ delayed late (after_delays late g ps) qs
unfolding delayed after_delays
delayed-append late g [] qs = refl
delayed-append late g (p ∷ ps) qs = ap (λ (l : List Sent). record { time = p.seen + delay late g; item = p.item } ∷ l) (delayed-append late (after_delay late g) ps qs)

pub after_delays-append : (late : ℕ) (g : Lcg) (ps qs : List Plot) → after_delays late g (ps ++ qs) ≡ after_delays late (after_delays late g ps) qs
unfolding after_delays
after_delays-append late g [] qs = refl
after_delays-append late g (p ∷ ps) qs = after_delays-append late (after_delay late g) ps qs

abbrev pub none : Item
none = tick 0

-- the plots of a time, one more
plots_more : (time i : ℕ) (items : List Item) → i < length items → plots_of time (take (i + 1) items) ≡ plots_of time (take i items) ++ record { seen = time; item = get_or items i none } ∷ []
plots_more time i items within = ap (plots_of time) (take_more items i none within) ∙ map-append (λ (x : Item). record { seen = time; item = x }) (take i items) (get_or items i none ∷ [])

delayed_one : (late : ℕ) (g : Lcg) (p : Plot) → delayed late g (p ∷ []) ≡ record { time = p.seen + delay late g; item = p.item } ∷ []
unfolding delayed
delayed_one late g p = refl

after_one : (late : ℕ) (g : Lcg) (p : Plot) → after_delays late g (p ∷ []) ≡ after_delay late g
unfolding after_delays
after_one late g p = refl

pub after_more : (late time i : ℕ) (g : Lcg) (items : List Item) {h new : Lcg} → i < length items → h ≡ after_delays late g (plots_of time (take i items)) → new ≡ after_delay late h → new ≡ after_delays late g (plots_of time (take (i + 1) items))
after_more late time i g items {h} {new} within drawn more =
    let p : Plot = record { seen = time; item = get_or items i none } in
    more ∙ ap (after_delay late) drawn ∙ sym (after_one late (after_delays late g (plots_of time (take i items))) p) ∙ sym (after_delays-append late g (plots_of time (take i items)) (p ∷ []))
    ∙ ap (after_delays late g) (sym (plots_more time i items within))

pub sent_more : (late time i : ℕ) (g : Lcg) (before : List Sent) (items : List Item) (comes : ℕ) (o : List ℕ) {h : Lcg} {b new : List (List (List ℕ))} → i < length items → o ≡ item_octets (get_or items i none) → h ≡ after_delays late g (plots_of time (take i items)) → comes ≡ time + delay late h → time ≤ comes → comes < time + 1088 → new ≡ set b (comes % 1088) (get_or b (comes % 1088) [] ++ o ∷ [])
    → AreOnWay (before ++ delayed late g (plots_of time (take i items))) time b → AreOnWay (before ++ delayed late g (plots_of time (take (i + 1) items))) time new
sent_more late time i g before items comes o {h} {b} {new} within is drawn at from to push inv =
    let first : List Plot = plots_of time (take i items) in
    let p : Plot = record { seen = time; item = get_or items i none } in
    let s : Sent = record { time = comes; item = get_or items i none } in
    let one : delayed late (after_delays late g first) (p ∷ []) ≡ s ∷ [] =
    delayed_one late (after_delays late g first) p ∙ ap (λ (n : ℕ). record { time = n; item = get_or items i none } ∷ []) (ap (λ (x : Lcg). time + delay late x) (sym drawn) ∙ sym at) in
    let all : before ++ delayed late g (plots_of time (take (i + 1) items)) ≡ (before ++ delayed late g first) ++ s ∷ [] =
    ap (λ (l : List Plot). before ++ delayed late g l) (plots_more time i items within) ∙ ap (λ (l : List Sent). before ++ l) (delayed-append late g first (p ∷ []) ∙ ap (λ (l : List Sent). delayed late g first ++ l) one)
    ∙ sym (append_assoc before (delayed late g first) (s ∷ [])) in
    let put : new ≡ set b (comes % 1088) (get_or b (comes % 1088) [] ++ item_octets (get_or items i none) ∷ []) = push ∙ ap (λ (x : List ℕ). set b (comes % 1088) (get_or b (comes % 1088) [] ++ x ∷ [])) is in
    subst (λ (l : List Sent). AreOnWay l time new) (sym all) (sent_one (before ++ delayed late g first) time s inv from to put)

-- ---- one delay

pub late_delay : (late : ℕ) (g : Lcg) {d n more : ℕ} {h : Lcg} → d ≡ drawn 100 g → n ≡ late → d < n → h ≡ after 1 g → more ≡ drawn 1024 h → 64 + more ≡ delay late g
unfolding delay
late_delay late g {d} {n} {more} {h} drawn_is late_is below first second =
    let is : ltb (drawn 100 g) late ≡ true = lt-ltb (drawn 100 g) late (omega (arith, drawn_is, late_is)) in
    ap (λ (k : ℕ). 64 + k) (second ∙ ap (drawn 1024) first) ∙ ap (λ t. cond t (64 + drawn 1024 (after 1 g)) 64) (sym is)

pub late_after : (late : ℕ) (g : Lcg) {d n : ℕ} {h new : Lcg} → d ≡ drawn 100 g → n ≡ late → d < n → h ≡ after 1 g → new ≡ after 1 h → new ≡ after_delay late g
unfolding after_delay
late_after late g {d} {n} {h} {new} drawn_is late_is below first second =
    let is : ltb (drawn 100 g) late ≡ true = lt-ltb (drawn 100 g) late (omega (arith, drawn_is, late_is)) in
    one_more g 1 first second ∙ ap (λ t. cond t (after 2 g) (after 1 g)) (sym is)

pub soon_delay : (late : ℕ) (g : Lcg) {d n : ℕ} → d ≡ drawn 100 g → n ≡ late → n ≤ d → 64 ≡ delay late g
unfolding delay
soon_delay late g {d} {n} drawn_is late_is above =
    let is : ltb (drawn 100 g) late ≡ false = le-ltb (drawn 100 g) late (omega (arith, drawn_is, late_is)) in
    ap (λ t. cond t (64 + drawn 1024 (after 1 g)) 64) (sym is)

pub soon_after : (late : ℕ) (g : Lcg) {d n : ℕ} {h : Lcg} → d ≡ drawn 100 g → n ≡ late → n ≤ d → h ≡ after 1 g → h ≡ after_delay late g
unfolding after_delay
soon_after late g {d} {n} {h} drawn_is late_is above first =
    let is : ltb (drawn 100 g) late ≡ false = le-ltb (drawn 100 g) late (omega (arith, drawn_is, late_is)) in
    first ∙ ap (λ t. cond t (after 2 g) (after 1 g)) (sym is)
