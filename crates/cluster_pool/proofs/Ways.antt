-- The runs of parts on their way over the slots of the whole.
use Rattle.std.proofs.Common.{◌≡◌, ◌∙◌, ap, sym, refl, subst, ℕ, zero, suc, ◌+◌, ◌<◌, ◌≤◌, List, [], ◌∷◌, ◌++◌, length, map, drop, get_or, append_assoc, append-nil, true, eqb, eq-eqb, arith, inl, inr}
use Rattle.std.specs.Prelude.{◌⊎◌, Contains, Option}
use Rattle.std.specs.List.{AllByRecursion}
use Rattle.std.specs.Option.{option_to_list}
use Rattle.std.specs.declared.cmp.Ordering.TheVariants.{Less}
use Rattle.std.proofs.lemmas.Bool.{cases_lt, eqb-true, cond_both}
use Rattle.late_window.specs.Folding.{Rises, at_slot, with_slot, slots, before, after, states, OutsAt, AreOutsOf}
use Rattle.late_window.proofs.Groups.{SlotsRise, slots_rise}
use Rattle.late_window.proofs.Cuts.{slots_all}
use Rattle.late_window.proofs.Lists.{all_weaker, all_append}
use Rattle.span_clusters.specs.Interleavings.{AllInterleaved, EachPair, IsJoin}
use Rattle.span_clusters.specs.Parts.{Part, IsFilled, IsSplitting, DontCross, all_items, states_after, OutsBegin, AreOutsAt}
use Rattle.span_clusters.proofs.Interleavings.{contains_first, contains_later, contains_cons, all_contains, both_length, all_filtered, alone}
use Rattle.span_clusters.proofs.Separating.{Separating, SeparatingLaws}
use Rattle.span_clusters.proofs.Resting.{empty_or, rested_step, rested_before, rested_filled, IsPartOf, rested_stays, reads}
use Rattle.span_clusters.proofs.Spans.{parts_of, bring, all_states, all_outs}
use Rattle.cluster_pool.specs.Walks.{Left, left_states, Fills, Rests, GoesOn, GoOn, IsStart, AreAtStart, MayMerge, IsMergedSlot}
use Rattle.cluster_pool.proofs.Halves.{pairs_right, one_join}

abbrev pub Rise : List ℕ → Type 0
Rise ms = EachPair (λ a b. a < b) ms

-- the slots of items
with_has : (n : ℕ) (ms : List ℕ) → Contains (with_slot n ms) n
with_has n [] = contains_first n n [] refl
with_has n (m ∷ ms) = cond_both (eqb n m) (m ∷ ms) (n ∷ m ∷ ms) (λ l. Contains l n) (λ e. contains_first m n ms (sym (eqb-true n m e))) (λ e. contains_first n n (m ∷ ms) refl)

with_keeps : (n k : ℕ) (ms : List ℕ) → Contains ms k → Contains (with_slot n ms) k
with_keeps n k [] c = absurd (omega (arith, c.1))
with_keeps n k (m ∷ ms) c = cond_both (eqb n m) (m ∷ ms) (n ∷ m ∷ ms) (λ l. Contains l k) (λ e. c) (λ e. contains_later n k (m ∷ ms) c)

with_only : (n k : ℕ) (ms : List ℕ) → Contains (with_slot n ms) k → (n ≡ k) ⊎ Contains ms k
with_only n k [] c = contains_cons n k [] c
with_only n k (m ∷ ms) c = cond_both (eqb n m) (m ∷ ms) (n ∷ m ∷ ms) (λ l. Contains l k → (n ≡ k) ⊎ Contains (m ∷ ms) k) (λ e d. inr d) (λ e d. contains_cons n k (m ∷ ms) d) c

with_rise : (n : ℕ) (ms : List ℕ) → AllByRecursion (λ m. n ≤ m) ms → Rise ms → Rise (with_slot n ms)
with_rise n [] h d = (tt, tt)
with_rise n (m ∷ ms) h d = cond_both (eqb n m) (m ∷ ms) (n ∷ m ∷ ms) Rise (λ e. d)
    (λ e.
    let le : n ≤ m = h.0 in
    let lt : n < m = elim (cases_lt n m) [ inl lt ↦ lt | inr ge ↦ absurd (let t : eqb n m ≡ true = eq-eqb n m (omega (arith, le, ge)) in cc) ] in
    ((lt, all_weaker (λ k. m < k) (λ k. n < k) (λ k g. omega (arith, g, lt)) ms d.0), d))

module _ {I : Type 0} (slot : I → ℕ) where
  pub filled_has : (n : ℕ) (xs : List I) → IsFilled slot n xs → Contains (slots slot xs) n
  unfolding slots
  filled_has n [] f = absurd (omega (arith, f))
  filled_has n (x ∷ xs) f = cond_both (eqb (slot x) n) (x ∷ at_slot slot n xs) (at_slot slot n xs) (λ l. 0 < length l → Contains (with_slot (slot x) (slots slot xs)) n)
      (λ e g. subst (Contains (with_slot (slot x) (slots slot xs))) (eqb-true (slot x) n e) (with_has (slot x) (slots slot xs))) (λ e g. with_keeps (slot x) n (slots slot xs) (filled_has n xs g)) f

  pub has_filled : (n : ℕ) (xs : List I) → Contains (slots slot xs) n → IsFilled slot n xs
  unfolding slots
  has_filled n [] c = absurd (omega (arith, c.1))
  has_filled n (x ∷ xs) c = cond_both (eqb (slot x) n) (x ∷ at_slot slot n xs) (at_slot slot n xs) (λ l. 0 < length l) (λ e. omega arith)
      (λ e. elim (with_only (slot x) n (slots slot xs) c) [ inl d ↦ absurd (let t : eqb (slot x) n ≡ true = eq-eqb (slot x) n d in cc) | inr d ↦ has_filled n xs d ])

  pub slots_strict : (xs : List I) → SlotsRise slot xs → Rise (slots slot xs)
  unfolding slots
  slots_strict [] r = tt
  slots_strict (x ∷ xs) r = with_rise (slot x) (slots slot xs) (slots_all slot (λ m. slot x ≤ m) xs r.0) (slots_strict xs r.1)

-- lists of numbers that rise
first_is : (n : ℕ) (ms : List ℕ) → AllByRecursion (λ m. n ≤ m) ms → Rise ms → Contains ms n → (rest : List ℕ) × (ms ≡ n ∷ rest)
first_is n [] h d c = absurd (omega (arith, c.1))
first_is n (m ∷ ms) h d c = elim (contains_cons m n ms c) [
  | inl e ↦ (ms, ap (λ k. k ∷ ms) e)
  | inr k ↦ absurd (let l : m < n = all_contains (λ j. m < j) n ms d.0 k in let g : n ≤ m = h.0 in omega (arith, l, g))
]

higher : (n : ℕ) (ms : List ℕ) → AllByRecursion (λ m. n ≤ m) ms → (Contains ms n → ⊥) → AllByRecursion (λ m. suc n ≤ m) ms
higher n [] h c = tt
higher n (m ∷ ms) h c = (
  elim (cases_lt n m) [
    | inl lt ↦ omega (arith, lt)
    | inr le ↦ absurd (c (contains_first m n ms (let g : n ≤ m = h.0 in omega (arith, g, le))))
  ],
  higher n ms h.1 (λ k. c (contains_later m n ms k)),
)

in_append : (xs ys : List ℕ) (x : ℕ) → Contains (xs ++ ys) x → Contains xs x ⊎ Contains ys x
in_append [] ys x c = inr c
in_append (z ∷ xs) ys x c = elim (contains_cons z x (xs ++ ys) c) [
  | inl e ↦ inl (contains_first z x xs e)
  | inr d ↦ elim (in_append xs ys x d) [ inl k ↦ inl (contains_later z x xs k) | inr k ↦ inr k ]
]

contains_right : (xs ys : List ℕ) (x : ℕ) → Contains ys x → Contains (xs ++ ys) x
contains_right [] ys x c = c
contains_right (z ∷ xs) ys x c = contains_later z x (xs ++ ys) (contains_right xs ys x c)

heads : {X : Type 0} (x y : X) (xs ys : List X) → x ∷ xs ≡ y ∷ ys → x ≡ y
heads x y xs ys e = ap (λ l. get_or l 0 x) e

tails : {X : Type 0} (x y : X) (xs ys : List X) → x ∷ xs ≡ y ∷ ys → xs ≡ ys
tails x y xs ys e = ap (drop 1) e

begin_some : {I O : Type 0} (P : O → Type 0) (Q : List O → Type 0) (xs : List I) (o : O) (os : List O) → 0 < length xs → P o → Q os → OutsBegin P Q xs (o ∷ os)
begin_some P Q [] o os l h k = absurd (omega (arith, l))
begin_some P Q (x ∷ xs) o os l h k = (h, k)

begin_none : {I O : Type 0} (P : O → Type 0) (Q : List O → Type 0) (xs : List I) (os : List O) → xs ≡ [] → Q os → OutsBegin P Q xs os
begin_none P Q xs os e h = subst (λ l. OutsBegin P Q l os) (sym e) h

begin_needs : {I O : Type 0} (P : O → Type 0) (Q : List O → Type 0) (xs : List I) → 0 < length xs → OutsBegin P Q xs [] → ⊥
begin_needs P Q [] l h = omega (arith, l)
begin_needs P Q (x ∷ xs) l h = h

module _ {S I : Type 0} (next : S → ℕ → List I → S) (slot : I → ℕ) where
  pub run_length : (s : S) (xs : List I) (run : List S) (filled : List ℕ) → run ≡ states next slot s xs → filled ≡ slots slot xs → length run ≡ length filled
  run_length s xs run filled e f = ap length e ∙ same (slots slot xs) ∙ ap length (sym f)
    where
      same : (ns : List ℕ) → length (map (after next slot s xs) ns) ≡ length ns
      same [] = refl
      same (n ∷ ns) = let h = same ns in omega (arith, h)

module _ {S I O : Type 0} (next : S → ℕ → List I → S) (slot : I → ℕ) (is_out : S → ℕ → List I → O → Type 0) where
  at_length : (s : S) (xs : List I) (ns : List ℕ) (os : List O) → OutsAt next slot is_out s xs ns os → length os ≡ length ns
  at_length s xs [] os h = ap length h
  at_length s xs (n ∷ ns) [] h = absurd h
  at_length s xs (n ∷ ns) (o ∷ os) h = let e = at_length s xs ns os h.1 in omega (arith, e)

  pub outs_length : (s : S) (xs : List I) (os : List O) (filled : List ℕ) → AreOutsOf next slot is_out s xs os → filled ≡ slots slot xs → length os ≡ length filled
  outs_length s xs os filled h f = at_length s xs (slots slot xs) os h ∙ ap length (sym f)

only_one : {X : Type 0} (rest : List X) (x : X) → length (rest ++ x ∷ []) ≤ 1 → rest ++ x ∷ [] ≡ x ∷ []
only_one [] x l = refl
only_one (y ∷ []) x l = absurd (omega (arith, l))
only_one (y ∷ z ∷ rest) x l = absurd (omega (arith, l))

module _ {S I : Type 0} (slot : I → ℕ) (is_before : S → ℕ → Type 0) (is_beside : S → S → Type 0) (merged : S → S → S) where
  -- one part alone is the whole
  pub record IsWhole (p : Part S I) (s : S) (zs : List I) : Type 0 where
    pub start : p.start ≡ s
    pub items : p.items ≡ zs

  pub one_part : (parts rest : List (Part S I)) (p : Part S I) (s : S) (zs : List I) → parts ≡ rest ++ p ∷ [] → length parts ≤ 1 → IsSplitting slot is_before is_beside merged s zs parts → IsWhole p s zs
  one_part parts rest p s zs e l i =
      let same : parts ≡ p ∷ [] = e ∙ only_one rest p (subst (λ (ps : List (Part S I)). length ps ≤ 1) e l) in
      let j : IsSplitting slot is_before is_beside merged s zs (p ∷ []) = subst (IsSplitting slot is_before is_beside merged s zs) same i in
      record { start = sym j.state; items = alone p.items j.items.0 zs j.items.1 j.items.2 }

  pub no_part : (parts : List (Part S I)) (s : S) (zs : List I) → length parts ≡ 0 → IsSplitting slot is_before is_beside merged s zs parts → ⊥
  no_part [] s zs l i = i.state
  no_part (p ∷ parts) s zs l i = omega (arith, l)

module _ {S I O : Type 0} (next : S → ℕ → List I → S) (slot : I → ℕ) (is_out : S → ℕ → List I → O → Type 0) where
  pub start_more : (ps : List (Part S I)) (ws : List (Left S O)) (p : Part S I) (w : Left S O) → AreAtStart next slot is_out ps ws → IsStart next slot is_out p w → AreAtStart next slot is_out (ps ++ p ∷ []) (ws ++ w ∷ [])
  start_more [] ws p w h k = subst (λ (l : List (Left S O)). AreAtStart next slot is_out (p ∷ []) (l ++ w ∷ [])) (sym h) (k, refl)
  start_more (q ∷ ps) [] p w h k = absurd h
  start_more (q ∷ ps) (v ∷ ws) p w h k = (h.0, start_more ps ws p w h.1 k)

module _ {S I O : Type 0} (next : S → ℕ → List I → S) where
  pub goes_more : (n : ℕ) (ws vs : List (Left S O)) (outs : List O) (w v : Left S O) (told : Option O) → GoOn next n ws vs outs → GoesOn next n w v told → GoOn next n (ws ++ w ∷ []) (vs ++ v ∷ []) (outs ++ option_to_list told)
  goes_more n [] vs outs w v told h k =
      subst (λ (l : List (Left S O)). GoOn next n (w ∷ []) (l ++ v ∷ []) (outs ++ option_to_list told)) (sym h.0)
      (subst (λ (l : List O). GoOn next n (w ∷ []) (v ∷ []) (l ++ option_to_list told)) (sym h.1) (told, [], k, sym (append-nil (option_to_list told)), (refl, refl)))
  goes_more n (x ∷ ws) [] outs w v told h k = absurd h
  goes_more n (x ∷ ws) (y ∷ vs) outs w v told h k =
      (h.0, h.1 ++ option_to_list told, h.2, ap (λ (l : List O). l ++ option_to_list told) h.3 ∙ append_assoc (option_to_list h.0) h.1 (option_to_list told), goes_more n ws vs h.1 w v told h.4 k)

module _ {S I O : Type 0} (next : S → ℕ → List I → S) (slot : I → ℕ) (is_out : S → ℕ → List I → O → Type 0) (zs : List I) where
  -- what is left of a part's run before slot n, where zs are the items of the whole
  pub record IsWalk (n : ℕ) (p : Part S I) (w : Left S O) : Type 0 where
    pub gone : List ℕ
    pub cut : slots slot p.items ≡ gone ++ w.slots
    pub past : AllByRecursion (λ m. m < n) gone
    pub ahead : AllByRecursion (λ m. n ≤ m) w.slots
    pub state : w.state ≡ rested_before next slot p.start p.items zs n
    pub folded : w.states ≡ map (after next slot p.start p.items) w.slots
    pub told : OutsAt next slot is_out p.start p.items w.slots w.outs

  abbrev pub AreWalks : ℕ → List (Part S I) → List (Left S O) → Type 0
  AreWalks n [] ws = ws ≡ []
  AreWalks n (p ∷ ps) [] = ⊥
  AreWalks n (p ∷ ps) (w ∷ ws) = IsWalk n p w × AreWalks n ps ws

  -- the slots that are gone and those that are left, of all of the whole
  pub record IsUnderway (Splits : S → Type 0) (parts : List (Part S I)) (gone left : List ℕ) (walks : List (Left S O)) (run : List S) (outs : List O) : Type 0 where
    pub n : ℕ
    pub cut : gone ++ left ≡ slots slot zs
    pub past : AllByRecursion (λ m. m < n) gone
    pub ahead : AllByRecursion (λ m. n ≤ m) left
    pub on : AreWalks n parts walks
    pub folded : (s : S) → Splits s → run ≡ map (after next slot s zs) gone
    pub told : (s : S) → Splits s → OutsAt next slot is_out s zs gone outs

  all_zero : (ms : List ℕ) → AllByRecursion (λ m. 0 ≤ m) ms
  all_zero [] = tt
  all_zero (m ∷ ms) = (omega arith, all_zero ms)

  walk_begins : (p : Part S I) (w : Left S O) → IsStart next slot is_out p w → IsWalk 0 p w
  unfolding rested_before
  walk_begins p w s = record {
    gone = [];
    cut = sym s.filled;
    past = tt;
    ahead = all_zero w.slots;
    state = s.state;
    folded = s.folded ∙ ap (map (after next slot p.start p.items)) (sym s.filled);
    told = subst (λ l. OutsAt next slot is_out p.start p.items l w.outs) (sym s.filled) s.told;
  }

  all_begin : (ps : List (Part S I)) (ws : List (Left S O)) → AreAtStart next slot is_out ps ws → AreWalks 0 ps ws
  all_begin [] ws h = h
  all_begin (p ∷ ps) [] h = absurd h
  all_begin (p ∷ ps) (w ∷ ws) h = (walk_begins p w h.0, all_begin ps ws h.1)

  pub underway_first : (Splits : S → Type 0) (parts : List (Part S I)) (left : List ℕ) (walks : List (Left S O)) → left ≡ slots slot zs → AreAtStart next slot is_out parts walks → IsUnderway Splits parts [] left walks [] []
  underway_first Splits parts left walks e h = record { n = 0; cut = e; past = tt; ahead = all_zero left; on = all_begin parts walks h; folded = λ s i. refl; told = λ s i. refl }

  pub walk_states : (n : ℕ) (ps : List (Part S I)) (ws : List (Left S O)) → AreWalks n ps ws → left_states ws ≡ map (λ p. rested_before next slot p.start p.items zs n) ps
  walk_states n [] ws a = ap left_states a
  walk_states n (p ∷ ps) [] a = absurd a
  walk_states n (p ∷ ps) (w ∷ ws) a = λ i. a.0.state i ∷ walk_states n ps ws a.1 i

  all_gone : (gone left : List ℕ) → gone ++ left ≡ slots slot zs → length left ≡ 0 → gone ≡ slots slot zs
  all_gone gone [] e l = sym (append-nil gone) ∙ e
  all_gone gone (m ∷ left) e l = absurd (omega (arith, l))

  -- once all are gone
  pub run_done : (Splits : S → Type 0) (parts : List (Part S I)) (gone left : List ℕ) (walks : List (Left S O)) (run : List S) (outs : List O) → IsUnderway Splits parts gone left walks run outs → length left ≡ 0 → (s : S) → Splits s → run ≡ states next slot s zs
  run_done Splits parts gone left walks run outs u l s i = u.folded s i ∙ ap (map (after next slot s zs)) (all_gone gone left u.cut l)

  pub outs_done : (Splits : S → Type 0) (parts : List (Part S I)) (gone left : List ℕ) (walks : List (Left S O)) (run : List S) (outs : List O) → IsUnderway Splits parts gone left walks run outs → length left ≡ 0 → (s : S) → Splits s → AreOutsOf next slot is_out s zs outs
  outs_done Splits parts gone left walks run outs u l s i = subst (λ (ns : List ℕ). OutsAt next slot is_out s zs ns outs) (all_gone gone left u.cut l) (u.told s i)

module _ {S I K O : Type 0} (F : Separating S I K O) (L : SeparatingLaws F) (order : (x y : I) → F.cmp x y ≡ Less → F.slot x ≤ F.slot y) (zs : List I) where
  abbrev brought : ℕ → Part S I → S
  brought n p = rested_before F.next F.slot p.start p.items zs n

  abbrev Own : Part S I → Type 0
  Own p = IsPartOf F L p.start p.items zs

  abbrev Walk : ℕ → Part S I → Left S O → Type 0
  Walk n p w = IsWalk F.next F.slot F.is_out zs n p w

  abbrev Walks : ℕ → List (Part S I) → List (Left S O) → Type 0
  Walks n ps ws = AreWalks F.next F.slot F.is_out zs n ps ws

  after_is : (n : ℕ) (p : Part S I) → Own p → F.next (brought n p) n (at_slot F.slot n p.items) ≡ after F.next F.slot p.start p.items n
  unfolding after
  after_is n p i = (reads F L p.start p.items zs i n n (omega arith)).next (at_slot F.slot n p.items)

  brought_full : (n : ℕ) (p : Part S I) → IsFilled F.slot n zs → brought (suc n) p ≡ F.next (brought n p) n (at_slot F.slot n p.items)
  unfolding rested_before
  brought_full n p f = rested_filled F.next (brought n p) n (at_slot F.slot n p.items) (at_slot F.slot n zs) f

  -- after the slot
  record IsStepped (n : ℕ) (p : Part S I) (v : Left S O) (told : Option O) : Type 1 where
    walk : Walk (suc n) p v
    out : (Q : List O → Type 0) (rest : List O) → Q rest → OutsBegin (F.is_out (before F.next F.slot p.start p.items n) n (at_slot F.slot n p.items)) Q (at_slot F.slot n p.items) (option_to_list told ++ rest)

  strict_of : (p : Part S I) → Own p → Rise (slots F.slot p.items)
  strict_of p i = slots_strict F.slot p.items (slots_rise F.cmp F.key F.slot order p.items i.rises)

  step_fills : (n : ℕ) (p : Part S I) (w v : Left S O) (told : Option O) → Own p → IsFilled F.slot n zs → Walk n p w → Fills n w v told → IsStepped n p v told
  step_fills n p w v told i f a h =
      let run = after F.next F.slot p.start p.items in
      let P = F.is_out (before F.next F.slot p.start p.items n) n (at_slot F.slot n p.items) in
      let cut : slots F.slot p.items ≡ a.gone ++ n ∷ v.slots = a.cut ∙ ap (λ (l : List ℕ). a.gone ++ l) h.slots in
      let own : IsFilled F.slot n p.items = has_filled F.slot n p.items (subst (λ (l : List ℕ). Contains l n) (sym cut) (contains_right a.gone (n ∷ v.slots) n (contains_first n n v.slots refl))) in
      let rising : Rise (n ∷ v.slots) = pairs_right (λ a b. a < b) a.gone (n ∷ v.slots) (subst Rise cut (strict_of p i)) in
      let same : v.state ∷ v.states ≡ run n ∷ map run v.slots = sym h.states ∙ a.folded ∙ ap (map run) h.slots in
      let outs : OutsAt F.next F.slot F.is_out p.start p.items (n ∷ v.slots) (h.out ∷ v.outs) =
      subst (λ (l : List O). OutsAt F.next F.slot F.is_out p.start p.items (n ∷ v.slots) l) h.outs (subst (λ (l : List ℕ). OutsAt F.next F.slot F.is_out p.start p.items l w.outs) h.slots a.told) in
      record {
        walk = record {
          gone = a.gone ++ n ∷ [];
          cut = cut ∙ sym (append_assoc a.gone (n ∷ []) v.slots);
          past = all_append (λ m. m < suc n) a.gone (n ∷ []) (all_weaker (λ m. m < n) (λ m. m < suc n) (λ m l. omega (arith, l)) a.gone a.past) (omega arith, tt);
          ahead = all_weaker (λ m. n < m) (λ m. suc n ≤ m) (λ m l. omega (arith, l)) v.slots rising.0;
          state = heads v.state (run n) v.states (map run v.slots) same ∙ sym (after_is n p i) ∙ sym (brought_full n p f);
          folded = tails v.state (run n) v.states (map run v.slots) same;
          told = outs.1;
        };
        out = λ Q rest q. subst (λ o. OutsBegin P Q (at_slot F.slot n p.items) (option_to_list o ++ rest)) (sym h.tells) (begin_some P Q (at_slot F.slot n p.items) h.out rest own outs.0 q);
      }

  step_rests : (n : ℕ) (p : Part S I) (w v : Left S O) (told : Option O) → Own p → IsFilled F.slot n zs → Walk n p w → Rests F.next n w v told → IsStepped n p v told
  step_rests n p w v told i f a h =
      let run = after F.next F.slot p.start p.items in
      let P = F.is_out (before F.next F.slot p.start p.items n) n (at_slot F.slot n p.items) in
      let rising : Rise w.slots = pairs_right (λ a b. a < b) a.gone w.slots (subst Rise a.cut (strict_of p i)) in
      let missing : Contains w.slots n → ⊥ = λ c. let r : (rest : List ℕ) × (w.slots ≡ n ∷ rest) = first_is n w.slots a.ahead rising c in h.other r.0 r.1 in
      let none : at_slot F.slot n p.items ≡ [] = elim (empty_or (at_slot F.slot n p.items)) [
        | inl e ↦ e
        | inr own ↦ absurd (elim (in_append a.gone w.slots n (subst (λ (l : List ℕ). Contains l n) a.cut (filled_has F.slot n p.items own))) [
          | inl c ↦ (let l : n < n = all_contains (λ m. m < n) n a.gone a.past c in omega (arith, l))
          | inr c ↦ missing c
        ])
      ] in
      record {
        walk = record {
          gone = a.gone;
          cut = a.cut ∙ ap (λ (l : List ℕ). a.gone ++ l) (sym h.slots);
          past = all_weaker (λ m. m < n) (λ m. m < suc n) (λ m l. omega (arith, l)) a.gone a.past;
          ahead = subst (AllByRecursion (λ m. suc n ≤ m)) (sym h.slots) (higher n w.slots a.ahead missing);
          state = h.state ∙ ap (λ t. F.next t n []) a.state ∙ ap (F.next (brought n p) n) (sym none) ∙ sym (brought_full n p f);
          folded = h.states ∙ a.folded ∙ ap (map run) (sym h.slots);
          told = subst (λ (l : List O). OutsAt F.next F.slot F.is_out p.start p.items v.slots l) (sym h.outs) (subst (λ (l : List ℕ). OutsAt F.next F.slot F.is_out p.start p.items l w.outs) (sym h.slots) a.told);
        };
        out = λ Q rest q. subst (λ o. OutsBegin P Q (at_slot F.slot n p.items) (option_to_list o ++ rest)) (sym h.tells) (begin_none P Q (at_slot F.slot n p.items) rest none q);
      }

  step_one : (n : ℕ) (p : Part S I) (w v : Left S O) (told : Option O) → Own p → IsFilled F.slot n zs → Walk n p w → GoesOn F.next n w v told → IsStepped n p v told
  step_one n p w v told i f a (inl h) = step_fills n p w v told i f a h
  step_one n p w v told i f a (inr h) = step_rests n p w v told i f a h

  pub record AreStepped (n : ℕ) (ps : List (Part S I)) (vs : List (Left S O)) (outs : List O) : Type 0 where
    pub on : Walks (suc n) ps vs
    pub told : AreOutsAt F.next F.slot F.is_out n ps outs

  pub step_all : (n : ℕ) (ps : List (Part S I)) (ws vs : List (Left S O)) (outs : List O) → IsFilled F.slot n zs → AllByRecursion Own ps → Walks n ps ws → GoOn F.next n ws vs outs → AreStepped n ps vs outs
  step_all n [] ws vs outs f i a g = let r : (vs ≡ []) × (outs ≡ []) = subst (λ (l : List (Left S O)). GoOn F.next n l vs outs) a g in record { on = r.0; told = r.1 }
  step_all n (p ∷ ps) [] vs outs f i a g = absurd a
  step_all n (p ∷ ps) (w ∷ ws) [] outs f i a g = absurd g
  step_all n (p ∷ ps) (w ∷ ws) (v ∷ vs) outs f i a g =
      let one : IsStepped n p v g.0 = step_one n p w v g.0 i.0 f a.0 g.2 in
      let more : AreStepped n ps vs g.1 = step_all n ps ws vs g.1 f i.1 a.1 g.4 in
      record {
        on = (one.walk, more.on);
        told = subst (AreOutsAt F.next F.slot F.is_out n (p ∷ ps)) (sym g.3) (one.out (AreOutsAt F.next F.slot F.is_out n ps) g.1 more.told);
      }

  -- nothing is of the slots from n up to m
  abbrev Gap : ℕ → ℕ → Type 0
  Gap n m = (k : ℕ) → n ≤ k → k < m → at_slot F.slot k zs ≡ []

  still : (p : Part S I) (n m : ℕ) → n ≤ m → Gap n m → brought m p ≡ brought n p
  unfolding rested_before
  still p n zero le h = ap (rested_before F.next F.slot p.start p.items zs) (let e : zero ≡ n = omega (arith, le) in e)
  still p n (suc m) le h = elim (cases_lt m n) [
    | inl lt ↦ ap (rested_before F.next F.slot p.start p.items zs) (let e : suc m ≡ n = omega (arith, lt, le) in e)
    | inr ge ↦ ap (rested_step F.next (brought m p) m (at_slot F.slot m p.items)) (h m ge (omega arith)) ∙ still p n m ge (λ k a b. h k a (omega (arith, b)))
  ]

  ahead_more : (n m : ℕ) (ms : List ℕ) → AllByRecursion (λ k. n ≤ k) ms → ((k : ℕ) → Contains ms k → IsFilled F.slot k zs) → Gap n m → AllByRecursion (λ k. m ≤ k) ms
  ahead_more n m [] h f gap = tt
  ahead_more n m (k ∷ ms) h f gap = (
    elim (cases_lt k m) [
      | inl lt ↦ absurd (
          let g : 0 < length (at_slot F.slot k zs) = f k (contains_first k k ms refl) in
          let l : length (at_slot F.slot k zs) ≡ 0 = ap length (gap k h.0 lt) in
          omega (arith, g, l))
      | inr ge ↦ ge
    ],
    ahead_more n m ms h.1 (λ j c. f j (contains_later k j ms c)) gap,
  )

  lift_one : (n m : ℕ) (p : Part S I) (w : Left S O) → n ≤ m → Gap n m → Own p → Walk n p w → Walk m p w
  lift_one n m p w le gap i a = record {
    gone = a.gone;
    cut = a.cut;
    past = all_weaker (λ k. k < n) (λ k. k < m) (λ k l. omega (arith, l, le)) a.gone a.past;
    ahead = ahead_more n m w.slots a.ahead (λ k c. i.filled k (has_filled F.slot k p.items (subst (λ (l : List ℕ). Contains l k) (sym a.cut) (contains_right a.gone w.slots k c)))) gap;
    state = a.state ∙ sym (still p n m le gap);
    folded = a.folded;
    told = a.told;
  }

  pub lift_all : (n m : ℕ) (ps : List (Part S I)) (ws : List (Left S O)) → n ≤ m → Gap n m → AllByRecursion Own ps → Walks n ps ws → Walks m ps ws
  lift_all n m [] ws le gap i a = a
  lift_all n m (p ∷ ps) [] le gap i a = absurd a
  lift_all n m (p ∷ ps) (w ∷ ws) le gap i a = (lift_one n m p w le gap i.0 a.0, lift_all n m ps ws le gap i.1 a.1)

  pub walks_before : (n : ℕ) (ps : List (Part S I)) (ws : List (Left S O)) → IsFilled F.slot n zs → AllByRecursion Own ps → Walks n ps ws → AllByRecursion (λ w. F.is_before w.state n) ws
  walks_before n [] ws f i a = subst (AllByRecursion (λ w. F.is_before w.state n)) (sym a) tt
  walks_before n (p ∷ ps) [] f i a = absurd a
  walks_before n (p ∷ ps) (w ∷ ws) f i a = (subst (λ t. F.is_before t n) (sym a.0.state) (rested_stays F L p.start p.items zs i.0 n n (omega arith) f), walks_before n ps ws f i.1 a.1)

  afters : (n : ℕ) (ps : List (Part S I)) → IsFilled F.slot n zs → AllByRecursion Own ps → map (brought (suc n)) ps ≡ states_after F.next F.slot ps n
  afters n [] f i = refl
  afters n (p ∷ ps) f i = λ j. (brought_full n p f ∙ after_is n p i.0) j ∷ afters n ps f i.1 j

  -- somebody tells an out
  none_told : (n : ℕ) (ps : List (Part S I)) → AreOutsAt F.next F.slot F.is_out n ps [] → AllByRecursion (λ (l : List I). l ≡ []) (map (at_slot F.slot n) (all_items ps))
  none_told n [] h = tt
  none_told n (p ∷ ps) h =
      let P = F.is_out (before F.next F.slot p.start p.items n) n (at_slot F.slot n p.items) in
      let Q = AreOutsAt F.next F.slot F.is_out n ps in
      elim (empty_or (at_slot F.slot n p.items)) [
        | inl e ↦ (e, none_told n ps (subst (λ (l : List I). OutsBegin P Q l []) e h))
        | inr own ↦ absurd (begin_needs P Q (at_slot F.slot n p.items) own h)
      ]

  none_of_none : (xss : List (List I)) (ys : List I) → AllInterleaved xss ys → AllByRecursion (λ (l : List I). l ≡ []) xss → length ys ≡ 0
  none_of_none [] ys m h = ap length m
  none_of_none (xs ∷ xss) ys m h =
      let sum : length xs + length m.0 ≡ length ys = both_length xs m.0 ys m.1 in
      let own : length xs ≡ 0 = ap length h.0 in
      let others : length m.0 ≡ 0 = none_of_none xss m.0 m.2 h.1 in
      omega (arith, sum, own, others)

  some_told : (n : ℕ) (ps : List (Part S I)) (outs : List O) → AllInterleaved (all_items ps) zs → IsFilled F.slot n zs → AreOutsAt F.next F.slot F.is_out n ps outs → 0 < length outs
  some_told n ps [] m f h = absurd (
      let none : length (at_slot F.slot n zs) ≡ 0 = none_of_none (map (at_slot F.slot n) (all_items ps)) (at_slot F.slot n zs) (all_filtered (λ x. eqb (F.slot x) n) (all_items ps) zs m) (none_told n ps h) in
      omega (arith, none, f))
  some_told n ps (o ∷ outs) m f h = omega arith

  abbrev pub Splits : List (Part S I) → S → Type 0
  Splits parts s = IsSplitting F.slot F.is_before F.is_beside F.merged s zs parts

  abbrev Clear : List (Part S I) → Type 0
  Clear parts = EachPair (DontCross F.next F.slot F.gates) parts

  each_own : (s : S) (parts : List (Part S I)) → Rises F.cmp F.key zs → Splits parts s → Clear parts → AllByRecursion Own parts
  each_own s [] r i c = absurd i.state
  each_own s (p ∷ ps) r i c = (parts_of F L zs s p ps r i c).each

  all_beside : (s : S) (parts : List (Part S I)) → Rises F.cmp F.key zs → Splits parts s → Clear parts → (n : ℕ) → EachPair F.is_beside (map (brought n) parts)
  all_beside s [] r i c n = absurd i.state
  all_beside s (p ∷ ps) r i c n = (bring F L zs s p ps (sym i.state) i.beside (parts_of F L zs s p ps r i c) n).beside

  abbrev pub Underway : List (Part S I) → List ℕ → List ℕ → List (Left S O) → List S → List O → Type 0
  Underway parts gone left walks run outs = IsUnderway F.next F.slot F.is_out zs (Splits parts) parts gone left walks run outs

  -- the next slot of the whole
  pub record IsNext (parts : List (Part S I)) (gone : List ℕ) (m : ℕ) (left : List ℕ) (walks : List (Left S O)) : Type 0 where
    pub full : IsFilled F.slot m zs
    pub on : Walks m parts walks
    pub past : AllByRecursion (λ j. j < m) gone
    pub ahead : AllByRecursion (λ j. m < j) left
    pub cut : gone ++ m ∷ left ≡ slots F.slot zs

  comes_next : (s : S) (parts : List (Part S I)) (gone : List ℕ) (m : ℕ) (left : List ℕ) (walks : List (Left S O)) (run : List S) (outs : List O) → Rises F.cmp F.key zs → Splits parts s → Clear parts
      → Underway parts gone (m ∷ left) walks run outs → IsNext parts gone m left walks
  comes_next s parts gone m left walks run outs r i c u =
      let rising : Rise (m ∷ left) = pairs_right (λ a b. a < b) gone (m ∷ left) (subst Rise (sym u.cut) (slots_strict F.slot zs (slots_rise F.cmp F.key F.slot order zs r))) in
      let low : u.n ≤ m = u.ahead.0 in
      let gap : Gap u.n m = λ j a b. elim (empty_or (at_slot F.slot j zs)) [
        | inl e ↦ e
        | inr own ↦ absurd (elim (in_append gone (m ∷ left) j (subst (λ (ms : List ℕ). Contains ms j) (sym u.cut) (filled_has F.slot j zs own))) [
          | inl d ↦ (let h : j < u.n = all_contains (λ i. i < u.n) j gone u.past d in omega (arith, h, a))
          | inr d ↦ elim (contains_cons m j left d) [
            | inl q ↦ omega (arith, q, b)
            | inr k ↦ (let h : m < j = all_contains (λ i. m < i) j left rising.0 k in omega (arith, h, b))
          ]
        ])
      ] in
      record {
        full = has_filled F.slot m zs (subst (λ (ms : List ℕ). Contains ms m) u.cut (contains_right gone (m ∷ left) m (contains_first m m left refl)));
        on = lift_all u.n m parts walks low gap (each_own s parts r i c) u.on;
        past = all_weaker (λ j. j < u.n) (λ j. j < m) (λ j h. omega (arith, h, low)) gone u.past;
        ahead = rising.0;
        cut = u.cut;
      }

  -- all parts after the next slot
  pub record AreAfter (parts : List (Part S I)) (m : ℕ) (vs : List (Left S O)) (told : List O) : Type 0 where
    pub stepped : AreStepped m parts vs told
    pub beside : EachPair F.is_beside (left_states vs)
    pub states : left_states vs ≡ states_after F.next F.slot parts m
    pub some : 0 < length told
    pub length_same : length vs ≡ length parts

  same_length : (n : ℕ) (ps : List (Part S I)) (ws : List (Left S O)) → Walks n ps ws → length ws ≡ length ps
  same_length n [] ws a = ap length a
  same_length n (p ∷ ps) [] a = absurd a
  same_length n (p ∷ ps) (w ∷ ws) a = let e = same_length n ps ws a.1 in omega (arith, e)

  come_after : (s : S) (parts : List (Part S I)) (gone : List ℕ) (m : ℕ) (left : List ℕ) (walks vs : List (Left S O)) (told : List O) → Rises F.cmp F.key zs → Splits parts s → Clear parts → IsNext parts gone m left walks → GoOn F.next m walks vs told → AreAfter parts m vs told
  come_after s parts gone m left walks vs told r i c n g =
      let own : AllByRecursion Own parts = each_own s parts r i c in
      let a : AreStepped m parts vs told = step_all m parts walks vs told n.full own n.on g in
      let same : left_states vs ≡ map (brought (suc m)) parts = walk_states F.next F.slot F.is_out zs (suc m) parts vs a.on in
      record {
        stepped = a;
        beside = subst (EachPair F.is_beside) (sym same) (all_beside s parts r i c (suc m));
        states = same ∙ afters m parts n.full own;
        some = some_told m parts told i.items n.full a.told;
        length_same = same_length (suc m) parts vs a.on;
      }

  map_more : {X Y : Type 0} (f : X → Y) (xs : List X) (x : X) → map f (xs ++ x ∷ []) ≡ map f xs ++ f x ∷ []
  map_more f [] x = refl
  map_more {X} {Y} f (y ∷ xs) x = ap (λ (l : List Y). f y ∷ l) (map_more f xs x)

  outs_more : (s : S) (ns : List ℕ) (os : List O) (n : ℕ) (o : O) → OutsAt F.next F.slot F.is_out s zs ns os → F.is_out (before F.next F.slot s zs n) n (at_slot F.slot n zs) o → OutsAt F.next F.slot F.is_out s zs (ns ++ n ∷ []) (os ++ o ∷ [])
  outs_more s [] os n o h k = subst (λ (l : List O). OutsAt F.next F.slot F.is_out s zs (n ∷ []) (l ++ o ∷ [])) (sym h) (k, refl)
  outs_more s (m ∷ ns) [] n o h k = absurd h
  outs_more s (m ∷ ns) (p ∷ os) n o h k = (h.0, outs_more s ns os n o h.1 k)

  underway_more : (parts : List (Part S I)) (gone : List ℕ) (m : ℕ) (left : List ℕ) (walks vs : List (Left S O)) (run : List S) (outs told : List O) (state : S) (out : O) → Rises F.cmp F.key zs → Clear parts
      → Underway parts gone (m ∷ left) walks run outs → IsNext parts gone m left walks → AreAfter parts m vs told → IsJoin F.merged (left_states vs) state → IsJoin F.both told out → Underway parts (gone ++ m ∷ []) left vs (run ++ state ∷ []) (outs ++ out ∷ [])
  underway_more parts gone m left walks vs run outs told state out r c u n a js jo =
      record {
        n = suc m;
        cut = append_assoc gone (m ∷ []) left ∙ n.cut;
        past = all_append (λ j. j < suc m) gone (m ∷ []) (all_weaker (λ j. j < m) (λ j. j < suc m) (λ j h. omega (arith, h)) gone n.past) (omega arith, tt);
        ahead = all_weaker (λ j. m < j) (λ j. suc m ≤ j) (λ j h. omega (arith, h)) left n.ahead;
        on = a.stepped.on;
        folded = λ s i.
            let one : state ≡ after F.next F.slot s zs m =
            one_join F.merged (states_after F.next F.slot parts m) state (after F.next F.slot s zs m) (subst (λ (l : List S). IsJoin F.merged l state) a.states js) (all_states F L zs s parts r i c m n.full) in
            (λ j. u.folded s i j ++ one j ∷ []) ∙ sym (map_more (after F.next F.slot s zs) gone m);
        told = λ s i. outs_more s gone outs m out (u.told s i) (all_outs F L zs s parts r i c m n.full told out a.stepped.told jo);
      }

  -- what the loop asks of a slot, and what it has after it
  pub may_merge : (s : S) (parts : List (Part S I)) (gone : List ℕ) (m : ℕ) (all left : List ℕ) (walks : List (Left S O)) (run : List S) (outs : List O) → Rises F.cmp F.key zs → Splits parts s → Clear parts → 2 ≤ length parts
      → Underway parts gone all walks run outs → all ≡ m ∷ left → MayMerge F.next F.is_before F.is_beside m walks
  may_merge s parts gone m all left walks run outs r i c two u e =
      let n : IsNext parts gone m left walks = comes_next s parts gone m left walks run outs r i c (subst (λ (ms : List ℕ). Underway parts gone ms walks run outs) e u) in
      record {
        before = walks_before m parts walks n.full (each_own s parts r i c) n.on;
        beside = λ vs told g. (come_after s parts gone m left walks vs told r i c n g).beside;
        several = λ vs told g. let same = (come_after s parts gone m left walks vs told r i c n g).length_same in omega (arith, same, two);
        some = λ vs told g. (come_after s parts gone m left walks vs told r i c n g).some;
      }

  pub one_slot_more : (s : S) (parts : List (Part S I)) (gone : List ℕ) (m : ℕ) (all left : List ℕ) (walks vs : List (Left S O)) (run : List S) (outs : List O) (state : S) (out : O) → Rises F.cmp F.key zs → Splits parts s → Clear parts
      → Underway parts gone all walks run outs → all ≡ m ∷ left → IsMergedSlot F.next F.merged F.both m walks vs state out → Underway parts (gone ++ m ∷ []) left vs (run ++ state ∷ []) (outs ++ out ∷ [])
  one_slot_more s parts gone m all left walks vs run outs state out r i c u e g =
      let v : Underway parts gone (m ∷ left) walks run outs = subst (λ (ms : List ℕ). Underway parts gone ms walks run outs) e u in
      let n : IsNext parts gone m left walks = comes_next s parts gone m left walks run outs r i c v in
      underway_more parts gone m left walks vs run outs g.told state out r c v n (come_after s parts gone m left walks vs g.told r i c n g.gone) g.state g.out
