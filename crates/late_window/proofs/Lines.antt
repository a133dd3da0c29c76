-- What a window keeps to, while its line moves.
use Rattle.std.proofs.Common.{◌≡◌, ◌∙◌, ap, sym, refl, subst, ℕ, zero, suc, ◌+◌, ◌≤◌, ◌<◌, List, [], ◌∷◌, ◌++◌, Bool, true, false, eqb, ltb, leb, length, take, drop, map, append-nil, min, arith, inl, inr}
use Rattle.std.specs.Prelude.{filter, not, ◌&&◌, ◌||◌, None}
use Rattle.std.specs.List.{AllByRecursion, AllWithin, list_any}
use Rattle.std.specs.List.Sorted.{IsNonDecreasingBy}
use Rattle.std.specs.declared.cmp.Ordering.{Ordering}
use Rattle.std.specs.declared.cmp.Ordering.TheVariants.{Less}
use Rattle.std.proofs.lemmas.Bool.{eqb-true, eq-eqb, ne_eqb, cond_both, le-leb, lt-leb, lt-ltb, le-ltb, cases_lt}
use Rattle.std.proofs.lemmas.List.{map-append, length-map}
use Rattle.late_window.specs.Folding.{Rises, InSlot, at_slot, below, from, stepped, before, after, with_slot, slots, states, BeforeFirst, AreOutsOf, latest}
use Rattle.late_window.specs.Windows.{Seen, folded, state_of, is_folded, dirty_items, dirty_slots, first, IsWindow}
use Rattle.late_window.proofs.Groups.{SlotsRise, slots_rise}
use Rattle.late_window.proofs.Lists.{all_weaker, all_both, filter_all, filter_none, filter_same, filter_append, filter_passing, filter_keeps, take_left, drop_left, map_take, map_drop, point_is}
use Rattle.late_window.proofs.Orders.{non_decreasing, slots_fall_not, map_rise, rises_filter}
use Rattle.late_window.proofs.Cuts

module _ {S I O K : Type 0} (next : S → ℕ → List I → S) (is_out : S → ℕ → List I → O → Type 0) (slot : I → ℕ) (cmp : I → I → Ordering) (key : I → K) (is_before : S → ℕ → Type 0) where
  abbrev pub Is : Seen S I O → ℕ → Type 0
  Is w line = IsWindow next is_out slot cmp key is_before w line

  -- the same items, with other slots folded
  abbrev pub told : Seen S I O → List O
  told w = map (λ o. o.1) w.outs

  -- A slot is folded where an item below the line is of it

  with_any : (p : ℕ → Bool) (n : ℕ) (ms : List ℕ) → list_any p ms ≡ true → list_any p (with_slot n ms) ≡ true
  with_any p n [] h = cc
  with_any p n (m ∷ ms) h = cond_both (eqb n m) (m ∷ ms) (n ∷ m ∷ ms) (λ l. list_any p l ≡ true) (λ e. h) (λ e. elim (p n) as (λ b. (b || list_any p (m ∷ ms)) ≡ true) [ true ↦ refl | false ↦ h ])

  with_own : (n : ℕ) (ms : List ℕ) → list_any (λ m. eqb m n) (with_slot n ms) ≡ true
  with_own n [] = rw (eq-eqb n n refl) refl
  with_own n (m ∷ ms) = cond_both (eqb n m) (m ∷ ms) (n ∷ m ∷ ms) (λ l. list_any (λ k. eqb k n) l ≡ true) (λ e. rw (eq-eqb m n (sym (eqb-true n m e))) refl) (λ e. rw (eq-eqb n n refl) refl)

  own_slots : (xs : List I) → AllByRecursion (λ x. list_any (λ m. eqb m (slot x)) (slots slot xs) ≡ true) xs
  unfolding slots
  own_slots [] = tt
  own_slots (x ∷ xs) = (with_own (slot x) (slots slot xs), all_weaker (λ y. list_any (λ m. eqb m (slot y)) (slots slot xs) ≡ true) (λ y. list_any (λ m. eqb m (slot y)) (with_slot (slot x) (slots slot xs)) ≡ true) (λ y h. with_any (λ m. eqb m (slot y)) (slot x) (slots slot xs) h) xs (own_slots xs))

  none_any : (n y : ℕ) (ms : List ℕ) → AllByRecursion (λ m. m < n) ms → n ≤ y → list_any (λ m. eqb m y) ms ≡ false
  none_any n y [] h le = refl
  none_any n y (m ∷ ms) h le = rw (ne_eqb m y (λ e. omega (arith, e, le, h.0))) (none_any n y ms h.1 le)

  not_and : (a b : Bool) → b ≡ true → (a && not b) ≡ false
  not_and true b e = ap not e
  not_and false b e = refl

  and_not : (a b : Bool) → b ≡ false → (a && not b) ≡ a
  and_not true b e = ap not e
  and_not false b e = refl

  pub rise_of : ((x y : I) → cmp x y ≡ Less → slot x ≤ slot y) → (w : Seen S I O) (line : ℕ) → Is w line → SlotsRise slot w.items
  rise_of in_order w line k = slots_rise cmp key slot in_order w.items k.rise

  -- what isn't folded stands from the line on
  pub dirty_is : (w : Seen S I O) (line upto : ℕ) → SlotsRise slot w.items → Is w line → dirty_items slot w upto ≡ below slot upto (from slot line w.items)
  dirty_is w line upto r k =
      let lows = below slot line w.items in
      let highs = from slot line w.items in
      let test = λ (x : I). ltb (slot x) upto && not (is_folded w (slot x)) in
      let known : AllByRecursion (λ x. test x ≡ false) lows =
      all_weaker (λ x. list_any (λ m. eqb m (slot x)) (slots slot lows) ≡ true) (λ x. test x ≡ false)
      (λ x h. not_and (ltb (slot x) upto) (is_folded w (slot x)) (ap (λ l. list_any (λ m. eqb m (slot x)) l) k.folded ∙ h)) lows (own_slots lows) in
      let new : AllByRecursion (λ x. test x ≡ ltb (slot x) upto) highs =
      all_weaker (λ x. line ≤ slot x) (λ x. test x ≡ ltb (slot x) upto)
      (λ x h. and_not (ltb (slot x) upto) (is_folded w (slot x)) (ap (λ l. list_any (λ m. eqb m (slot x)) l) k.folded ∙ none_any line (slot x) (slots slot lows) (Cuts.slots_all slot (λ m. m < line) lows (Cuts.below_lt slot line w.items)) h)) highs (Cuts.from_le slot line w.items) in
      ap (filter test) (Cuts.cut_at slot line w.items r) ∙ filter_append test lows highs ∙ (λ i. filter_none test lows known i ++ filter_same test (λ x. ltb (slot x) upto) highs new i)

  -- the last state is the one before the line
  pub state_is : (w : Seen S I O) (line : ℕ) → SlotsRise slot w.items → Is w line → state_of w ≡ before next slot w.base (below slot line w.items) line
  state_is w line r k =
      ap (latest w.base) k.states ∙ Cuts.latest_states slot next is_out w.base line (below slot line w.items) (Cuts.below_rise slot line w.items r) (Cuts.below_lt slot line w.items)

  -- the folded slots rise
  pub folded_rise : (w : Seen S I O) (line : ℕ) → SlotsRise slot w.items → Is w line → IsNonDecreasingBy (λ o. o.0) w.outs
  folded_rise w line r k =
      non_decreasing (λ o. o.0) w.outs (map_rise (λ o. o.0) w.outs (subst (SlotsRise (λ n. n)) (sym k.folded) (slots_fall_not slot (below slot line w.items) (Cuts.below_rise slot line w.items r))))

  -- States that may take a step

  stepped_is : (stays : (s : S) (a b : ℕ) → a ≤ b → is_before s a → is_before s b) (goes : (s : S) (n : ℕ) (items : List I) → InSlot slot n items → Rises cmp key items → is_before s n → is_before (next s n items) (n + 1))
      → (s : S) (n : ℕ) (g : List I) → InSlot slot n g → Rises cmp key g → is_before s n → is_before (stepped next s n g) (suc n)
  stepped_is stays goes s n [] i r b = stays s n (suc n) (omega arith) b
  stepped_is stays goes s n (x ∷ g) i r b = stays (next s n (x ∷ g)) (n + 1) (suc n) (omega arith) (goes s n (x ∷ g) i r b)

  pub before_is : (stays : (s : S) (a b : ℕ) → a ≤ b → is_before s a → is_before s b) (goes : (s : S) (n : ℕ) (items : List I) → InSlot slot n items → Rises cmp key items → is_before s n → is_before (next s n items) (n + 1))
      → (s : S) (low n : ℕ) (xs : List I) → is_before s low → AllByRecursion (λ x. low ≤ slot x) xs → Rises cmp key xs → low ≤ n → is_before (before next slot s xs n) n
  unfolding before
  before_is stays goes s low zero xs b h r le = stays s low 0 (omega (arith, le)) b
  before_is stays goes s low (suc n) xs b h r le = elim (cases_lt n low) [
    | inl lt ↦
        let none = Cuts.before_none slot next is_out s (suc n) xs (all_weaker (λ x. low ≤ slot x) (λ x. suc n ≤ slot x) (λ x k. omega (arith, k, lt)) xs h) in
        subst (λ t. is_before t (suc n)) (sym none) (stays s low (suc n) le b)
    | inr ge ↦
        stepped_is stays goes (before next slot s xs n) n (at_slot slot n xs)
        (all_weaker (λ x. eqb (slot x) n ≡ true) (λ x. slot x ≡ n) (λ x t. eqb-true (slot x) n t) (at_slot slot n xs) (filter_passing (λ x. eqb (slot x) n) xs))
        (rises_filter cmp key (λ x. eqb (slot x) n) xs r) (before_is stays goes s low n xs b h r ge)
  ]

  first_is : (stays : (s : S) (a b : ℕ) → a ≤ b → is_before s a → is_before s b) → (s : S) (n : ℕ) (xs : List I) → is_before s n → AllByRecursion (λ x. n ≤ slot x) xs → BeforeFirst is_before slot s xs
  first_is stays s n [] b h = tt
  first_is stays s n (x ∷ xs) b h = stays s n (slot x) h.0 b

  -- the last state may take the first step that is left
  pub span_before : (stays : (s : S) (a b : ℕ) → a ≤ b → is_before s a → is_before s b) (goes : (s : S) (n : ℕ) (items : List I) → InSlot slot n items → Rises cmp key items → is_before s n → is_before (next s n items) (n + 1))
      → (w : Seen S I O) (line upto : ℕ) → SlotsRise slot w.items → Is w line → BeforeFirst is_before slot (state_of w) (dirty_items slot w upto)
  span_before stays goes w line upto r k =
      let lows = below slot line w.items in
      let b : is_before (before next slot w.base lows line) line =
      before_is stays goes w.base w.low line lows k.before (filter_keeps (λ x. w.low ≤ slot x) (λ x. ltb (slot x) line) w.items k.low) (rises_filter cmp key (λ x. ltb (slot x) line) w.items k.rise) k.line_low in
      rw (dirty_is w line upto r k, state_is w line r k)
      (first_is stays (before next slot w.base lows line) line (below slot upto (from slot line w.items)) b (filter_keeps (λ x. line ≤ slot x) (λ x. ltb (slot x) upto) (from slot line w.items) (Cuts.from_le slot line w.items)))

  pub span_rises : (w : Seen S I O) (line upto : ℕ) → Is w line → Rises cmp key (dirty_items slot w upto)
  span_rises w line upto k = rises_filter cmp key (λ x. ltb (slot x) upto && not (is_folded w (slot x))) w.items k.rise

  -- More slots are folded

  pub placed : (w : Seen S I O) (line upto : ℕ) (more : List S) (outs : List (ℕ × O)) → SlotsRise slot w.items → Is w line → w.upto ≤ upto
      → more ≡ states next slot (state_of w) (dirty_items slot w upto) → map (λ o. o.0) outs ≡ slots slot (dirty_items slot w upto) → AreOutsOf next slot is_out (state_of w) (dirty_items slot w upto) (map (λ o. o.1) outs)
      → Is (record { base = w.base; items = w.items; states = w.states ++ more; outs = w.outs ++ outs; low = w.low; upto = upto }) upto
  placed w line upto more outs r k le made named given =
      let lows = below slot line w.items in
      let span = below slot upto (from slot line w.items) in
      let c : Cuts.AreCut slot line lows span = record { low = Cuts.below_lt slot line w.items; high = filter_keeps (λ x. line ≤ slot x) (λ x. ltb (slot x) upto) (from slot line w.items) (Cuts.from_le slot line w.items) } in
      let all : below slot upto w.items ≡ lows ++ span =
      ap (below slot upto) (Cuts.cut_at slot line w.items r) ∙ filter_append (λ x. ltb (slot x) upto) lows (from slot line w.items)
      ∙ ap (λ l. l ++ span) (Cuts.below_all slot upto lows (all_weaker (λ x. slot x < line) (λ x. slot x < upto) (λ x lt. omega (arith, lt, k.line_upto, le)) lows (Cuts.below_lt slot line w.items))) in
      let span_is = dirty_is w line upto r k in
      let start = before next slot w.base lows line in
      let start_is = state_is w line r k in
      record {
        rise = k.rise;
        low = k.low;
        before = k.before;
        line_low = omega (arith, k.line_low, k.line_upto, le);
        line_upto = omega arith;
        folded = map-append (λ o. o.0) w.outs outs ∙ (λ i. k.folded i ++ (named ∙ ap (slots slot) span_is) i) ∙ sym (Cuts.slots_cut slot line lows span c) ∙ sym (ap (slots slot) all);
        states = (λ i. k.states i ++ (made ∙ (λ j. states next slot (start_is j) (span_is j))) i) ∙ sym (Cuts.states_cut slot next is_out w.base line lows span c) ∙ sym (ap (states next slot w.base) all);
        outs =
            subst (λ (l : List O). AreOutsOf next slot is_out w.base (below slot upto w.items) l) (sym (map-append (λ o. o.1) w.outs outs))
            (subst (λ (l : List I). AreOutsOf next slot is_out w.base l (told w ++ map (λ o. o.1) outs)) (sym all)
            (Cuts.outs_cut slot next is_out w.base line lows span (told w) (map (λ o. o.1) outs) c k.outs
            (subst (λ (l : List I). AreOutsOf next slot is_out start l (map (λ o. o.1) outs)) span_is (subst (λ s. AreOutsOf next slot is_out s (dirty_items slot w upto) (map (λ o. o.1) outs)) start_is given))));
      }

  -- Fewer slots are folded

  -- two lines, the folded items of which are those below the lower, then the others
  pub line_cut : (line lower : ℕ) (xs : List I) → SlotsRise slot xs → lower ≤ line → below slot line xs ≡ below slot lower xs ++ from slot lower (below slot line xs)
  line_cut line lower xs r le = Cuts.cut_at slot lower (below slot line xs) (Cuts.below_rise slot line xs r) ∙ ap (λ l. l ++ from slot lower (below slot line xs)) (Cuts.below_below slot lower line xs le)

  pub line_are_cut : (line lower : ℕ) (xs : List I) → Cuts.AreCut slot lower (below slot lower xs) (from slot lower (below slot line xs))
  line_are_cut line lower xs = record { low = Cuts.below_lt slot lower xs; high = Cuts.from_le slot lower (below slot line xs) }

  pub line_slots : (line lower : ℕ) (xs : List I) → SlotsRise slot xs → lower ≤ line → slots slot (below slot line xs) ≡ slots slot (below slot lower xs) ++ slots slot (from slot lower (below slot line xs))
  line_slots line lower xs r le = ap (slots slot) (line_cut line lower xs r le) ∙ Cuts.slots_cut slot lower (below slot lower xs) (from slot lower (below slot line xs)) (line_are_cut line lower xs)

  -- where slots from n on are dropped, the line falls to n, if it was higher
  pub kept_count : (w : Seen S I O) (line lower n k : ℕ) → SlotsRise slot w.items → Is w line → lower ≤ line → lower ≤ n → (lower < line → n ≤ lower)
      → k ≤ length w.outs → AllWithin (λ o. o.0 < n) w.outs 0 k → AllWithin (λ o. n ≤ o.0) w.outs k (length w.outs) → k ≡ length (slots slot (below slot lower w.items))
  kept_count w line lower n k r is le low high within h g =
      let rest = from slot lower (below slot line w.items) in
      point_is (λ o. o.0) n k w.outs (slots slot (below slot lower w.items)) (slots slot rest) (is.folded ∙ line_slots line lower w.items r le)
      (Cuts.slots_all slot (λ m. m < n) (below slot lower w.items) (all_weaker (λ x. slot x < lower) (λ x. slot x < n) (λ x lt. omega (arith, lt, low)) (below slot lower w.items) (Cuts.below_lt slot lower w.items)))
      (Cuts.slots_all slot (λ m. n ≤ m) rest (all_weaker (λ x. (lower ≤ slot x) × (slot x < line)) (λ x. n ≤ slot x) (λ x b. (let up : n ≤ lower = high (omega (arith, b.0, b.1)) in omega (arith, up, b.0))) rest
      (all_both (λ x. lower ≤ slot x) (λ x. slot x < line) rest (Cuts.from_le slot lower (below slot line w.items)) (filter_keeps (λ x. slot x < line) (λ x. leb lower (slot x)) (below slot line w.items) (Cuts.below_lt slot line w.items)))))
      within h g

  pub states_long : (s : S) (xs : List I) → length (states next slot s xs) ≡ length (slots slot xs)
  states_long s xs = length-map (slots slot xs) (after next slot s xs)

  pub reopened : (w : Seen S I O) (line lower k : ℕ) (items : List I) → SlotsRise slot w.items → Is w line → lower ≤ line → w.low ≤ lower
      → Rises cmp key items → AllByRecursion (λ x. w.low ≤ slot x) items → below slot lower items ≡ below slot lower w.items → k ≡ length (slots slot (below slot lower w.items))
      → Is (record { base = w.base; items = items; states = take k w.states; outs = take k w.outs; low = w.low; upto = w.upto }) lower
  reopened w line lower k items r is le low rises lows same count =
      let kept = below slot lower w.items in
      let rest = from slot lower (below slot line w.items) in
      let c = line_are_cut line lower w.items in
      let all = line_cut line lower w.items r le in
      record {
        rise = rises;
        low = lows;
        before = is.before;
        line_low = low;
        line_upto = omega (arith, le, is.line_upto);
        folded = map_take (λ o. o.0) k w.outs ∙ (λ i. take (count i) ((is.folded ∙ line_slots line lower w.items r le) i)) ∙ take_left (slots slot kept) (slots slot rest) ∙ sym (ap (slots slot) same);
        states =
            (λ i. take ((count ∙ sym (states_long w.base kept)) i) ((is.states ∙ ap (states next slot w.base) all ∙ Cuts.states_cut slot next is_out w.base lower kept rest c) i))
            ∙ take_left (states next slot w.base kept) (states next slot (before next slot w.base kept lower) rest) ∙ sym (ap (states next slot w.base) same);
        outs =
            subst (λ (l : List I). AreOutsOf next slot is_out w.base l (map (λ o. o.1) (take k w.outs))) (sym same)
            (subst (λ (l : List O). AreOutsOf next slot is_out w.base kept l) (sym (map_take (λ o. o.1) k w.outs ∙ ap (λ n. take n (told w)) count))
            (Cuts.outs_uncut slot next is_out w.base lower kept rest (told w) c (subst (λ (l : List I). AreOutsOf next slot is_out w.base l (told w)) all is.outs)).0);
      }

  -- the folded slots that are kept are those below n
  pub reopened_folded : (w : Seen S I O) (line lower n k : ℕ) → SlotsRise slot w.items → Is w line → lower ≤ line → lower ≤ n → (lower < line → n ≤ lower) → k ≡ length (slots slot (below slot lower w.items))
      → map (λ o. o.0) (take k w.outs) ≡ filter (λ m. ltb m n) (folded w)
  reopened_folded w line lower n k r is le low high count =
      let kept = slots slot (below slot lower w.items) in
      let rest = from slot lower (below slot line w.items) in
      let all : folded w ≡ kept ++ slots slot rest = is.folded ∙ line_slots line lower w.items r le in
      let passing : AllByRecursion (λ m. ltb m n ≡ true) kept =
      Cuts.slots_all slot (λ m. ltb m n ≡ true) (below slot lower w.items) (all_weaker (λ x. slot x < lower) (λ x. ltb (slot x) n ≡ true) (λ x lt. lt-ltb (slot x) n (omega (arith, lt, low))) (below slot lower w.items) (Cuts.below_lt slot lower w.items)) in
      let failing : AllByRecursion (λ m. ltb m n ≡ false) (slots slot rest) =
      Cuts.slots_all slot (λ m. ltb m n ≡ false) rest (all_weaker (λ x. (lower ≤ slot x) × (slot x < line)) (λ x. ltb (slot x) n ≡ false) (λ x b. le-ltb (slot x) n (let up : n ≤ lower = high (omega (arith, b.0, b.1)) in omega (arith, up, b.0))) rest
      (all_both (λ x. lower ≤ slot x) (λ x. slot x < line) rest (Cuts.from_le slot lower (below slot line w.items)) (filter_keeps (λ x. slot x < line) (λ x. leb lower (slot x)) (below slot line w.items) (Cuts.below_lt slot line w.items)))) in
      map_take (λ o. o.0) k w.outs ∙ (λ i. take (count i) (all i)) ∙ take_left kept (slots slot rest)
      ∙ sym (ap (filter (λ m. ltb m n)) all ∙ filter_append (λ m. ltb m n) kept (slots slot rest) ∙ (λ i. filter_all (λ m. ltb m n) kept passing i ++ filter_none (λ m. ltb m n) (slots slot rest) failing i) ∙ append-nil kept)

  -- Where nothing is left to fold, the line may stand at the last `upto`
  pub raised : (w : Seen S I O) (line : ℕ) → SlotsRise slot w.items → Is w line → dirty_items slot w w.upto ≡ [] → Is w w.upto
  raised w line r k none =
      let lows = below slot line w.items in
      let span = below slot w.upto (from slot line w.items) in
      let all : below slot w.upto w.items ≡ lows =
      ap (below slot w.upto) (Cuts.cut_at slot line w.items r) ∙ filter_append (λ x. ltb (slot x) w.upto) lows (from slot line w.items)
      ∙ (λ i. Cuts.below_all slot w.upto lows (all_weaker (λ x. slot x < line) (λ x. slot x < w.upto) (λ x lt. omega (arith, lt, k.line_upto)) lows (Cuts.below_lt slot line w.items)) i ++ (sym (dirty_is w line w.upto r k) ∙ none) i) ∙ append-nil lows in
      record {
        rise = k.rise;
        low = k.low;
        before = k.before;
        line_low = omega (arith, k.line_low, k.line_upto);
        line_upto = omega arith;
        folded = k.folded ∙ sym (ap (slots slot) all);
        states = k.states ∙ sym (ap (states next slot w.base) all);
        outs = subst (λ (l : List I). AreOutsOf next slot is_out w.base l (told w)) (sym all) k.outs;
      }

  no_slots : (xs : List I) → first (slots slot xs) ≡ None → xs ≡ []
  unfolding slots
  no_slots [] e = refl
  no_slots (x ∷ xs) e = absurd (some (slot x) (slots slot xs) e)
    where
      some : (n : ℕ) (ms : List ℕ) → first (with_slot n ms) ≡ None → ⊥
      some n [] e = cc
      some n (m ∷ ms) e = cond_both (eqb n m) (m ∷ ms) (n ∷ m ∷ ms) (λ l. first l ≡ None → ⊥) (λ t f. cc) (λ t f. cc) e

  pub nothing_dirty : (w : Seen S I O) (upto : ℕ) → first (dirty_slots slot w upto) ≡ None → dirty_items slot w upto ≡ []
  nothing_dirty w upto e = no_slots (dirty_items slot w upto) e

  -- below the line nothing is left to fold
  pub settled_is : (w : Seen S I O) (upto : ℕ) → SlotsRise slot w.items → Is w upto → first (dirty_slots slot w upto) ≡ None
  unfolding slots
  settled_is w upto r k = ap (λ l. first (slots slot l)) (dirty_is w upto upto r k ∙ Cuts.below_none slot upto (from slot upto w.items) (Cuts.from_le slot upto w.items))

  pub fresh : (s : S) (low : ℕ) → is_before s low → Is (record { base = s; items = []; states = []; outs = []; low = low; upto = low }) low
  unfolding slots
  fresh s low b = record { rise = tt; low = tt; before = b; line_low = omega arith; line_upto = omega arith; folded = refl; states = refl; outs = refl }

  -- The base moves on to a slot below which all is folded

  pub closed_base : (w : Seen S I O) (low k : ℕ) → SlotsRise slot w.items → Is w w.upto → low ≤ w.upto → k ≡ length (slots slot (below slot low w.items)) → latest w.base (take k w.states) ≡ before next slot w.base (below slot low w.items) low
  closed_base w low k r is le count =
      let gone = below slot low w.items in
      let kept = from slot low (below slot w.upto w.items) in
      let c = line_are_cut w.upto low w.items in
      let parts : w.states ≡ states next slot w.base gone ++ states next slot (before next slot w.base gone low) kept =
      is.states ∙ ap (states next slot w.base) (line_cut w.upto low w.items r le) ∙ Cuts.states_cut slot next is_out w.base low gone kept c in
      let long : k ≡ length (states next slot w.base gone) = count ∙ sym (states_long w.base gone) in
      ap (latest w.base) ((λ i. take (long i) (parts i)) ∙ take_left (states next slot w.base gone) (states next slot (before next slot w.base gone low) kept))
      ∙ Cuts.latest_states slot next is_out w.base low gone (Cuts.below_rise slot low w.items r) (Cuts.below_lt slot low w.items)

  pub closed_folded : (w : Seen S I O) (low k : ℕ) → SlotsRise slot w.items → Is w w.upto → low ≤ w.upto → k ≡ length (slots slot (below slot low w.items)) → map (λ o. o.0) (drop k w.outs) ≡ filter (λ n. leb low n) (folded w)
  closed_folded w low k r is le count =
      let gone = slots slot (below slot low w.items) in
      let rest = from slot low (below slot w.upto w.items) in
      let all : folded w ≡ gone ++ slots slot rest = is.folded ∙ line_slots w.upto low w.items r le in
      let failing : AllByRecursion (λ m. leb low m ≡ false) gone =
      Cuts.slots_all slot (λ m. leb low m ≡ false) (below slot low w.items) (all_weaker (λ x. slot x < low) (λ x. leb low (slot x) ≡ false) (λ x lt. lt-leb low (slot x) lt) (below slot low w.items) (Cuts.below_lt slot low w.items)) in
      let passing : AllByRecursion (λ m. leb low m ≡ true) (slots slot rest) =
      Cuts.slots_all slot (λ m. leb low m ≡ true) rest (all_weaker (λ x. low ≤ slot x) (λ x. leb low (slot x) ≡ true) (λ x h. le-leb low (slot x) h) rest (Cuts.from_le slot low (below slot w.upto w.items))) in
      map_drop (λ o. o.0) k w.outs ∙ (λ i. drop (count i) (all i)) ∙ drop_left gone (slots slot rest)
      ∙ sym (ap (filter (λ m. leb low m)) all ∙ filter_append (λ m. leb low m) gone (slots slot rest) ∙ (λ i. filter_none (λ m. leb low m) gone failing i ++ filter_all (λ m. leb low m) (slots slot rest) passing i))

  pub closed : (stays : (s : S) (a b : ℕ) → a ≤ b → is_before s a → is_before s b) (goes : (s : S) (n : ℕ) (items : List I) → InSlot slot n items → Rises cmp key items → is_before s n → is_before (next s n items) (n + 1))
      → (w : Seen S I O) (low k : ℕ) → SlotsRise slot w.items → Is w w.upto → w.low ≤ low → low ≤ w.upto → k ≡ length (slots slot (below slot low w.items))
      → Is (record { base = latest w.base (take k w.states); items = from slot low w.items; states = drop k w.states; outs = drop k w.outs; low = low; upto = w.upto }) w.upto
  closed stays goes w low k r is up le count =
      let gone = below slot low w.items in
      let kept = from slot low (below slot w.upto w.items) in
      let c = line_are_cut w.upto low w.items in
      let all = line_cut w.upto low w.items r le in
      let base = before next slot w.base gone low in
      let base_is : latest w.base (take k w.states) ≡ base = closed_base w low k r is le count in
      let parts : w.states ≡ states next slot w.base gone ++ states next slot base kept = is.states ∙ ap (states next slot w.base) all ∙ Cuts.states_cut slot next is_out w.base low gone kept c in
      let long : k ≡ length (states next slot w.base gone) = count ∙ sym (states_long w.base gone) in
      let same : below slot w.upto (from slot low w.items) ≡ kept = Cuts.below_from slot low w.upto w.items in
      record {
        rise = rises_filter cmp key (λ x. leb low (slot x)) w.items is.rise;
        low = Cuts.from_le slot low w.items;
        before = subst (λ s. is_before s low) (sym base_is) (before_is stays goes w.base w.low low gone is.before (filter_keeps (λ x. w.low ≤ slot x) (λ x. ltb (slot x) low) w.items is.low) (rises_filter cmp key (λ x. ltb (slot x) low) w.items is.rise) up);
        line_low = le;
        line_upto = omega arith;
        folded = map_drop (λ o. o.0) k w.outs ∙ (λ i. drop (count i) ((is.folded ∙ line_slots w.upto low w.items r le) i)) ∙ drop_left (slots slot gone) (slots slot kept) ∙ sym (ap (slots slot) same);
        states = (λ i. drop (long i) (parts i)) ∙ drop_left (states next slot w.base gone) (states next slot base kept) ∙ sym (λ i. states next slot (base_is i) (same i));
        outs =
            subst (λ s. AreOutsOf next slot is_out s (below slot w.upto (from slot low w.items)) (map (λ o. o.1) (drop k w.outs))) (sym base_is)
            (subst (λ (l : List I). AreOutsOf next slot is_out base l (map (λ o. o.1) (drop k w.outs))) (sym same)
            (subst (λ (l : List O). AreOutsOf next slot is_out base kept l) (sym (map_drop (λ o. o.1) k w.outs ∙ ap (λ n. drop n (told w)) count))
            (Cuts.outs_uncut slot next is_out w.base low gone kept (told w) c (subst (λ (l : List I). AreOutsOf next slot is_out w.base l (told w)) all is.outs)).1));
      }

-- windows that show the same
pub seen_same : {S I O : Type 0} {b b' : S} {is is' : List I} {ss ss' : List S} {os os' : List (ℕ × O)} (low upto : ℕ) → b ≡ b' → is ≡ is' → ss ≡ ss' → os ≡ os'
    → ◌≡◌ {A = Seen S I O} (record { base = b; items = is; states = ss; outs = os; low = low; upto = upto }) (record { base = b'; items = is'; states = ss'; outs = os'; low = low; upto = upto })
seen_same low upto e f g h i = record { base = e i; items = f i; states = g i; outs = h i; low = low; upto = upto }

-- the lower of two slots
pub lower_is : (line n l : ℕ) → l ≡ min line n → (l ≤ line) × (l ≤ n) × ((low : ℕ) → low ≤ line → low ≤ n → low ≤ l) × (l < line → n ≤ l)
lower_is line n l e = (omega (arith, e), omega (arith, e), λ low a b. omega (arith, e, a, b), λ lt. omega (arith, e, lt))
