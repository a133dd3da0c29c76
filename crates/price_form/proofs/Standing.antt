-- Pieces that stand in octets, one after the other; the numbers that stand there, and those that are written there.
use Rattle.std.proofs.Common.{◌≡◌, ℕ, ℤ, suc, zero, pos, negsuc, ◌+◌, ◌-◌, ◌*◌, ◌<◌, ◌≤◌, ◌^◌, List, [], ◌∷◌, ◌++◌, Option, Some, None, length, get_or, map, arith, refl, sym, ◌∙◌, ap, subst, inl, inr, length-append, cond, lit<}
use Rattle.std.specs.Int.{w16, w32, w64, to_be_bytes, from_be_bytes, cast_unsigned, cast_signed}
use Rattle.std.specs.Prelude.{FitsSigned}
use Rattle.std.specs.List.{flat_map, All, range_with_len}
use Rattle.std.proofs.lemmas.Bool.{cases_eq, cases_lt, eq-eqb, ne_eqb}
use Rattle.std.proofs.lemmas.Int.{to_z-of_z, of_z-to_z}
use Rattle.std.proofs.lemmas.Nat.{from_be_bytes-to_be_bytes_2, from_be_bytes-to_be_bytes_4, from_be_bytes-to_be_bytes_8, be_bytes_2, be_bytes_4, be_bytes_8}
use Rattle.std.proofs.lemmas.List.{get_or_append_left, get_or-append-add, get_or_past, same_lists}
use Rattle.std.proofs.lemmas.List.FromFn.{length-map-range_with_len, get_or-map-range_with_len}
use Rattle.assignment_dual.specs.Problems.{Edge}
use Rattle.price_form.specs.Octets.{price_octets, edge_octets, entry_octets, entry_number, entry_of, none_number, short_at, half_at, word_at, price_number_at, edge_numbers_at, entry_number_at, many_at}
use Rattle.price_form.specs.Reading.{Stands}

-- two pieces together
pub stands_both : {xs a b : List ℕ} {p q : ℕ} → Stands xs p a → q ≡ p + length a → Stands xs q b → Stands xs p (a ++ b)
stands_both {xs} {a} {b} {p} {q} h e k = record {
  inside = omega (arith, h.inside, k.inside, e, length-append a b);
  same = λ i lt.
      elim (cases_lt i (length a)) [
        | inl low ↦ h.same i low ∙ sym (get_or_append_left a b 0 i low)
        | inr high ↦
            let at : p + i ≡ q + (i - length a) = omega (arith, e, high) in
            let back : length a + (i - length a) ≡ i = omega (arith, high) in
            ap (λ j. get_or xs j 0) at ∙ k.same (i - length a) (omega (arith, lt, high, length-append a b)) ∙ sym (get_or-append-add a b (i - length a) 0) ∙ ap (λ j. get_or (a ++ b) j 0) back
      ];
}

pub stands_first : {xs : List ℕ} {p : ℕ} (a b : List ℕ) → Stands xs p (a ++ b) → Stands xs p a
stands_first {xs} {p} a b h = record {
  inside = omega (arith, h.inside, length-append a b);
  same = λ i lt. h.same i (omega (arith, lt, length-append a b)) ∙ get_or_append_left a b 0 i lt;
}

pub stands_second : {xs : List ℕ} {p q : ℕ} (a b : List ℕ) → q ≡ p + length a → Stands xs p (a ++ b) → Stands xs q b
stands_second {xs} {p} {q} a b e h = record {
  inside = omega (arith, h.inside, e, length-append a b);
  same = λ i lt.
      let at : q + i ≡ p + (length a + i) = omega (arith, e) in
      ap (λ j. get_or xs j 0) at ∙ h.same (length a + i) (omega (arith, lt, length-append a b)) ∙ get_or-append-add a b i 0;
}

pub stands_nil : (xs : List ℕ) (p : ℕ) → p ≤ length xs → Stands xs p []
stands_nil xs p le = record { inside = omega (arith, le); same = λ i lt. absurd (omega (arith, lt)) }

pub stands_cons : {xs bs : List ℕ} {p q b : ℕ} → get_or xs p 0 ≡ b → q ≡ p + 1 → Stands xs q bs → Stands xs p (b ∷ bs)
stands_cons {xs} {bs} {p} {q} {b} e f h = record { inside = omega (arith, h.inside, f); same = each } where
  each : (k : ℕ) → k < suc (length bs) → get_or xs (p + k) 0 ≡ get_or (b ∷ bs) k 0
  each zero lt = let at : p + 0 ≡ p = omega arith in ap (λ j. get_or xs j 0) at ∙ e
  each (suc k) lt = let at : p + suc k ≡ q + k = omega (arith, f) in ap (λ j. get_or xs j 0) at ∙ h.same k (omega (arith, lt))

pub stands_head : {xs bs : List ℕ} {p b : ℕ} → Stands xs p (b ∷ bs) → get_or xs p 0 ≡ b
stands_head {xs} {bs} {p} {b} h = let at : p ≡ p + 0 = omega arith in ap (λ j. get_or xs j 0) at ∙ h.same 0 (omega arith)

pub stands_tail : {xs bs : List ℕ} {p q b : ℕ} → q ≡ p + 1 → Stands xs p (b ∷ bs) → Stands xs q bs
stands_tail {xs} {bs} {p} {q} {b} e h = stands_second (b ∷ []) bs e h

abbrev pub AreOctets : List ℕ → Type 0
AreOctets xs = (i : ℕ) → get_or xs i 0 < 256

pub are_octets : (xs : List ℕ) → All (λ octet. octet < 256) xs → AreOctets xs
are_octets xs all i =
    elim (cases_lt i (length xs)) [
      | inl lt ↦ all i 0 lt
      | inr past ↦ omega (arith, get_or_past xs i 0 past)
    ]

-- Numbers

list2 : {a b c d : ℕ} → a ≡ c → b ≡ d → let l : List ℕ = a ∷ b ∷ [] in l ≡ c ∷ d ∷ []
list2 e f = λ j. e j ∷ f j ∷ []

list4 : {a b c d a' b' c' d' : ℕ} → a ≡ a' → b ≡ b' → c ≡ c' → d ≡ d' → let l : List ℕ = a ∷ b ∷ c ∷ d ∷ [] in l ≡ a' ∷ b' ∷ c' ∷ d' ∷ []
list4 e f g h = λ j. e j ∷ f j ∷ g j ∷ h j ∷ []

at_first : {xs bs : List ℕ} {p : ℕ} (k : ℕ) → Stands xs p bs → k < length bs → get_or xs (p + k) 0 ≡ get_or bs k 0
at_first k h lt = h.same k lt

pub short_is : {xs : List ℕ} {p n : ℕ} → n < 2 ^ 16 → Stands xs p (to_be_bytes w16 n) → short_at xs p ≡ n
short_is {xs} {p} {n} small h =
    ap (from_be_bytes w16) (λ j. stands_head h j ∷ h.same 1 (lit< tt) j ∷ []) ∙ from_be_bytes-to_be_bytes_2 n small

pub half_is : {xs : List ℕ} {p n : ℕ} → n < 2 ^ 32 → Stands xs p (to_be_bytes w32 n) → half_at xs p ≡ n
half_is {xs} {p} {n} small h =
    ap (from_be_bytes w32) (λ j. stands_head h j ∷ h.same 1 (lit< tt) j ∷ h.same 2 (lit< tt) j ∷ h.same 3 (lit< tt) j ∷ []) ∙ from_be_bytes-to_be_bytes_4 n small

pub word_is : {xs : List ℕ} {p n : ℕ} → n < 2 ^ 64 → Stands xs p (to_be_bytes w64 n) → word_at xs p ≡ n
word_is {xs} {p} {n} small h =
    ap (from_be_bytes w64)
    (λ j. stands_head h j ∷ h.same 1 (lit< tt) j ∷ h.same 2 (lit< tt) j ∷ h.same 3 (lit< tt) j ∷ h.same 4 (lit< tt) j ∷ h.same 5 (lit< tt) j ∷ h.same 6 (lit< tt) j ∷ h.same 7 (lit< tt) j ∷ [])
    ∙ from_be_bytes-to_be_bytes_8 n small

record Small (bs : List ℕ) : Type 0 where
  at : (i : ℕ) → get_or bs i 0 < 256

small : {b : ℕ} {bs : List ℕ} → b < 256 → Small bs → Small (b ∷ bs)
small {b} {bs} h k = record { at = each } where
  each : (i : ℕ) → get_or (b ∷ bs) i 0 < 256
  each zero = h
  each (suc i) = k.at i

none_small : Small []
none_small = record { at = λ i. omega arith }

pub short_stands : {xs : List ℕ} (p : ℕ) → AreOctets xs → p + 2 ≤ length xs → Stands xs p (to_be_bytes w16 (short_at xs p))
short_stands {xs} p o le =
    let bs = get_or xs p 0 ∷ get_or xs (p + 1) 0 ∷ [] in
    subst (Stands xs p) (sym (be_bytes_2 bs (short_at xs p) refl (small (o p) (small (o (p + 1)) none_small)).at refl))
    (stands_cons refl refl (stands_cons refl refl (stands_nil xs (p + 1 + 1) (omega (arith, le)))))

four_stand : (xs : List ℕ) (p : ℕ) → p + 4 ≤ length xs → Stands xs p (get_or xs p 0 ∷ get_or xs (p + 1) 0 ∷ get_or xs (p + 2) 0 ∷ get_or xs (p + 3) 0 ∷ [])
four_stand xs p le =
    stands_cons {q = p + 1} refl refl (stands_cons {q = p + 2} refl (omega arith) (stands_cons {q = p + 3} refl (omega arith) (stands_cons {q = p + 4} refl (omega arith) (stands_nil xs (p + 4) le))))

pub half_stands : {xs : List ℕ} (p : ℕ) → AreOctets xs → p + 4 ≤ length xs → Stands xs p (to_be_bytes w32 (half_at xs p))
half_stands {xs} p o le =
    let bs = get_or xs p 0 ∷ get_or xs (p + 1) 0 ∷ get_or xs (p + 2) 0 ∷ get_or xs (p + 3) 0 ∷ [] in
    subst (Stands xs p) (sym (be_bytes_4 bs (half_at xs p) refl (small (o p) (small (o (p + 1)) (small (o (p + 2)) (small (o (p + 3)) none_small)))).at refl)) (four_stand xs p le)

eight_stand : (xs : List ℕ) (p : ℕ) → p + 8 ≤ length xs
    → Stands xs p (get_or xs p 0 ∷ get_or xs (p + 1) 0 ∷ get_or xs (p + 2) 0 ∷ get_or xs (p + 3) 0 ∷ get_or xs (p + 4) 0 ∷ get_or xs (p + 5) 0 ∷ get_or xs (p + 6) 0 ∷ get_or xs (p + 7) 0 ∷ [])
eight_stand xs p le =
    stands_cons {q = p + 1} refl refl (stands_cons {q = p + 2} refl (omega arith) (stands_cons {q = p + 3} refl (omega arith) (stands_cons {q = p + 4} refl (omega arith) (stands_cons {q = p + 5} refl (omega arith) (stands_cons {q = p + 6} refl (omega arith)
    (stands_cons {q = p + 7} refl (omega arith) (stands_cons {q = p + 8} refl (omega arith) (stands_nil xs (p + 8) le))))))))

pub word_stands : {xs : List ℕ} (p : ℕ) → AreOctets xs → p + 8 ≤ length xs → Stands xs p (to_be_bytes w64 (word_at xs p))
word_stands {xs} p o le =
    let bs = get_or xs p 0 ∷ get_or xs (p + 1) 0 ∷ get_or xs (p + 2) 0 ∷ get_or xs (p + 3) 0 ∷ get_or xs (p + 4) 0 ∷ get_or xs (p + 5) 0 ∷ get_or xs (p + 6) 0 ∷ get_or xs (p + 7) 0 ∷ [] in
    subst (Stands xs p)
    (sym (be_bytes_8 bs (word_at xs p) refl (small (o p) (small (o (p + 1)) (small (o (p + 2)) (small (o (p + 3)) (small (o (p + 4)) (small (o (p + 5)) (small (o (p + 6)) (small (o (p + 7)) none_small)))))))).at refl))
    (eight_stand xs p le)

-- The items of lists

small_price : (z : ℤ) → FitsSigned w64 z → cast_unsigned w64 z < 2 ^ 64
small_price (pos n) fit = omega (arith, fit.sfits)
small_price (negsuc n) fit = omega arith

pub price_is : {xs : List ℕ} {p : ℕ} {z : ℤ} → FitsSigned w64 z → Stands xs p (price_octets z) → price_number_at xs p ≡ z
price_is {xs} {p} {z} fit h = ap (cast_signed w64) (word_is (small_price z fit) h) ∙ to_z-of_z w64 z fit

pub price_stands : {xs : List ℕ} (p : ℕ) → AreOctets xs → p + 8 ≤ length xs → word_at xs p < 2 ^ 64 → Stands xs p (price_octets (price_number_at xs p))
price_stands {xs} p o le fits = subst (λ n. Stands xs p (to_be_bytes w64 n)) (sym (of_z-to_z w64 (word_at xs p) fits)) (word_stands p o le)

pub edge_is : {xs : List ℕ} {p : ℕ} {e : Edge} → e.0 < 2 ^ 32 → e.1 < 2 ^ 32 → e.2 < 2 ^ 16 → Stands xs p (edge_octets e) → edge_numbers_at xs p ≡ e
edge_is {xs} {p} {e} a b c h =
    let first = to_be_bytes w32 e.0 in
    let second = to_be_bytes w32 e.1 in
    let third = to_be_bytes w16 e.2 in
    let rest = stands_second {q = p + 4} first (second ++ third) refl h in
    let x = half_is a (stands_first first (second ++ third) h) in
    let y = half_is b (stands_first second third rest) in
    let z = short_is c (stands_second {q = p + 8} second third (omega arith) rest) in
    λ j. (x j, y j, z j)

pub edge_stands : {xs : List ℕ} (p : ℕ) → AreOctets xs → p + 10 ≤ length xs → Stands xs p (edge_octets (edge_numbers_at xs p))
edge_stands {xs} p o le =
    stands_both {q = p + 4} (half_stands p o (omega (arith, le))) refl (stands_both {q = p + 8} (half_stands (p + 4) o (omega (arith, le))) (omega arith) (short_stands (p + 8) o (omega (arith, le))))

entry_back : (x : Option ℕ) (k : ℕ) → k < none_number → ((t : ℕ) → x ≡ Some t → t < k) → entry_of (entry_number x) ≡ x
entry_back None k small h = refl
entry_back (Some t) k small h = ap (λ b. cond b None (Some t)) (ne_eqb t none_number (λ e. omega (arith, h t refl, small, e)))

small_entry : (x : Option ℕ) (k : ℕ) → k < none_number → ((t : ℕ) → x ≡ Some t → t < k) → entry_number x < 2 ^ 32
small_entry None k small h = omega arith
small_entry (Some t) k small h = omega (arith, h t refl, small)

pub entry_is : {xs : List ℕ} {p k : ℕ} {x : Option ℕ} → k < none_number → ((t : ℕ) → x ≡ Some t → t < k) → Stands xs p (entry_octets x) → entry_number_at xs p ≡ x
entry_is {xs} {p} {k} {x} small h s = ap entry_of (half_is (small_entry x k small h) s) ∙ entry_back x k small h

number_back : (n : ℕ) → entry_number (entry_of n) ≡ n
number_back n =
    elim (cases_eq n none_number) [
      | inl e ↦ ap (λ b. entry_number (cond b None (Some n))) (eq-eqb n none_number e) ∙ sym e
      | inr ne ↦ ap (λ b. entry_number (cond b None (Some n))) (ne_eqb n none_number ne)
    ]

pub entry_stands : {xs : List ℕ} (p : ℕ) → AreOctets xs → p + 4 ≤ length xs → Stands xs p (entry_octets (entry_number_at xs p))
entry_stands {xs} p o le = subst (λ n. Stands xs p (to_be_bytes w32 n)) (sym (number_back (half_at xs p))) (half_stands p o le)

-- Lists

pub flat_length : {X : Type 0} (g : X → List ℕ) (s : ℕ) → ((x : X) → length (g x) ≡ s) → (ys : List X) → length (flat_map g ys) ≡ length ys * s
flat_length g s h [] = omega arith
flat_length g s h (y ∷ ys) = omega (arith, length-append (g y) (flat_map g ys), h y, flat_length g s h ys)

item_stands : {X : Type 0} (g : X → List ℕ) (s : ℕ) → ((x : X) → length (g x) ≡ s) → {xs : List ℕ} (ys : List X) (p : ℕ) → Stands xs p (flat_map g ys) → (i : ℕ) (d : X) → i < length ys → Stands xs (p + i * s) (g (get_or ys i d))
item_stands g s h {xs} [] p st i d lt = absurd (omega (arith, lt))
item_stands g s h {xs} (y ∷ ys) p st zero d lt = let e : p + 0 * s ≡ p = omega arith in subst (λ q. Stands xs q (g y)) (sym e) (stands_first (g y) (flat_map g ys) st)
item_stands g s h {xs} (y ∷ ys) p st (suc i) d lt =
    let e : p + s + i * s ≡ p + suc i * s = omega arith in
    subst (λ q. Stands xs q (g (get_or ys i d))) e (item_stands g s h ys (p + s) (stands_second {q = p + s} (g y) (flat_map g ys) (omega (arith, h y)) st) i d (omega (arith, lt)))

pub length-many : {X : Type 0} (r : List ℕ → ℕ → X) (s : ℕ) (xs : List ℕ) (p n : ℕ) → length (many_at r s xs p n) ≡ n
unfolding many_at
length-many r s xs p n = length-map-range_with_len (λ i. r xs (p + i * s)) 0 n

pub get-many : {X : Type 0} (r : List ℕ → ℕ → X) (s : ℕ) (xs : List ℕ) (p n i : ℕ) (d : X) → i < n → get_or (many_at r s xs p n) i d ≡ r xs (p + i * s)
unfolding many_at
get-many r s xs p n i d lt = get_or-map-range_with_len (λ k. r xs (p + k * s)) 0 n i i d lt (omega arith)

-- a list that is written is read
pub many_is : {X : Type 0} (P : X → Type 0) (g : X → List ℕ) (r : List ℕ → ℕ → X) (s : ℕ) {xs : List ℕ} → ((x : X) → length (g x) ≡ s) → ((q : ℕ) (x : X) → P x → Stands xs q (g x) → r xs q ≡ x)
    → {p n : ℕ} (ys : List X) → n ≡ length ys → All P ys → Stands xs p (flat_map g ys) → many_at r s xs p n ≡ ys
many_is P g r s {xs} sizes reads {p} {n} ys long all st =
    same_lists (many_at r s xs p n) ys (length-many r s xs p n ∙ long) (λ i d lt.
    let lt' : i < n = omega (arith, lt, length-many r s xs p n) in
    let lt'' : i < length ys = omega (arith, lt', long) in
    get-many r s xs p n i d lt' ∙ reads (p + i * s) (get_or ys i d) (all i d lt'') (item_stands g s sizes ys p st i d lt''))

mul_more : (n s : ℕ) → 0 ≤ n * s
mul_more n s = omega arith

-- and what is read stands there
range_stands : {X : Type 0} (g : X → List ℕ) (r : List ℕ → ℕ → X) (s : ℕ) {xs : List ℕ} → ((x : X) → length (g x) ≡ s) → ((q : ℕ) → q + s ≤ length xs → Stands xs q (g (r xs q)))
    → (p n a : ℕ) → p + (a + n) * s ≤ length xs → Stands xs (p + a * s) (flat_map g (map (λ i. r xs (p + i * s)) (range_with_len a n)))
range_stands g r s {xs} sizes reads p zero a le = stands_nil xs (p + a * s) (omega (arith, le))
range_stands g r s {xs} sizes reads p (suc n) a le =
    stands_both (reads (p + a * s) (omega (arith, le, mul_more n s))) (omega (arith, sizes (r xs (p + a * s)))) (range_stands g r s sizes reads p n (a + 1) (omega (arith, le)))

pub many_stands : {X : Type 0} (g : X → List ℕ) (r : List ℕ → ℕ → X) (s : ℕ) {xs : List ℕ} → ((x : X) → length (g x) ≡ s) → ((q : ℕ) → q + s ≤ length xs → Stands xs q (g (r xs q)))
    → (p n : ℕ) → p + n * s ≤ length xs → Stands xs p (flat_map g (many_at r s xs p n))
unfolding many_at
many_stands g r s {xs} sizes reads p n le =
    let e : p + 0 * s ≡ p = omega arith in
    subst (λ q. Stands xs q (flat_map g (map (λ i. r xs (p + i * s)) (range_with_len 0 n)))) e (range_stands g r s sizes reads p n 0 (omega (arith, le)))
