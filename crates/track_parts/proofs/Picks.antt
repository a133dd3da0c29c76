-- The tracks of one part, picked one after the other.
use Rattle.std.proofs.Common.{◌≡◌, ◌∙◌, ap, sym, refl, ℕ, zero, suc, ◌+◌, ◌<◌, ◌≤◌, List, [], ◌∷◌, ◌++◌, length, drop, get_or, map, Bool, cond, arith, subst}
use Rattle.std.specs.List.{AllByRecursion}
use Rattle.std.specs.List.Sorted.{IsStrictlySortedBy}
use Rattle.std.specs.declared.cmp.Ordering.TheVariants.{Less}
use Rattle.std.proofs.lemmas.Bool.{cond_both}
use Rattle.trk_base.specs.declared.keys.Key.{Key}
use Rattle.trk_base.specs.Keys.{key_cmp}
use Rattle.track_life.specs.Tracks.{TrackState}
use Rattle.track_life.specs.Tables.{IsTable}
use Rattle.span_clusters.specs.Parts.{picked_items}

-- from index i on the element there is picked or not, and then those after it
next_pick : {X : Type 0} (f : ℕ → Bool) (ns : List ℕ) (xs : List X) (i d : ℕ) (x : X) → length ns ≡ length xs → i < length xs → x ≡ get_or xs i x
    → picked_items f (drop i ns) (drop i xs) ≡ cond (f (get_or ns i d)) (x ∷ picked_items f (drop (suc i) ns) (drop (suc i) xs)) (picked_items f (drop (suc i) ns) (drop (suc i) xs))
next_pick f [] [] i d x l lt b = absurd (omega (arith, lt))
next_pick f [] (y ∷ xs) i d x l lt b = absurd (omega (arith, l))
next_pick f (m ∷ ns) [] i d x l lt b = absurd (omega (arith, l))
next_pick {X} f (m ∷ ns) (y ∷ xs) zero d x l lt b = λ j. cond (f m) (sym b j ∷ picked_items f ns xs) (picked_items f ns xs)
next_pick f (m ∷ ns) (y ∷ xs) (suc i) d x l lt b = next_pick f ns xs i d x (omega (arith, l)) (omega (arith, lt)) b

pub next_pick_at : {X : Type 0} (f : ℕ → Bool) (ns : List ℕ) (xs : List X) (i d : ℕ) (x : X) → length ns ≡ length xs → i < length xs → x ≡ get_or xs i x
    → picked_items f (drop i ns) (drop i xs) ≡ cond (f (get_or ns i d)) (x ∷ picked_items f (drop (i + 1) ns) (drop (i + 1) xs)) (picked_items f (drop (i + 1) ns) (drop (i + 1) xs))
next_pick_at f ns xs i d x l lt b =
    let e : suc i ≡ i + 1 = omega arith in
    subst (λ j. picked_items f (drop i ns) (drop i xs) ≡ cond (f (get_or ns i d)) (x ∷ picked_items f (drop j ns) (drop j xs)) (picked_items f (drop j ns) (drop j xs))) e (next_pick f ns xs i d x l lt b)

pub drop_none : {X : Type 0} (xs : List X) → drop 0 xs ≡ xs
drop_none [] = refl
drop_none (x ∷ xs) = refl

drop_all : {X : Type 0} (xs : List X) (i : ℕ) → length xs ≤ i → drop i xs ≡ []
drop_all [] zero l = refl
drop_all [] (suc i) l = refl
drop_all (x ∷ xs) zero l = absurd (omega (arith, l))
drop_all (x ∷ xs) (suc i) l = drop_all xs i (omega (arith, l))

none_picked : {X : Type 0} (f : ℕ → Bool) (ns : List ℕ) → picked_items {I = X} f ns [] ≡ []
none_picked f [] = refl
none_picked f (n ∷ ns) = refl

pub picks_end : {X : Type 0} (f : ℕ → Bool) (ns : List ℕ) (xs : List X) (i : ℕ) → length xs ≤ i → picked_items f (drop i ns) (drop i xs) ≡ []
picks_end f ns xs i l = ap (picked_items f (drop i ns)) (drop_all xs i l) ∙ none_picked f (drop i ns)

pub snoc_length : {X : Type 0} (xs : List X) (x : X) → length (xs ++ x ∷ []) ≡ length xs + 1
snoc_length [] x = omega arith
snoc_length (y ∷ xs) x = let n = snoc_length xs x in omega (arith, n)

fewer : (f : ℕ → Bool) (ns : List ℕ) (ts : List TrackState) → length (picked_items f ns ts) ≤ length ts
fewer f [] ts = omega arith
fewer f (n ∷ ns) [] = omega arith
fewer f (n ∷ ns) (t ∷ ts) = cond_both (f n) (t ∷ picked_items f ns ts) (picked_items f ns ts) (λ l. length l ≤ length (t ∷ ts)) (λ e. omega (arith, fewer f ns ts)) (λ e. omega (arith, fewer f ns ts))

births_all : (Q : Key → Type 0) (f : ℕ → Bool) (ns : List ℕ) (ts : List TrackState) → AllByRecursion Q (map (λ t. t.birth) ts) → AllByRecursion Q (map (λ t. t.birth) (picked_items f ns ts))
births_all Q f [] ts h = tt
births_all Q f (n ∷ ns) [] h = tt
births_all Q f (n ∷ ns) (t ∷ ts) h = cond_both (f n) (t ∷ picked_items f ns ts) (picked_items f ns ts) (λ l. AllByRecursion Q (map (λ t. t.birth) l)) (λ e. (h.0, births_all Q f ns ts h.1)) (λ e. births_all Q f ns ts h.1)

births_rise : (f : ℕ → Bool) (ns : List ℕ) (ts : List TrackState) → IsStrictlySortedBy key_cmp (map (λ t. t.birth) ts) → IsStrictlySortedBy key_cmp (map (λ t. t.birth) (picked_items f ns ts))
unfolding IsStrictlySortedBy
births_rise f [] ts h = tt
births_rise f (n ∷ ns) [] h = tt
births_rise f (n ∷ ns) (t ∷ ts) h =
    cond_both (f n) (t ∷ picked_items f ns ts) (picked_items f ns ts) (λ l. IsStrictlySortedBy key_cmp (map (λ t. t.birth) l)) (λ e. (births_all (λ b. key_cmp t.birth b ≡ Less) f ns ts h.0, births_rise f ns ts h.1)) (λ e. births_rise f ns ts h.1)

-- what is picked of a table is one
pub picked_table : (f : ℕ → Bool) (ns : List ℕ) (ts : List TrackState) → IsTable ts → IsTable (picked_items f ns ts)
picked_table f ns ts h = record { births = births_rise f ns ts h.births; fewer = omega (arith, fewer f ns ts, h.fewer) }
