-- The entries of events, one event after the other.
use Rattle.std.proofs.Common.{◌≡◌, ◌∙◌, ap, refl, ℕ, suc, ◌+◌, ◌<◌, ◌≤◌, List, [], ◌∷◌, ◌++◌, length, arith, append-nil}
use Rattle.std.specs.List.{flat_map, enumerate_from}
use Rattle.std.proofs.lemmas.Grind.{flat_map-append}
use Rattle.std.proofs.lemmas.Cmp.{ranked}
use Rattle.std.specs.Ordering.{nat_cmp, ordering_then, MatchOrdering}
use Rattle.std.specs.declared.cmp.Ordering.{Ordering}
use Rattle.std.specs.declared.cmp.Ordering.TheVariants.{Less, Equal, Greater}
use Rattle.admission_log.specs.declared.entries.Entry.{Entry}
use Rattle.admission_log.specs.Entries.{slot_in}
use Rattle.admission_log.specs.EntryOrder.{entry_cmp, within_slot_cmp}

-- one more element has the next index
enumerate-more : {X : Type 0} (n : ℕ) (xs : List X) (x : X) → enumerate_from n (xs ++ x ∷ []) ≡ enumerate_from n xs ++ (n + length xs, x) ∷ []
enumerate-more n [] x =
    let none : n ≡ n + 0 = omega arith in
    λ i. (none i, x) ∷ []
enumerate-more n (y ∷ xs) x =
    let more : n + 1 + length xs ≡ n + suc (length xs) = omega arith in
    ap (λ t. (n, y) ∷ t) (enumerate-more (n + 1) xs x ∙ ap (λ k. enumerate_from (n + 1) xs ++ (k, x) ∷ []) more)

-- .. so what each gives by its index grows by what that one gives
pub flat_map-more : {X Y : Type 0} (f : ℕ → X → List Y) (xs : List X) (x : X) → flat_map (λ at. f at.0 at.1) (enumerate_from 0 (xs ++ x ∷ [])) ≡ flat_map (λ at. f at.0 at.1) (enumerate_from 0 xs) ++ f (length xs) x
flat_map-more {X} {Y} f xs x =
    let g : ℕ × X → List Y = λ at. f at.0 at.1 in
    let none : 0 + length xs ≡ length xs = omega arith in
    ap (flat_map g) (enumerate-more 0 xs x ∙ ap (λ k. enumerate_from 0 xs ++ (k, x) ∷ []) none)
    ∙ flat_map-append g (enumerate_from 0 xs) ((length xs, x) ∷ []) ∙ ap (λ t. flat_map g (enumerate_from 0 xs) ++ t) (append-nil (f (length xs) x))

-- ---- the order of entries compares their slots first

rising : (o rest : Ordering) (x y : ℕ) → MatchOrdering o (x < y) (x ≡ y) (y < x) → ordering_then o rest ≡ Less → x ≤ y
rising Less rest x y m h = omega (arith, m)
rising Equal rest x y m h = omega (arith, m)
rising Greater rest x y m h = absurd (cc)

pub slots_rise : (a b : Entry) → entry_cmp a b ≡ Less → slot_in a ≤ slot_in b
slots_rise a b h = rising (nat_cmp (slot_in a) (slot_in b)) (within_slot_cmp a b) (slot_in a) (slot_in b) (ranked (slot_in a) (slot_in b) (nat_cmp (slot_in a) (slot_in b)) refl) h

first_less : (o rest : Ordering) (x y : ℕ) → MatchOrdering o (x < y) (x ≡ y) (y < x) → x < y → ordering_then o rest ≡ Less
first_less Less rest x y m h = refl
first_less Equal rest x y m h = absurd (omega (arith, m, h))
first_less Greater rest x y m h = absurd (omega (arith, m, h))

pub slot_first : (a b : Entry) → slot_in a < slot_in b → entry_cmp a b ≡ Less
slot_first a b h = first_less (nat_cmp (slot_in a) (slot_in b)) (within_slot_cmp a b) (slot_in a) (slot_in b) (ranked (slot_in a) (slot_in b) (nat_cmp (slot_in a) (slot_in b)) refl) h
