-- The last state of a window whose folded slots are all that are filled and over.
use Rattle.std.proofs.Common.{◌≡◌, ◌∙◌, ap, sym, refl, ℕ, zero, suc, ◌+◌, ◌≤◌, ◌<◌, inl, inr, true, false, cond, eqb, List, [], ◌∷◌, length, map, arith}
use Rattle.std.specs.List.{AllByRecursion}
use Rattle.std.proofs.lemmas.Bool.{lt-ltb, le-ltb, le-leb, lt-leb, eq-eqb, ne_eqb, cases_lt, cases_order}
use Rattle.late_window.specs.Folding.{at_slot, below, from, stepped, before, after, latest}
use Rattle.admission_log.proofs.Greatest.{Has}
use Rattle.tracker_engine.proofs.Members.{Rise}

module _ {I : Type 0} (slot : I → ℕ) where
  -- those below the next slot, among those from a slot on
  pub slot_between : (n : ℕ) (xs : List I) → below slot (n + 1) (from slot n xs) ≡ at_slot slot n xs
  slot_between n [] = refl
  slot_between n (x ∷ xs) = elim (cases_order (slot x) n) [
    | inl e ↦ rw (le-leb n (slot x) (omega (arith, e)), eq-eqb (slot x) n e) (rw (lt-ltb (slot x) (n + 1) (omega (arith, e))) (ap (λ (l : List I). x ∷ l) (slot_between n xs)))
    | inr other ↦ elim other [
      | inl lt ↦ rw (lt-leb n (slot x) lt, ne_eqb (slot x) n (λ e. omega (arith, lt, e))) (slot_between n xs)
      | inr gt ↦ rw (le-leb n (slot x) (omega (arith, gt)), ne_eqb (slot x) n (λ e. omega (arith, gt, e))) (rw (le-ltb (slot x) (n + 1) (omega (arith, gt))) (slot_between n xs))
    ]
  ]

  -- a slot has the same items among those from an earlier one on
  pub slot_from : (low n : ℕ) (xs : List I) → low ≤ n → at_slot slot n (from slot low xs) ≡ at_slot slot n xs
  slot_from low n [] le = refl
  slot_from low n (x ∷ xs) le = elim (cases_lt (slot x) low) [
    | inl lt ↦ rw (lt-leb low (slot x) lt, ne_eqb (slot x) n (λ e. omega (arith, lt, e, le))) (slot_from low n xs le)
    | inr ge ↦ rw (le-leb low (slot x) ge) (elim (eqb (slot x) n) as (λ b. cond b (x ∷ at_slot slot n (from slot low xs)) (at_slot slot n (from slot low xs)) ≡ cond b (x ∷ at_slot slot n xs) (at_slot slot n xs)) [
      | true ↦ ap (λ (l : List I). x ∷ l) (slot_from low n xs le)
      | false ↦ slot_from low n xs le
    ])
  ]

  module _ {S : Type 0} (next : S → ℕ → List I → S) (s : S) (xs : List I) where
    -- the state stays where no slot is filled
    gap : (lo hi : ℕ) → lo ≤ hi → ((m : ℕ) → lo ≤ m → m < hi → at_slot slot m xs ≡ []) → before next slot s xs lo ≡ before next slot s xs hi
    unfolding before
    gap lo zero le h = let same : lo ≡ 0 = omega (arith, le) in ap (before next slot s xs) same
    gap lo (suc hi) le h = elim (cases_lt hi lo) [
      | inl lt ↦ (let same : lo ≡ suc hi = omega (arith, le, lt) in ap (before next slot s xs) same)
      | inr ge ↦ gap lo hi ge (λ m a b. h m a (omega (arith, b))) ∙ sym (ap (stepped next (before next slot s xs hi) hi) (h hi ge (omega arith)))
    ]

    after_filled : (n : ℕ) (ys : List I) → ys ≡ at_slot slot n xs → 0 < length ys → after next slot s xs n ≡ before next slot s xs (suc n)
    unfolding before after
    after_filled n [] e lt = absurd (omega (arith, lt))
    after_filled n (y ∷ ys) e lt = ap (next (before next slot s xs n) n) (sym e) ∙ ap (stepped next (before next slot s xs n) n) e

    -- a slot that may be folded: it is filled
    abbrev pub IsBetween : ℕ → ℕ → ℕ → Type 0
    IsBetween lo hi n = (lo ≤ n) × (n < hi) × (0 < length (at_slot slot n xs))

    pub latest_is : (ns : List ℕ) (lo hi : ℕ) → lo ≤ hi → Rise ns → AllByRecursion (IsBetween lo hi) ns → ((m : ℕ) → lo ≤ m → m < hi → (Has m ns → ⊥) → at_slot slot m xs ≡ [])
        → latest (before next slot s xs lo) (map (after next slot s xs) ns) ≡ before next slot s xs hi
    latest_is [] lo hi le up all empty = gap lo hi le (λ m a b. empty m a b (λ h. h))
    latest_is (n ∷ ns) lo hi le up all empty =
        ap (λ t. latest t (map (after next slot s xs) ns)) (after_filled n (at_slot slot n xs) refl all.0.2)
        ∙ latest_is ns (suc n) hi (omega (arith, all.0.1)) up.1 (later ns up.0 all.1) (λ m a b none. empty m (omega (arith, a, all.0.0)) b (λ h. others m a none h))
      where
        later : (ms : List ℕ) → AllByRecursion (λ m. n < m) ms → AllByRecursion (IsBetween lo hi) ms → AllByRecursion (IsBetween (suc n) hi) ms
        later [] h k = tt
        later (m ∷ ms) h k = ((omega (arith, h.0), k.0.1, k.0.2), later ms h.1 k.1)

        others : (m : ℕ) → suc n ≤ m → (Has m ns → ⊥) → Has m (n ∷ ns) → ⊥
        others m a none (inl e) = omega (arith, a, e)
        others m a none (inr h) = none h
