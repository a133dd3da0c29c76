-- The first free number on the line is the first that is tried and isn't held.
use Rattle.std.proofs.Common.{◌≡◌, ◌∙◌, refl, sym, ap, subst, inl, inr, ℕ, zero, suc, ◌+◌, ◌-◌, ◌%◌, ◌<◌, ◌≤◌, Bool, true, false, cond, List, ◌++◌, Option, Some, None, arith}
use Rattle.std.specs.Prelude.{not}
use Rattle.std.specs.Option.{option_or}
use Rattle.std.specs.List.{find, range_with_len}
use Rattle.std.proofs.lemmas.Bool.{cases_lt}
use Rattle.std.proofs.lemmas.List.Folds.{find-append}
use Rattle.track_life.specs.Numbers.{is_among, tried, first_free}
use Rattle.track_life.specs.HeldNumbers.{IsNextFree, IsFirstFree}

clash : (b : Bool) → b ≡ true → b ≡ false → ⊥
clash b e d = cc

found : (held : ℕ → Bool) (a k n : ℕ) → a ≤ n → n < a + k → ((m : ℕ) → a ≤ m → m < n → held m ≡ true) → held n ≡ false → find (λ m. not (held m)) (range_with_len a k) ≡ Some n
found held a zero n le lt h e = absurd (omega (arith, le, lt))
found held a (suc k) n le lt h e =
    elim (cases_lt a n) [
      | inl below ↦ ap (λ c. cond (not c) (Some a) (find (λ m. not (held m)) (range_with_len (a + 1) k))) (h a (omega arith) below) ∙ found held (a + 1) k n (omega (arith, below)) (omega (arith, lt)) (λ m ge. h m (omega (arith, ge))) e
      | inr ge ↦
          let same : n ≡ a = omega (arith, ge, le) in
          ap (λ c. cond (not c) (Some a) (find (λ m. not (held m)) (range_with_len (a + 1) k))) (subst (λ x. held x ≡ false) same e) ∙ ap Some (sym same)
    ]

none_found : (held : ℕ → Bool) (a k : ℕ) → ((m : ℕ) → a ≤ m → m < a + k → held m ≡ true) → find (λ m. not (held m)) (range_with_len a k) ≡ None
none_found held a zero h = refl
none_found held a (suc k) h =
    ap (λ c. cond (not c) (Some a) (find (λ m. not (held m)) (range_with_len (a + 1) k))) (h a (omega arith) (omega arith)) ∙ none_found held (a + 1) k (λ m ge lt. h m (omega (arith, ge)) (omega (arith, lt)))

-- where the first part of the order has a free number, and where it has none
found_first : (held : ℕ → Bool) (xs ys : List ℕ) (n : ℕ) → find (λ m. not (held m)) xs ≡ Some n → find (λ m. not (held m)) (xs ++ ys) ≡ Some n
found_first held xs ys n e = find-append (λ m. not (held m)) xs ys ∙ ap (λ r. option_or r (find (λ m. not (held m)) ys)) e

found_after : (held : ℕ → Bool) (xs ys : List ℕ) (r : Option ℕ) → find (λ m. not (held m)) xs ≡ None → find (λ m. not (held m)) ys ≡ r → find (λ m. not (held m)) (xs ++ ys) ≡ r
found_after held xs ys r e d = find-append (λ m. not (held m)) xs ys ∙ ap (λ q. option_or q (find (λ m. not (held m)) ys)) e ∙ d

-- no number of the first part is free
none_first : (held : ℕ → Bool) (x first : ℕ) → x < 65535 → IsNextFree held (1 + x) first → 65535 < first → find (λ m. not (held m)) (range_with_len (1 + x) (65535 - x)) ≡ None
none_first held x first lt h far = none_found held (1 + x) (65535 - x) (λ m ge below. h.over m ge (omega (arith, below, far, lt)))

module _ (numbers : List ℕ) (arrival : ℕ) (n : ℕ) (h : IsFirstFree (is_among numbers) (1 + arrival % 65535) n) where
  small : arrival % 65535 < 65535
  small = omega arith

  pub free_is : n ≤ 65535 → first_free numbers arrival ≡ Some n
  unfolding tried
  free_is le =
      let held = is_among numbers in
      let x = arrival % 65535 in
      elim (cases_lt 65535 h.first) [
        | inl far ↦
            let again = h.again far in
            let before : n < 1 + x = elim (cases_lt n (1 + x)) [
              | inl lt ↦ lt
              | inr ge ↦ absurd (clash (held n) (h.next.over n ge (omega (arith, le, far))) (again.free le))
            ] in
            found_after held (range_with_len (1 + x) (65535 - x)) (range_with_len 1 x) (Some n) (none_first held x h.first small h.next far) (found held 1 x n again.above before again.over (again.free le))
        | inr near ↦
            let same = h.here near in
            found_first held (range_with_len (1 + x) (65535 - x)) (range_with_len 1 x) n
            (found held (1 + x) (65535 - x) n (omega (arith, h.next.above, same)) (omega (arith, le, small)) (λ m ge below. h.next.over m ge (omega (arith, below, same))) (subst (λ m. held m ≡ false) (sym same) (h.next.free near)))
      ]

  pub none_is : 65535 < n → first_free numbers arrival ≡ None
  unfolding tried
  none_is lt =
      let held = is_among numbers in
      let x = arrival % 65535 in
      let far : 65535 < h.first = elim (cases_lt 65535 h.first) [
        | inl far ↦ far
        | inr near ↦ let same = h.here near in absurd (omega (arith, lt, near, same))
      ] in
      found_after held (range_with_len (1 + x) (65535 - x)) (range_with_len 1 x) None (none_first held x h.first small h.next far) (none_found held 1 x (λ m ge below. (h.again far).over m ge (omega (arith, below, lt, small))))
