-- Leaps over numbers that are held, after a write.
use Rattle.std.proofs.Common.{◌≡◌, ◌≢◌, ◌∙◌, refl, sym, ap, subst, inl, inr, ℕ, ◌+◌, ◌<◌, ◌≤◌, Bool, true, false, List, [], ◌∷◌, length, get_or, set, replicate, max, arith, get_or-set_same, get_or-set_other, length-set}
use Rattle.std.specs.Prelude.{◌||◌}
use Rattle.std.proofs.lemmas.Bool.{cases_eq, cases_lt, eq-eqb, ne_eqb}
use Rattle.std.proofs.lemmas.List.{get_or-replicate, get_or_past, length-replicate}
use Rattle.track_life.specs.Numbers.{is_among}
use Rattle.track_life.specs.HeldNumbers.{AreLeaps, LeapOver}

-- what holds of each place after a write
after_set : (P : ℕ → ℕ → Type 0) (xs : List ℕ) (i v : ℕ) → i < length xs → P i v → ((n : ℕ) → n ≢ i → P n (get_or xs n 0)) → (n : ℕ) → P n (get_or (set xs i v) n 0)
after_set P xs i v lt here there n =
    elim (cases_eq n i) [
      | inl e ↦ subst (λ q. P q (get_or (set xs i v) q 0)) (sym e) (subst (P i) (sym (get_or-set_same xs i v 0 lt)) here)
      | inr ne ↦ subst (P n) (sym (get_or-set_other xs i n v 0 ne)) (there n ne)
    ]

pub leaps_set : (ls : List ℕ) (i v : ℕ) → AreLeaps ls → i ≤ 65535 → i + v ≤ 65536 → AreLeaps (set ls i v)
leaps_set ls i v l lt fits =
    let here : i < length ls = omega (arith, l.count, lt) in
    record {
      count = length-set ls i v ∙ l.count;
      inside = after_set (λ n x. n ≤ 65536 → n + x ≤ 65536) ls i v here (λ _. fits) (λ n ne. l.inside n);
    }

-- where f is a place's leap and g its leap and the next one: both together stay on the line, and go over numbers that are held
pub reached : (ls : List ℕ) (i f g : ℕ) → AreLeaps ls → i ≤ 65536 → f ≡ get_or ls i 0 → g ≡ get_or ls i 0 + get_or ls (i + f) 0 → i + g ≤ 65536
reached ls i f g l le e d =
    let one = l.inside i le in
    let two = l.inside (i + f) (omega (arith, one, e)) in
    omega (arith, two, e, d)

pub passed : (held : ℕ → Bool) (ls : List ℕ) (i f g m : ℕ) → LeapOver held ls → f ≡ get_or ls i 0 → g ≡ get_or ls i 0 + get_or ls (i + f) 0 → i ≤ m → m < i + g → held m ≡ true
passed held ls i f g m h e d le below =
    elim (cases_lt m (i + f)) [
      | inl near ↦ h.over i m le (omega (arith, near, e))
      | inr far ↦ h.over (i + f) m far (omega (arith, below, e, d))
    ]

-- the place's leap becomes both
pub leap_on : (held : ℕ → Bool) (ls : List ℕ) (i f g : ℕ) → AreLeaps ls → i ≤ 65535 → LeapOver held ls → f ≡ get_or ls i 0 → g ≡ get_or ls i 0 + get_or ls (i + f) 0 → LeapOver held (set ls i g)
leap_on held ls i f g l lt h e d =
    let here : i < length ls = omega (arith, l.count, lt) in
    record {
      over = λ n m. after_set (λ k x. k ≤ m → m < k + x → held m ≡ true) ls i g here (passed held ls i f g m h e d) (λ k ne. h.over k m) n;
      stands = after_set (λ k x. k ≤ 65535 → x ≡ 0 → held k ≡ false) ls i g here (λ le z. h.stands i le (omega (arith, z, d))) (λ k ne. h.stands k);
    }

or_right : (a b : Bool) → b ≡ true → (a || b) ≡ true
or_right true b e = refl
or_right false b e = e

or_none : (a b : Bool) → a ≡ false → b ≡ false → (a || b) ≡ false
or_none true b e f = e
or_none false b e f = f

-- one more number is held
pub one_held : (numbers ls : List ℕ) (i : ℕ) → AreLeaps ls → i ≤ 65535 → LeapOver (is_among numbers) ls → LeapOver (is_among (i ∷ numbers)) (set ls i (max (get_or ls i 0) 1))
one_held numbers ls i l lt h =
    let a = get_or ls i 0 in
    let here : i < length ls = omega (arith, l.count, lt) in
    record {
      over = λ n m. after_set (λ k x. k ≤ m → m < k + x → is_among (i ∷ numbers) m ≡ true) ls i (max a 1) here
          (λ le below. elim (cases_eq i m) [
            | inl e ↦ ap (λ c. c || is_among numbers m) (eq-eqb i m e)
            | inr ne ↦ or_right _ _ (h.over i m le (omega (arith, below, le, ne)))
          ])
          (λ k ne le below. or_right _ _ (h.over k m le below)) n;
      stands = after_set (λ k x. k ≤ 65535 → x ≡ 0 → is_among (i ∷ numbers) k ≡ false) ls i (max a 1) here
          (λ le e. absurd (omega (arith, e)))
          (λ k ne le e. or_none _ _ (ne_eqb i k (λ q. ne (sym q))) (h.stands k le e));
    }

pub leaps_one_held : (ls : List ℕ) (i : ℕ) → AreLeaps ls → i ≤ 65535 → AreLeaps (set ls i (max (get_or ls i 0) 1))
leaps_one_held ls i l lt = leaps_set ls i _ l lt (let le = l.inside i (omega (arith, lt)) in omega (arith, le, lt))

-- where no place leaps, no number is held
alike : (n z i : ℕ) → get_or (replicate n z) i z ≡ z
alike n z i = elim (cases_lt i n) [
  | inl lt ↦ get_or-replicate n i z z lt
  | inr ge ↦ get_or_past (replicate n z) i z (omega (arith, length-replicate n z, ge))
]

pub leaps_none : (ls : List ℕ) → ls ≡ replicate 65537 0 → AreLeaps ls
leaps_none ls e = record {
  count = let z : ℕ = 0 in ap length e ∙ length-replicate 65537 z;
  inside = λ n le. let z = ap (λ (xs : List ℕ). get_or xs n 0) e ∙ alike 65537 0 n in omega (arith, z, le);
}

pub none_over : (ls : List ℕ) → ls ≡ replicate 65537 0 → LeapOver (is_among []) ls
none_over ls e = record {
  over = λ n m le lt. let z = ap (λ (xs : List ℕ). get_or xs n 0) e ∙ alike 65537 0 n in absurd (omega (arith, z, le, lt));
  stands = λ n le z. refl;
}

-- the same numbers are held
pub over_same : (f g : ℕ → Bool) (ls : List ℕ) → ((n : ℕ) → f n ≡ g n) → LeapOver f ls → LeapOver g ls
over_same f g ls e h = record {
  over = λ n m le lt. sym (e m) ∙ h.over n m le lt;
  stands = λ n le z. sym (e n) ∙ h.stands n le z;
}
