-- Lists in rising number.
use Rattle.std.proofs.Common.{◌≡◌, ◌∙◌, ap, refl, ℕ, ◌<◌, ◌≤◌, List, [], ◌∷◌, ◌++◌, nat_lt}
use Rattle.std.specs.List.{AllByRecursion}
use Rattle.std.proofs.lemmas.Bool.{cond_both, lt-ltb, le-ltb}
use Rattle.edition_form.specs.Numbered.{put, in_rising_number}

module _ {X : Type 0} (number : X → ℕ) where
  pub all_put : (P : X → Type 0) (x : X) (ys : List X) → P x → AllByRecursion P ys → AllByRecursion P (put number x ys)
  all_put P x [] h hs = (h, tt)
  all_put P x (y ∷ ys) h hs =
      cond_both (nat_lt (number y) (number x)) (y ∷ put number x ys) (x ∷ y ∷ ys) (AllByRecursion P) (λ e. (hs.0, all_put P x ys h hs.1)) (λ e. (h, hs))

  pub all_rising : (P : X → Type 0) (xs : List X) → AllByRecursion P xs → AllByRecursion P (in_rising_number number xs)
  all_rising P [] h = tt
  all_rising P (x ∷ xs) h = all_put P x (in_rising_number number xs) h.0 (all_rising P xs h.1)

  -- what has no greater number than the others stays first
  pub put_lowest : (x : X) (ys : List X) → AllByRecursion (λ y. number x ≤ number y) ys → put number x ys ≡ x ∷ ys
  put_lowest x [] h = refl
  put_lowest x (y ∷ ys) h = rw (le-ltb (number y) (number x) h.0) refl

  pub first_lowest : (x : X) (xs : List X) → AllByRecursion (λ y. number x ≤ number y) xs → in_rising_number number (x ∷ xs) ≡ x ∷ in_rising_number number xs
  first_lowest x xs h = put_lowest x (in_rising_number number xs) (all_rising (λ y. number x ≤ number y) xs h)

  put_past : (x y : X) (ys : List X) → number y < number x → put number x (y ∷ ys) ≡ y ∷ put number x ys
  put_past x y ys h = rw (lt-ltb (number y) (number x) h) refl

  -- and what has a lower one than all before it comes first
  pub middle_lowest : (es : List X) (x : X) (ns : List X) → AllByRecursion (λ e. number x < number e) es → AllByRecursion (λ n. number x ≤ number n) ns
      → in_rising_number number (es ++ x ∷ ns) ≡ x ∷ in_rising_number number (es ++ ns)
  middle_lowest [] x ns h k = first_lowest x ns k
  middle_lowest (e ∷ es) x ns h k = ap (put number e) (middle_lowest es x ns h.1 k) ∙ put_past e x (in_rising_number number (es ++ ns)) h.0
