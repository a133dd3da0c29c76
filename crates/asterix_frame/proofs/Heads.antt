-- What begins a block, and what begins none.
use Rattle.std.proofs.Common.{◌≡◌, ◌∙◌, ap, sym, inl, inr, refl, zero, suc, ℕ, ◌+◌, ◌-◌, ◌*◌, ◌<◌, ◌≤◌, List, [], ◌∷◌, ◌++◌, length, get_or, take, drop, arith, length-append, length-take}
use Rattle.std.proofs.lemmas.List.{take_at, drop_at, take-append-drop}
use Rattle.std.proofs.lemmas.Nat.{be_bytes_2}
use Rattle.std.specs.Int.{w16, to_be_bytes}
use Rattle.asterix_frame.specs.Blocks.{DataBlock, IsDataBlock, BeginsNone, encoded}

pub short_at : (xs : List ℕ) → 0 < length xs → length xs < 3 → BeginsNone xs 0 1
short_at [] l h = absurd (omega arith)
short_at (a ∷ []) l h = (refl, refl)
short_at (a ∷ b ∷ []) l h = (refl, refl)
short_at (a ∷ b ∷ c ∷ rest) l h = absurd (omega arith)

pub too_small_at : (xs : List ℕ) (n : ℕ) → 3 ≤ length xs → n ≡ 256 * get_or xs 1 0 + get_or xs 2 0 → n < 3 → BeginsNone xs 1 2
too_small_at [] n l e h = absurd (omega arith)
too_small_at (a ∷ []) n l e h = absurd (omega arith)
too_small_at (a ∷ b ∷ []) n l e h = absurd (omega arith)
too_small_at (a ∷ b ∷ c ∷ rest) n l e h = (refl, refl, inl (omega arith))

pub too_far_at : (xs : List ℕ) (n : ℕ) → 3 ≤ length xs → n ≡ 256 * get_or xs 1 0 + get_or xs 2 0 → length xs < n → BeginsNone xs 1 2
too_far_at [] n l e h = absurd (omega arith)
too_far_at (a ∷ []) n l e h = absurd (omega arith)
too_far_at (a ∷ b ∷ []) n l e h = absurd (omega arith)
too_far_at (a ∷ b ∷ c ∷ rest) n l e h = (refl, refl, inr (omega arith))

-- it is told at one offset, with one cause
pub same_fault : (xs : List ℕ) (i c j d : ℕ) → BeginsNone xs i c → BeginsNone xs j d → (i ≡ j) × (c ≡ d)
same_fault [] i c j d f g = absurd f
same_fault (x ∷ []) i c j d f g = (f.0 ∙ sym g.0, f.1 ∙ sym g.1)
same_fault (x ∷ y ∷ []) i c j d f g = (f.0 ∙ sym g.0, f.1 ∙ sym g.1)
same_fault (x ∷ y ∷ z ∷ rest) i c j d f g = (f.0 ∙ sym g.0, f.1 ∙ sym g.1)

-- a block begins with its octets
pub begins_block : (b : DataBlock) (r : List ℕ) (inside cause : ℕ) → IsDataBlock b → BeginsNone (encoded b ++ r) inside cause → ⊥
begins_block b r inside cause fits none =
    elim none.2 [ inl small ↦ omega (arith, small) | inr far ↦ omega (arith, far, length-append b.body r) ]

three : (a b c d e f : ℕ) (xs ys : List ℕ) → a ∷ b ∷ c ∷ xs ≡ d ∷ e ∷ f ∷ ys → (a ≡ d) × (b ≡ e) × (c ≡ f) × (xs ≡ ys)
three a b c d e f xs ys h = (cc, cc, cc, cc)

pub split_same : (a b s t : List ℕ) → length a ≡ length b → a ++ s ≡ b ++ t → (a ≡ b) × (s ≡ t)
split_same a b s t l e = (
  sym (take_at a s (length a) refl) ∙ ap (take (length a)) e ∙ take_at b t (length a) (sym l),
  sym (drop_at a s (length a) refl) ∙ ap (drop (length a)) e ∙ drop_at b t (length a) (sym l),
)

-- and only with its own
pub same_block : (x y : DataBlock) (r t : List ℕ) → IsDataBlock x → IsDataBlock y → encoded x ++ r ≡ encoded y ++ t → (x ≡ y) × (r ≡ t)
same_block x y r t hx hy e =
    let elements = three _ _ _ _ _ _ (x.body ++ r) (y.body ++ t) e in
    let long : length x.body ≡ length y.body = omega (arith, elements.1, elements.2) in
    let rest = split_same x.body y.body r t long elements.3 in
    (λ i. record { category = elements.0 i; body = rest.0 i }, rest.1)

pub two_octets : (high low : ℕ) → high < 256 → low < 256 → to_be_bytes w16 (256 * high + low) ≡ high ∷ low ∷ []
two_octets high low h l = be_bytes_2 (high ∷ low ∷ []) (256 * high + low) refl below (omega arith) where
  below : (i : ℕ) → get_or (high ∷ low ∷ []) i 0 < 256
  below zero = h
  below (suc zero) = l
  below (suc (suc i)) = omega arith

-- a head whose length is within the octets begins a block
pub head_at : (xs : List ℕ) (n : ℕ) → 3 ≤ length xs → n ≡ 256 * get_or xs 1 0 + get_or xs 2 0 → get_or xs 1 0 < 256 → get_or xs 2 0 < 256 → 3 ≤ n → n ≤ length xs
    → xs ≡ encoded (record { category = get_or xs 0 0; body = take (n - 3) (drop 3 xs) }) ++ drop n xs
head_at [] n l e h1 h2 big near = absurd (omega arith)
head_at (a ∷ []) n l e h1 h2 big near = absurd (omega arith)
head_at (a ∷ b ∷ []) n l e h1 h2 big near = absurd (omega arith)
head_at (a ∷ b ∷ c ∷ rest) n l e h1 h2 big near =
    let len : length (take (n - 3) rest) + 3 ≡ 256 * b + c = omega (arith, length-take (n - 3) rest) in
    let head : to_be_bytes w16 (length (take (n - 3) rest) + 3) ≡ b ∷ c ∷ [] = ap (to_be_bytes w16) len ∙ two_octets b c h1 h2 in
    let n-is : n ≡ suc (suc (suc (n - 3))) = omega arith in
    let next : drop n (a ∷ b ∷ c ∷ rest) ≡ drop (n - 3) rest = ap (λ k. drop k (a ∷ b ∷ c ∷ rest)) n-is in
    sym (ap (λ (t : List ℕ). a ∷ (t ++ take (n - 3) rest ++ drop n (a ∷ b ∷ c ∷ rest))) head
    ∙ ap (λ (t : List ℕ). a ∷ b ∷ c ∷ (take (n - 3) rest ++ t)) next
    ∙ ap (λ (t : List ℕ). a ∷ b ∷ c ∷ t) (take-append-drop (n - 3) rest))
