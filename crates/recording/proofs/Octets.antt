-- Numbers in octets: each list of so many octets is that of one number.
use Rattle.std.proofs.Common.{◌≡◌, ◌∙◌, ap, sym, refl, ℕ, ◌+◌, ◌*◌, ◌/◌, ◌%◌, ◌^◌, ◌<◌, List, [], ◌∷◌, ◌++◌, length, take, drop, arith, ℤ}
use Rattle.std.specs.Prelude.{FitsSigned}
use Rattle.std.specs.Int.{w16, cast_signed, cast_unsigned}
use Rattle.std.proofs.Math.Facts.{Fits-lt-pow, Fits-of_lt, Fits-of_z, sfits_to_z}
use Rattle.std.proofs.lemmas.Int.{to_z-of_z, of_z-to_z}
use Rattle.std.proofs.lemmas.List.{take_at, drop_at}
use Rattle.asterix_frame.specs.Values.{big_endian}
use Rattle.recording.specs.Biases.{signed_octets}

pub five_octets : (a b c d e : ℕ) → a < 256 → b < 256 → c < 256 → d < 256 → e < 256 → (n : ℕ) × (n < 2 ^ 40) × (big_endian 5 n ≡ a ∷ b ∷ c ∷ d ∷ e ∷ [])
five_octets a b c d e ha hb hc hd he =
    let n = 4294967296 * a + 16777216 * b + 65536 * c + 256 * d + e in
    let ea : n / 4294967296 % 256 ≡ a = omega arith in
    let eb : n / 16777216 % 256 ≡ b = omega arith in
    let ec : n / 65536 % 256 ≡ c = omega arith in
    let ed : n / 256 % 256 ≡ d = omega arith in
    let ee : n % 256 ≡ e = omega arith in
    (n, omega arith, (λ i. ea i ∷ eb i ∷ ec i ∷ ed i ∷ ee i ∷ []))

pub two_octets : (a b : ℕ) → a < 256 → b < 256 → (n : ℕ) × (n < 2 ^ 16) × (big_endian 2 n ≡ a ∷ b ∷ [])
two_octets a b ha hb =
    let n = 256 * a + b in
    let ea : n / 256 % 256 ≡ a = omega arith in
    let eb : n % 256 ≡ b = omega arith in
    (n, omega arith, (λ i. ea i ∷ eb i ∷ []))

pub signed_number : (a b : ℕ) → a < 256 → b < 256 → (z : ℤ) × FitsSigned w16 z × (signed_octets z ≡ a ∷ b ∷ [])
signed_number a b ha hb =
    let n = two_octets a b ha hb in
    (cast_signed w16 n.0, sfits_to_z (Fits-of_lt n.1), ap (big_endian 2) (of_z-to_z w16 n.0 n.1) ∙ n.2)

-- lists that go on from prefixes of one length
pub split_same : (a b s t : List ℕ) → length a ≡ length b → a ++ s ≡ b ++ t → (a ≡ b) × (s ≡ t)
split_same a b s t l e = (
  sym (take_at a s (length a) refl) ∙ ap (take (length a)) e ∙ take_at b t (length a) (sym l),
  sym (drop_at a s (length a) refl) ∙ ap (drop (length a)) e ∙ drop_at b t (length a) (sym l),
)

pub two : (a b c d : ℕ) (x y : List ℕ) → a ∷ b ∷ x ≡ c ∷ d ∷ y → (a ≡ c) × (b ≡ d) × (x ≡ y)
two a b c d x y e = (cc, cc, cc)

five : (a b c d e a' b' c' d' e' : ℕ) (x y : List ℕ) → a ∷ b ∷ c ∷ d ∷ e ∷ x ≡ a' ∷ b' ∷ c' ∷ d' ∷ e' ∷ y → (a ≡ a') × (b ≡ b') × (c ≡ c') × (d ≡ d') × (e ≡ e') × (x ≡ y)
five a b c d e a' b' c' d' e' x y h = (cc, cc, cc, cc, cc, cc)

pub five_same : (m n : ℕ) (x y : List ℕ) → m < 2 ^ 40 → n < 2 ^ 40 → big_endian 5 m ++ x ≡ big_endian 5 n ++ y → (m ≡ n) × (x ≡ y)
five_same m n x y hm hn e =
    let p = five _ _ _ _ _ _ _ _ _ _ x y e in
    (omega (arith, p.0, p.1, p.2, p.3, p.4), p.5)

pub two_same : (m n : ℕ) (x y : List ℕ) → m < 2 ^ 16 → n < 2 ^ 16 → big_endian 2 m ++ x ≡ big_endian 2 n ++ y → (m ≡ n) × (x ≡ y)
two_same m n x y hm hn e =
    let p = two _ _ _ _ x y e in
    (omega (arith, p.0, p.1), p.2)

pub signed_same : (z y : ℤ) (r t : List ℕ) → FitsSigned w16 z → FitsSigned w16 y → signed_octets z ++ r ≡ signed_octets y ++ t → (z ≡ y) × (r ≡ t)
signed_same z y r t fz fy e =
    let p = two_same (cast_unsigned w16 z) (cast_unsigned w16 y) r t (Fits-lt-pow (Fits-of_z fz)) (Fits-lt-pow (Fits-of_z fy)) e in
    (sym (to_z-of_z w16 z fz) ∙ ap (cast_signed w16) p.0 ∙ to_z-of_z w16 y fy, p.1)

pub tail_same : (a b : ℕ) (x y : List ℕ) → a ∷ x ≡ b ∷ y → (a ≡ b) × (x ≡ y)
tail_same a b x y e = (cc, cc)
