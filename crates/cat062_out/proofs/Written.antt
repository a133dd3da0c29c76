-- What is written in the octets of an item is read of them.
use Rattle.std.proofs.Common.{◌≡◌, ◌∙◌, ap, refl, ℕ, ◌+◌, ◌*◌, ◌^◌, ◌/◌, ◌%◌, ◌<◌, ◌≤◌, Bool, true, false, ◌==◌, List, [], ◌∷◌, ◌++◌, arith, Option, Some, None, ℤ}
use Rattle.std.specs.Prelude.{FitsSigned, if◌then◌else◌, nat_lt, is_some, ◌||◌}
use Rattle.std.specs.Int.{w16, byte_at}
use Rattle.std.specs.Option.{ForSome, option_map, unwrap_or}
use Rattle.std.proofs.lemmas.Bool.{lt-ltb}
use Rattle.trk_base.specs.Numbers.{day}
use Rattle.trk_base.specs.Ranges.{IsTimeOfDay, IsCode, IsAddress}
use Rattle.asterix_frame.specs.Values.{big_endian, from_two, from_three, three_octets, signed, has_bit}
use Rattle.asterix_frame.specs.Encoding.{bit, field_octet, field_of, compound_of}
use Rattle.asterix_frame.specs.Elements.{Element}
use Rattle.cat062_out.specs.Tracks.{TrackLine, IsPosition}
use Rattle.cat062_out.specs.TrackRecords.{where_known, complement, two_signed, three_signed, is_old, address_octets, status_octets, ages_octets, accuracy_octets}
use Rattle.cat062_out.specs.Reading.{time_in_day, number_of, position_of, velocity_of, in_code, code_of, address_of, level_of, status_bit, ages_of, accuracy_of}

-- ---- numbers

signed_16 : (z : ℤ) → FitsSigned w16 z → signed 16 (complement 16 z) ≡ z
signed_16 z h = grind arith

signed_24 : (z : ℤ) → IsPosition z → signed 24 (complement 24 z) ≡ z
signed_24 z h = grind arith

complement_16 : (z : ℤ) → FitsSigned w16 z → complement 16 z < 2 ^ 16
complement_16 z h = grind arith

complement_24 : (z : ℤ) → IsPosition z → complement 24 z < 2 ^ 24
complement_24 z h = grind arith

two_back : (n : ℕ) → n < 2 ^ 16 → from_two (byte_at 1 n) (byte_at 0 n) ≡ n
two_back n h = omega arith

three_back : (n : ℕ) → n < 2 ^ 24 → from_three (byte_at 2 n) (byte_at 1 n) (byte_at 0 n) ≡ n
three_back n h = omega arith

back_16 : (z : ℤ) → FitsSigned w16 z → signed 16 (from_two (byte_at 1 (complement 16 z)) (byte_at 0 (complement 16 z))) ≡ z
back_16 z h = ap (signed 16) (two_back (complement 16 z) (complement_16 z h)) ∙ signed_16 z h

back_24 : (z : ℤ) → IsPosition z → signed 24 (from_three (byte_at 2 (complement 24 z)) (byte_at 1 (complement 24 z)) (byte_at 0 (complement 24 z))) ≡ z
back_24 z h = ap (signed 24) (three_back (complement 24 z) (complement_24 z h)) ∙ signed_24 z h

pub number_back : (n : ℕ) → n < 2 ^ 16 → number_of (big_endian 2 n) ≡ n
number_back n h = two_back n h

pub time_back : (tod : ℕ) → IsTimeOfDay tod → time_in_day (three_octets (big_endian 3 tod)) ≡ tod
time_back tod h =
    let same = three_back tod (omega (arith, h)) in
    ap (λ n. if nat_lt n day then n else 0) same ∙ ap (λ (b : Bool). if b then tod else 0) (lt-ltb tod day h)

pub position_back : (x y : ℤ) → IsPosition x → IsPosition y → position_of (three_signed x ++ three_signed y) ≡ (x, y)
position_back x y hx hy = λ i. (back_24 x hx i, back_24 y hy i)

pub velocity_back : (x y : ℤ) → FitsSigned w16 x → FitsSigned w16 y → velocity_of (two_signed x ++ two_signed y) ≡ (x, y)
velocity_back x y hx hy = λ i. (back_16 x hx i, back_16 y hy i)

-- ---- items that are there only where their value is known

pub code_back : (code : Option ℕ) → IsCode code → code_of (unwrap_or (option_map (λ c. big_endian 2 c) code) []) ≡ code
code_back None h = refl
code_back (Some c) h =
    let small : c < 4096 = h c refl in
    ap in_code (two_back c (omega (arith, small))) ∙ ap (λ (b : Bool). if b then Some c else None) (lt-ltb c 4096 small)

pub level_back : (level : Option ℤ) → ForSome level (λ z. FitsSigned w16 z) → level_of (unwrap_or (option_map two_signed level) []) ≡ level
level_back None h = refl
level_back (Some z) h = ap Some (back_16 z (h z refl))

pub address_back : (address : Option ℕ) → IsAddress address → address_of (unwrap_or (option_map address_octets address) []) ≡ address
unfolding field_of field_octet
address_back None h = refl
address_back (Some a) h = ap Some (three_back a (h a refl))

-- ---- items of several parts

pub accuracy_back : (l : TrackLine) → l.sx < 2 ^ 16 → l.sy < 2 ^ 16 → accuracy_of (accuracy_octets l) ≡ (l.sx, l.sy)
unfolding field_of field_octet
accuracy_back l hx hy = λ i. (two_back l.sx hx i, two_back l.sy hy i)

abbrev ages_in : Option ℕ → Option ℕ → Option ℕ → List Element
ages_in psr ssr mds = where_known 2 (λ age. age ∷ []) psr ++ (where_known 3 (λ age. age ∷ []) ssr ++ where_known 4 (λ age. age ∷ []) mds)

ages_read : (psr ssr mds : Option ℕ) → (is_some psr || is_some ssr || is_some mds) ≡ true → ages_of (compound_of (ages_in psr ssr mds)) ≡ (psr, (ssr, mds))
unfolding field_of field_octet
ages_read None None None h = absurd (let e : false ≡ true = h in cc)
ages_read (Some p) None None h = refl
ages_read None (Some s) None h = refl
ages_read None None (Some m) h = refl
ages_read (Some p) (Some s) None h = refl
ages_read (Some p) None (Some m) h = refl
ages_read None (Some s) (Some m) h = refl
ages_read (Some p) (Some s) (Some m) h = refl

pub ages_back : (l : TrackLine) → (is_some l.psr || is_some l.ssr || is_some l.mds) ≡ true → ages_of (ages_octets l) ≡ (l.psr, (l.ssr, l.mds))
ages_back l h = ages_read l.psr l.ssr l.mds h

-- ---- I062/080

two_bits : (a b : Bool) → (has_bit (128 * bit a + 64 * bit b + 1) 8 ≡ a) × (has_bit (128 * bit a + 64 * bit b + 1) 7 ≡ b)
two_bits true true = (refl, refl)
two_bits true false = (refl, refl)
two_bits false true = (refl, refl)
two_bits false false = (refl, refl)

lower_bits : (a b : Bool) → (has_bit (64 * bit a + 32 * bit b + 1) 7 ≡ a) × (has_bit (64 * bit a + 32 * bit b + 1) 6 ≡ b)
lower_bits true true = (refl, refl)
lower_bits true false = (refl, refl)
lower_bits false true = (refl, refl)
lower_bits false false = (refl, refl)

bit_small : (b : Bool) → bit b ≤ 1
bit_small true = omega arith
bit_small false = omega arith

bit_one : (b : Bool) → (bit b == 1) ≡ b
bit_one true = refl
bit_one false = refl

first_bit : (a b c d : Bool) → has_bit (128 * bit a + 64 * bit b + 32 * bit c + 16 * bit d + 8) 8 ≡ a
first_bit a b c d =
    let here : (128 * bit a + 64 * bit b + 32 * bit c + 16 * bit d + 8) / 2 ^ 7 % 2 ≡ bit a = omega (arith, bit_small a, bit_small b, bit_small c, bit_small d) in
    ap (λ n. n == 1) here ∙ bit_one a

pub mono_back : (l : TrackLine) → status_bit (status_octets l) 0 8 ≡ l.mono
mono_back l = (two_bits l.mono l.spi).0

pub spi_back : (l : TrackLine) → status_bit (status_octets l) 0 7 ≡ l.spi
spi_back l = (two_bits l.mono l.spi).1

pub ended_back : (l : TrackLine) → status_bit (status_octets l) 1 7 ≡ l.ended
ended_back l = (lower_bits l.ended l.first).0

pub first_back : (l : TrackLine) → status_bit (status_octets l) 1 6 ≡ l.first
first_back l = (lower_bits l.ended l.first).1

pub coast_back : (l : TrackLine) → status_bit (status_octets l) 3 8 ≡ l.coast
coast_back l = first_bit l.coast (is_old l.psr) (is_old l.ssr) (is_old l.mds)
