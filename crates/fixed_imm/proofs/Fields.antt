-- How large the values of a model are, as the code reads them.
use Rattle.std.proofs.Common.{◌≡◌, ℕ, ◌+◌, ◌*◌, ◌≤◌, ◌^◌, ℤ, pos, ◌+ℤ◌, ◌-ℤ◌, ◌*ℤ◌, ◌≤ℤ◌, ◌<ℤ◌, arith}
use Rattle.std.specs.Int.{w64, cast_signed, cast_unsigned}
use Rattle.std.specs.Prelude.{unsigned_abs}
use Rattle.std.proofs.Math.Nat.{le_trans}
use Rattle.std.proofs.lemmas.Int.{ints, to_z_pos, unsigned_abs-mul}
use Rattle.std.proofs.lemmas.Nat.{mul-le}
use Rattle.trk_base.specs.Numbers.{IsBetween}
use Rattle.trk_base.proofs.Sizes.{Is, is_var, is_pos, is_add}
use Rattle.trk_base.proofs.Roots.{square_le}
use Rattle.fixed_imm.specs.declared.motion.Motion.{Motion}
use Rattle.fixed_imm.specs.Bounds.{IsBounded}
use Rattle.fixed_imm.proofs.Narrow.{var64, minus64, times64}

-- a number of 64 bits, as the code reads it
abbrev pub read : ℤ → ℤ
read x = cast_signed w64 (cast_unsigned w64 x)

pub size_from_range : {x : ℤ} {m : ℕ} → IsBetween (pos 1) x (pos m) → unsigned_abs x ≤ m
size_from_range {x} h = omega (arith, ints, h.from, h.to)

pub p12_size : (m : Motion) → IsBounded m → unsigned_abs m.p12 ≤ 2 ^ 46
p12_size m h =
    square_le _ _ (le_trans h.p12 (mul-le (unsigned_abs m.p11) (unsigned_abs m.p22) (2 ^ 46) (2 ^ 46) (size_from_range h.p11) (size_from_range h.p22)))

pub p_of : (m : Motion) → IsBounded m → Is (read m.p) m.p 256000000
p_of m h = var64 m.p 256000000 h.p tt

pub v_of : (m : Motion) → IsBounded m → Is (read m.v) m.v 1048576
v_of m h = var64 m.v 1048576 h.v tt

pub p11_of : (m : Motion) → IsBounded m → Is (read m.p11) m.p11 (2 ^ 46)
p11_of m h = var64 m.p11 (2 ^ 46) (size_from_range h.p11) tt

pub p12_of : (m : Motion) → IsBounded m → Is (read m.p12) m.p12 (2 ^ 46)
p12_of m h = var64 m.p12 (2 ^ 46) (p12_size m h) tt

pub p22_of : (m : Motion) → IsBounded m → Is (read m.p22) m.p22 (2 ^ 46)
p22_of m h = var64 m.p22 (2 ^ 46) (size_from_range h.p22) tt

-- how far apart two models are
pub dp_of : (a b : Motion) → IsBounded a → IsBounded b → Is (read (read a.p -ℤ read b.p)) (a.p -ℤ b.p) 512000000
dp_of a b h k = minus64 (p_of a h) (p_of b k) tt

pub dv_of : (a b : Motion) → IsBounded a → IsBounded b → Is (read (read a.v -ℤ read b.v)) (a.v -ℤ b.v) 2097152
dv_of a b h k = minus64 (v_of a h) (v_of b k) tt

-- a part in 1/65,536, and the rest
pub part_of : {g : ℤ} → IsBetween (pos 0) g (pos 65536) → Is (read g) g 65536
part_of {g} h = var64 g 65536 (omega (arith, ints, h.from, h.to)) tt

pub rest_of : {g : ℤ} → IsBetween (pos 0) g (pos 65536) → Is (read (pos 65536 -ℤ read g)) (pos 65536 -ℤ g) 65536
rest_of {g} h = record { same = (minus64 is_pos (part_of h) tt).same; within = omega (arith, ints, h.from, h.to) }

sum_size : (x y : ℤ) → unsigned_abs (x +ℤ y) ≤ unsigned_abs x + unsigned_abs y
sum_size x y = omega (arith, ints)

-- both parts together are no more than the whole of the larger number
parts_size : (g h q0 q1 : ℤ) → unsigned_abs g + unsigned_abs h ≡ 65536 → unsigned_abs q0 ≤ 2 ^ 46 → unsigned_abs q1 ≤ 2 ^ 46 → unsigned_abs (g *ℤ q0 +ℤ h *ℤ q1) ≤ 2 ^ 62
parts_size g h q0 q1 whole first second =
    let a : unsigned_abs (g *ℤ q0) ≤ unsigned_abs g * 2 ^ 46 = rw (unsigned_abs-mul g q0) (mul-le (unsigned_abs g) (unsigned_abs q0) (unsigned_abs g) (2 ^ 46) (omega arith) first) in
    let b : unsigned_abs (h *ℤ q1) ≤ unsigned_abs h * 2 ^ 46 = rw (unsigned_abs-mul h q1) (mul-le (unsigned_abs h) (unsigned_abs q1) (unsigned_abs h) (2 ^ 46) (omega arith) second) in
    omega (arith, sum_size (g *ℤ q0) (h *ℤ q1), a, b, whole)

-- two numbers by their parts, as the code adds them
pub inside_of : {g : ℤ} (q0 q1 : ℤ) → IsBetween (pos 0) g (pos 65536) → unsigned_abs q0 ≤ 2 ^ 46 → unsigned_abs q1 ≤ 2 ^ 46
    → Is (read (read g *ℤ read q0) +ℤ read (read (pos 65536 -ℤ read g) *ℤ read q1)) (g *ℤ q0 +ℤ (pos 65536 -ℤ g) *ℤ q1) (2 ^ 62)
inside_of {g} q0 q1 h first second =
    let whole : unsigned_abs g + unsigned_abs (pos 65536 -ℤ g) ≡ 65536 = omega (arith, ints, h.from, h.to) in
    record {
      same = (is_add (times64 (part_of h) (var64 q0 _ first tt) tt) (times64 (rest_of h) (var64 q1 _ second tt) tt)).same;
      within = parts_size g (pos 65536 -ℤ g) q0 q1 whole first second;
    }

-- a variance as a divisor, and as the code reads that
pub divisor_of : {s : ℤ} → IsBetween (pos 1) s (pos (2 ^ 47)) → Is (read s) s (2 ^ 47)
divisor_of {s} h = var64 s (2 ^ 47) (size_from_range h) tt

pub by_of : {s : ℤ} → pos 1 ≤ℤ s → s ≤ℤ pos (2 ^ 47) → Is s s (2 ^ 47)
by_of {s} low high = is_var (2 ^ 47) (size_from_range {x = s} (record { from = low; to = high }))

pub by_read : {s : ℤ} → pos 1 ≤ℤ s → s ≤ℤ pos (2 ^ 47) → Is (read s) s (2 ^ 47)
by_read {s} low high = divisor_of (record { from = low; to = high })

pub positive_by : {s : ℤ} → pos 1 ≤ℤ s → pos 0 <ℤ s
positive_by {s} low = omega (arith, ints, low)

-- a number without a sign, as one with one
pub unsigned_of : (n : ℕ) → n ≤ 2 ^ 46 → Is (cast_signed w64 n) (pos n) (2 ^ 46)
unsigned_of n h = record { same = to_z_pos w64 n (omega arith); within = h }
