-- Where both models together may be at most: between both positions, and as far beyond as the faster velocity carries.
use Rattle.std.proofs.Common.{◌≡◌, ◌∙◌, ℕ, ◌+◌, ◌*◌, ◌/◌, ◌<◌, ◌≤◌, max, ℤ, pos, neg_ℤ, ◌+ℤ◌, ◌-ℤ◌, ◌*ℤ◌, ◌≤ℤ◌, arith, subst, sym}
use Rattle.std.specs.Prelude.{unsigned_abs}
use Rattle.std.specs.Int.{int_min, int_max, w64, cast_signed}
use Rattle.std.proofs.Math.Nat.{le-max_left, le-max_right, max-le}
use Rattle.std.proofs.lemmas.Int.{ints, clamps, to_z_pos, unsigned_abs-mul}
use Rattle.std.proofs.lemmas.Nat.{mul-le}
use Rattle.trk_base.specs.Numbers.{clamp, round, IsBetween}
use Rattle.trk_base.proofs.Sizes.{Is, is_pos, is_add, is_sub, round_size}
use Rattle.fixed_imm.specs.declared.motion.Motion.{Motion}
use Rattle.fixed_imm.specs.Values.{AxisState}
use Rattle.fixed_imm.specs.Bounds.{bounded, IsBounded, IsAxis, IsWeights}
use Rattle.fixed_imm.specs.Mixing.{mean, mixed, overall}
use Rattle.fixed_imm.specs.Prediction.{predicted_p, predicted_motion}
use Rattle.fixed_imm.specs.Filter.{mixed_model, mixed_axis, moved, predicted, together, combined, IsExtent}
use Rattle.fixed_imm.proofs.Narrow.{plus64, narrowed}
use Rattle.fixed_imm.proofs.Fields.{read, p_of}
use Rattle.fixed_imm.proofs.Means.{mean_within, mean_between, share_part}
use Rattle.fixed_imm.proofs.Laws.{mixed_is, part_from_weights}

-- a model between two positions, no faster than speed
pub record Flies (m : Motion) (low high : ℤ) (speed : ℕ) : Type 0 where
  pub p : IsBetween low m.p high
  pub v : unsigned_abs m.v ≤ speed

-- the range of positions isn't beside the plane
pub record IsInPlane (low high : ℤ) : Type 0 where
  pub from : low ≤ℤ pos 256000000
  pub to : neg_ℤ (pos 256000000) ≤ℤ high

clamp_between : (x low high : ℤ) → IsInPlane low high → IsBetween low x high → IsBetween low (clamp x (neg_ℤ (pos 256000000)) (pos 256000000)) high
clamp_between x low high plane h = record { from = omega (arith, ints, clamps, plane.from, h.from); to = omega (arith, ints, clamps, plane.to, h.to) }

clamp_no_larger : (x : ℤ) (m n : ℕ) → unsigned_abs x ≤ n → unsigned_abs (clamp x (neg_ℤ (pos m)) (pos m)) ≤ n
clamp_no_larger x m n h = omega (arith, ints, clamps, h)

mixed_flies : (g : ℤ) (a b : Motion) (low high : ℤ) (speed : ℕ) → IsBetween (pos 0) g (pos 65536) → IsInPlane low high → Flies a low high speed → Flies b low high speed
    → Flies (mixed g a b) low high speed
unfolding mixed bounded
mixed_flies g a b low high speed part plane first second = record {
  p = clamp_between _ low high plane (mean_between g a.p b.p low high part first.p second.p);
  v = clamp_no_larger (mean g a.v b.v) 1048576 speed (mean_within g a.v b.v speed part first.v second.v);
}

-- one that starts between two positions isn't farther beside them later than its velocity carries it
moves_by : (p r low high : ℤ) (margin : ℕ) → IsBetween low p high → unsigned_abs r ≤ margin → IsBetween (low -ℤ pos margin) (p +ℤ r) (high +ℤ pos margin)
moves_by p r low high margin h small = record { from = omega (arith, ints, h.from, small); to = omega (arith, ints, h.to, small) }

wider : (low high : ℤ) (margin : ℕ) → IsInPlane low high → IsInPlane (low -ℤ pos margin) (high +ℤ pos margin)
wider low high margin h = record { from = omega (arith, ints, h.from); to = omega (arith, ints, h.to) }

carried : (v d : ℤ) (speed span : ℕ) → unsigned_abs v ≤ speed → unsigned_abs d ≤ span → unsigned_abs (round (v *ℤ d) (pos 2048)) ≤ speed * span / 2048 + 1
carried v d speed span h k =
    round_size (v *ℤ d) (speed * span) 2048 (omega arith) (rw (unsigned_abs-mul v d) (mul-le (unsigned_abs v) (unsigned_abs d) speed span h k))

predicted_flies : (q d : ℤ) (m : Motion) (low high : ℤ) (speed span : ℕ) → IsInPlane low high → Flies m low high speed → unsigned_abs d ≤ span
    → IsBetween (low -ℤ pos (speed * span / 2048 + 1)) (predicted_motion q d m).p (high +ℤ pos (speed * span / 2048 + 1))
unfolding predicted_motion predicted_p bounded
predicted_flies q d m low high speed span plane flies near =
    let margin : ℕ = speed * span / 2048 + 1 in
    clamp_between _ _ _ (wider low high margin plane) (moves_by m.p _ low high margin flies.p (carried m.v d speed span flies.v near))

-- both weights are positive, and so is what of the models goes over to either
some_weight : (w : ℕ × ℕ) → IsWeights w → 0 < 62259 * w.0 + 6554 * w.1
some_weight w h = omega (arith, h.low)

some_weight' : (w : ℕ × ℕ) → IsWeights w → 0 < 3277 * w.0 + 58982 * w.1
some_weight' w h = omega (arith, h.low)

steady_flies : (a : AxisState) (low high : ℤ) (speed : ℕ) → IsWeights a.weight → IsInPlane low high → Flies a.motion.0 low high speed → Flies a.motion.1 low high speed
    → Flies (mixed_axis a).motion.0 low high speed
unfolding mixed_axis mixed_model
steady_flies a low high speed h plane first second = mixed_flies _ _ _ low high speed (share_part _ _ (some_weight a.weight h)) plane first second

manoeuvre_flies : (a : AxisState) (low high : ℤ) (speed : ℕ) → IsWeights a.weight → IsInPlane low high → Flies a.motion.0 low high speed → Flies a.motion.1 low high speed
    → Flies (mixed_axis a).motion.1 low high speed
unfolding mixed_axis mixed_model
manoeuvre_flies a low high speed h plane first second = mixed_flies _ _ _ low high speed (share_part _ _ (some_weight' a.weight h)) plane first second

together_between : (m : AxisState) (d low high : ℤ) (speed span : ℕ) → IsWeights m.weight → IsInPlane low high → Flies m.motion.0 low high speed → Flies m.motion.1 low high speed → unsigned_abs d ≤ span
    → IsBetween (low -ℤ pos (speed * span / 2048 + 1)) (together (moved m d)).0 (high +ℤ pos (speed * span / 2048 + 1))
unfolding together overall moved
together_between m d low high speed span h plane first second near =
    mean_between _ _ _ _ _ (part_from_weights m.weight h) (predicted_flies _ d m.motion.0 low high speed span plane first near) (predicted_flies _ d m.motion.1 low high speed span plane second near)

combined_between : (a : AxisState) (d low high : ℤ) (speed span : ℕ) → IsWeights a.weight → IsInPlane low high → Flies a.motion.0 low high speed → Flies a.motion.1 low high speed → unsigned_abs d ≤ span
    → IsBetween (low -ℤ pos (speed * span / 2048 + 1)) (combined a d).0 (high +ℤ pos (speed * span / 2048 + 1))
unfolding combined predicted
combined_between a d low high speed span h plane first second near =
    together_between (mixed_axis a) d low high speed span (mixed_is a).weight plane (steady_flies a low high speed h plane first second) (manoeuvre_flies a low high speed h plane first second) near

span_of : (d span : ℤ) → pos (unsigned_abs d) ≤ℤ span → unsigned_abs d ≤ unsigned_abs span
span_of d span h = omega (arith, ints, h)

-- so an extent is the range of both positions, widened by what the faster velocity makes of the time
extent_is : (a : AxisState) (low high span : ℤ) (speed : ℕ) → IsWeights a.weight → IsInPlane low high → Flies a.motion.0 low high speed → Flies a.motion.1 low high speed
    → IsExtent a span (low -ℤ pos (speed * unsigned_abs span / 2048 + 1), high +ℤ pos (speed * unsigned_abs span / 2048 + 1))
extent_is a low high span speed h plane first second = record {
  least = λ d step near. (combined_between a d low high speed (unsigned_abs span) h plane first second (span_of d span near)).from;
  greatest = λ d step near. (combined_between a d low high speed (unsigned_abs span) h plane first second (span_of d span near)).to;
}

-- the range of both positions, and the greater of both speeds
abbrev pub speed_of : Motion → Motion → ℕ
speed_of m n = max (unsigned_abs m.v) (unsigned_abs n.v)

in_plane : (x y : ℤ) → unsigned_abs x ≤ 256000000 → IsInPlane (int_min x y) (int_max x y)
in_plane x y h = record { from = omega (arith, ints, clamps, h); to = omega (arith, ints, clamps, h) }

first_flies : (m n : Motion) → Flies m (int_min m.p n.p) (int_max m.p n.p) (speed_of m n)
first_flies m n = record { p = record { from = omega (arith, ints, clamps); to = omega (arith, ints, clamps) }; v = le-max_left _ _ }

second_flies : (m n : Motion) → Flies n (int_min m.p n.p) (int_max m.p n.p) (speed_of m n)
second_flies m n = record { p = record { from = omega (arith, ints, clamps); to = omega (arith, ints, clamps) }; v = le-max_right _ _ }

extent_of : (a : AxisState) (span : ℤ) → IsAxis a
    → IsExtent a span
    (int_min a.motion.0.p a.motion.1.p -ℤ pos (speed_of a.motion.0 a.motion.1 * unsigned_abs span / 2048 + 1), int_max a.motion.0.p a.motion.1.p +ℤ pos (speed_of a.motion.0 a.motion.1 * unsigned_abs span / 2048 + 1))
extent_of a span h =
    extent_is a _ _ span (speed_of a.motion.0 a.motion.1) h.weight (in_plane a.motion.0.p a.motion.1.p h.first.p) (first_flies a.motion.0 a.motion.1) (second_flies a.motion.0 a.motion.1)

pub extent_seen : (a b : AxisState) (span x y : ℤ) → IsAxis a → a ≡ b
    → x ≡ int_min a.motion.0.p a.motion.1.p -ℤ pos (speed_of a.motion.0 a.motion.1 * unsigned_abs span / 2048 + 1)
    → y ≡ int_max a.motion.0.p a.motion.1.p +ℤ pos (speed_of a.motion.0 a.motion.1 * unsigned_abs span / 2048 + 1)
    → IsExtent b span (x, y)
extent_seen a b span x y h same least greatest = subst (λ s. IsExtent s span (x, y)) same (subst (IsExtent a span) (sym (λ j. (least j, greatest j))) (extent_of a span h))

-- the same as the code computes it
margin_small : (m n : Motion) (span : ℤ) → IsBounded m → IsBounded n → IsBetween (pos 0) span (pos 7744) → speed_of m n * unsigned_abs span / 2048 ≤ 4194304
margin_small m n span h k range =
    let product : speed_of m n * unsigned_abs span ≤ 1048576 * 7744 = mul-le (speed_of m n) (unsigned_abs span) 1048576 7744 (max-le h.v k.v) (omega (arith, ints, range.from, range.to)) in
    omega (arith, product)

margin_read : (m n : Motion) (span : ℤ) (q : ℕ) → IsBounded m → IsBounded n → IsBetween (pos 0) span (pos 7744) → q ≡ speed_of m n * unsigned_abs span / 2048
    → Is (read (cast_signed w64 q +ℤ pos 1)) (pos (speed_of m n * unsigned_abs span / 2048 + 1)) 4194305
margin_read m n span q h k range e =
    let small : q ≤ 4194304 = omega (arith, e, margin_small m n span h k range) in
    let is : Is (cast_signed w64 q) (pos q) 4194304 = record { same = to_z_pos w64 q (omega (arith, small)); within = small } in
    let sum = plus64 is (is_pos {n = 1}) tt in
    record { same = sum.same ∙ (λ j. pos (e j + 1)); within = omega (arith, margin_small m n span h k range) }

least_size : (m n : Motion) → IsBounded m → IsBounded n → unsigned_abs (int_min m.p n.p) ≤ 256000000
least_size m n h k = omega (arith, ints, clamps, h.p, k.p)

greatest_size : (m n : Motion) → IsBounded m → IsBounded n → unsigned_abs (int_max m.p n.p) ≤ 256000000
greatest_size m n h k = omega (arith, ints, clamps, h.p, k.p)

pub least_read : (m n : Motion) (span low : ℤ) (q : ℕ) → IsBounded m → IsBounded n → IsBetween (pos 0) span (pos 7744) → q ≡ speed_of m n * unsigned_abs span / 2048 → low ≡ int_min (read m.p) (read n.p)
    → Is (read low -ℤ read (cast_signed w64 q +ℤ pos 1)) (int_min m.p n.p -ℤ pos (speed_of m n * unsigned_abs span / 2048 + 1)) 260194305
least_read m n span low q h k range e f =
    let is : Is low (int_min m.p n.p) 256000000 = record { same = f ∙ (λ j. int_min ((p_of m h).same j) ((p_of n k).same j)); within = least_size m n h k } in
    is_sub (narrowed is tt) (margin_read m n span q h k range e)

pub greatest_read : (m n : Motion) (span high : ℤ) (q : ℕ) → IsBounded m → IsBounded n → IsBetween (pos 0) span (pos 7744) → q ≡ speed_of m n * unsigned_abs span / 2048 → high ≡ int_max (read m.p) (read n.p)
    → Is (read high +ℤ read (cast_signed w64 q +ℤ pos 1)) (int_max m.p n.p +ℤ pos (speed_of m n * unsigned_abs span / 2048 + 1)) 260194305
greatest_read m n span high q h k range e f =
    let is : Is high (int_max m.p n.p) 256000000 = record { same = f ∙ (λ j. int_max ((p_of m h).same j) ((p_of n k).same j)); within = greatest_size m n h k } in
    is_add (narrowed is tt) (margin_read m n span q h k range e)
