-- A turn by the angle of a bit keeps the length, but for what rounding adds.
use Rattle.std.proofs.Common.{ap, sym, inl, inr, ℕ, ◌+◌, ◌-◌, ◌*◌, ◌^◌, ◌<◌, ◌≤◌, arith, subst, lit≤, ℤ, pos, negsuc, neg_ℤ, ◌+ℤ◌, ◌-ℤ◌, ◌*ℤ◌, cond}
use Rattle.std.specs.Prelude.{unsigned_abs}
use Rattle.std.proofs.lemmas.Bool.{cases_eq, ne_eqb}
use Rattle.plot_geometry.specs.Turns.{right_angle_halved, half_angle, turned, norm}
use Rattle.trk_base.proofs.Roots.{square_le}
use Rattle.plot_geometry.proofs.HalfAngles.{unit_angle}
use Rattle.plot_geometry.proofs.Norms.{round_near, turned_norm, turned_sums, half_sums}

pos_turn : (s c : ℤ) (p q : ℕ) → norm s c ≤ 2 ^ 81 → p * p + q * q ≤ 2 ^ 80 + 2 ^ 42 → norm (turned (pos p, pos q) (s, c)).0 (turned (pos p, pos q) (s, c)).1 ≤ norm s c + 2 ^ 44
pos_turn s c p q small unit =
    turned_norm (unsigned_abs s) (unsigned_abs c) p q _ _ _ _ small unit (turned_sums s c p q)
    (round_near (s *ℤ pos p +ℤ c *ℤ pos q) (2 ^ 40) (omega arith)) (round_near (c *ℤ pos p -ℤ s *ℤ pos q) (2 ^ 40) (omega arith))

half_turn : (s c : ℤ) → norm s c ≤ 2 ^ 81 → norm (turned (negsuc 1099511627775, pos 0) (s, c)).0 (turned (negsuc 1099511627775, pos 0) (s, c)).1 ≤ norm s c + 2 ^ 44
half_turn s c small =
    turned_norm (unsigned_abs s) (unsigned_abs c) (2 ^ 40) 0 _ _ _ _ small (lit≤ tt) (half_sums s c)
    (round_near (s *ℤ negsuc 1099511627775 +ℤ c *ℤ pos 0) (2 ^ 40) (omega arith)) (round_near (c *ℤ negsuc 1099511627775 -ℤ s *ℤ pos 0) (2 ^ 40) (omega arith))

-- the last entry is that of a half turn, and the others are of angles up to a right one
pub turn_norm : (k : ℕ) (s c : ℤ) → k < 16 → norm s c ≤ 2 ^ 81 → norm (turned (half_angle k) (s, c)).0 (turned (half_angle k) (s, c)).1 ≤ norm s c + 2 ^ 44
turn_norm k s c h small =
    let P : ℤ × ℤ → Type 0 = λ b. norm b.0 b.1 ≤ 2 ^ 80 + 2 ^ 42 → norm (turned b (s, c)).0 (turned b (s, c)).1 ≤ norm s c + 2 ^ 44 in
    elim (cases_eq k 15) [
      | inl e ↦ subst P (sym (ap half_angle e)) (λ unit. half_turn s c small) (unit_angle k h)
      | inr n ↦ subst (λ t. P (cond t (neg_ℤ (pos (2 ^ 40)), pos 0) (pos (right_angle_halved (14 - k)).0, pos (right_angle_halved (14 - k)).1)))
          (sym (ne_eqb k 15 n)) (λ unit. pos_turn s c (right_angle_halved (14 - k)).0 (right_angle_halved (14 - k)).1 small unit) (unit_angle k h)
    ]

-- a side is no longer than the whole
pub side : (a b : ℕ) → a * a + b * b ≤ 2 ^ 81 → (a ≤ 2 ^ 41) × (b ≤ 2 ^ 41)
side a b h = (square_le a (2 ^ 41) (omega arith), square_le b (2 ^ 41) (omega arith))
