-- What a track gates lies within its extent, widened by the reach.
use Rattle.std.proofs.Common.{◌≡◌, ℕ, ◌≤◌, ◌^◌, Bool, true, false, Option, None, inl, inr, arith, sym, subst, ℤ, pos, ◌+ℤ◌, ◌-ℤ◌, ◌≤ℤ◌, if◌then◌else◌}
use Rattle.std.specs.Prelude.{◌↔◌, IsTrue, IsSome, unsigned_abs}
use Rattle.std.specs.Int.{w64, cast_signed, cast_unsigned}
use Rattle.std.proofs.lemmas.Int.{ints}
use Rattle.std.proofs.lemmas.Bool.{cases_lt}
use Rattle.trk_base.specs.Numbers.{IsBetween}
use Rattle.trk_base.proofs.Sizes.{is_pos}
use Rattle.plot_geometry.specs.Plots.{PlanePlot}
use Rattle.fixed_imm.specs.Values.{AxisState}
use Rattle.fixed_imm.specs.Aims.{AimState}
use Rattle.fixed_imm.specs.Bounds.{IsTimeStep, time_step}
use Rattle.fixed_imm.specs.Filter.{combined, IsExtent}
use Rattle.fixed_imm.proofs.Narrow.{var64, plus64, minus64}
use Rattle.gating.specs.declared.coarse.CoarseGate.{CoarseGate}
use Rattle.gating.specs.Gating.{cost_of, is_another, gate, combined_innovation, combined_variance}
use Rattle.gating.specs.Coarse.{IsIn, IsCoarseGate}
use Rattle.gating.proofs.Costs.{too_far}

none_some : IsSome {T = ℕ} None → ⊥
none_some h = cc

-- what costs something is within reach
x_near : (ex : ℤ) (sx : ℕ) (ey : ℤ) (sy : ℕ) → IsSome (cost_of ex sx ey sy) → unsigned_abs ex ≤ 512000
x_near ex sx ey sy h =
    elim (cases_lt 512000 (unsigned_abs ex)) [
      | inl lt ↦ absurd (none_some (subst (λ (o : Option ℕ). IsSome o) (sym (too_far ex sx ey sy (inl lt))) h))
      | inr ge ↦ ge
    ]

y_near : (ex : ℤ) (sx : ℕ) (ey : ℤ) (sy : ℕ) → IsSome (cost_of ex sx ey sy) → unsigned_abs ey ≤ 512000
y_near ex sx ey sy h =
    elim (cases_lt 512000 (unsigned_abs ey)) [
      | inl lt ↦ absurd (none_some (subst (λ (o : Option ℕ). IsSome o) (sym (too_far ex sx ey sy (inr lt))) h))
      | inr ge ↦ ge
    ]

priced : (other : Bool) (o : Option ℕ) → IsSome (if other then None else o) → IsSome o
priced true o h = absurd (none_some h)
priced false o h = h

gated_cost : (a : AimState) (p : PlanePlot) → IsSome (gate a p)
    → let d = time_step a.time p.key.time in IsSome (cost_of (combined_innovation a.x d p.x) (combined_variance a.x d p.rx) (combined_innovation a.y d p.y) (combined_variance a.y d p.ry))
unfolding gate
gated_cost a p h = priced (is_another a.address a.code p) _ h

-- a position within reach of one that is within an extent
in_reach : (z at low high : ℤ) → unsigned_abs (z -ℤ at) ≤ 512000 → low ≤ℤ at → at ≤ℤ high → IsBetween (low -ℤ pos 512000) z (high +ℤ pos 512000)
in_reach z at low high near from to = record { from = omega (arith, ints, near, from); to = omega (arith, ints, near, to) }

axis_in : (axis : AxisState) (d span z : ℤ) (extent : ℤ × ℤ) → IsExtent axis span extent → IsTimeStep d → pos (unsigned_abs d) ≤ℤ span → unsigned_abs (combined_innovation axis d z) ≤ 512000
    → IsBetween (extent.0 -ℤ pos 512000) z (extent.1 +ℤ pos 512000)
axis_in axis d span z extent h step short near = in_reach z (combined axis d).0 extent.0 extent.1 near (h.least d step short) (h.greatest d step short)

-- the rectangle of two extents
abbrev pub around : ℤ × ℤ → ℤ × ℤ → CoarseGate
around x y = record { west = x.0 -ℤ pos 512000; east = x.1 +ℤ pos 512000; south = y.0 -ℤ pos 512000; north = y.1 +ℤ pos 512000 }

pub around_is : (a : AimState) (span : ℤ) (x y : ℤ × ℤ) → IsExtent a.x span x → IsExtent a.y span y → IsCoarseGate a span (around x y)
around_is a span x y hx hy = record {
  holds = λ p step short some.
      let d = time_step a.time p.key.time in
      let cost = gated_cost a p some in
      let east = axis_in a.x d span p.x x hx step short (x_near _ _ _ _ cost) in
      let north = axis_in a.y d span p.y y hy step short (y_near _ _ _ _ cost) in
      record { west = east.from; east = east.to; south = north.from; north = north.to };
}

pub around_seen : (a b : AimState) (span span' : ℤ) (x y : ℤ × ℤ) (g : CoarseGate) → IsExtent a.x span' x → IsExtent a.y span' y → span' ≡ span → a ≡ b → around x y ≡ g → IsCoarseGate b span g
around_seen a b span span' x y g hx' hy' given same is =
    let hx : IsExtent a.x span x = subst (λ z. IsExtent a.x z x) given hx' in
    let hy : IsExtent a.y span y = subst (λ z. IsExtent a.y z y) given hy' in
    subst (λ s. IsCoarseGate s span g) same (subst (IsCoarseGate a span) is (around_is a span x y hx hy))

-- an edge as the code computes it
pub low_edge : (z : ℤ) → unsigned_abs z ≤ 2 ^ 28 → z -ℤ pos 512000 ≡ cast_signed w64 (cast_unsigned w64 (cast_signed w64 (cast_unsigned w64 z) -ℤ pos 512000))
low_edge z h = sym (minus64 (var64 z (2 ^ 28) h tt) (is_pos {n = 512000}) tt).same

pub high_edge : (z : ℤ) → unsigned_abs z ≤ 2 ^ 28 → z +ℤ pos 512000 ≡ cast_signed w64 (cast_unsigned w64 (cast_signed w64 (cast_unsigned w64 z) +ℤ pos 512000))
high_edge z h = sym (plus64 (var64 z (2 ^ 28) h tt) (is_pos {n = 512000}) tt).same

-- a plot lies in a rectangle where both positions lie between its edges
pub both_in : (g : CoarseGate) (p : PlanePlot) (second : Bool) {west x east south y north : ℤ} → west ≡ g.west → x ≡ p.x → east ≡ g.east → south ≡ g.south → y ≡ p.y → north ≡ g.north
    → IsBetween west x east → IsTrue second ↔ IsBetween south y north → IsTrue second ↔ IsIn g p
both_in g p second w x e s y n across along =
    let within : IsBetween g.west p.x g.east = subst (λ (t : ℤ × ℤ × ℤ). IsBetween t.0 t.1 t.2) (λ j. (w j, x j, e j)) across in (
      λ h. let up : IsBetween g.south p.y g.north = subst (λ (t : ℤ × ℤ × ℤ). IsBetween t.0 t.1 t.2) (λ j. (s j, y j, n j)) (along.0 h) in record { west = within.from; east = within.to; south = up.from; north = up.to },
      λ (h : IsIn g p). along.1 (subst (λ (t : ℤ × ℤ × ℤ). IsBetween t.0 t.1 t.2) (λ j. (sym s j, sym y j, sym n j)) (record { from = h.south; to = h.north })),
    )
