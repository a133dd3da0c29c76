-- The places near a track are those of all plots that it gates.
use Rattle.std.proofs.Common.{◌≡◌, ◌∙◌, ap, sym, ℕ, ◌+◌, ◌<◌, ◌≤◌, ℤ, ◌≤ℤ◌, ◌<ℤ◌, pos, Bool, true, cond, eqb, List, [], ◌++◌, length, get_or, Option, IsSome, arith, subst, inl, inr}
use Rattle.std.specs.Prelude.{Contains, All, unsigned_abs}
use Rattle.std.specs.List.{AllWithin}
use Rattle.std.proofs.lemmas.Bool.{cases_eq}
use Rattle.std.proofs.lemmas.List.{get_or_default}
use Rattle.std.proofs.lemmas.List.Elements.{All-contains, Contains-append_left, Contains-append_right, Contains-append_cases}
use Rattle.std.proofs.lemmas.List.Sums.{sum_by-append}
use Rattle.plot_geometry.specs.Plots.{PlanePlot}
use Rattle.fixed_imm.specs.Aims.{AimState}
use Rattle.fixed_imm.specs.Bounds.{IsTimeStep, time_step}
use Rattle.gating.specs.Coarse.{IsIn, IsCoarseGate}
use Rattle.gating.specs.Gating.{gate, is_another}
use Rattle.gating.specs.declared.coarse.CoarseGate.{CoarseGate}
use Rattle.gating.proofs.Costs.{of_another}
use Rattle.slot_step.specs.Certificates.{IsAt}
use Rattle.slot_step.specs.Gates.{times_placed, CoverGates}
use Rattle.slot_step.specs.PlotPlaces.{AreMarked, IsUnmarked, IsPlace, ArePlaces, AreBetween, AreTimes, AreOthers}
use Rattle.slot_step.proofs.Certifying.{within}
use Rattle.slot_step.proofs.Components.{all_at}
use Rattle.slot_step.proofs.Interleavings.{all_contains}
use Rattle.slot_step.proofs.Marking.{other_is}
use Rattle.slot_step.proofs.Problems.{one_at}
use Rattle.slot_step.proofs.RisingEdges.{all_by_index}
use lib.Signed.{clash_ℤ}

-- where a track gates no plot there may be no place
none_near : (gates : PlanePlot → Option ℕ) (ps : List PlanePlot) → ((i : ℕ) (p : PlanePlot) → IsAt ps i p → IsSome (gates p) → ⊥) → CoverGates gates ps []
none_near gates ps f = record { inside = λ i d lt. absurd (omega (arith, lt)); all = λ i p a s. absurd (f i p a s); once = λ i. omega arith }

not_gated : (a : AimState) (p : PlanePlot) → is_another a.address a.code p ≡ true → IsSome (gate a p) → ⊥
not_gated a p e s = let z = subst IsSome (sym (of_another a p e)) s in cc

pub unmarked : (a : AimState) (ps : List PlanePlot) (marks : List Bool) → AreMarked ps marks → IsUnmarked marks a.address → CoverGates (gate a) ps []
unmarked a ps marks h u = none_near (gate a) ps (λ i p at s. not_gated a p (other_is a.address a.code p u.own u.told (h.others u.own u.unmarked i p at)) s)

module _ (a : AimState) (ps : List PlanePlot) (places near : List (ℤ × ℕ)) (times : ℕ × ℕ) (span : ℤ) (g : CoarseGate) (h : ArePlaces ps places) (t : AreTimes ps times)
    (steps : All (λ p. IsTimeStep (time_step a.time p.key.time)) ps) (far : (n : ℕ) → times.0 ≤ n → n ≤ times.1 → pos (unsigned_abs (time_step a.time n)) ≤ℤ span)
    (coarse : IsCoarseGate a span g) (b : AreBetween g.west g.east places near) where
  lies : (i : ℕ) (p : PlanePlot) → IsAt ps i p → IsSome (gate a p) → IsIn g p
  lies i p at s =
      let w : (times.0 ≤ p.key.time) × (p.key.time ≤ times.1) = all_at (λ q. (times.0 ≤ q.key.time) × (q.key.time ≤ times.1)) ps i p t.each at in
      coarse.holds p (all_at (λ q. IsTimeStep (time_step a.time q.key.time)) ps i p steps at) (far p.key.time w.0 w.1) s

  found : (i : ℕ) (p : PlanePlot) → IsAt ps i p → IsSome (gate a p) → Contains near (p.x, i)
  found i p at s =
      let l : IsIn g p = lies i p at s in
      elim (Contains-append_cases b.before (near ++ b.after) (p.x, i) (subst (λ es. Contains es (p.x, i)) b.all (h.at i p at))) [
        | inl d ↦ clash_ℤ (all_contains (λ (e : ℤ × ℕ). e.0 <ℤ g.west) (p.x, i) b.before b.west_of d) l.west
        | inr d ↦ elim (Contains-append_cases near b.after (p.x, i) d) [
          | inl f ↦ f
          | inr f ↦ clash_ℤ (all_contains (λ (e : ℤ × ℕ). g.east <ℤ e.0) (p.x, i) b.after b.east_of f) l.east
        ]
      ]

  among : (e : ℤ × ℕ) → Contains near e → IsPlace ps e
  among e c = h.of e (subst (λ es. Contains es e) (sym b.all) (Contains-append_right b.before (near ++ b.after) e (Contains-append_left near b.after e c)))

  pub inside_near : All (λ e. e.1 < length ps) near
  inside_near = all_by_index (λ (e : ℤ × ℕ). e.1 < length ps) near (λ e c. let q : IsPlace ps e = among e c in within ps e.1 q.plot q.plot_at)

  once_near : (i : ℕ) → times_placed i near ≤ 1
  once_near i =
      let test : ℤ × ℕ → ℕ = λ d. cond (eqb d.1 i) 1 0 in
      omega (arith, h.once i, ap (times_placed i) b.all, sum_by-append test b.before (near ++ b.after), sum_by-append test near b.after)

  pub covers : CoverGates (gate a) ps near
  covers = record { inside = inside_near; all = λ i p at s. (p.x, found i p at s); once = once_near }

  pub none_lies : AreOthers a g ps near → CoverGates (gate a) ps []
  none_lies o = none_near (gate a) ps (λ i p at s.
      not_gated a p (All-contains (λ (e : ℤ × ℕ). (q : PlanePlot) → IsAt ps e.1 q → IsIn g q → is_another a.address a.code q ≡ true) near (p.x, i) o (found i p at s) p at (lies i p at s)) s)

-- ---- a look at each place

-- of one place more it is known that its plot lies outside or is another's
pub one_out : (a : AimState) (g : CoarseGate) (ps : List PlanePlot) (near : List (ℤ × ℕ)) (k : ℕ) (e : ℤ × ℕ) (p : PlanePlot) → k < length near → IsAt ps (get_or near k e).1 p → (IsIn g p → is_another a.address a.code p ≡ true)
    → AllWithin (λ (d : ℤ × ℕ). (q : PlanePlot) → IsAt ps d.1 q → IsIn g q → is_another a.address a.code q ≡ true) near 0 k
    → AllWithin (λ (d : ℤ × ℕ). (q : PlanePlot) → IsAt ps d.1 q → IsIn g q → is_another a.address a.code q ≡ true) near 0 (k + 1)
one_out a g ps near k e p lt at out h j d low below q b l = elim (cases_eq j k) [
  | inl s ↦
      let place : get_or near j d ≡ get_or near k e = ap (λ n. get_or near n d) s ∙ get_or_default near k d e lt in
      let same : q ≡ p = one_at ps (get_or near k e).1 q p (subst (λ (y : ℤ × ℕ). IsAt ps y.1 q) place b) at in
      ap (is_another a.address a.code) same ∙ out (subst (IsIn g) same l)
  | inr apart ↦ h j d low (omega (arith, below, apart)) q b l
]
