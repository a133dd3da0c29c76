-- Marks of the addresses of a batch's plots.
use Rattle.std.proofs.Common.{◌≡◌, ◌∙◌, ap, sym, ℕ, ◌+◌, ◌<◌, ◌%◌, replicate, Bool, true, false, List, length, get_or, Option, Some, arith, subst, inl, inr, slice_set}
use Rattle.std.specs.Prelude.{not, ◌&&◌}
use Rattle.std.specs.Option.{is_some}
use Rattle.std.proofs.lemmas.Bool.{cases_eq, ne_eqb, or_left}
use Rattle.std.proofs.lemmas.List.{length-set, length-replicate, get_or-replicate, get_or-set_other}
use Rattle.std.proofs.lemmas.Grind.{get_or-set_at}
use Rattle.plot_geometry.specs.Plots.{PlanePlot}
use Rattle.gating.specs.Gating.{differ, is_another}
use Rattle.slot_step.specs.Certificates.{IsAt}
use Rattle.slot_step.specs.PlotPlaces.{HasOther, AreMarked}
use Rattle.slot_step.proofs.Problems.{one_at}

-- the marks of the first i plots are set
pub record AreMarkedUpTo (ps : List PlanePlot) (i : ℕ) (marks : List Bool) : Type 0 where
  pub count : length marks ≡ 4096
  pub others : (a : ℕ) → get_or marks (a % 4096) false ≡ false → (j : ℕ) (p : PlanePlot) → IsAt ps j p → j < i → HasOther a p

within_places : (a : ℕ) → a % 4096 < 4096
within_places a = omega arith

pub none_marked : (ps : List PlanePlot) (marks : List Bool) → marks ≡ replicate 4096 false → AreMarkedUpTo ps 0 marks
none_marked ps marks e = record { count = let b : Bool = false in ap length e ∙ length-replicate 4096 b; others = λ a f j p at lt. absurd (omega (arith, lt)) }

pub all_marked : (ps : List PlanePlot) (marks : List Bool) → marks ≡ replicate 4096 true → AreMarked ps marks
all_marked ps marks e = record {
  count = let b : Bool = true in ap length e ∙ length-replicate 4096 b;
  others = λ a f j p at.
      let there : get_or marks (a % 4096) false ≡ true = ap (λ (bs : List Bool). get_or bs (a % 4096) false) e ∙ get_or-replicate 4096 (a % 4096) true false (within_places a) in
      absurd (cc);
}

-- one plot more
pub one_marked : (ps : List PlanePlot) (i : ℕ) (marks : List Bool) (q : PlanePlot) (b : ℕ) → AreMarkedUpTo ps i marks → IsAt ps i q → q.address ≡ Some b → AreMarkedUpTo ps (i + 1) (slice_set marks (b % 4096) true)
one_marked ps i marks q b h at e =
    let here : b % 4096 < length marks = omega (arith, h.count, within_places b) in
    record {
      count = length-set marks (b % 4096) true ∙ h.count;
      others = λ a f j p there lt. elim (cases_eq (a % 4096) (b % 4096)) [
        | inl same ↦ let t : get_or (slice_set marks (b % 4096) true) (a % 4096) false ≡ true = get_or-set_at marks (b % 4096) (a % 4096) true false same here in absurd (cc)
        | inr apart ↦ elim (cases_eq j i) [
          | inl last ↦ record { own = b; told = ap (λ (r : PlanePlot). r.address) (one_at ps i p q (subst (λ k. IsAt ps k p) last there) at) ∙ e; other = λ s. apart (ap (λ (n : ℕ). n % 4096) (sym s)) }
          | inr before ↦ h.others a (sym (get_or-set_other marks (b % 4096) (a % 4096) true false apart) ∙ f) j p there (omega (arith, lt, before))
        ]
      ];
    }

pub marked_to_end : (ps : List PlanePlot) (i : ℕ) (marks : List Bool) → AreMarkedUpTo ps i marks → ((j : ℕ) (p : PlanePlot) → IsAt ps j p → j < i) → AreMarked ps marks
marked_to_end ps i marks h end = record { count = h.count; others = λ a f j p at. h.others a f j p at (end j p at) }

-- a plot with another address is of another aircraft
pub other_is : (address : Option ℕ) (code : Option ℕ) (p : PlanePlot) (a : ℕ) → address ≡ Some a → HasOther a p → is_another address code p ≡ true
other_is address code p a e h =
    let differs : differ address p.address ≡ true = (λ i. differ (e i) (h.told i)) ∙ ap not (ne_eqb a h.own (λ s. h.other (sym s))) in
    or_left (differ address p.address) (differ code p.code && not (is_some address && is_some p.address)) differs
