-- A plot is told by its fields, since each of its ranges has one proof.
use Rattle.std.proofs.Common.{◌≡◌, ap, sym, subst, ℕ, zero, suc, ◌≤◌, Option, Some, None, Ok, ℤ, Bool, false, arith}
use Rattle.std.proofs.Props.{props}
use Rattle.std.specs.Option.{ForSome}
use Rattle.trk_base.specs.Ranges.{IsTimeOfDay, IsKind, IsCode, IsLevel, IsAddress}
use Rattle.trk_base.specs.declared.plots.RawPlot.{RawPlot}
use Rattle.cat048_in.specs.declared.report.Report.{Report}
use Rattle.cat048_in.specs.Plots.{plot_from}

abbrev Fields : Type 0
Fields = ℕ × ℕ × ℕ × ℕ × ℕ × ℕ × Bool × Option ℕ × Option ℤ × Option ℕ

abbrev fields : RawPlot → Fields
fields p = (p.sac, p.sic, p.tod, p.rho, p.theta, p.kind, p.spi, p.code, p.level, p.address)

abbrev Facts : Fields → Type 0
Facts t = IsKind t.5 × IsTimeOfDay t.2 × IsCode t.7 × IsLevel t.8 × IsAddress t.9

abbrev facts : (p : RawPlot) → Facts (fields p)
facts p = (p.detected, p.in_day, p.code_range, p.level_range, p.address_range)

abbrev made : (t : Fields) → Facts t → RawPlot
made t f = record {
  sac = t.0;
  sic = t.1;
  tod = t.2;
  rho = t.3;
  theta = t.4;
  kind = t.5;
  spi = t.6;
  code = t.7;
  level = t.8;
  address = t.9;
  detected = f.0;
  in_day = f.1;
  code_range = f.2;
  level_range = f.3;
  address_range = f.4;
}

facts_prop : (t : Fields) → IsProp (Facts t)
facts_prop t = hlevel props

same_made : (s t : Fields) (e : Facts s) (f : Facts t) → s ≡ t → made s e ≡ made t f
same_made s t e f h =
    let P : Fields → Type 0 = λ z. (g : Facts z) → made s e ≡ made z g in
    subst P h (λ g. ap (made s) (facts_prop s e g)) f

-- plots with the same fields are one
pub same_plot : (p q : RawPlot) → ◌≡◌ {A = Fields} (fields p) (fields q) → p ≡ q
same_plot p q h = same_made (fields p) (fields q) (facts p) (facts q) h

-- what is left of the report, in the plot
pub record Takes (r : Report) (p : RawPlot) : Type 0 where
  pub test : r.test ≡ false
  pub simulated : r.simulated ≡ false
  pub monitor : r.monitor ≡ false
  pub spi : p.spi ≡ r.spi
  pub code : p.code ≡ r.code
  pub level : p.level ≡ r.level
  pub address : p.address ≡ r.address

pub plot_from_is : (r : Report) (source : Option (ℕ × ℕ)) (tod : Option ℕ) (in_day : ForSome tod IsTimeOfDay) (polar : Option (ℕ × ℕ)) (kind : Option ℕ) (in_range : ForSome kind (λ k. k ≤ 7)) (p : RawPlot)
    → source ≡ Some (p.sac, p.sic) → tod ≡ Some p.tod → polar ≡ Some (p.rho, p.theta) → kind ≡ Some p.kind → Takes r p → Ok p ≡ plot_from r source tod in_day polar kind in_range
plot_from_is r None tod in_day polar kind in_range p a b c d h = absurd (cc)
plot_from_is r (Some source) None in_day polar kind in_range p a b c d h = absurd (cc)
plot_from_is r (Some source) (Some tod) in_day None kind in_range p a b c d h = absurd (cc)
plot_from_is r (Some source) (Some tod) in_day (Some polar) None in_range p a b c d h = absurd (cc)
plot_from_is r (Some source) (Some tod) in_day (Some polar) (Some zero) in_range p a b c d h =
    let e : 0 ≡ p.kind = cc in
    absurd (omega (arith, p.detected, e))
plot_from_is r (Some source) (Some tod) in_day (Some polar) (Some (suc k)) in_range p a b c d h =
    let s : source ≡ (p.sac, p.sic) = cc in
    let t : tod ≡ p.tod = cc in
    let q : polar ≡ (p.rho, p.theta) = cc in
    let n : suc k ≡ p.kind = cc in
    rw (h.test, h.simulated, h.monitor) (ap Ok (same_plot p _ (λ i. ((sym s i).0, (sym s i).1, sym t i, (sym q i).0, (sym q i).1, sym n i, h.spi i, h.code i, h.level i, h.address i))))
