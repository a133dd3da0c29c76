-- A plot as the radar reports it is told by its fields, since each of its ranges has one proof.
use Rattle.std.proofs.Common.{◌≡◌, ap, subst, ℕ, Option, ℤ, Bool}
use Rattle.std.proofs.Props.{props}
use Rattle.trk_base.specs.Ranges.{IsKind, IsTimeOfDay, IsCode, IsLevel, IsAddress}
use Rattle.trk_base.specs.declared.plots.RawPlot.{RawPlot}

abbrev pub Fields : Type 0
Fields = ℕ × ℕ × ℕ × ℕ × ℕ × ℕ × Bool × Option ℕ × Option ℤ × Option ℕ

abbrev pub fields : RawPlot → Fields
fields a = (a.sac, a.sic, a.tod, a.rho, a.theta, a.kind, a.spi, a.code, a.level, a.address)

abbrev Facts : Fields → Type 0
Facts t = IsKind t.5 × IsTimeOfDay t.2 × IsCode t.7 × IsLevel t.8 × IsAddress t.9

abbrev facts : (a : RawPlot) → Facts (fields a)
facts a = (a.detected, a.in_day, a.code_range, a.level_range, a.address_range)

abbrev made : (t : Fields) → Facts t → RawPlot
made t f = record {
  sac = t.0;
  sic = t.1;
  tod = t.2;
  rho = t.3;
  theta = t.4;
  kind = t.5;
  spi = t.6;
  code = t.7;
  level = t.8;
  address = t.9;
  detected = f.0;
  in_day = f.1;
  code_range = f.2;
  level_range = f.3;
  address_range = f.4;
}

facts_prop : (t : Fields) → IsProp (Facts t)
facts_prop t = hlevel props

same_made : (s t : Fields) (e : Facts s) (f : Facts t) → s ≡ t → made s e ≡ made t f
same_made s t e f h =
    let P : Fields → Type 0 = λ z. (g : Facts z) → made s e ≡ made z g in
    subst P h (λ g. ap (made s) (facts_prop s e g)) f

-- plots with the same fields are one
pub same_raw_plot : (a b : RawPlot) → ◌≡◌ {A = Fields} (fields a) (fields b) → a ≡ b
same_raw_plot a b h = same_made (fields a) (fields b) (facts a) (facts b) h
