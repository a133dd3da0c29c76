-- A report is told by its fields, since each of its ranges has one proof.
use Rattle.std.proofs.Common.{◌≡◌, ap, subst, ℕ, ◌≤◌, Option, ℤ, Bool}
use Rattle.std.proofs.Props.{props}
use Rattle.std.specs.Option.{ForSome}
use Rattle.trk_base.specs.Ranges.{IsTimeOfDay, IsCode, IsLevel, IsAddress}
use Rattle.cat048_in.specs.declared.report.Report.{Report}

abbrev pub Fields : Type 0
Fields = Option (ℕ × ℕ) × Option ℕ × Option ℕ × Bool × Bool × Bool × Bool × Option (ℕ × ℕ) × Option ℕ × Option ℤ × Option ℕ

abbrev pub fields : Report → Fields
fields r = (r.source, r.tod, r.kind, r.simulated, r.test, r.spi, r.monitor, r.polar, r.code, r.level, r.address)

abbrev Facts : Fields → Type 0
Facts t = ForSome t.2 (λ k. k ≤ 7) × ForSome t.1 IsTimeOfDay × IsCode t.8 × IsLevel t.9 × IsAddress t.10

abbrev facts : (r : Report) → Facts (fields r)
facts r = (r.kind_range, r.in_day, r.code_range, r.level_range, r.address_range)

abbrev made : (t : Fields) → Facts t → Report
made t f = record {
  source = t.0;
  tod = t.1;
  kind = t.2;
  simulated = t.3;
  test = t.4;
  spi = t.5;
  monitor = t.6;
  polar = t.7;
  code = t.8;
  level = t.9;
  address = t.10;
  kind_range = f.0;
  in_day = f.1;
  code_range = f.2;
  level_range = f.3;
  address_range = f.4;
}

facts_prop : (t : Fields) → IsProp (Facts t)
facts_prop t = hlevel props

same_made : (s t : Fields) (e : Facts s) (f : Facts t) → s ≡ t → made s e ≡ made t f
same_made s t e f h =
    let P : Fields → Type 0 = λ z. (g : Facts z) → made s e ≡ made z g in
    subst P h (λ g. ap (made s) (facts_prop s e g)) f

-- reports with the same fields are one
pub same_report : (q r : Report) → ◌≡◌ {A = Fields} (fields q) (fields r) → q ≡ r
same_report q r h = same_made (fields q) (fields r) (facts q) (facts r) h
