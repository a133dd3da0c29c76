-- The order of entries, which is total, and by which entries that compare as equal are one.
use Rattle.std.proofs.Common.{◌≡◌, refl, ℕ}
use Rattle.std.specs.Cmp.{IsTotalOrder}
use Rattle.std.specs.Ordering.{nat_cmp, ordering_then, ordering_reverse}
use Rattle.std.specs.declared.cmp.Ordering.{Ordering}
use Rattle.std.specs.declared.cmp.Ordering.TheVariants.{Less, Equal, Greater}
use Rattle.std.proofs.lemmas.Cmp.{on_total, then_total, nat_cmp_total}
use Rattle.std.proofs.lemmas.Map.Lookups.{CmpEqualImpliesEq, exact_unsigned}
use Rattle.trk_base.specs.declared.keys.Key.{Key}
use Rattle.trk_base.specs.declared.plots.RawPlot.{RawPlot}
use Rattle.trk_base.specs.Keys.{key_cmp}
use Rattle.trk_base.specs.KeyOrder.{key_cmp_total, key_cmp_exact}
use Rattle.trk_base.specs.RawPlots.{raw_plot_cmp}
use Rattle.trk_base.proofs.RawPlotOrder.{raw_plot_cmp_total, raw_plot_cmp_exact}
use Rattle.plot_geometry.specs.declared.biases.Bias as biases
use Rattle.plot_geometry.specs.BiasOrder.{bias_cmp, bias_cmp_total, bias_cmp_exact}
use Rattle.admission_log.specs.declared.entries.Entry.{Entry}
use Rattle.admission_log.specs.declared.entries.Entry.TheVariants.{Bias, Plot}
use Rattle.admission_log.specs.Entries.{slot_in}

-- changes by the index of their event, and then as they stand
abbrev pub change_cmp : ℕ × (ℕ × biases.Bias) → ℕ × (ℕ × biases.Bias) → Ordering
change_cmp x y = ordering_then (nat_cmp x.0 y.0) (ordering_then (nat_cmp x.1.0 y.1.0) (bias_cmp x.1.1 y.1.1))

-- plots by key, and then as they stand
abbrev pub reported_cmp : Key × RawPlot → Key × RawPlot → Ordering
reported_cmp x y = ordering_then (key_cmp x.0 y.0) (raw_plot_cmp x.1 y.1)

-- within a slot: changes before plots
abbrev pub within_slot_cmp : Entry → Entry → Ordering
within_slot_cmp (Bias slot place radar bias) (Bias slot' place' radar' bias') = change_cmp (place, (radar, bias)) (place', (radar', bias'))
within_slot_cmp (Bias slot place radar bias) (Plot key raw) = Less
within_slot_cmp (Plot key raw) (Bias slot place radar bias) = Greater
within_slot_cmp (Plot key raw) (Plot key' raw') = reported_cmp (key, raw) (key', raw')

-- by slot, and then within the slot
abbrev pub entry_cmp : Entry → Entry → Ordering
entry_cmp a b = ordering_then (nat_cmp (slot_in a) (slot_in b)) (within_slot_cmp a b)

-- ---- it is total

changes_total : IsTotalOrder change_cmp
changes_total =
    then_total (on_total (λ (x : ℕ × (ℕ × biases.Bias)). x.0) nat_cmp_total)
    (then_total (on_total (λ (x : ℕ × (ℕ × biases.Bias)). x.1.0) nat_cmp_total) (on_total (λ (x : ℕ × (ℕ × biases.Bias)). x.1.1) bias_cmp_total))

reported_total : IsTotalOrder reported_cmp
reported_total = then_total (on_total (λ (x : Key × RawPlot). x.0) key_cmp_total) (on_total (λ (x : Key × RawPlot). x.1) raw_plot_cmp_total)

reversed : (x y : Entry) → within_slot_cmp x y ≡ ordering_reverse (within_slot_cmp y x)
reversed (Bias slot place radar bias) (Bias slot' place' radar' bias') = changes_total.antisymm (place, (radar, bias)) (place', (radar', bias'))
reversed (Bias slot place radar bias) (Plot key raw) = refl
reversed (Plot key raw) (Bias slot place radar bias) = refl
reversed (Plot key raw) (Plot key' raw') = reported_total.antisymm (key, raw) (key', raw')

chained : (x y z : Entry) → within_slot_cmp x y ≡ Less → within_slot_cmp y z ≡ Less → within_slot_cmp x z ≡ Less
chained (Bias s p r b) (Bias s' p' r' b') (Bias s'' p'' r'' b'') h k = changes_total.trans (p, (r, b)) (p', (r', b')) (p'', (r'', b'')) h k
chained (Bias s p r b) (Bias s' p' r' b') (Plot key raw) h k = refl
chained (Bias s p r b) (Plot key raw) (Bias s' p' r' b') h k = absurd (cc)
chained (Bias s p r b) (Plot key raw) (Plot key' raw') h k = refl
chained (Plot key raw) (Bias s p r b) z h k = absurd (cc)
chained (Plot key raw) (Plot key' raw') (Bias s p r b) h k = absurd (cc)
chained (Plot key raw) (Plot key' raw') (Plot key'' raw'') h k = reported_total.trans (key, raw) (key', raw') (key'', raw'') h k

alike : (x y z : Entry) → within_slot_cmp x y ≡ Equal → within_slot_cmp x z ≡ within_slot_cmp y z
alike (Bias s p r b) (Bias s' p' r' b') (Bias s'' p'' r'' b'') h = changes_total.congr (p, (r, b)) (p', (r', b')) (p'', (r'', b'')) h
alike (Bias s p r b) (Bias s' p' r' b') (Plot key raw) h = refl
alike (Bias s p r b) (Plot key raw) z h = absurd (cc)
alike (Plot key raw) (Bias s p r b) z h = absurd (cc)
alike (Plot key raw) (Plot key' raw') (Bias s p r b) h = refl
alike (Plot key raw) (Plot key' raw') (Plot key'' raw'') h = reported_total.congr (key, raw) (key', raw') (key'', raw'') h

within_total : IsTotalOrder within_slot_cmp
within_total = record { antisymm = reversed; trans = chained; congr = alike }

pub entry_cmp_total : IsTotalOrder entry_cmp
entry_cmp_total = then_total (on_total slot_in nat_cmp_total) within_total

-- ---- it tells entries apart

both_equal : (a b : Ordering) → ordering_then a b ≡ Equal → (a ≡ Equal) × (b ≡ Equal)
both_equal Less b h = absurd (cc)
both_equal Equal b h = (refl, h)
both_equal Greater b h = absurd (cc)

same_entry : (x y : Entry) → slot_in x ≡ slot_in y → within_slot_cmp x y ≡ Equal → x ≡ y
same_entry (Bias s p r b) (Bias s' p' r' b') slots h =
    let first = both_equal (nat_cmp p p') _ h in
    let rest = both_equal (nat_cmp r r') _ first.1 in
    let places = exact_unsigned p p' first.0 in
    let radars = exact_unsigned r r' rest.0 in
    let same = bias_cmp_exact b b' rest.1 in
    λ i. Bias (slots i) (places i) (radars i) (same i)
same_entry (Bias s p r b) (Plot key raw) slots h = absurd (cc)
same_entry (Plot key raw) (Bias s p r b) slots h = absurd (cc)
same_entry (Plot key raw) (Plot key' raw') slots h =
    let both = both_equal (key_cmp key key') _ h in
    let keys = key_cmp_exact key key' both.0 in
    let raws = raw_plot_cmp_exact raw raw' both.1 in
    λ i. Plot (keys i) (raws i)

pub entry_cmp_exact : CmpEqualImpliesEq entry_cmp
entry_cmp_exact x y h =
    let both = both_equal (nat_cmp (slot_in x) (slot_in y)) _ h in
    same_entry x y (exact_unsigned (slot_in x) (slot_in y) both.0) both.1
