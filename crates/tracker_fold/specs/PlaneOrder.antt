-- The plots that a list of entries gives: they rise as the entries do, and stand in the entries' slots.
use Rattle.std.proofs.Common.{◌≡◌, ◌∙◌, ap, refl, ℕ, List, [], ◌∷◌, Option, Some, None}
use Rattle.std.specs.Prelude.{IfSome, slice_get, filter_map}
use Rattle.std.specs.Option.{option_map}
use Rattle.std.specs.List.{AllByRecursion, cons_option}
use Rattle.std.specs.List.Sorted.{IsStrictlySortedBy}
use Rattle.std.specs.Ordering.{nat_cmp, ordering_then}
use Rattle.std.specs.declared.cmp.Ordering.{Ordering}
use Rattle.std.specs.declared.cmp.Ordering.TheVariants.{Less, Equal, Greater}
use Rattle.trk_base.specs.declared.keys.Key.{Key}
use Rattle.trk_base.specs.Keys.{key_cmp}
use Rattle.trk_base.specs.KeyOrder.{key_cmp_exact}
use Rattle.plot_geometry.specs.declared.radars.RadarSettings.{RadarSettings}
use Rattle.plot_geometry.specs.Plots.{PlanePlot}
use Rattle.plot_geometry.specs.PlanePlots.{plane_plot}
use Rattle.late_window.specs.Folding.{ComesBefore, Rises, InSlot}
use Rattle.admission_log.specs.declared.entries.Entry.{Entry}
use Rattle.admission_log.specs.declared.entries.Entry.TheVariants.{Bias, Plot}
use Rattle.admission_log.specs.Entries.{slot_in}
use Rattle.admission_log.specs.EntryOrder.{entry_cmp}
use Rattle.tracker_fold.specs.declared.keys.EntryKey.TheVariants as keys
use Rattle.tracker_fold.specs.Keys.{key_in}
use Rattle.tracker_fold.specs.Steps.{plane, planes}

-- the plot has the key of its entry
abbrev pub HasKey : Entry → PlanePlot → Type 0
HasKey (Bias slot place radar bias) p = ⊥
HasKey (Plot key raw) p = p.key ≡ key

first_by_key : (a rest raw : Ordering) → ordering_then a (ordering_then (ordering_then a rest) raw) ≡ Less → (ordering_then a rest ≡ Equal → ⊥) → ordering_then a rest ≡ Less
first_by_key Less rest raw h apart = refl
first_by_key Equal Less raw h apart = refl
first_by_key Equal Equal raw h apart = absurd (apart refl)
first_by_key Equal Greater raw h apart = absurd (cc)
first_by_key Greater rest raw h apart = absurd (cc)

key_less : (e y : Entry) (p q : PlanePlot) → HasKey e p → HasKey y q → ComesBefore entry_cmp key_in e y → key_cmp p.key q.key ≡ Less
key_less (Bias slot place radar bias) y p q k l h = absurd k
key_less (Plot key raw) (Bias slot place radar bias) p q k l h = absurd l
key_less (Plot key raw) (Plot key' raw') p q k l h =
    (λ i. key_cmp (k i) (l i)) ∙ first_by_key (nat_cmp key.slot key'.slot) _ _ h.order (λ e. h.keys (ap keys.Plot (key_cmp_exact key key' e)))

pub slot_is : (e : Entry) (p : PlanePlot) → HasKey e p → p.key.slot ≡ slot_in e
slot_is (Bias slot place radar bias) p k = absurd k
slot_is (Plot key raw) p k = ap (λ (k : Key). k.slot) k

module _ (f : Entry → Option PlanePlot) (own : (e : Entry) → IfSome (f e) (HasKey e)) where
  all_less : (e : Entry) (p : PlanePlot) → HasKey e p → (es : List Entry) → AllByRecursion (ComesBefore entry_cmp key_in e) es → AllByRecursion (λ q. key_cmp p.key q.key ≡ Less) (filter_map f es)
  all_less e p k [] h = tt
  all_less e p k (y ∷ es) h =
      elim (f y) as (λ x. IfSome x (HasKey y) → AllByRecursion (λ q. key_cmp p.key q.key ≡ Less) (cons_option x (filter_map f es))) [
        | None ↦ λ _. all_less e p k es h.1
        | Some q ↦ λ l. (key_less e y p q k l h.0, all_less e p k es h.1)
      ] (own y)

  pub keys_rise : (es : List Entry) → Rises entry_cmp key_in es → IsStrictlySortedBy (λ p q. key_cmp p.key q.key) (filter_map f es)
  unfolding IsStrictlySortedBy
  keys_rise [] h = tt
  keys_rise (e ∷ es) h =
      elim (f e) as (λ x. IfSome x (HasKey e) → IsStrictlySortedBy (λ p q. key_cmp p.key q.key) (cons_option x (filter_map f es))) [
        | None ↦ λ _. keys_rise es h.1
        | Some p ↦ λ k. (all_less e p k es h.0, keys_rise es h.1)
      ] (own e)

-- ---- in the plane

module _ (radars : List RadarSettings) where
  pub own_key : (e : Entry) → IfSome (plane radars e) (HasKey e)
  unfolding plane_plot
  own_key (Bias slot place radar bias) = tt
  own_key (Plot key raw) = elim (slice_get radars key.radar) as (λ r. IfSome (option_map (λ r. plane_plot r raw key) r) (λ p. p.key ≡ key)) [ None ↦ tt | Some r ↦ refl ]

  -- and are of their slot
  pub planes_of_slot : (n : ℕ) (es : List Entry) → InSlot slot_in n es → AllByRecursion (λ p. p.key.slot ≡ n) (planes radars es)
  planes_of_slot n [] h = tt
  planes_of_slot n (e ∷ es) h =
      elim (plane radars e) as (λ x. IfSome x (HasKey e) → AllByRecursion (λ p. p.key.slot ≡ n) (cons_option x (planes radars es))) [
        | None ↦ λ _. planes_of_slot n es h.1
        | Some p ↦ λ k. (slot_is e p k ∙ h.0, planes_of_slot n es h.1)
      ] (own_key e)

  pub planes_rise : (es : List Entry) → Rises entry_cmp key_in es → IsStrictlySortedBy (λ p q. key_cmp p.key q.key) (planes radars es)
  planes_rise es h = keys_rise (plane radars) own_key es h
