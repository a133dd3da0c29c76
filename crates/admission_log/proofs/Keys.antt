-- The keys of a legal log's plots strictly rise: in rising order none is below an earlier one, and no two plots have one arrival.
use Rattle.std.proofs.Common.{◌≡◌, ◌≢◌, ◌∙◌, ap, sym, subst, refl, ℕ, zero, suc, ◌+◌, ◌≤◌, true, false, cond, List, [], ◌∷◌, map, Option, Some, None, arith}
use Rattle.std.specs.Ordering.{is_lt, ordering_then, ordering_reverse}
use Rattle.std.specs.declared.cmp.Ordering.{Ordering}
use Rattle.std.specs.declared.cmp.Ordering.TheVariants.{Less, Equal, Greater}
use Rattle.std.specs.Option.{ForSome, option_map}
use Rattle.std.specs.List.{AllByRecursion, filter_map, cons_option, range_with_len}
use Rattle.std.specs.List.Sorted.{IsStrictlySortedBy}
use Rattle.std.proofs.lemmas.Option.{none-some, same_Some}
use Rattle.trk_base.specs.Numbers.{slot_of}
use Rattle.trk_base.specs.Keys.{key_cmp}
use Rattle.trk_base.specs.KeyOrder.{key_cmp_total, key_cmp_exact}
use Rattle.plot_geometry.specs.Plots.{PlanePlot}
use Rattle.plot_geometry.specs.declared.radars.RadarSettings.{RadarSettings}
use Rattle.plot_geometry.specs.PlotOrder.{plot_cmp}
use Rattle.plot_geometry.specs.PlanePlots.{plane_plot}
use Rattle.plot_geometry.proofs.PlaneLaws.{key-plane_plot}
use Rattle.admission_log.specs.declared.settings.Settings.{Settings}
use Rattle.admission_log.specs.declared.events.Admitted.{Admitted}
use Rattle.admission_log.specs.Histories.{History, last_of, admitted_of, next_of}
use Rattle.admission_log.specs.Legality.{IsLegal}
use Rattle.admission_log.specs.declared.entries.Entry.{Entry}
use Rattle.admission_log.specs.Entries.{key_of, entries_of}
use Rattle.admission_log.specs.Biases.{radar_among}
use Rattle.admission_log.specs.Plots.{plane_among, is_over, plot_over, plots_over, put, in_rising_key, plots_of}
use Rattle.admission_log.proofs.Rising.{AreNotBelow, Rises, all_rise}
use Rattle.admission_log.proofs.Arrivals.{arrivals_count}

-- none has that arrival
abbrev Lacks : ℕ → List PlanePlot → Type 0
Lacks n ps = AllByRecursion (λ p. p.key.arrival ≢ n) ps

-- each has an arrival of its own
abbrev Differ : List PlanePlot → Type 0
Differ [] = Unit {0}
Differ (p ∷ ps) = Lacks p.key.arrival ps × Differ ps

-- ---- in rising order they still differ

put_lacks : (n : ℕ) (p : PlanePlot) (ps : List PlanePlot) → p.key.arrival ≢ n → Lacks n ps → Lacks n (put p ps)
put_lacks n p [] h all = (h, tt)
put_lacks n p (q ∷ qs) h all = elim (is_lt (plot_cmp q p)) as (λ b. Lacks n (cond b (q ∷ put p qs) (p ∷ q ∷ qs))) [
  | true ↦ (all.0, put_lacks n p qs h all.1)
  | false ↦ (h, all)
]

put_differ : (p : PlanePlot) (ps : List PlanePlot) → Lacks p.key.arrival ps → Differ ps → Differ (put p ps)
put_differ p [] lacks h = (tt, tt)
put_differ p (q ∷ qs) lacks h = elim (is_lt (plot_cmp q p)) as (λ b. Differ (cond b (q ∷ put p qs) (p ∷ q ∷ qs))) [
  | true ↦ (put_lacks q.key.arrival p qs (λ e. lacks.0 (sym e)) h.0, put_differ p qs lacks.1 h.1)
  | false ↦ (lacks, h)
]

all_lack : (n : ℕ) (ps : List PlanePlot) → Lacks n ps → Lacks n (in_rising_key ps)
all_lack n [] h = tt
all_lack n (p ∷ ps) h = put_lacks n p (in_rising_key ps) h.0 (all_lack n ps h.1)

all_differ : (ps : List PlanePlot) → Differ ps → Differ (in_rising_key ps)
all_differ [] h = tt
all_differ (p ∷ ps) h = put_differ p (in_rising_key ps) (all_lack p.key.arrival ps h.0) (all_differ ps h.1)

-- ---- so their keys strictly rise

greater : (o rest : Ordering) → is_lt (ordering_then o rest) ≡ false → o ≢ Equal → o ≡ Greater
greater Less rest h other = absurd (cc)
greater Equal rest h other = absurd (other refl)
greater Greater rest h other = refl

above : (x y : PlanePlot) → is_lt (plot_cmp y x) ≡ false → y.key.arrival ≢ x.key.arrival → key_cmp x.key y.key ≡ Less
above x y h differ = key_cmp_total.antisymm x.key y.key ∙ ap ordering_reverse (greater (key_cmp y.key x.key) _ h (λ e. differ (ap (λ k. k.arrival) (key_cmp_exact y.key x.key e))))

all_above : (x : PlanePlot) (ys : List PlanePlot) → AreNotBelow x ys → Lacks x.key.arrival ys → AllByRecursion (λ k. key_cmp x.key k ≡ Less) (map (λ p. p.key) ys)
all_above x [] h lacks = tt
all_above x (y ∷ ys) h lacks = (above x y h.0 lacks.0, all_above x ys h.1 lacks.1)

strictly : (ps : List PlanePlot) → Rises ps → Differ ps → IsStrictlySortedBy key_cmp (map (λ p. p.key) ps)
unfolding IsStrictlySortedBy
strictly [] h differ = tt
strictly (p ∷ ps) h differ = (all_above p ps h.0 differ.0, strictly ps h.1 differ.1)

-- ---- the arrivals of a log

-- they differ, from n on
abbrev OwnFrom : ℕ → List PlanePlot → Type 0
OwnFrom n ps = AllByRecursion (λ p. n ≤ p.key.arrival) ps × Differ ps

lower : (n : ℕ) (ps : List PlanePlot) → AllByRecursion (λ p. n + 1 ≤ p.key.arrival) ps → AllByRecursion (λ p. n ≤ p.key.arrival) ps
lower n [] h = tt
lower n (p ∷ ps) h = (omega (arith, h.0), lower n ps h.1)

lacking : (n m : ℕ) (ps : List PlanePlot) → m ≡ n → AllByRecursion (λ p. n + 1 ≤ p.key.arrival) ps → Lacks m ps
lacking n m [] at h = tt
lacking n m (p ∷ ps) at h = (λ e. omega (arith, e, at, h.0), lacking n m ps at h.1)

add : (n : ℕ) (o : Option PlanePlot) (ps : List PlanePlot) → ForSome o (λ p. p.key.arrival ≡ n) → OwnFrom (n + 1) ps → OwnFrom n (cons_option o ps)
add n None ps h own = (lower n ps own.0, own.1)
add n (Some p) ps h own =
    let at : p.key.arrival ≡ n = h p refl in
    ((omega (arith, at), lower n ps own.0), (lacking n p.key.arrival ps at own.0, own.1))

key_in_plane : (a : Admitted) (o : Option RadarSettings) → ForSome (option_map (λ radar. plane_plot radar a.plot (key_of a)) o) (λ p. p.key ≡ key_of a)
key_in_plane a None = λ p e. absurd (none-some p e)
key_in_plane a (Some radar) = λ p e. subst (λ q. q.key ≡ key_of a) (same_Some (plane_plot radar a.plot (key_of a)) p e) (key-plane_plot radar a.plot (key_of a))

key_over : (settings : Settings) (entries : List Entry) (last : ℕ) (a : Admitted) → ForSome (plot_over settings entries last a) (λ p. p.key ≡ key_of a)
key_over settings entries last a = elim (is_over last a) as (λ b. ForSome (cond b (plane_among settings entries a) None) (λ p. p.key ≡ key_of a)) [
  | true ↦ key_in_plane a (radar_among settings entries a.radar (slot_of a.time))
  | false ↦ λ p e. absurd (none-some p e)
]

own_arrivals : (settings : Settings) (entries : List Entry) (last n m : ℕ) (admitted : List Admitted) → map (λ a. a.arrival) admitted ≡ range_with_len n m → OwnFrom n (filter_map (plot_over settings entries last) admitted)
own_arrivals settings entries last n m [] e = (tt, tt)
own_arrivals settings entries last n zero (a ∷ more) e = absurd (cc)
own_arrivals settings entries last n (suc m) (a ∷ more) e =
    let at : a.arrival ≡ n = cc in
    let rest : map (λ a. a.arrival) more ≡ range_with_len (n + 1) m = cc in
    add n (plot_over settings entries last a) (filter_map (plot_over settings entries last) more) (λ p e. ap (λ k. k.arrival) (key_over settings entries last a p e) ∙ at) (own_arrivals settings entries last (n + 1) m more rest)

pub keys_rise : (settings : Settings) (log : History) → IsLegal settings log → IsStrictlySortedBy key_cmp (map (λ p. p.key) (plots_of settings log))
keys_rise settings log legal =
    let plots = plots_over settings log in
    strictly (in_rising_key plots) (all_rise plots) (all_differ plots (own_arrivals settings (entries_of log) (last_of log) 0 (next_of log) (admitted_of log) (arrivals_count settings log legal)).1)
