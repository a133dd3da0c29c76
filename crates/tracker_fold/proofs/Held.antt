-- Radars after changes: each has the biases that the changes give for it.
use Rattle.std.proofs.Common.{◌≡◌, ◌∙◌, ap, sym, refl, ℕ, zero, suc, ◌<◌, Bool, true, false, cond, eqb, List, [], ◌∷◌, length, set, Option, Some, None, arith, inl, inr}
use Rattle.std.specs.Prelude.{filter, fold, nat_le, slice_get, ◌&&◌}
use Rattle.std.specs.Option.{option_map}
use Rattle.std.specs.List.{AllByRecursion, reduce}
use Rattle.std.specs.Ordering.{ord_max, ordering_reverse}
use Rattle.std.specs.declared.cmp.Ordering.TheVariants.{Less}
use Rattle.std.proofs.lemmas.Bool.{cond_both, cases_eq, cases_lt, cases_Bool, eqb-true, eq-eqb, ne_eqb, and_parts}
use Rattle.std.proofs.lemmas.Option.{slice_get_past}
use Rattle.plot_geometry.specs.declared.biases.Bias as biases
use Rattle.plot_geometry.specs.declared.radars.RadarSettings.{RadarSettings}
use Rattle.plot_geometry.specs.Biases.{bias_of, biased}
use Rattle.late_window.specs.Folding.{Rises}
use Rattle.late_window.proofs.Orders.{rises_filter}
use Rattle.late_window.proofs.Lists.{filter_passing}
use Rattle.admission_log.specs.declared.entries.Entry.{Entry}
use Rattle.admission_log.specs.declared.entries.Entry.TheVariants.{Bias, Plot}
use Rattle.admission_log.specs.Entries.{slot_in}
use Rattle.admission_log.specs.EntryOrder.{entry_cmp, entry_cmp_total}
use Rattle.admission_log.specs.Biases.{is_change, bias_or, bias_among}
use Rattle.tracker_fold.specs.Keys.{key_in}
use Rattle.tracker_fold.specs.Steps.{changed, with_radar}

-- the biases of a radar after one entry, and after some in their order
abbrev pub given : ℕ → biases.Bias → Entry → biases.Bias
given radar before (Bias slot place from bias) = cond (eqb from radar) bias before
given radar before (Plot key raw) = before

abbrev pub held : ℕ → biases.Bias → List Entry → biases.Bias
held radar own entries = fold (given radar) own entries

-- ---- radars

get_set_same : {X : Type 0} (xs : List X) (i : ℕ) (y : X) → i < length xs → slice_get (set xs i y) i ≡ Some y
get_set_same [] i y lt = absurd (omega (arith, lt))
get_set_same (x ∷ xs) zero y lt = refl
get_set_same (x ∷ xs) (suc i) y lt = get_set_same xs i y (omega (arith, lt))

get_set_other : {X : Type 0} (xs : List X) (i j : ℕ) (y : X) → (i ≡ j → ⊥) → slice_get (set xs i y) j ≡ slice_get xs j
get_set_other [] i j y apart = refl
get_set_other (x ∷ xs) zero zero y apart = absurd (apart refl)
get_set_other (x ∷ xs) zero (suc j) y apart = refl
get_set_other (x ∷ xs) (suc i) zero y apart = refl
get_set_other (x ∷ xs) (suc i) (suc j) y apart = get_set_other xs i j y (λ e. apart (ap suc e))

get_set : {X : Type 0} (xs : List X) (i j : ℕ) (y : X) → i < length xs → slice_get (set xs i y) j ≡ cond (eqb i j) (Some y) (slice_get xs j)
get_set xs i j y lt = elim (cases_eq i j) [
  | inl e ↦ rw (eq-eqb i j e) (ap (slice_get (set xs i y)) (sym e) ∙ get_set_same xs i y lt)
  | inr apart ↦ rw (ne_eqb i j apart) (get_set_other xs i j y apart)
]

one_changed : (rs : List RadarSettings) (e : Entry) (i : ℕ) → slice_get (changed rs e) i ≡ option_map (λ r. biased r (given i (bias_of r) e)) (slice_get rs i)
one_changed rs (Plot key raw) i = own (slice_get rs i)
  where
    own : (r : Option RadarSettings) → r ≡ option_map (λ r. biased r (bias_of r)) r
    own None = refl
    own (Some r) = refl
one_changed rs (Bias slot place radar bias) i = at (slice_get rs radar) refl
  where
    own : (r : Option RadarSettings) → r ≡ option_map (λ r. biased r (bias_of r)) r
    own None = refl
    own (Some r) = refl

    of : (found r : Option RadarSettings) (b : Bool) → (b ≡ true → r ≡ found) → cond b (option_map (λ r. biased r bias) found) r ≡ option_map (λ r. biased r (cond b bias (bias_of r))) r
    of found r true same = ap (option_map (λ r. biased r bias)) (sym (same refl))
    of found r false same = own r

    same_place : (found : Option RadarSettings) → slice_get rs radar ≡ found → eqb radar i ≡ true → slice_get rs i ≡ found
    same_place found e t = ap (slice_get rs) (sym (eqb-true radar i t)) ∙ e

    within : (r : RadarSettings) → slice_get rs radar ≡ Some r → radar < length rs
    within r e = elim (cases_lt radar (length rs)) [ inl lt ↦ lt | inr past ↦ absurd (let none : Some r ≡ None = sym e ∙ slice_get_past rs radar past in cc) ]

    at : (found : Option RadarSettings) → slice_get rs radar ≡ found → slice_get (with_radar rs radar (option_map (λ r. biased r bias) found)) i ≡ option_map (λ r. biased r (cond (eqb radar i) bias (bias_of r))) (slice_get rs i)
    at None e = cond_both (eqb radar i) None (slice_get rs i) (λ x. slice_get rs i ≡ x) (λ t. same_place None e t) (λ _. refl) ∙ of None (slice_get rs i) (eqb radar i) (same_place None e)
    at (Some r) e = get_set rs radar i (biased r bias) (within r e) ∙ of (Some r) (slice_get rs i) (eqb radar i) (same_place (Some r) e)

pub all_changed : (rs : List RadarSettings) (es : List Entry) (i : ℕ) → slice_get (fold changed rs es) i ≡ option_map (λ r. biased r (held i (bias_of r) es)) (slice_get rs i)
all_changed rs [] i = own (slice_get rs i)
  where
    own : (r : Option RadarSettings) → r ≡ option_map (λ r. biased r (bias_of r)) r
    own None = refl
    own (Some r) = refl
all_changed rs (e ∷ es) i = all_changed (changed rs e) es i ∙ ap (option_map (λ r. biased r (held i (bias_of r) es))) (one_changed rs e i) ∙ twice (slice_get rs i)
  where
    twice : (r : Option RadarSettings) → option_map (λ r. biased r (held i (bias_of r) es)) (option_map (λ r. biased r (given i (bias_of r) e)) r) ≡ option_map (λ r. biased r (held i (bias_of r) (e ∷ es))) r
    twice None = refl
    twice (Some r) = refl

-- ---- the last change among entries that rise is the greatest

later_is : (a b : Entry) → entry_cmp a b ≡ Less → ord_max entry_cmp a b ≡ b
later_is a b h = rw (entry_cmp_total.antisymm b a ∙ ap ordering_reverse h) refl

last_held : (radar n : ℕ) (x : Entry) (xs : List Entry) (own : biases.Bias) → AllByRecursion (λ e. is_change radar n e ≡ true) (x ∷ xs) → Rises entry_cmp key_in (x ∷ xs) → bias_or own (Some (fold (ord_max entry_cmp) x xs)) ≡ held radar (bias_or own (Some x)) xs
last_held radar n x [] own all rise = refl
last_held radar n x (Plot key raw ∷ ys) own all rise = absurd (let no_change : false ≡ true = all.1.0 in cc)
last_held radar n x (Bias slot place from bias ∷ ys) own all rise =
    let y : Entry = Bias slot place from bias in
    let own_radar : eqb from radar ≡ true = (and_parts (eqb from radar) (nat_le slot n) all.1.0).0 in
    ap (λ m. bias_or own (Some (fold (ord_max entry_cmp) m ys))) (later_is x y rise.0.0.order)
    ∙ last_held radar n y ys own all.1 rise.1
    ∙ ap (λ b. held radar (cond b bias (bias_or own (Some x))) ys) (sym own_radar)

only_changes : (radar n : ℕ) (cs : List Entry) (own : biases.Bias) → AllByRecursion (λ e. is_change radar n e ≡ true) cs → Rises entry_cmp key_in cs → bias_or own (reduce (ord_max entry_cmp) cs) ≡ held radar own cs
only_changes radar n [] own all rise = refl
only_changes radar n (Plot key raw ∷ cs) own all rise = absurd (let no_change : false ≡ true = all.0 in cc)
only_changes radar n (Bias slot place from bias ∷ cs) own all rise =
    let own_radar : eqb from radar ≡ true = (and_parts (eqb from radar) (nat_le slot n) all.0).0 in
    last_held radar n (Bias slot place from bias) cs own all rise ∙ ap (λ b. held radar (cond b bias own) cs) (sym own_radar)

-- what isn't a change of the radar changes nothing
nothing_put : (radar : ℕ) (low : List Entry) (e : Entry) (own : biases.Bias) (b : Bool) → given radar own e ≡ own → held radar own low ≡ held radar own (cond b (e ∷ low) low)
nothing_put radar low e own true same = ap (λ x. held radar x low) (sym same)
nothing_put radar low e own false same = refl

both_put : (radar : ℕ) (cs low : List Entry) (e : Entry) (own : biases.Bias) (b : Bool) → ((own : biases.Bias) → held radar own cs ≡ held radar own low) → held radar own (cond b (e ∷ cs) cs) ≡ held radar own (cond b (e ∷ low) low)
both_put radar cs low e own true alike = alike (given radar own e)
both_put radar cs low e own false alike = alike own

held_changes : (radar n : ℕ) (es : List Entry) (own : biases.Bias) → held radar own (filter (is_change radar n) es) ≡ held radar own (filter (λ e. nat_le (slot_in e) n) es)
held_changes radar n [] own = refl
held_changes radar n (Plot key raw ∷ es) own = held_changes radar n es own ∙ nothing_put radar (filter (λ e. nat_le (slot_in e) n) es) (Plot key raw) own (nat_le key.slot n) refl
held_changes radar n (Bias slot place from bias ∷ es) own =
    let e : Entry = Bias slot place from bias in
    let cs : List Entry = filter (is_change radar n) es in
    let low : List Entry = filter (λ e. nat_le (slot_in e) n) es in
    elim (cases_Bool (eqb from radar)) [
      | inl t ↦ ap (λ b. held radar own (cond (b && nat_le slot n) (e ∷ cs) cs)) t ∙ both_put radar cs low e own (nat_le slot n) (held_changes radar n es)
      | inr f ↦ ap (λ b. held radar own (cond (b && nat_le slot n) (e ∷ cs) cs)) f ∙ held_changes radar n es own ∙ nothing_put radar low e own (nat_le slot n) (ap (λ b. cond b bias own) f)
    ]

pub bias_held : (radar n : ℕ) (all : List Entry) (own : biases.Bias) → Rises entry_cmp key_in all → bias_among all own radar n ≡ held radar own (filter (λ e. nat_le (slot_in e) n) all)
bias_held radar n all own rise =
    only_changes radar n (filter (is_change radar n) all) own (filter_passing (is_change radar n) all) (rises_filter entry_cmp key_in (is_change radar n) all rise)
    ∙ held_changes radar n all own
