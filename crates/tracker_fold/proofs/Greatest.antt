-- The greatest of the entries that pass a test doesn't depend on their order.
use Rattle.std.proofs.Common.{◌≡◌, ap, sym, subst, refl, ℕ, Bool, false, List, [], ◌∷◌, Some, inl, inr, arith}
use Rattle.std.specs.Prelude.{filter, fold, Contains}
use Rattle.std.specs.List.{reduce}
use Rattle.std.specs.List.Sorted.{IsPermutation}
use Rattle.std.specs.Ordering.{ord_max, is_lt}
use Rattle.std.proofs.lemmas.List.Sorted.{IsPermutation-sym, Contains-permutation}
use Rattle.slot_step.proofs.Interleavings.{contains_first, contains_later, contains_cons}
use Rattle.plot_geometry.specs.declared.biases.Bias as biases
use Rattle.admission_log.specs.declared.entries.Entry.{Entry}
use Rattle.admission_log.specs.EntryOrder.{entry_cmp, entry_cmp_total, entry_cmp_exact}
use Rattle.admission_log.specs.Biases.{is_change, bias_or, bias_among}
use Rattle.admission_log.proofs.Greatest.{Has, has_filtered, passes_filtered, greatest_is}
use Rattle.tracker_fold.proofs.SameOrder.{neither_below}

contained : (x : Entry) (xs : List Entry) → Has x xs → Contains xs x
contained x [] h = absurd h
contained x (y ∷ xs) (inl e) = contains_first y x xs (sym e)
contained x (y ∷ xs) (inr h) = contains_later y x xs (contained x xs h)

has : (x : Entry) (xs : List Entry) → Contains xs x → Has x xs
has x [] c = absurd (omega (arith, c.1))
has x (y ∷ xs) c = elim (contains_cons y x xs c) [ inl e ↦ inl (sym e) | inr more ↦ inr (has x xs more) ]

passes_too : (p : Entry → Bool) (x : Entry) (xs ys : List Entry) → IsPermutation xs ys → Has x (filter p xs) → Has x (filter p ys)
passes_too p x xs ys moves h =
    let passes = passes_filtered p x xs h in
    has_filtered p x ys (has x ys (Contains-permutation xs ys x moves (contained x xs passes.0))) passes.1

pub greatest_stays : (p : Entry → Bool) (xs ys : List Entry) → IsPermutation xs ys → reduce (ord_max entry_cmp) (filter p xs) ≡ reduce (ord_max entry_cmp) (filter p ys)
greatest_stays p xs ys moves = of (filter p xs) (filter p ys) refl refl
  where
    there : (x : Entry) → Has x (filter p xs) → Has x (filter p ys)
    there x h = passes_too p x xs ys moves h

    back : (x : Entry) → Has x (filter p ys) → Has x (filter p xs)
    back x h = passes_too p x ys xs (IsPermutation-sym xs ys moves) h

    of : (us vs : List Entry) → filter p xs ≡ us → filter p ys ≡ vs → reduce (ord_max entry_cmp) us ≡ reduce (ord_max entry_cmp) vs
    of [] [] e f = refl
    of [] (v ∷ vs) e f = absurd (subst (Has v) e (back v (subst (Has v) (sym f) (inl refl))))
    of (u ∷ us) [] e f = absurd (subst (Has u) f (there u (subst (Has u) (sym e) (inl refl))))
    of (u ∷ us) (v ∷ vs) e f =
        let r = fold (ord_max entry_cmp) u us in
        let s = fold (ord_max entry_cmp) v vs in
        let one = greatest_is u us in
        let other = greatest_is v vs in
        let above : is_lt (entry_cmp r s) ≡ false = one.least s (subst (Has s) e (back s (subst (Has s) (sym f) other.one))) in
        let below : is_lt (entry_cmp s r) ≡ false = other.least r (subst (Has r) f (there r (subst (Has r) (sym e) one.one))) in
        ap Some (entry_cmp_exact r s (neither_below (entry_cmp r s) (entry_cmp s r) (entry_cmp_total.antisymm r s) above below))

pub bias_stays : (xs ys : List Entry) → IsPermutation xs ys → (own : biases.Bias) (radar n : ℕ) → bias_among xs own radar n ≡ bias_among ys own radar n
bias_stays xs ys moves own radar n = ap (bias_or own) (greatest_stays (is_change radar n) xs ys moves)
