-- A component's entries are put into the batch's pairing.
use Rattle.std.proofs.Common.{◌≡◌, ◌∙◌, ap, sym, refl, ℕ, zero, suc, ◌+◌, ◌<◌, List, [], ◌∷◌, ◌++◌, length, get_or, take, set, Option, None, arith, subst, inl, inr}
use Rattle.std.specs.Prelude.{◌⊎◌, Contains}
use Rattle.std.specs.List.Sorted.{IsStrictlyIncreasing}
use Rattle.std.proofs.lemmas.Bool.{cases_eq}
use Rattle.std.proofs.lemmas.List.{get_or-set_same, get_or-set_other}
use Rattle.std.proofs.lemmas.List.Elements.{Contains-get_or}
use Rattle.assignment_dual.specs.Parts.{at_plots}
use Rattle.cluster_split.proofs.Ranges.{rises_far}
use Rattle.slot_step.proofs.Interleavings.{contains_first, contains_later, contains_cons, contains_none}
use Rattle.slot_step.proofs.Components.{rest_rises}
use Rattle.slot_step.proofs.ComponentEdges.{map_suc}

take_below : (ns : List ℕ) → IsStrictlyIncreasing ns → (k n : ℕ) → k < length ns → Contains (take k ns) n → n < get_or ns k 0
take_below [] up k n lt c = absurd (omega (arith, lt))
take_below (m ∷ ns) up zero n lt c = contains_none n c
take_below (m ∷ ns) up (suc k) n lt c = elim (contains_cons m n (take k ns) c) [
  | inl e ↦ omega (arith, e, rises_far (m ∷ ns) up 0 (suc k) (omega arith) lt)
  | inr d ↦ take_below ns (rest_rises m ns up) k n (omega (arith, lt)) d
]

at_same : {X : Type 0} (none : X) (xs ys : List X) (plots : List ℕ) → ((plot : ℕ) → Contains plots plot → get_or xs plot none ≡ get_or ys plot none) → at_plots none xs plots ≡ at_plots none ys plots
at_same none xs ys [] f = refl
at_same none xs ys (plot ∷ plots) f = λ i. f plot (contains_first plot plot plots refl) i ∷ at_same none xs ys plots (λ q c. f q (contains_later plot q plots c)) i

-- one plot more
pub placed_own : (xs : List (Option ℕ)) (plots : List ℕ) (k : ℕ) (v : Option ℕ) → IsStrictlyIncreasing plots → k < length plots → get_or plots k 0 < length xs
    → at_plots None (set xs (get_or plots k 0) v) (take (k + 1) plots) ≡ at_plots None xs (take k plots) ++ v ∷ []
placed_own xs plots k v up lt inside =
    let plot = get_or plots k 0 in
    let new = set xs plot v in
    let s : k + 1 ≡ suc k = omega arith in
    ap (λ n. at_plots None new (take n plots)) s ∙ map_suc (λ p. get_or new p None) plots k 0 lt
    ∙ ap (λ (zs : List (Option ℕ)). zs ++ get_or new plot None ∷ []) (at_same None new xs (take k plots) (λ q c. get_or-set_other xs plot q v None (λ e. omega (arith, e, take_below plots up k q lt c))))
    ∙ ap (λ (x : Option ℕ). at_plots None xs (take k plots) ++ x ∷ []) (get_or-set_same xs plot v None inside)

pub placed_others : (xs : List (Option ℕ)) (plots : List ℕ) (k : ℕ) (v : Option ℕ) → k < length plots → (plot : ℕ) → (Contains plots plot → ⊥) → get_or (set xs (get_or plots k 0) v) plot None ≡ get_or xs plot None
placed_others xs plots k v lt plot n = get_or-set_other xs (get_or plots k 0) plot v None (λ (e : plot ≡ get_or plots k 0). n (subst (Contains plots) (sym e) (Contains-get_or plots k 0 lt)))

-- whether a number is in a list
pub is_in : (ns : List ℕ) (n : ℕ) → Contains ns n ⊎ (Contains ns n → ⊥)
is_in [] n = inr (λ c. contains_none n c)
is_in (m ∷ ns) n = elim (cases_eq m n) [
  | inl e ↦ inl (contains_first m n ns e)
  | inr d ↦ elim (is_in ns n) [
    | inl c ↦ inl (contains_later m n ns c)
    | inr f ↦ inr (λ c. elim (contains_cons m n ns c) [ inl e ↦ d e | inr g ↦ f g ])
  ]
]
