-- Whether a record of a price file proves is decided.
use Rattle.std.proofs.Common.{◌≡◌, ◌≢◌, ap, refl, inl, inr, ℕ, ◌⊎◌, List, [], ◌∷◌, length, ℤ, pos, ◌+ℤ◌, ◌≤ℤ◌, ◌<ℤ◌, All, Option, Some, None, IsSome, arith}
use Rattle.std.proofs.lemmas.Bool.{cases_eq}
use Rattle.std.proofs.lemmas.Cmp.{int_ranked}
use Rattle.std.proofs.lemmas.Int.{ints}
use Rattle.std.proofs.lemmas.List.Elements.{All-nil, All-cons, All-head, All-tail}
use Rattle.std.specs.Ordering.{int_cmp, MatchOrdering}
use Rattle.std.specs.declared.cmp.Ordering.{Ordering}
use Rattle.std.specs.declared.cmp.Ordering.TheVariants.{Less, Equal, Greater}
use Rattle.trk_base.specs.Limits.{miss_cost}
use Rattle.assignment_dual.specs.Pairings.{Row, Gates, AllGate, Misses, Once, IsPairing, cost}
use Rattle.assignment_dual.specs.Problems.{Problem, Edge, Proves, rows_of, price_at, total}
use Rattle.price_form.specs.declared.certs.PriceRecord.{PriceRecord}
use Rattle.price_form.specs.declared.certs.PriceRecord.TheVariants.{Edition, Cert as Certified}
use Rattle.tracker_session.specs.Checking.{IsProved}

abbrev pub Decided : Type 0 → Type 0
Decided P = P ⊎ (P → ⊥)

both : {P Q : Type 0} → Decided P → Decided Q → Decided (P × Q)
both (inl p) (inl q) = inl (p, q)
both (inl p) (inr not) = inr (λ h. not h.1)
both (inr not) q = inr (λ h. not h.0)

-- one says the other
said_so : {P Q : Type 0} → (P → Q) → (Q → P) → Decided P → Decided Q
said_so to from (inl p) = inl (to p)
said_so to from (inr not) = inr (λ q. not (from q))

each : {X : Type 0} (P : X → Type 0) → ((x : X) → Decided (P x)) → (xs : List X) → Decided (All P xs)
each P one [] = inl (All-nil P)
each P one (x ∷ xs) = said_so (λ h. All-cons P x xs h.0 h.1) (λ h. (All-head P x xs h, All-tail P x xs h)) (both (one x) (each P one xs))

-- ---- numbers with a sign

in_order : (x y : ℤ) (r : Ordering) → MatchOrdering r (x <ℤ y) (x ≡ y) (y <ℤ x) → (x <ℤ y) ⊎ ((x ≡ y) ⊎ (y <ℤ x))
in_order x y Less h = inl h
in_order x y Equal h = inr (inl h)
in_order x y Greater h = inr (inr h)

at_most : (x y : ℤ) → Decided (x ≤ℤ y)
at_most x y = elim (in_order x y (int_cmp x y) (int_ranked x y (int_cmp x y) refl)) [
  | inl less ↦ inl (omega (arith, ints, less))
  | inr (inl e) ↦ inl (omega (arith, ints, e))
  | inr (inr more) ↦ inr (λ h. omega (arith, ints, more, h))
]

same_number : (x y : ℤ) → Decided (x ≡ y)
same_number x y = elim (in_order x y (int_cmp x y) (int_ranked x y (int_cmp x y) refl)) [
  | inl less ↦ inr (λ e. omega (arith, ints, less, e))
  | inr (inl e) ↦ inl e
  | inr (inr more) ↦ inr (λ e. omega (arith, ints, more, e))
]

-- ---- a pairing

is_there : {X : Type 0} (o : Option X) → Decided (IsSome o)
is_there (Some x) = inl refl
is_there None = inr (λ e. cc)

gates : (row : Row) (x : Option ℕ) → Decided (Gates row x)
gates row None = inl tt
gates row (Some t) = is_there (row t)

all_gate : (rows : List Row) (xs : List (Option ℕ)) → Decided (AllGate rows xs)
all_gate [] [] = inl tt
all_gate [] (x ∷ xs) = inr (λ h. h)
all_gate (row ∷ rows) [] = inr (λ h. h)
all_gate (row ∷ rows) (x ∷ xs) = both (gates row x) (all_gate rows xs)

some_same : (s t : ℕ) → ◌≡◌ {A = Option ℕ} (Some s) (Some t) → s ≡ t
some_same s t e = cc

names_other : (t : ℕ) (x : Option ℕ) → Decided (x ≢ Some t)
names_other t None = inl (λ e. cc)
names_other t (Some s) = elim (cases_eq s t) [
  | inl e ↦ inr (λ h. h (ap Some e))
  | inr ne ↦ inl (λ e. ne (some_same s t e))
]

misses : (t : ℕ) (xs : List (Option ℕ)) → Decided (Misses t xs)
misses t [] = inl tt
misses t (x ∷ xs) = both (names_other t x) (misses t xs)

once : (xs : List (Option ℕ)) → Decided (Once xs)
once [] = inl tt
once (None ∷ xs) = once xs
once (Some t ∷ xs) = both (misses t xs) (once xs)

pairing : (rows : List Row) (xs : List (Option ℕ)) → Decided (IsPairing rows xs)
pairing rows xs = said_so (λ h. record { gates = h.0; once = h.1 }) (λ h. (h.gates, h.once)) (both (all_gate rows xs) (once xs))

-- ---- a certificate

proves : (p : Problem) (xs : List (Option ℕ)) (us vs : List ℤ) → Decided (Proves p xs us vs)
proves p xs us vs =
    said_so
    (λ h. record { pairing = h.0; plot_prices = h.1.0; track_prices = h.1.1.0; below_miss = h.1.1.1.0; below_zero = h.1.1.1.1.0; below_cost = h.1.1.1.1.1.0; equal = h.1.1.1.1.1.1 })
    (λ h. (h.pairing, (h.plot_prices, (h.track_prices, (h.below_miss, (h.below_zero, (h.below_cost, h.equal)))))))
    (both (pairing (rows_of p) xs)
    (both (cases_eq (length us) p.plots)
    (both (cases_eq (length vs) p.tracks)
    (both (each (λ u. u ≤ℤ pos miss_cost) (λ u. at_most u (pos miss_cost)) us)
    (both (each (λ v. v ≤ℤ pos 0) (λ v. at_most v (pos 0)) vs)
    (both (each (λ e. (price_at us e.0 +ℤ price_at vs e.1) ≤ℤ pos e.2) (λ (e : Edge). at_most (price_at us e.0 +ℤ price_at vs e.1) (pos e.2)) p.edges)
    (same_number (total us +ℤ total vs) (pos (cost (rows_of p) xs)))))))))

pub record_proves : (r : PriceRecord) → Decided (IsProved r)
record_proves (Edition number cut) = inl tt
record_proves (Certified c at) = proves c.costs c.pairing c.u c.v
