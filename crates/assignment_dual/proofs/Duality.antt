-- Feasible prices bound the cost of every pairing from below.
use Rattle.std.proofs.Common.{◌≡◌, ◌≢◌, ◌≤◌, ℕ, zero, suc, ◌+◌, List, [], ◌∷◌, Option, Some, None, arith, refl, sym, ap, IsSome, sum, get_or, set, get_or-set_other}
use Rattle.std.proofs.lemmas.List.Sums.{sum_by-cons}
use Rattle.trk_base.specs.Limits.{miss_cost}
use Rattle.assignment_dual.specs.Pairings.{Row, paired_cost, entry_cost, Gates, AllGate, Misses, Once, IsPairing, cost}

-- Prices without a sign: the price of a plot is u, the price of a track is -w.
abbrev pub RowFeasible : Row → ℕ → List ℕ → Type 0
RowFeasible row u ws = (u ≤ miss_cost) × ((t c : ℕ) → row t ≡ Some c → u ≤ c + get_or ws t 0)

abbrev pub Feasible : List Row → List ℕ → List ℕ → Type 0
Feasible [] [] ws = Unit {0}
Feasible [] (u ∷ us) ws = ⊥
Feasible (row ∷ rows) [] ws = ⊥
Feasible (row ∷ rows) (u ∷ us) ws = RowFeasible row u ws × Feasible rows us ws

-- feasible prices whose sum is the cost
pub record Balances (rows : List Row) (xs : List (Option ℕ)) (us ws : List ℕ) : Type 0 where
  pub feasible : Feasible rows us ws
  pub equal : sum us ≡ cost rows xs + sum ws

-- u plus the price of the track named is the cost of the entry
abbrev pub IsTight : Row → Option ℕ → ℕ → List ℕ → Type 0
IsTight row None u ws = u ≡ miss_cost
IsTight row (Some t) u ws = u ≡ paired_cost (row t) + get_or ws t 0

abbrev pub AllTight : List Row → List (Option ℕ) → List ℕ → List ℕ → Type 0
AllTight [] xs us ws = Unit {0}
AllTight (row ∷ rows) [] us ws = Unit {0}
AllTight (row ∷ rows) (x ∷ xs) [] ws = Unit {0}
AllTight (row ∷ rows) (x ∷ xs) (u ∷ us) ws = IsTight row x u ws × AllTight rows xs us ws

-- the sum of the prices at the tracks named
abbrev pub taken : List (Option ℕ) → List ℕ → ℕ
taken [] ws = 0
taken (None ∷ xs) ws = taken xs ws
taken (Some t ∷ xs) ws = get_or ws t 0 + taken xs ws

pub sum-cons : (x : ℕ) (xs : List ℕ) → sum (x ∷ xs) ≡ x + sum xs
sum-cons x xs = sum_by-cons (λ y. y) x xs

sum-zeroed : (ws : List ℕ) (t : ℕ) → get_or ws t 0 + sum (set ws t 0) ≡ sum ws
sum-zeroed [] t = refl
sum-zeroed (w ∷ ws) zero = omega (arith, sum-cons 0 ws, sum-cons w ws)
sum-zeroed (w ∷ ws) (suc t) = omega (arith, sum-cons w (set ws t 0), sum-cons w ws, sum-zeroed ws t)

taken-zeroed : (t : ℕ) (xs : List (Option ℕ)) (ws : List ℕ) → Misses t xs → taken xs (set ws t 0) ≡ taken xs ws
taken-zeroed t [] ws h = refl
taken-zeroed t (None ∷ xs) ws h = taken-zeroed t xs ws h.1
taken-zeroed t (Some s ∷ xs) ws h = omega (arith, get_or-set_other ws t s 0 0 (λ e. h.0 (ap Some e)), taken-zeroed t xs ws h.1)

pub taken_within : (xs : List (Option ℕ)) (ws : List ℕ) → Once xs → taken xs ws ≤ sum ws
taken_within [] ws h = omega arith
taken_within (None ∷ xs) ws h = taken_within xs ws h
taken_within (Some t ∷ xs) ws h = omega (arith, sum-zeroed ws t, taken-zeroed t xs ws h.0, taken_within xs (set ws t 0) h.1)

row_bound : (row : Row) (x : Option ℕ) (u : ℕ) (ws : List ℕ) → Gates row x → RowFeasible row u ws → u ≤ entry_cost row x + taken (x ∷ []) ws
row_bound row None u ws g h = omega (arith, h.0)
row_bound row (Some t) u ws g h =
    elim (row t) as (λ r. row t ≡ r → IsSome r → u ≤ paired_cost r + (get_or ws t 0 + 0)) [
      | None ↦ λ e k. absurd (cc)
      | Some c ↦ λ e k. omega (arith, h.1 t c e)
    ] refl g

taken-cons : (x : Option ℕ) (xs : List (Option ℕ)) (ws : List ℕ) → taken (x ∷ xs) ws ≡ taken (x ∷ []) ws + taken xs ws
taken-cons None xs ws = omega arith
taken-cons (Some t) xs ws = omega arith

rows_bound : (rows : List Row) (xs : List (Option ℕ)) (us ws : List ℕ) → AllGate rows xs → Feasible rows us ws → sum us ≤ cost rows xs + taken xs ws
rows_bound [] [] [] ws g f = omega arith
rows_bound [] [] (u ∷ us) ws g f = absurd f
rows_bound [] (x ∷ xs) us ws g f = absurd g
rows_bound (row ∷ rows) [] us ws g f = absurd g
rows_bound (row ∷ rows) (x ∷ xs) [] ws g f = absurd f
rows_bound (row ∷ rows) (x ∷ xs) (u ∷ us) ws g f = omega (arith, sum-cons u us, taken-cons x xs ws, row_bound row x u ws g.0 f.0, rows_bound rows xs us ws g.1 f.1)

pub weak : (rows : List Row) (us ws : List ℕ) → Feasible rows us ws → (xs : List (Option ℕ)) → IsPairing rows xs → sum us ≤ cost rows xs + sum ws
weak rows us ws f xs p = omega (arith, rows_bound rows xs us ws p.gates f, taken_within xs ws p.once)

pub no_cheaper : (rows : List Row) (xs : List (Option ℕ)) (us ws : List ℕ) → Balances rows xs us ws → (ys : List (Option ℕ)) → IsPairing rows ys → cost rows xs ≤ cost rows ys
no_cheaper rows xs us ws p ys h = omega (arith, p.equal, weak rows us ws p.feasible ys h)

tight_entry : (row : Row) (x : Option ℕ) (u : ℕ) (ws : List ℕ) → u ≡ entry_cost row x + taken (x ∷ []) ws → IsTight row x u ws
tight_entry row None u ws e = omega arith
tight_entry row (Some t) u ws e = omega arith

tight_rows : (rows : List Row) (xs : List (Option ℕ)) (us ws : List ℕ) → AllGate rows xs → Feasible rows us ws → cost rows xs + taken xs ws ≤ sum us → AllTight rows xs us ws
tight_rows [] xs us ws g f e = tt
tight_rows (row ∷ rows) [] us ws g f e = tt
tight_rows (row ∷ rows) (x ∷ xs) [] ws g f e = tt
tight_rows (row ∷ rows) (x ∷ xs) (u ∷ us) ws g f e =
    let a : u ≤ entry_cost row x + taken (x ∷ []) ws = row_bound row x u ws g.0 f.0 in
    let b : sum us ≤ cost rows xs + taken xs ws = rows_bound rows xs us ws g.1 f.1 in
    let d : sum (u ∷ us) ≡ u + sum us = sum-cons u us in
    let k : taken (x ∷ xs) ws ≡ taken (x ∷ []) ws + taken xs ws = taken-cons x xs ws in
    (tight_entry row x u ws (omega arith), tight_rows rows xs us ws g.1 f.1 (omega arith))

pub all_tight : (rows : List Row) (xs : List (Option ℕ)) (us ws : List ℕ) → IsPairing rows xs → Balances rows xs us ws → AllTight rows xs us ws
all_tight rows xs us ws h p = tight_rows rows xs us ws h.gates p.feasible (omega (arith, p.equal, taken_within xs ws h.once))

pub free_at_none : (rows : List Row) (xs : List (Option ℕ)) (us ws : List ℕ) → IsPairing rows xs → Balances rows xs us ws → (t : ℕ) → Misses t xs → get_or ws t 0 ≡ 0
free_at_none rows xs us ws h p t m = omega (arith, p.equal, rows_bound rows xs us ws h.gates p.feasible, taken_within (Some t ∷ xs) ws (m, h.once))

-- The other way: tight choices, and no price at a track that is free.
all_zero : (ws : List ℕ) → ((t : ℕ) → get_or ws t 0 ≡ 0) → sum ws ≡ 0
all_zero [] h = refl
all_zero (w ∷ ws) h = omega (arith, sum-cons w ws, h 0, all_zero ws (λ t. h (suc t)))

zeroed : (ws : List ℕ) (t s : ℕ) → (s ≢ t → get_or ws s 0 ≡ 0) → get_or (set ws t 0) s 0 ≡ 0
zeroed [] t s h = refl
zeroed (w ∷ ws) zero zero h = refl
zeroed (w ∷ ws) zero (suc s) h = h (λ e. absurd (omega arith))
zeroed (w ∷ ws) (suc t) zero h = h (λ e. absurd (omega arith))
zeroed (w ∷ ws) (suc t) (suc s) h = zeroed ws t s (λ n. h (λ e. n (omega arith)))

taken_whole : (xs : List (Option ℕ)) (ws : List ℕ) → Once xs → ((t : ℕ) → Misses t xs → get_or ws t 0 ≡ 0) → taken xs ws ≡ sum ws
taken_whole [] ws o h = sym (all_zero ws (λ t. h t tt))
taken_whole (None ∷ xs) ws o h = taken_whole xs ws o (λ t m. h t (λ e. cc, m))
taken_whole (Some s ∷ xs) ws o h =
    omega (arith, sum-zeroed ws s, taken-zeroed s xs ws o.0, taken_whole xs (set ws s 0) o.1 (λ t m. zeroed ws s t (λ n. h t ((λ e. n (cc)), m))))

entry_is : (row : Row) (x : Option ℕ) (u : ℕ) (ws : List ℕ) → IsTight row x u ws → u ≡ entry_cost row x + taken (x ∷ []) ws
entry_is row None u ws e = omega arith
entry_is row (Some t) u ws e = omega arith

tight_sum : (rows : List Row) (xs : List (Option ℕ)) (us ws : List ℕ) → AllGate rows xs → Feasible rows us ws → AllTight rows xs us ws → sum us ≡ cost rows xs + taken xs ws
tight_sum [] [] [] ws g f t = refl
tight_sum [] [] (u ∷ us) ws g f t = absurd f
tight_sum [] (x ∷ xs) us ws g f t = absurd g
tight_sum (row ∷ rows) [] us ws g f t = absurd g
tight_sum (row ∷ rows) (x ∷ xs) [] ws g f t = absurd f
tight_sum (row ∷ rows) (x ∷ xs) (u ∷ us) ws g f t = omega (arith, sum-cons u us, taken-cons x xs ws, entry_is row x u ws t.0, tight_sum rows xs us ws g.1 f.1 t.1)

pub balances : (rows : List Row) (xs : List (Option ℕ)) (us ws : List ℕ) → IsPairing rows xs → Feasible rows us ws → AllTight rows xs us ws → ((t : ℕ) → Misses t xs → get_or ws t 0 ≡ 0) → Balances rows xs us ws
balances rows xs us ws p f t z = record {
  feasible = f;
  equal = omega (arith, tight_sum rows xs us ws p.gates f t, taken_whole xs ws p.once z);
}
