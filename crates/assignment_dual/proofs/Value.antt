-- The sum of all prices tells the least cost.
use Rattle.std.proofs.Common.{◌≡◌, ◌≤◌, ◌<◌, ℕ, zero, suc, ◌+◌, ◌*◌, ◌-◌, length, get_or, drop, sum, cond, not, List, [], ◌∷◌, Option, Bool, true, false, arith, refl, sym, ◌∙◌, ap, subst, length-drop}
use Rattle.std.proofs.lemmas.List.{get_or-drop}
use Rattle.std.proofs.lemmas.List.Sums.{sum_by-cons}
use Rattle.assignment_dual.specs.declared.graph.Graph.{Graph}
use Rattle.assignment_dual.specs.Vertices.{IsGraph, IsOptimal}
use Rattle.assignment_dual.specs.Search.{unseen}
use Rattle.assignment_dual.specs.Pairings.{Row, cost, IsPairing}
use Rattle.assignment_dual.specs.Rests.{ShowsRest}
use Rattle.assignment_dual.proofs.Duality.{Balances, sum-cons}
use Rattle.assignment_dual.proofs.Rests.{IsReadRest, resting_prove}

unseen-true : (gs : List Bool) → unseen (true ∷ gs) ≡ unseen gs
unseen-true gs = omega (arith, sum_by-cons (λ (b : Bool). cond {A = ℕ} (not b) 1 0) true gs)

pub unseen-false : (gs : List Bool) → unseen (false ∷ gs) ≡ 1 + unseen gs
unseen-false gs = omega (arith, sum_by-cons (λ (b : Bool). cond {A = ℕ} (not b) 1 0) false gs)

-- the tracks
tracks_sum : (ts ws : List ℕ) (gs : List Bool) → length ts ≡ length ws → length gs ≡ length ws
    → ((t : ℕ) → t < length ws → get_or gs t false ≡ false → get_or ws t 0 + get_or ts t 0 ≡ 4097)
    → ((t : ℕ) → t < length ws → get_or gs t false ≡ true → get_or ws t 0 + get_or ts t 0 ≡ 0) → sum ts + sum ws ≡ 4097 * unseen gs
tracks_sum [] [] [] l k f o = refl
tracks_sum [] [] (g ∷ gs) l k f o = absurd (omega arith)
tracks_sum [] (w ∷ ws) gs l k f o = absurd (omega arith)
tracks_sum (t ∷ ts) [] gs l k f o = absurd (omega arith)
tracks_sum (t ∷ ts) (w ∷ ws) [] l k f o = absurd (omega arith)
tracks_sum (t ∷ ts) (w ∷ ws) (true ∷ gs) l k f o =
    omega (
      arith,
      sum-cons t ts,
      sum-cons w ws,
      unseen-true gs,
      o 0 (omega arith) refl,
      tracks_sum ts ws gs (omega arith) (omega arith) (λ i h e. f (suc i) (omega (arith, h)) e) (λ i h e. o (suc i) (omega (arith, h)) e),
    )
tracks_sum (t ∷ ts) (w ∷ ws) (false ∷ gs) l k f o =
    omega (
      arith,
      sum-cons t ts,
      sum-cons w ws,
      unseen-false gs,
      f 0 (omega arith) refl,
      tracks_sum ts ws gs (omega arith) (omega arith) (λ i h e. f (suc i) (omega (arith, h)) e) (λ i h e. o (suc i) (omega (arith, h)) e),
    )

-- the plots that are fixed
zeros_sum : (p : ℕ) (qs : List ℕ) → ((v : ℕ) → v < p → get_or qs v 0 ≡ 0) → sum qs ≡ sum (drop p qs)
zeros_sum zero qs z = refl
zeros_sum (suc p) [] z = refl
zeros_sum (suc p) (q ∷ qs) z = omega (arith, sum-cons q qs, z 0 (omega arith), zeros_sum p qs (λ v h. z (suc v) (omega (arith, h))))

-- the plots that are left
plots_sum : (us rs : List ℕ) → length us ≤ length rs → ((i : ℕ) → i < length us → get_or us i 0 ≡ get_or rs i 0) → sum rs ≡ sum us + sum (drop (length us) rs)
plots_sum [] rs l e = omega arith
plots_sum (u ∷ us) [] l e = absurd (omega arith)
plots_sum (u ∷ us) (r ∷ rs) l e = omega (arith, sum-cons u us, sum-cons r rs, e 0 (omega arith), plots_sum us rs (omega arith) (λ i h. e (suc i) (omega (arith, h))))

at_drop : {A : Type 0} (k : ℕ) (xs : List A) (i : ℕ) (d : A) → get_or (drop k xs) i d ≡ get_or xs (k + i) d
at_drop k xs i d = get_or-drop k xs i d

suc_add : (b a : ℕ) → suc (b + a) ≡ suc b + a
suc_add b a = omega arith

drop_nil : {A : Type 0} (n : ℕ) → drop {A = A} n [] ≡ []
drop_nil zero = refl
drop_nil (suc n) = refl

zero_add : (a : ℕ) → a ≡ 0 + a
zero_add a = omega arith

drop_twice : {A : Type 0} (a b : ℕ) (xs : List A) → drop a (drop b xs) ≡ drop (b + a) xs
drop_twice a zero xs = ap (λ (j : ℕ). drop j xs) (zero_add a)
drop_twice {A} a (suc b) [] = drop_nil a ∙ sym (drop_nil {A = A} (suc b + a))
drop_twice a (suc b) (x ∷ xs) = drop_twice a b xs ∙ ap (λ (j : ℕ). drop j (x ∷ xs)) (suc_add b a)

-- all prices together are the cost and 4097 for each track that is left
pub resting_value : {g : Graph} {n tracks p : ℕ} {qs ms us ws : List ℕ} {gone : List Bool} {rows : List Row} {xs : List (Option ℕ)} → IsGraph g n → IsOptimal g n qs ms gone → length gone ≡ n
    → ShowsRest g n tracks gone p rows → IsReadRest g.plots tracks gone p qs ms xs us ws → sum qs ≡ cost rows xs + 4097 * unseen (drop g.plots gone)
resting_value {g} {n} {tracks} {p} {qs} {ms} {us} {ws} {gone} {rows} {xs} gr re lg sh rd =
    let pr : IsPairing rows xs × Balances rows xs us ws = resting_prove gr re sh rd in
    let z : sum qs ≡ sum (drop p qs) = zeros_sum p qs (λ v h. (re.out v (omega (arith, h, sh.count, sh.size)) (sh.before v h)).1) in
    let ln : length (drop p qs) ≡ n - p = length-drop p qs ∙ ap (λ (i : ℕ). i - p) re.priced.count in
    let s : sum (drop p qs) ≡ sum us + sum (drop (length us) (drop p qs)) =
    plots_sum us (drop p qs) (omega (arith, ln, rd.plot_prices, sh.size)) (λ i h. rd.u i (omega (arith, h, rd.plot_prices)) ∙ sym (at_drop p qs i 0)) in
    let d : drop (length us) (drop p qs) ≡ drop g.plots qs = drop_twice (length us) p qs ∙ ap (λ (i : ℕ). drop i qs) rd.plot_prices in
    let lt : length (drop g.plots qs) ≡ n - g.plots = length-drop g.plots qs ∙ ap (λ (i : ℕ). i - g.plots) re.priced.count in
    let lh : length (drop g.plots gone) ≡ n - g.plots = length-drop g.plots gone ∙ ap (λ (i : ℕ). i - g.plots) lg in
    let t : sum (drop g.plots qs) + sum ws ≡ 4097 * unseen (drop g.plots gone) =
    tracks_sum (drop g.plots qs) ws (drop g.plots gone) (omega (arith, lt, rd.track_prices, sh.size)) (omega (arith, lh, rd.track_prices, sh.size))
    (λ i h e. let a : get_or (drop g.plots qs) i 0 ≡ get_or qs (g.plots + i) 0 = at_drop g.plots qs i 0 in omega (arith, a, rd.w i (subst (λ (j : ℕ). i < j) rd.track_prices h) (sym (at_drop g.plots gone i false) ∙ e)))
    (λ i h e.
    let a : get_or (drop g.plots qs) i 0 ≡ get_or qs (g.plots + i) 0 = at_drop g.plots qs i 0 in
    let b : get_or gone (g.plots + i) false ≡ true = sym (at_drop g.plots gone i false) ∙ e in
    let il : i < tracks = subst (λ (j : ℕ). i < j) rd.track_prices h in
    omega (arith, a, rd.w_gone i il b, (re.out (g.plots + i) (omega (arith, il, sh.size)) b).1)) in
    omega (arith, z, s, ap sum d, t, pr.1.equal)
