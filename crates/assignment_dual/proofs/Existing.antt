-- The function gives the least pairing.
use Rattle.std.proofs.Common.{◌≡◌, ◌∙◌, ap, sym, refl, ℕ, zero, suc, ◌+◌, ◌<◌, ◌≤◌, List, [], ◌∷◌, length, false, eqb, Option, Some, None, IsSome, is_some, arith, subst, inl, inr}
use Rattle.std.specs.Prelude.{◌&&◌, nat_le}
use Rattle.std.proofs.lemmas.Bool.{cond_both, and_parts, cases_eq, leb-true, leb-false}
use Rattle.assignment_dual.specs.Pairings.{Row, entry_cost, Gates, IsPairing, cost, EntryBefore, IsLeast}
use Rattle.assignment_dual.specs.First.{without, rest}
use Rattle.assignment_dual.specs.Problems.{Problem, IsProblem, rows_of, row_of}
use Rattle.assignment_dual.specs.Rests.{row_at}
use Rattle.assignment_dual.specs.Least.{first_best, least_of, least_pairing, GateBelow}
use Rattle.assignment_dual.proofs.First.{tail_pairs, least_cost, first_choice}
use Rattle.assignment_dual.proofs.Prefixes.{nothing_least}
use Rattle.assignment_dual.proofs.Choices.{is_some_of}
use Rattle.assignment_dual.proofs.Signed.{row_tells, row_at_index, count_rows}

-- a track among these, or none
abbrev Among : ℕ → ℕ → Option ℕ → Type 0
Among from count None = Unit {0}
Among from count (Some t) = (from ≤ t) × (t < from + count)

record IsBest (worth : Option ℕ → ℕ) (row : Row) (from count : ℕ) (x : Option ℕ) : Type 0 where
  pub gates : Gates row x
  pub among : Among from count x
  pub lowest : (y : Option ℕ) → Gates row y → Among from count y → worth x ≤ worth y
  pub first : (y : Option ℕ) → Gates row y → Among from count y → EntryBefore y x → worth x < worth y

best_is : (worth : Option ℕ → ℕ) (row : Row) (from count : ℕ) → IsBest worth row from count (first_best worth row from count)
unfolding first_best
best_is worth row from zero = record {
  gates = tt;
  among = tt;
  lowest = λ y g a. none y a;
  first = λ y g a b. absurd (empty y a b);
}
  where
    none : (y : Option ℕ) → Among from zero y → worth None ≤ worth y
    none None a = omega arith
    none (Some t) a = absurd (omega (arith, a.0, a.1))

    empty : (y : Option ℕ) → Among from zero y → EntryBefore y None → ⊥
    empty None a b = b
    empty (Some t) a b = omega (arith, a.0, a.1)
best_is worth row from (suc count) =
    let z = first_best worth row (suc from) count in
    let h : IsBest worth row (suc from) count z = best_is worth row (suc from) count in
    cond_both (is_some (row from) && nat_le (worth (Some from)) (worth z)) (Some from) z (IsBest worth row from (suc count))
    (λ e.
    let both = and_parts (is_some (row from)) (nat_le (worth (Some from)) (worth z)) e in
    let le : worth (Some from) ≤ worth z = leb-true (worth (Some from)) (worth z) both.1 in
    record {
      gates = both.0;
      among = (omega arith, omega arith);
      lowest = λ y g a. low z h le y g a;
      first = λ y g a b. absurd (lowest_track y a b);
    })
    (λ e. record {
      gates = h.gates;
      among = wider z h.among;
      lowest = λ y g a. other z h e y g a;
      first = λ y g a b. earlier z h e y g a b;
    })
  where
    wider : (z : Option ℕ) → Among (suc from) count z → Among from (suc count) z
    wider None a = tt
    wider (Some t) a = (omega (arith, a.0), omega (arith, a.1))

    lowest_track : (y : Option ℕ) → Among from (suc count) y → EntryBefore y (Some from) → ⊥
    lowest_track None a b = b
    lowest_track (Some t) a b = omega (arith, a.0, b)

    low : (z : Option ℕ) → IsBest worth row (suc from) count z → worth (Some from) ≤ worth z → (y : Option ℕ) → Gates row y → Among from (suc count) y → worth (Some from) ≤ worth y
    low z h le None g a = omega (arith, le, h.lowest None tt tt)
    low z h le (Some t) g a = elim (cases_eq t from) [
      | inl e ↦ let q = ap (λ i. worth (Some i)) e in omega (arith, q)
      | inr n ↦ omega (arith, le, h.lowest (Some t) g (omega (arith, a.0, n), omega (arith, a.1)))
    ]

    not_taken : (z : Option ℕ) → (is_some (row from) && nat_le (worth (Some from)) (worth z)) ≡ false → Gates row (Some from) → worth z < worth (Some from)
    not_taken z e g = leb-false (worth (Some from)) (worth z) (ap (λ b. b && nat_le (worth (Some from)) (worth z)) (sym g) ∙ e)

    other : (z : Option ℕ) → IsBest worth row (suc from) count z → (is_some (row from) && nat_le (worth (Some from)) (worth z)) ≡ false → (y : Option ℕ) → Gates row y → Among from (suc count) y → worth z ≤ worth y
    other z h e None g a = h.lowest None tt tt
    other z h e (Some t) g a = elim (cases_eq t from) [
      | inl q ↦ let less = not_taken z e (subst (λ i. Gates row (Some i)) q g) in let w = ap (λ i. worth (Some i)) q in omega (arith, less, w)
      | inr n ↦ h.lowest (Some t) g (omega (arith, a.0, n), omega (arith, a.1))
    ]

    earlier : (z : Option ℕ) → IsBest worth row (suc from) count z → (is_some (row from) && nat_le (worth (Some from)) (worth z)) ≡ false → (y : Option ℕ) → Gates row y → Among from (suc count) y → EntryBefore y z → worth z < worth y
    earlier z h e None g a b = h.first None tt tt b
    earlier z h e (Some t) g a b = elim (cases_eq t from) [
      | inl q ↦ let less = not_taken z e (subst (λ i. Gates row (Some i)) q g) in let w = ap (λ i. worth (Some i)) q in omega (arith, less, w)
      | inr n ↦ h.first (Some t) g (omega (arith, a.0, n), omega (arith, a.1)) b
    ]

-- only tracks below n gate, by recursion
abbrev GatesBelow : ℕ → List Row → Type 0
GatesBelow n [] = Unit {0}
GatesBelow n (row ∷ rows) = ((t : ℕ) → IsSome (row t) → t < n) × GatesBelow n rows

below_of : (n : ℕ) (rows : List Row) → GateBelow n rows → GatesBelow n rows
below_of n [] h = tt
below_of n (row ∷ rows) h = (λ t g. h 0 t (omega arith) g, below_of n rows (λ plot t l g. h (suc plot) t (omega (arith, l)) g))

rest_below : (n : ℕ) (x : Option ℕ) (rows : List Row) → GatesBelow n rows → GatesBelow n (rest x rows)
rest_below n x [] h = tt
rest_below n None (row ∷ rows) h = (h.0, rest_below n None rows h.1)
rest_below n (Some s) (row ∷ rows) h = (λ t g. h.0 t (kept t g), rest_below n (Some s) rows h.1)
  where
    kept : (t : ℕ) → IsSome (without (Some s) row t) → IsSome (row t)
    kept t g = cond_both (eqb t s) None (row t) (λ (c : Option ℕ). IsSome c → IsSome (row t)) (λ e i. absurd cc) (λ e i. i) g

rest_length : (x : Option ℕ) (rows : List Row) → length (rest x rows) ≡ length rows
rest_length x [] = refl
rest_length x (row ∷ rows) = ap suc (rest_length x rows)

least_is : (n plots : ℕ) (rows : List Row) → length rows ≤ plots → GatesBelow n rows → IsLeast rows (least_of n plots rows)
unfolding least_of
least_is n zero [] l h = nothing_least
least_is n zero (row ∷ rows) l h = absurd (omega (arith, l))
least_is n (suc plots) [] l h = nothing_least
least_is n (suc plots) (row ∷ rows) l h =
    let worth : Option ℕ → ℕ = λ y. entry_cost row y + cost (rest y rows) (least_of n plots (rest y rows)) in
    let x = first_best worth row 0 n in
    let b : IsBest worth row 0 n x = best_is worth row 0 n in
    let each : (y : Option ℕ) → IsLeast (rest y rows) (least_of n plots (rest y rows)) = λ y. least_is n plots (rest y rows) (omega (arith, l, rest_length y rows)) (rest_below n y rows h.1) in
    first_choice row rows x (worth x) (least_of n plots (rest x rows))
    (record {
      gates = b.gates;
      least = λ ys p. lower worth x b each (λ y. refl) ys p;
      reached = λ ys p f. reach worth x each (λ y. refl) ys p f;
      earlier = λ y g e ys p. let c : worth x < worth y = b.first y g (among y g) e in let d : cost (rest y rows) (least_of n plots (rest y rows)) ≤ cost (rest y rows) ys = least_cost (each y) ys p in omega (arith, c, d);
    })
    (each x)
  where
    among : (y : Option ℕ) → Gates row y → Among 0 n y
    among None g = tt
    among (Some t) g = (omega arith, omega (arith, h.0 t g))

    lower : (worth : Option ℕ → ℕ) (x : Option ℕ) → IsBest worth row 0 n x → ((y : Option ℕ) → IsLeast (rest y rows) (least_of n plots (rest y rows))) → ((y : Option ℕ) → worth y ≡ entry_cost row y + cost (rest y rows) (least_of n plots (rest y rows)))
        → (ys : List (Option ℕ)) → IsPairing (row ∷ rows) ys → worth x ≤ cost (row ∷ rows) ys
    lower worth x b each is [] p = absurd p.gates
    lower worth x b each is (y ∷ ys) p =
        let t : IsPairing (rest y rows) ys × (cost (rest y rows) ys ≡ cost rows ys) = tail_pairs row rows y ys p in
        omega (arith, b.lowest y p.gates.0 (among y p.gates.0), is y, least_cost (each y) ys t.0, t.1)

    reach : (worth : Option ℕ → ℕ) (x : Option ℕ) → ((y : Option ℕ) → IsLeast (rest y rows) (least_of n plots (rest y rows))) → ((y : Option ℕ) → worth y ≡ entry_cost row y + cost (rest y rows) (least_of n plots (rest y rows)))
        → (ys : List (Option ℕ)) → IsPairing (rest x rows) ys → ((zs : List (Option ℕ)) → IsPairing (rest x rows) zs → cost (rest x rows) ys ≤ cost (rest x rows) zs) → entry_cost row x + cost (rest x rows) ys ≡ worth x
    reach worth x each is ys p f = omega (arith, is x, f (least_of n plots (rest x rows)) (each x).pairing, least_cost (each x) ys p)

pub least_pairing_is : (tracks : ℕ) (rows : List Row) → GateBelow tracks rows → IsLeast rows (least_pairing tracks rows)
least_pairing_is tracks rows h = least_is tracks (length rows) rows (omega arith) (below_of tracks rows h)

-- an edge's track is one of the problem's
pub problem_below : (p : Problem) → IsProblem p → GateBelow p.tracks (rows_of p)
problem_below p h plot track l g =
    let n : plot < p.plots = omega (arith, l, count_rows p) in
    let e : row_at (rows_of p) plot ≡ row_of p.edges plot = row_at_index p plot n in
    let s : (c : ℕ) × (row_of p.edges plot track ≡ Some c) = is_some_of (row_of p.edges plot track) (subst (λ (row : Row). IsSome (row track)) e g) in
    row_tells (λ a b d. b < p.tracks) p.edges plot track s.0 (λ j k. h.tracks j (0, 0, 0) k) s.1
