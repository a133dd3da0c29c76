-- The entries before a plot, and the rows that are left.
use Rattle.std.proofs.Common.{◌≡◌, ◌≢◌, ◌≤◌, ◌<◌, inr, ℕ, ◌+◌, get_or, List, [], ◌∷◌, ◌++◌, Option, Bool, false, arith, refl, ◌∙◌, ap, subst}
use Rattle.assignment_dual.specs.declared.graph.Graph.{Graph}
use Rattle.assignment_dual.specs.Pairings.{Row, IsLeast}
use Rattle.assignment_dual.specs.First.{rest}
use Rattle.assignment_dual.specs.Vertices.{IsOptimal}
use Rattle.assignment_dual.specs.Rests.{ShowsRest}
use Rattle.assignment_dual.specs.Choices.{IsFixedBy}
use Rattle.assignment_dual.proofs.First.{first_choice}

-- after these entries the least pairing of what is left makes the least pairing
pub record Left (g : Graph) (n tracks : ℕ) (gone : List Bool) (p : ℕ) (entries : List (Option ℕ)) (rows : List Row) : Type 0 where
  pub left : List Row
  pub shows : ShowsRest g n tracks gone p left
  pub least : (ys : List (Option ℕ)) → IsLeast left ys → IsLeast rows (entries ++ ys)

pub record Choosing (g : Graph) (n : ℕ) (first : List Bool) (qs ms : List ℕ) (gone : List Bool) (p : ℕ) (entries : List (Option ℕ)) : Type 0 where
  pub resting : IsOptimal g n qs ms gone
  pub here : (v : ℕ) → p ≤ v → v < g.plots → get_or gone v false ≡ false
  pub so_far : (tracks : ℕ) (rows : List Row) → ShowsRest g n tracks first 0 rows → Left g n tracks gone p entries rows

pub choosing_first : {g : Graph} {n : ℕ} {first : List Bool} {qs ms : List ℕ} → IsOptimal g n qs ms first → ((v : ℕ) → v < g.plots → get_or first v false ≡ false) → Choosing g n first qs ms first 0 []
choosing_first r h = record {
  resting = r;
  here = λ v a b. h v b;
  so_far = λ tracks rows s. record { left = rows; shows = s; least = λ ys l. l };
}

one_more : (entries : List (Option ℕ)) (x : Option ℕ) (ys : List (Option ℕ)) → entries ++ x ∷ ys ≡ (entries ++ x ∷ []) ++ ys
one_more [] x ys = refl
one_more (e ∷ entries) x ys = ap (λ (o : List (Option ℕ)). e ∷ o) (one_more entries x ys)

left_next : {g : Graph} {n tracks p : ℕ} {gone new : List Bool} (entries : List (Option ℕ)) {rows : List Row} {x : Option ℕ} (left : List Row) → ShowsRest g n tracks gone p left → ((ys : List (Option ℕ)) → IsLeast left ys → IsLeast rows (entries ++ ys)) → p < g.plots
    → ((row : Row) (rows : List Row) → ShowsRest g n tracks gone p (row ∷ rows) → IsFixedBy g n gone new p x tracks row rows) → Left g n tracks new (p + 1) (entries ++ x ∷ []) rows
left_next entries [] s l h f = absurd (omega (arith, s.count, h))
left_next {g} {n} {tracks} {p} {gone} {new} entries {rows} {x} (row ∷ left) s l h f =
    let b : IsFixedBy g n gone new p x tracks row left = f row left s in
    record {
      left = rest x left;
      shows = b.shows;
      least = λ ys q. subst (IsLeast rows) (one_more entries x ys) (l (x ∷ ys) (first_choice row left x b.least ys b.choice q));
    }

pub choosing_next : {g : Graph} {n p : ℕ} {first gone new : List Bool} {qs ms new_q new_m : List ℕ} {entries : List (Option ℕ)} {x : Option ℕ} → Choosing g n first qs ms gone p entries → p < g.plots → IsOptimal g n new_q new_m new
    → ((v : ℕ) → v < g.plots → v ≢ p → get_or new v false ≡ get_or gone v false)
    → ((tracks : ℕ) (row : Row) (rows : List Row) → ShowsRest g n tracks gone p (row ∷ rows) → IsFixedBy g n gone new p x tracks row rows) → Choosing g n first new_q new_m new (p + 1) (entries ++ x ∷ [])
choosing_next {g} {n} {p} {first} {gone} {new} {qs} {ms} {new_q} {new_m} {entries} {x} c h r o f = record {
  resting = r;
  here = λ v a b. o v b (λ e. omega (arith, e, a)) ∙ c.here v (omega (arith, a)) b;
  so_far = λ tracks rows s.
      let l : Left g n tracks gone p entries rows = c.so_far tracks rows s in
      left_next entries l.left l.shows l.least h (f tracks);
}

append_none : (entries : List (Option ℕ)) → entries ++ [] ≡ entries
append_none [] = refl
append_none (e ∷ entries) = ap (λ (o : List (Option ℕ)). e ∷ o) (append_none entries)

pub nothing_least : IsLeast [] []
nothing_least = record { pairing = record { gates = tt; once = tt }; first = λ ys p. inr (refl, tt) }

none_left : {g : Graph} {n tracks p : ℕ} {gone : List Bool} {entries : List (Option ℕ)} {rows : List Row} (left : List Row) → ShowsRest g n tracks gone p left → ((ys : List (Option ℕ)) → IsLeast left ys → IsLeast rows (entries ++ ys)) → g.plots ≤ p → IsLeast rows entries
none_left {g} {n} {tracks} {p} {gone} {entries} {rows} [] s l h = subst (IsLeast rows) (append_none entries) (l [] nothing_least)
none_left (row ∷ left) s l h = absurd (omega (arith, s.count, h))

pub chosen : {g : Graph} {n p : ℕ} {first gone : List Bool} {qs ms : List ℕ} {entries : List (Option ℕ)} → Choosing g n first qs ms gone p entries → g.plots ≤ p → (tracks : ℕ) (rows : List Row) → ShowsRest g n tracks first 0 rows → IsLeast rows entries
chosen {g} {n} {p} {first} {gone} {qs} {ms} {entries} c h tracks rows s =
    let l : Left g n tracks gone p entries rows = c.so_far tracks rows s in
    none_left l.left l.shows l.least h
