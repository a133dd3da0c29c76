-- The first entry with which the least cost is reached.
use Rattle.std.proofs.Common.{◌≡◌, ◌≢◌, ◌≤◌, ◌<◌, inl, inr, ℕ, ◌+◌, ◌*◌, ◌-◌, length, get_or, set, drop, sum, map, cond, List, [], ◌∷◌, Option, Some, None, IsSome, is_some, Bool, true, false, eqb, arith, refl, sym, ◌∙◌, ap, subst, get_or-set_other, length-drop}
use Rattle.std.specs.List.{range_with_len}
use Rattle.std.proofs.lemmas.List.{drop-set-lt, drop-set-add, length-set, get_or-drop}
use Rattle.std.proofs.lemmas.List.FromFn.{length-map-range_with_len, get_or-map-range_with_len}
use Rattle.std.proofs.lemmas.Bool.{cases_eq, cases_lt, eq-eqb, ne_eqb}
use Rattle.assignment_dual.specs.declared.graph.Graph.{Graph}
use Rattle.trk_base.specs.Limits.{miss_cost}
use Rattle.assignment_dual.specs.Pairings.{Row, Gates, IsPairing, entry_cost, paired_cost, cost, EntryBefore}
use Rattle.assignment_dual.specs.First.{rest}
use Rattle.assignment_dual.specs.Vertices.{HasArc, to_of, cost_at, IsGraph, IsOptimal}
use Rattle.assignment_dual.specs.Search.{unseen}
use Rattle.assignment_dual.specs.Rests.{IsGate, ShowsRest}
use Rattle.assignment_dual.specs.Choices.{IsCandidate, AreCandidates, Fails, IsFixedBy}
use Rattle.assignment_dual.proofs.Duality.{Balances, no_cheaper, AllTight, all_tight}
use Rattle.assignment_dual.proofs.First.{tail_pairs, tail_back, rest_none}
use Rattle.assignment_dual.proofs.Turns.{unseen_set}
use Rattle.assignment_dual.proofs.Rests.{IsReadRest, resting_prove}
use Rattle.assignment_dual.proofs.Fixing.{shows_alone, shows_taken}
use Rattle.assignment_dual.proofs.Value.{resting_value}

-- What is read of the vertices that aren't gone.
abbrev read_entry : ℕ → ℕ → List ℕ → ℕ → Option ℕ
read_entry plots p ms i = cond (eqb (get_or ms (p + i) 0) (p + i)) None (Some (get_or ms (p + i) 0 - plots))

abbrev read_price : ℕ → List Bool → List ℕ → ℕ → ℕ
read_price plots gone qs t = cond (get_or gone (plots + t) false) 0 (4097 - get_or qs (plots + t) 0)

pub record Read (g : Graph) (tracks : ℕ) (gone : List Bool) (p : ℕ) (qs ms : List ℕ) : Type 0 where
  pub entries : List (Option ℕ)
  pub plot_prices : List ℕ
  pub track_prices : List ℕ
  pub is : IsReadRest g.plots tracks gone p qs ms entries plot_prices track_prices

pub read_rest : (g : Graph) (n tracks p : ℕ) (qs ms : List ℕ) (gone : List Bool) → IsOptimal g n qs ms gone → p ≤ g.plots → Read g tracks gone p qs ms
read_rest g n tracks p qs ms gone r h =
    let xs : List (Option ℕ) = map (read_entry g.plots p ms) (range_with_len 0 (g.plots - p)) in
    let us : List ℕ = map (λ i. get_or qs (p + i) 0) (range_with_len 0 (g.plots - p)) in
    let ws : List ℕ = map (read_price g.plots gone qs) (range_with_len 0 tracks) in
    let x_at : (i : ℕ) → p + i < g.plots → get_or xs i None ≡ read_entry g.plots p ms i = λ i k. get_or-map-range_with_len (read_entry g.plots p ms) 0 (g.plots - p) i i None (omega (arith, h, k)) (omega arith) in
    let w_at : (t : ℕ) → t < tracks → get_or ws t 0 ≡ read_price g.plots gone qs t = λ t k. get_or-map-range_with_len (read_price g.plots gone qs) 0 tracks t t 0 k (omega arith) in
    record {
      entries = xs;
      plot_prices = us;
      track_prices = ws;
      is = record {
        entries = omega (arith, h, length-map-range_with_len (read_entry g.plots p ms) 0 (g.plots - p));
        plot_prices = omega (arith, h, length-map-range_with_len (λ i. get_or qs (p + i) 0) 0 (g.plots - p));
        track_prices = length-map-range_with_len (read_price g.plots gone qs) 0 tracks;
        u = λ i k. get_or-map-range_with_len (λ i. get_or qs (p + i) 0) 0 (g.plots - p) i i 0 (omega (arith, h, k)) (omega arith);
        w = λ t k e.
            let z : read_price g.plots gone qs t ≡ 4097 - get_or qs (g.plots + t) 0 = ap (λ (b : Bool). cond b 0 (4097 - get_or qs (g.plots + t) 0)) e in
            omega (arith, w_at t k, z, r.priced.alone (g.plots + t));
        w_gone = λ t k e. w_at t k ∙ ap (λ (b : Bool). cond b 0 (4097 - get_or qs (g.plots + t) 0)) e;
        alone = λ i k e. x_at i k ∙ ap (λ (b : Bool). cond b None (Some (get_or ms (p + i) 0 - g.plots))) (eq-eqb _ _ e);
        named = λ i t k e.
            let d : get_or ms (p + i) 0 ≢ p + i = λ q. omega (arith, q, e, k) in
            let s : get_or ms (p + i) 0 - g.plots ≡ t = omega (arith, e) in
            x_at i k ∙ ap (λ (b : Bool). cond b None (Some (get_or ms (p + i) 0 - g.plots))) (ne_eqb _ _ d) ∙ ap Some s;
      };
    }

-- the least cost of these rows is m
pub record HasValue (rows : List Row) (m : ℕ) : Type 0 where
  pub least : (ys : List (Option ℕ)) → IsPairing rows ys → m ≤ cost rows ys
  pub entries : List (Option ℕ)
  pub pairing : IsPairing rows entries
  pub equal : cost rows entries ≡ m

pub value_of : {g : Graph} {n tracks p : ℕ} {qs ms : List ℕ} {gone : List Bool} {rows : List Row} → IsGraph g n → IsOptimal g n qs ms gone → length gone ≡ n → ShowsRest g n tracks gone p rows
    → (m : ℕ) × HasValue rows m × (sum qs ≡ m + 4097 * unseen (drop g.plots gone))
value_of {g} {n} {tracks} {p} {qs} {ms} {gone} {rows} gr r l s =
    let rd : Read g tracks gone p qs ms = read_rest g n tracks p qs ms gone r (omega (arith, s.count)) in
    let pr : IsPairing rows rd.entries × Balances rows rd.entries rd.plot_prices rd.track_prices = resting_prove gr r s rd.is in (
      cost rows rd.entries,
      record { least = no_cheaper rows rd.entries rd.plot_prices rd.track_prices pr.1; entries = rd.entries; pairing = pr.0; equal = refl },
      resting_value gr r l s rd.is,
    )

pub one_value : {rows : List Row} {m k : ℕ} → HasValue rows m → HasValue rows k → m ≡ k
one_value a b = omega (arith, a.least b.entries b.pairing, b.equal, b.least a.entries a.pairing, a.equal)

-- the first of the two is chosen
pub record Fixing (g : Graph) (n tracks p : ℕ) (qs ms : List ℕ) (gone : List Bool) (row : Row) (rows : List Row) (m : ℕ) : Type 0 where
  pub graph : IsGraph g n
  pub resting : IsOptimal g n qs ms gone
  pub count : length gone ≡ n
  pub shows : ShowsRest g n tracks gone p (row ∷ rows)
  pub value : HasValue (row ∷ rows) m
  pub whole : sum qs ≡ m + 4097 * unseen (drop g.plots gone)

pub fixing : {g : Graph} {n tracks p : ℕ} {qs ms : List ℕ} {gone : List Bool} {row : Row} {rows : List Row} → IsGraph g n → IsOptimal g n qs ms gone → length gone ≡ n → ShowsRest g n tracks gone p (row ∷ rows)
    → (m : ℕ) × Fixing g n tracks p qs ms gone row rows m
fixing {g} {n} {tracks} {p} {qs} {ms} {gone} {row} {rows} gr r l s =
    let v : (m : ℕ) × HasValue (row ∷ rows) m × (sum qs ≡ m + 4097 * unseen (drop g.plots gone)) = value_of gr r l s in
    (v.0, record { graph = gr; resting = r; count = l; shows = s; value = v.1; whole = v.2 })

plot_inside : {g : Graph} {n tracks p : ℕ} {gone : List Bool} {row : Row} {rows : List Row} → ShowsRest g n tracks gone p (row ∷ rows) → p < g.plots
plot_inside s = omega (arith, s.count)

-- the tracks that are left when a plot is fixed
left_alone : (gone : List Bool) (plots p : ℕ) → p < plots → unseen (drop plots (set gone p true)) ≡ unseen (drop plots gone)
left_alone gone plots p h = ap unseen (drop-set-lt plots gone p true h)

drop_at : (gone : List Bool) (k i : ℕ) → get_or (drop k gone) i false ≡ get_or gone (k + i) false
drop_at gone k i = get_or-drop k gone i false

left_taken : (gone : List Bool) (plots s : ℕ) → plots + s < length gone → get_or gone (plots + s) false ≡ false → unseen (drop plots (set gone (plots + s) true)) + 1 ≡ unseen (drop plots gone)
left_taken gone plots s h e =
    let l : s < length (drop plots gone) = omega (arith, length-drop plots gone, h) in
    ap (λ (o : List Bool). unseen o + 1) (drop-set-add plots gone s true) ∙ unseen_set (drop plots gone) s l (drop_at gone plots s ∙ e)

-- the value with the track of the arc k taken
pub value_taken : {g : Graph} {n tracks p : ℕ} {qs ms qs' ms' : List ℕ} {gone : List Bool} {row : Row} {rows : List Row} {m : ℕ} → Fixing g n tracks p qs ms gone row rows m → (s : ℕ) → s < tracks → get_or gone (g.plots + s) false ≡ false
    → IsOptimal g n qs' ms' (set (set gone p true) (g.plots + s) true) → (v : ℕ) × HasValue (rest (Some s) rows) v × (sum qs' + 4097 ≡ v + 4097 * unseen (drop g.plots gone))
value_taken {g} {n} {tracks} {p} {qs} {ms} {qs'} {ms'} {gone} {row} {rows} {m} f s st e r =
    let pp : p < g.plots = plot_inside f.shows in
    let l1 : length (set gone p true) ≡ n = length-set gone p true ∙ f.count in
    let sh : ShowsRest g n tracks (set (set gone p true) (g.plots + s) true) (p + 1) (rest (Some s) rows) = shows_taken s (shows_alone f.shows f.count) l1 st in
    let v : (v : ℕ) × HasValue (rest (Some s) rows) v × (sum qs' ≡ v + 4097 * unseen (drop g.plots (set (set gone p true) (g.plots + s) true))) = value_of f.graph r (length-set (set gone p true) (g.plots + s) true ∙ l1) sh in
    let a : unseen (drop g.plots (set (set gone p true) (g.plots + s) true)) + 1 ≡ unseen (drop g.plots (set gone p true)) =
    left_taken (set gone p true) g.plots s (omega (arith, l1, st, f.shows.size)) (get_or-set_other gone p (g.plots + s) true false (λ q. omega (arith, q, pp)) ∙ e) in
    (v.0, v.1, omega (arith, v.2, a, left_alone gone g.plots p pp))

-- a gate of the plot by an arc
pub record GateAt (g : Graph) (tracks : ℕ) (gone : List Bool) (p : ℕ) (row : Row) (s k : ℕ) : Type 0 where
  pub arc : HasArc g p k
  pub to : to_of g k ≡ g.plots + s
  pub within : s < tracks
  pub here : get_or gone (g.plots + s) false ≡ false
  pub costs : row s ≡ Some (cost_at g k)

abbrev pub some_of : Option ℕ → Type 0
some_of o = (c : ℕ) × (o ≡ Some c)

pub is_some_of : (o : Option ℕ) → IsSome o → some_of o
is_some_of None h = absurd (cc)
is_some_of (Some c) h = (c, refl)

pub gate_at : {g : Graph} {n tracks p : ℕ} {qs ms : List ℕ} {gone : List Bool} {row : Row} {rows : List Row} {m : ℕ} → Fixing g n tracks p qs ms gone row rows m → (s : ℕ) → IsSome (row s) → (k : ℕ) × GateAt g tracks gone p row s k
gate_at {g} {n} {tracks} {p} {qs} {ms} {gone} {row} {rows} {m} f s h =
    let c : some_of (row s) = is_some_of (row s) h in
    let pp : p + 0 < g.plots = omega (arith, plot_inside f.shows) in
    let a : (get_or gone (g.plots + s) false ≡ false) × ((k : ℕ) × IsGate g (p + 0) s c.0 k) = f.shows.has 0 s c.0 pp c.1 in
    let z : p + 0 ≡ p = omega arith in
    let ha : HasArc g p a.1.0 = subst (λ (o : ℕ). HasArc g o a.1.0) z a.1.1.arc in
    let t : to_of g a.1.0 < n = (f.graph.arcs p a.1.0 (omega (arith, pp, f.shows.size)) ha).to in
    (a.1.0, record { arc = ha; to = a.1.1.to; within = omega (arith, t, a.1.1.to, f.shows.size); here = a.0; costs = c.1 ∙ ap Some (sym a.1.1.cost) })

-- an entry costs at least what the least pairing does
at_least : {g : Graph} {n tracks p : ℕ} {qs ms : List ℕ} {gone : List Bool} {row : Row} {rows : List Row} {m v : ℕ} → Fixing g n tracks p qs ms gone row rows m → (x : Option ℕ) → Gates row x → HasValue (rest x rows) v → m ≤ entry_cost row x + v
at_least {g} {n} {tracks} {p} {qs} {ms} {gone} {row} {rows} {m} {v} f x h a =
    let b : IsPairing (row ∷ rows) (x ∷ a.entries) × (cost (rest x rows) a.entries ≡ cost rows a.entries) = tail_back row rows x a.entries h a.pairing in
    omega (arith, f.value.least (x ∷ a.entries) b.0, b.1, a.equal)

gates_some : (row : Row) (s c : ℕ) → row s ≡ Some c → IsSome (row s)
gates_some row s c e = ap is_some e

-- a candidate that fails costs more
fails_more : {g : Graph} {n tracks p : ℕ} {qs ms : List ℕ} {gone : List Bool} {row : Row} {rows : List Row} {m : ℕ} → Fixing g n tracks p qs ms gone row rows m → {s k : ℕ} → GateAt g tracks gone p row s k → Fails g n (set gone p true) (sum qs) k
    → (ys : List (Option ℕ)) → IsPairing (rest (Some s) rows) ys → m < entry_cost row (Some s) + cost (rest (Some s) rows) ys
fails_more {g} {n} {tracks} {p} {qs} {ms} {gone} {row} {rows} {m} f {s} {k} a b ys h =
    let r : IsOptimal g n b.prices b.mates (set (set gone p true) (g.plots + s) true) = subst (λ (o : ℕ). IsOptimal g n b.prices b.mates (set (set gone p true) o true)) a.to b.resting in
    let v : (v : ℕ) × HasValue (rest (Some s) rows) v × (sum b.prices + 4097 ≡ v + 4097 * unseen (drop g.plots gone)) = value_taken f s a.within a.here r in
    let c : entry_cost row (Some s) ≡ cost_at g k = ap paired_cost a.costs in
    let l : m ≤ entry_cost row (Some s) + v.0 = at_least f (Some s) (gates_some row s _ a.costs) v.1 in
    let d : m ≢ entry_cost row (Some s) + v.0 = λ e. b.other (omega (arith, e, c, v.2, f.whole)) in
    omega (arith, l, d, v.1.least ys h)

plus_zero : (p : ℕ) → p + 0 ≡ p
plus_zero p = omega arith

first_tight : (row : Row) (rows : List Row) (s : ℕ) (ys : List (Option ℕ)) (us ws : List ℕ) → 0 < length us → AllTight (row ∷ rows) (Some s ∷ ys) us ws → get_or us 0 0 ≡ paired_cost (row s) + get_or ws s 0
first_tight row rows s ys [] ws h t = absurd (omega arith)
first_tight row rows s ys (u ∷ us) ws h t = t.0

-- an arc that isn't tight costs more
loose_more : {g : Graph} {n tracks p : ℕ} {qs ms : List ℕ} {gone : List Bool} {row : Row} {rows : List Row} {m : ℕ} → Fixing g n tracks p qs ms gone row rows m → {s k : ℕ} → GateAt g tracks gone p row s k
    → get_or qs p 0 + get_or qs (to_of g k) 0 ≢ cost_at g k + miss_cost → (ys : List (Option ℕ)) → IsPairing (rest (Some s) rows) ys → m < entry_cost row (Some s) + cost (rest (Some s) rows) ys
loose_more {g} {n} {tracks} {p} {qs} {ms} {gone} {row} {rows} {m} f {s} {k} a d ys h =
    let b : IsPairing (row ∷ rows) (Some s ∷ ys) × (cost (rest (Some s) rows) ys ≡ cost rows ys) = tail_back row rows (Some s) ys (gates_some row s _ a.costs) h in
    let l : m ≤ cost (row ∷ rows) (Some s ∷ ys) = f.value.least (Some s ∷ ys) b.0 in
    let c : entry_cost row (Some s) ≡ cost_at g k = ap paired_cost a.costs in
    let rd : Read g tracks gone p qs ms = read_rest g n tracks p qs ms gone f.resting (omega (arith, f.shows.count)) in
    let pr : IsPairing (row ∷ rows) rd.entries × Balances (row ∷ rows) rd.entries rd.plot_prices rd.track_prices = resting_prove f.graph f.resting f.shows rd.is in
    let e : m ≢ entry_cost row (Some s) + cost (rest (Some s) rows) ys = λ q.
    let same : cost (row ∷ rows) (Some s ∷ ys) ≡ cost (row ∷ rows) rd.entries =
    omega (arith, q, b.1, f.value.least rd.entries pr.0, no_cheaper (row ∷ rows) rd.entries rd.plot_prices rd.track_prices pr.1 (Some s ∷ ys) b.0) in
    let ba : Balances (row ∷ rows) (Some s ∷ ys) rd.plot_prices rd.track_prices = record { feasible = pr.1.feasible; equal = omega (arith, pr.1.equal, same) } in
    let ti : get_or rd.plot_prices 0 0 ≡ paired_cost (row s) + get_or rd.track_prices s 0 = first_tight row rows s ys rd.plot_prices rd.track_prices (omega (arith, rd.is.plot_prices, plot_inside f.shows)) (all_tight (row ∷ rows) (Some s ∷ ys) rd.plot_prices rd.track_prices b.0 ba) in
    let pz : p + 0 < g.plots = omega (arith, plot_inside f.shows) in
    let u : get_or rd.plot_prices 0 0 ≡ get_or qs p 0 = rd.is.u 0 pz ∙ ap (λ (o : ℕ). get_or qs o 0) (plus_zero p) in
    let w : get_or rd.track_prices s 0 + get_or qs (g.plots + s) 0 ≡ 4097 = rd.is.w s a.within a.here in
    let t : get_or qs (to_of g k) 0 ≡ get_or qs (g.plots + s) 0 = ap (λ (o : ℕ). get_or qs o 0) a.to in
    d (omega (arith, ti, u, w, t, c)) in
    omega (arith, l, e, b.1)

-- Which gates come before the one that was chosen, or all where none was: they were tried, or aren't tight.
gate_more : {g : Graph} {n tracks p : ℕ} {qs ms : List ℕ} {gone : List Bool} {row : Row} {rows : List Row} {m : ℕ} → Fixing g n tracks p qs ms gone row rows m → {tight : List ℕ} {upto : ℕ} → AreCandidates g qs gone p tight
    → ((i : ℕ) → i < upto → Fails g n (set gone p true) (sum qs) (get_or tight i 0)) → (s : ℕ) → IsSome (row s)
    → ((k i : ℕ) → to_of g k ≡ g.plots + s → HasArc g p k → i < length tight → get_or tight i 0 ≡ k → i < upto)
    → (ys : List (Option ℕ)) → IsPairing (rest (Some s) rows) ys → m < entry_cost row (Some s) + cost (rest (Some s) rows) ys
gate_more {g} {n} {tracks} {p} {qs} {ms} {gone} {row} {rows} {m} f {tight} {upto} ca fa s h before ys q =
    let a : (k : ℕ) × GateAt g tracks gone p row s k = gate_at f s h in
    elim (cases_eq (get_or qs p 0 + get_or qs (to_of g a.0) 0) (cost_at g a.0 + miss_cost)) [
      | inr d ↦ loose_more f a.1 d ys q
      | inl e ↦
          let i : (i : ℕ) × (i < length tight) × (get_or tight i 0 ≡ a.0) = ca.complete a.0 (record { arc = a.1.arc; exact = e; here = ap (λ (o : ℕ). get_or gone o false) a.1.to ∙ a.1.here }) in
          fails_more f a.1 (subst (Fails g n (set gone p true) (sum qs)) i.2 (fa i.0 (before a.0 i.0 a.1.to a.1.arc i.1 i.2))) ys q
    ]

earlier_track : {g : Graph} {n tracks p : ℕ} {qs ms : List ℕ} {gone : List Bool} {row : Row} {rows : List Row} {m : ℕ} → Fixing g n tracks p qs ms gone row rows m → {tight : List ℕ} {j : ℕ} (s : ℕ) → AreCandidates g qs gone p tight
    → ((i : ℕ) → i < j → Fails g n (set gone p true) (sum qs) (get_or tight i 0)) → j < length tight → to_of g (get_or tight j 0) ≡ g.plots + s
    → (y : Option ℕ) → Gates row y → EntryBefore y (Some s) → (ys : List (Option ℕ)) → IsPairing (rest y rows) ys → m < entry_cost row y + cost (rest y rows) ys
earlier_track f s ca fa jl ts None h b ys q = absurd b
earlier_track {g} {n} {tracks} {p} {qs} {ms} {gone} {row} {rows} {m} f {tight} {j} s ca fa jl ts (Some t) h b ys q =
    gate_more f ca fa t h
    (λ k i e a il ik. elim (cases_lt i j) [
      | inl l ↦ l
      | inr l ↦
          let pn : p < n = omega (arith, plot_inside f.shows, f.shows.size) in
          let kj : get_or tight j 0 ≤ k = elim (cases_eq j i) [
            | inl z ↦ omega (arith, ap (λ (o : ℕ). get_or tight o 0) z, ik)
            | inr z ↦ omega (arith, ca.rising j i (omega (arith, l, z)) il, ik)
          ] in
          absurd (omega (arith, f.graph.rising p (get_or tight j 0) k pn (ca.sound j jl).arc a kj, e, ts, b))
    ]) ys q

-- a track is chosen
pub chosen_track : {g : Graph} {n tracks p : ℕ} {qs ms qs' ms' : List ℕ} {gone : List Bool} {row : Row} {rows : List Row} {m : ℕ} → Fixing g n tracks p qs ms gone row rows m → {tight : List ℕ} {j s : ℕ} → AreCandidates g qs gone p tight → j < length tight
    → ((i : ℕ) → i < j → Fails g n (set gone p true) (sum qs) (get_or tight i 0)) → to_of g (get_or tight j 0) ≡ g.plots + s → IsOptimal g n qs' ms' (set (set gone p true) (g.plots + s) true)
    → cost_at g (get_or tight j 0) + miss_cost + sum qs' ≡ sum qs → IsFixedBy g n gone (set (set gone p true) (g.plots + s) true) p (Some s) tracks row rows
chosen_track {g} {n} {tracks} {p} {qs} {ms} {qs'} {ms'} {gone} {row} {rows} {m} f {tight} {j} {s} ca jl fa ts r w =
    let k : ℕ = get_or tight j 0 in
    let cd : IsCandidate g qs gone p k = ca.sound j jl in
    let pp : p < g.plots = plot_inside f.shows in
    let pn : p < n = omega (arith, pp, f.shows.size) in
    let st : s < tracks = omega (arith, (f.graph.arcs p k pn cd.arc).to, ts, f.shows.size) in
    let here : get_or gone (g.plots + s) false ≡ false = ap (λ (o : ℕ). get_or gone o false) (sym ts) ∙ cd.here in
    let pz : p + 0 < g.plots = omega (arith, pp) in
    let o : (t : ℕ) × (to_of g k ≡ g.plots + t) × (get_or gone (g.plots + t) false ≡ false → row t ≡ Some (cost_at g k)) = f.shows.of 0 k pz (subst (λ (o : ℕ). HasArc g o k) (sym (plus_zero p)) cd.arc) in
    let os : o.0 ≡ s = omega (arith, o.1, ts) in
    let rw' : row s ≡ Some (cost_at g k) = subst (λ (t : ℕ). row t ≡ Some (cost_at g k)) os (o.2 (ap (λ (t : ℕ). get_or gone (g.plots + t) false) os ∙ here)) in
    let c : entry_cost row (Some s) ≡ cost_at g k = ap paired_cost rw' in
    let v : (v : ℕ) × HasValue (rest (Some s) rows) v × (sum qs' + 4097 ≡ v + 4097 * unseen (drop g.plots gone)) = value_taken f s st here r in
    record {
      least = m;
      choice = record {
        gates = gates_some row s _ rw';
        least = f.value.least;
        reached = λ ys q le.
            let a : cost (rest (Some s) rows) ys ≡ v.0 = omega (arith, v.1.least ys q, le v.1.entries v.1.pairing, v.1.equal) in
            omega (arith, a, c, v.2, w, f.whole);
        earlier = earlier_track f s ca fa jl ts;
      };
      shows = shows_taken s (shows_alone f.shows f.count) (length-set gone p true ∙ f.count) st;
    }

every_track : {g : Graph} {n tracks p : ℕ} {qs ms : List ℕ} {gone : List Bool} {row : Row} {rows : List Row} {m : ℕ} → Fixing g n tracks p qs ms gone row rows m → {tight : List ℕ} → AreCandidates g qs gone p tight
    → ((i : ℕ) → i < length tight → Fails g n (set gone p true) (sum qs) (get_or tight i 0))
    → (y : Option ℕ) → Gates row y → EntryBefore y None → (ys : List (Option ℕ)) → IsPairing (rest y rows) ys → m < entry_cost row y + cost (rest y rows) ys
every_track f ca fa None h b ys q = absurd b
every_track f ca fa (Some t) h b ys q = gate_more f ca fa t h (λ k i e a il ik. il) ys q

-- the least pairing leaves the plot alone
left_out : {g : Graph} {n tracks p : ℕ} {qs ms : List ℕ} {gone : List Bool} {row : Row} {rows : List Row} {m : ℕ} → Fixing g n tracks p qs ms gone row rows m
    → ((y : Option ℕ) → Gates row y → EntryBefore y None → (ys : List (Option ℕ)) → IsPairing (rest y rows) ys → m < entry_cost row y + cost (rest y rows) ys)
    → (xs : List (Option ℕ)) → IsPairing (row ∷ rows) xs → cost (row ∷ rows) xs ≡ m → (ys : List (Option ℕ)) × IsPairing rows ys × (miss_cost + cost rows ys ≡ m)
left_out f e [] h q = absurd h.gates
left_out {g} {n} {tracks} {p} {qs} {ms} {gone} {row} {rows} {m} f e (None ∷ xs) h q = (xs, subst (λ (o : List Row). IsPairing o xs) (rest_none rows) (tail_pairs row rows None xs h).0, q)
left_out {g} {n} {tracks} {p} {qs} {ms} {gone} {row} {rows} {m} f e (Some t ∷ xs) h q =
    let b : IsPairing (rest (Some t) rows) xs × (cost (rest (Some t) rows) xs ≡ cost rows xs) = tail_pairs row rows (Some t) xs h in
    absurd (omega (arith, e (Some t) h.gates.0 tt xs b.0, b.1, q))

-- no track is chosen
pub chosen_none : {g : Graph} {n tracks p : ℕ} {qs ms : List ℕ} {gone : List Bool} {row : Row} {rows : List Row} {m : ℕ} → Fixing g n tracks p qs ms gone row rows m → {tight : List ℕ} → AreCandidates g qs gone p tight
    → ((i : ℕ) → i < length tight → Fails g n (set gone p true) (sum qs) (get_or tight i 0)) → IsFixedBy g n gone (set gone p true) p None tracks row rows
chosen_none {g} {n} {tracks} {p} {qs} {ms} {gone} {row} {rows} {m} f {tight} ca fa =
    let lo : (ys : List (Option ℕ)) × IsPairing rows ys × (miss_cost + cost rows ys ≡ m) = left_out f (every_track f ca fa) f.value.entries f.value.pairing f.value.equal in
    record {
      least = m;
      choice = record {
        gates = tt;
        least = f.value.least;
        reached = λ ys q le.
            let b : IsPairing (row ∷ rows) (None ∷ ys) × (cost (rest None rows) ys ≡ cost rows ys) = tail_back row rows None ys tt q in
            let d : IsPairing (rest None rows) lo.0 = subst (λ (o : List Row). IsPairing o lo.0) (sym (rest_none rows)) lo.1 in
            let k : cost (rest None rows) lo.0 ≡ cost rows lo.0 = ap (λ (o : List Row). cost o lo.0) (rest_none rows) in
            omega (arith, f.value.least (None ∷ ys) b.0, b.1, le lo.0 d, k, lo.2);
        earlier = every_track f ca fa;
      };
      shows = subst (ShowsRest g n tracks (set gone p true) (p + 1)) (sym (rest_none rows)) (shows_alone f.shows f.count);
    }
