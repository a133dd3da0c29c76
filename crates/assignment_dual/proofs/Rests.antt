-- What the vertices that aren't gone say of the rest of the batch.
use Rattle.std.proofs.Common.{◌≡◌, ◌≢◌, ◌≤◌, ◌<◌, ◌⊎◌, inl, inr, ℕ, zero, suc, ◌+◌, ◌-◌, length, get_or, List, [], ◌∷◌, Option, Some, None, is_some, Bool, true, false, arith, refl, sym, ◌∙◌, ap, subst}
use Rattle.std.proofs.lemmas.Bool.{cases_eq, cases_lt, cases_Bool}
use Rattle.assignment_dual.specs.declared.graph.Graph.{Graph}
use Rattle.trk_base.specs.Limits.{miss_cost}
use Rattle.assignment_dual.specs.Pairings.{Row, paired_cost, Gates, AllGate, Misses, Once, IsPairing}
use Rattle.assignment_dual.specs.Vertices.{Across, to_of, cost_at, IsGraph, Tight, IsOptimal}
use Rattle.assignment_dual.specs.Rests.{row_at, IsGate, ShowsRest}
use Rattle.assignment_dual.proofs.Duality.{Feasible, Balances, IsTight, AllTight, balances}
use Rattle.assignment_dual.proofs.Signed.{feasible_from}
use Rattle.assignment_dual.proofs.Shifts.{priced_past, false_true}

-- the pairing and the prices of what isn't gone
pub record IsReadRest (plots tracks : ℕ) (gone : List Bool) (p : ℕ) (qs ms : List ℕ) (xs : List (Option ℕ)) (us ws : List ℕ) : Type 0 where
  pub entries : p + length xs ≡ plots
  pub plot_prices : p + length us ≡ plots
  pub track_prices : length ws ≡ tracks
  pub u : (i : ℕ) → p + i < plots → get_or us i 0 ≡ get_or qs (p + i) 0
  pub w : (t : ℕ) → t < tracks → get_or gone (plots + t) false ≡ false → get_or ws t 0 + get_or qs (plots + t) 0 ≡ 4097
  pub w_gone : (t : ℕ) → t < tracks → get_or gone (plots + t) false ≡ true → get_or ws t 0 ≡ 0
  pub alone : (i : ℕ) → p + i < plots → get_or ms (p + i) 0 ≡ p + i → get_or xs i None ≡ None
  pub named : (i t : ℕ) → p + i < plots → get_or ms (p + i) 0 ≡ plots + t → get_or xs i None ≡ Some t

pub gates_from : (rows : List Row) (xs : List (Option ℕ)) → length rows ≡ length xs → ((p : ℕ) → p < length rows → Gates (row_at rows p) (get_or xs p None)) → AllGate rows xs
gates_from [] [] l f = tt
gates_from [] (x ∷ xs) l f = absurd (omega arith)
gates_from (r ∷ rows) [] l f = absurd (omega arith)
gates_from (r ∷ rows) (x ∷ xs) l f = (f 0 (omega arith), gates_from rows xs (omega arith) (λ p h. f (suc p) (omega (arith, h))))

pub tight_from : (rows : List Row) (xs : List (Option ℕ)) (us ws : List ℕ) → ((p : ℕ) → p < length rows → IsTight (row_at rows p) (get_or xs p None) (get_or us p 0) ws) → AllTight rows xs us ws
tight_from [] xs us ws f = tt
tight_from (r ∷ rows) [] us ws f = tt
tight_from (r ∷ rows) (x ∷ xs) [] ws f = tt
tight_from (r ∷ rows) (x ∷ xs) (u ∷ us) ws f = (f 0 (omega arith), tight_from rows xs us ws (λ p h. f (suc p) (omega (arith, h))))

pub misses_from : (t : ℕ) (xs : List (Option ℕ)) → ((r : ℕ) → r < length xs → get_or xs r None ≢ Some t) → Misses t xs
misses_from t [] f = tt
misses_from t (x ∷ xs) f = (f 0 (omega arith), misses_from t xs (λ r h. f (suc r) (omega (arith, h))))

pub misses_at : (t : ℕ) (xs : List (Option ℕ)) (r : ℕ) → Misses t xs → r < length xs → get_or xs r None ≢ Some t
misses_at t [] r m h = absurd (omega arith)
misses_at t (x ∷ xs) zero m h = m.0
misses_at t (x ∷ xs) (suc r) m h = misses_at t xs r m.1 (omega arith)

pub once_from : (xs : List (Option ℕ)) → ((p r t : ℕ) → p < r → r < length xs → get_or xs p None ≡ Some t → get_or xs r None ≢ Some t) → Once xs
once_from [] f = tt
once_from (None ∷ xs) f = once_from xs (λ p r t h l. f (suc p) (suc r) t (omega (arith, h)) (omega (arith, l)))
once_from (Some t ∷ xs) f = (
  misses_from t xs (λ r h. f 0 (suc r) t (omega arith) (omega (arith, h)) refl),
  once_from xs (λ p r s h l. f (suc p) (suc r) s (omega (arith, h)) (omega (arith, l))),
)

pub gate_of : (row : Row) (x : Option ℕ) (t c : ℕ) → x ≡ Some t → row t ≡ Some c → Gates row x
gate_of row x t c e h = subst (Gates row) (sym e) (ap is_some h)

pub tight_of : (row : Row) (x : Option ℕ) (t c u : ℕ) (ws : List ℕ) → x ≡ Some t → row t ≡ Some c → u ≡ c + get_or ws t 0 → IsTight row x u ws
tight_of row x t c u ws e h q = subst (λ (y : Option ℕ). IsTight row y u ws) (sym e) (let z : paired_cost (row t) ≡ c = ap paired_cost h in omega arith)

-- a plot that has a track
pub record HasTrack (g : Graph) (tracks : ℕ) (gone : List Bool) (p : ℕ) (qs ms : List ℕ) (rows : List Row) (xs : List (Option ℕ)) (i t k : ℕ) : Type 0 where
  pub within : t < tracks
  pub here : get_or gone (g.plots + t) false ≡ false
  pub mate : get_or ms (p + i) 0 ≡ g.plots + t
  pub exact : get_or qs (p + i) 0 + get_or qs (g.plots + t) 0 ≡ cost_at g k + miss_cost
  pub row : row_at rows i t ≡ Some (cost_at g k)
  pub entry : get_or xs i None ≡ Some t

abbrev pub Entry : Graph → ℕ → List Bool → ℕ → List ℕ → List ℕ → List Row → List (Option ℕ) → ℕ → Type 0
Entry g tracks gone p qs ms rows xs i = ((get_or ms (p + i) 0 ≡ p + i) × (get_or xs i None ≡ None)) ⊎ ((t : ℕ) × (k : ℕ) × HasTrack g tracks gone p qs ms rows xs i t k)

-- the mate of one who isn't gone isn't either
mate_here : {g : Graph} {n : ℕ} {qs ms : List ℕ} {gone : List Bool} {v : ℕ} → IsOptimal g n qs ms gone → v < n → get_or ms v 0 ≢ v → get_or gone (get_or ms v 0) false ≡ false
mate_here {g} {n} {qs} {ms} {gone} {v} r h d = elim (cases_Bool (get_or gone (get_or ms v 0) false)) [
  | inl k ↦ absurd (d (sym (r.out (get_or ms v 0) (r.mates.within v h) k).0 ∙ r.mates.back v h))
  | inr k ↦ k
]

entry_at : {g : Graph} {n tracks p : ℕ} {qs ms us ws : List ℕ} {gone : List Bool} {rows : List Row} {xs : List (Option ℕ)} → IsGraph g n → IsOptimal g n qs ms gone → ShowsRest g n tracks gone p rows → IsReadRest g.plots tracks gone p qs ms xs us ws
    → (i : ℕ) → p + i < g.plots → Entry g tracks gone p qs ms rows xs i
entry_at {g} {n} {tracks} {p} {qs} {ms} {us} {ws} {gone} {rows} {xs} gr re sh rd i h = elim (cases_eq (get_or ms (p + i) 0) (p + i)) [
  | inl e ↦ inl (e, rd.alone i h e)
  | inr d ↦
      let pn : p + i < n = omega (arith, h, sh.size) in
      let ta : Tight g qs (p + i) (get_or ms (p + i) 0) = re.mates.tight (p + i) pn d in
      let o : (t : ℕ) × (to_of g ta.0 ≡ g.plots + t) × (get_or gone (g.plots + t) false ≡ false → row_at rows i t ≡ Some (cost_at g ta.0)) = sh.of i ta.0 h ta.1.arc in
      let e : get_or ms (p + i) 0 ≡ g.plots + o.0 = sym ta.1.to ∙ o.1 in
      let l : to_of g ta.0 < n = (gr.arcs (p + i) ta.0 pn ta.1.arc).to in
      let here : get_or gone (g.plots + o.0) false ≡ false = ap (λ (j : ℕ). get_or gone j false) (sym e) ∙ mate_here re pn d in
      inr (
        o.0,
        ta.0,
        record {
          within = omega (arith, l, o.1, sh.size);
          here = here;
          mate = e;
          exact = ap (λ (j : ℕ). get_or qs (p + i) 0 + get_or qs j 0) (sym e) ∙ ta.1.exact;
          row = o.2 here;
          entry = rd.named i o.0 h e;
        },
      )
]

entry_mate : {g : Graph} {tracks p : ℕ} {qs ms : List ℕ} {gone : List Bool} {rows : List Row} {xs : List (Option ℕ)} {i : ℕ} (t : ℕ) → Entry g tracks gone p qs ms rows xs i → get_or xs i None ≡ Some t → get_or ms (p + i) 0 ≡ g.plots + t
entry_mate {g} t en e = elim en [
  | inl a ↦ absurd (let z = a.1 in cc)
  | inr b ↦ let z = b.2.entry in let q : b.0 ≡ t = cc in b.2.mate ∙ ap (λ (i : ℕ). g.plots + i) q
]

-- mates and prices prove the pairing of the rest
pub resting_prove : {g : Graph} {n tracks p : ℕ} {qs ms us ws : List ℕ} {gone : List Bool} {rows : List Row} {xs : List (Option ℕ)} → IsGraph g n → IsOptimal g n qs ms gone
    → ShowsRest g n tracks gone p rows → IsReadRest g.plots tracks gone p qs ms xs us ws → IsPairing rows xs × Balances rows xs us ws
resting_prove {g} {n} {tracks} {p} {qs} {ms} {us} {ws} {gone} {rows} {xs} gr re sh rd =
    let small : (i : ℕ) → p + i < g.plots → p + i < n = λ i h. omega (arith, h, sh.size) in
    let place : (i : ℕ) → i < length rows → p + i < g.plots = λ i h. omega (arith, h, sh.count) in
    let pairing : IsPairing rows xs = record {
      gates = gates_from rows xs (omega (arith, sh.count, rd.entries)) (λ i h. elim (entry_at gr re sh rd i (place i h)) [
        | inl a ↦ subst (Gates (row_at rows i)) (sym a.1) tt
        | inr b ↦ gate_of (row_at rows i) (get_or xs i None) b.0 (cost_at g b.1) b.2.entry b.2.row
      ]);
      once = once_from xs (λ i r t h l e f.
          let rp : p + r < g.plots = omega (arith, l, rd.entries) in
          let ip : p + i < g.plots = omega (arith, h, rp) in
          let a : get_or ms (p + i) 0 ≡ g.plots + t = entry_mate t (entry_at gr re sh rd i ip) e in
          let b : get_or ms (p + r) 0 ≡ g.plots + t = entry_mate t (entry_at gr re sh rd r rp) f in
          let q : p + i ≡ p + r = sym (re.mates.back (p + i) (small i ip)) ∙ ap (λ (j : ℕ). get_or ms j 0) (a ∙ sym b) ∙ re.mates.back (p + r) (small r rp) in
          omega (arith, h, q));
    } in
    let feasible : Feasible rows us ws = feasible_from rows us ws (omega (arith, sh.count, rd.plot_prices)) (λ i h.
    let ip : p + i < g.plots = place i h in (
      omega (arith, rd.u i ip, re.priced.alone (p + i)),
      λ t c e.
          let k : (get_or gone (g.plots + t) false ≡ false) × ((k : ℕ) × IsGate g (p + i) t c k) = sh.has i t c ip e in
          let l : to_of g k.1.0 < n = (gr.arcs (p + i) k.1.0 (small i ip) k.1.1.arc).to in
          let tl : t < tracks = omega (arith, l, k.1.1.to, sh.size) in
          let b : get_or qs (p + i) 0 + get_or qs (to_of g k.1.0) 0 ≤ cost_at g k.1.0 + miss_cost = re.priced.arcs (p + i) k.1.0 (small i ip) k.1.1.arc in
          let j : get_or qs (to_of g k.1.0) 0 ≡ get_or qs (g.plots + t) 0 = ap (λ (j : ℕ). get_or qs j 0) k.1.1.to in
          omega (arith, rd.u i ip, rd.w t tl k.0, b, j, k.1.1.cost),
    )) in
    let tight : AllTight rows xs us ws = tight_from rows xs us ws (λ i h.
    let ip : p + i < g.plots = place i h in
    elim (entry_at gr re sh rd i ip) [
      | inl a ↦ subst (λ (y : Option ℕ). IsTight (row_at rows i) y (get_or us i 0) ws) (sym a.1) (rd.u i ip ∙ re.full (p + i) (small i ip) (sh.from (p + i) (omega arith) ip) a.0)
      | inr b ↦ tight_of (row_at rows i) (get_or xs i None) b.0 (cost_at g b.1) (get_or us i 0) ws b.2.entry b.2.row (omega (arith, rd.u i ip, rd.w b.0 b.2.within b.2.here, b.2.exact))
    ]) in (
      pairing,
      balances rows xs us ws pairing feasible tight (λ t m. elim (cases_lt t tracks) [
        | inr l ↦ priced_past ws tracks t rd.track_prices l
        | inl l ↦ elim (cases_Bool (get_or gone (g.plots + t) false)) [
          | inl away ↦ rd.w_gone t l away
          | inr here ↦
              let vn : g.plots + t < n = omega (arith, l, sh.size) in
              elim (cases_eq (get_or ms (g.plots + t) 0) (g.plots + t)) [
                | inl e ↦ omega (arith, re.full (g.plots + t) vn here e, rd.w t l here)
                | inr d ↦
                    let ta : Tight g qs (g.plots + t) (get_or ms (g.plots + t) 0) = re.mates.tight (g.plots + t) vn d in
                    let ac : Across g.plots (g.plots + t) (get_or ms (g.plots + t) 0) = subst (Across g.plots (g.plots + t)) ta.1.to (gr.arcs (g.plots + t) ta.0 vn ta.1.arc).across in
                    let pp : get_or ms (g.plots + t) 0 < g.plots = elim ac.sides [ inl s ↦ absurd (omega (arith, s.0)) | inr s ↦ s.1 ] in
                    let mh : get_or gone (get_or ms (g.plots + t) 0) false ≡ false = mate_here re vn d in
                    let ge : p ≤ get_or ms (g.plots + t) 0 = elim (cases_lt (get_or ms (g.plots + t) 0) p) [ inl z ↦ absurd (false_true (sh.before (get_or ms (g.plots + t) 0) z) mh) | inr z ↦ z ] in
                    let w : p + (get_or ms (g.plots + t) 0 - p) ≡ get_or ms (g.plots + t) 0 = omega (arith, ge) in
                    let il : p + (get_or ms (g.plots + t) 0 - p) < g.plots = omega (arith, w, pp) in
                    let bk : get_or ms (p + (get_or ms (g.plots + t) 0 - p)) 0 ≡ g.plots + t = ap (λ (j : ℕ). get_or ms j 0) w ∙ re.mates.back (g.plots + t) vn in
                    let x : get_or xs (get_or ms (g.plots + t) 0 - p) None ≡ Some t = rd.named (get_or ms (g.plots + t) 0 - p) t il bk in
                    absurd (misses_at t xs (get_or ms (g.plots + t) 0 - p) m (omega (arith, il, rd.entries)) x)
              ]
        ]
      ]),
    )
