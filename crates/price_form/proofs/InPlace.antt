-- The lists of a certificate as they are read where it stands.
use Rattle.std.proofs.Common.{◌≡◌, ℕ, ℤ, pos, ◌+ℤ◌, ◌+◌, ◌*◌, ◌<◌, ◌≤◌, ◌^◌, ◌↔◌, Bool, true, List, Option, length, arith, sym, ◌∙◌, ap, subst}
use Rattle.std.specs.List.{All}
use Rattle.std.specs.Option.{IfSome}
use Rattle.assignment_dual.specs.Pairings.{AllGate, Once, cost}
use Rattle.assignment_dual.specs.Problems.{Edge, Problem, Proves, total}
use Rattle.price_form.specs.declared.certs.Cert.{Cert}
use Rattle.price_form.specs.declared.reading.Counts.{Counts}
use Rattle.price_form.specs.Checks.{Rises, AreFeasible, first_rows}
use Rattle.price_form.specs.Octets.{half_at, price_number_at, edge_numbers_at, entry_number_at, many_at}
use Rattle.price_form.specs.Reading.{plots_at, tracks_at, cert_end, cert_read, HasCounts, HasCert}
use Rattle.price_form.proofs.Certified.{cert_is}

-- these are the certificate's lists
pub record AreColumns (c : Cert) (tracks : ℕ) (edges : List Edge) (pairing : List (Option ℕ)) (u v : List ℤ) : Type 0 where
  pub edges_are : edges ≡ c.costs.edges
  pub pairing_is : pairing ≡ c.pairing
  pub u_is : u ≡ c.u
  pub v_is : v ≡ c.v
  pub tracks_are : tracks ≡ c.costs.tracks

-- where the lists of the counts begin
pub record Offsets (p : ℕ) (cs : Counts) (edges pairing u v : ℕ) : Type 0 where
  pub edges_from : edges ≡ p + 22 + cs.plots * 8 + cs.tracks * 8
  pub pairing_from : pairing ≡ edges + cs.edges * 10
  pub u_from : u ≡ pairing + cs.plots * 4
  pub v_from : v ≡ u + cs.plots * 8

-- what is read by the counts is the certificate's
read_by : (xs : List ℕ) (p : ℕ) (cs : Counts) → HasCounts xs p cs
    → AreColumns (cert_read xs p) cs.tracks (many_at edge_numbers_at 10 xs (p + 22 + cs.plots * 8 + cs.tracks * 8) cs.edges) (many_at entry_number_at 4 xs (p + 22 + cs.plots * 8 + cs.tracks * 8 + cs.edges * 10) cs.plots)
    (many_at price_number_at 8 xs (p + 22 + cs.plots * 8 + cs.tracks * 8 + cs.edges * 10 + cs.plots * 4) cs.plots) (many_at price_number_at 8 xs (p + 22 + cs.plots * 8 + cs.tracks * 8 + cs.edges * 10 + cs.plots * 4 + cs.plots * 8) cs.tracks)
unfolding cert_read
read_by xs p cs h = record {
  edges_are = λ t. many_at edge_numbers_at 10 xs (p + 22 + h.plots t * 8 + h.tracks t * 8) (h.edges t);
  pairing_is = λ t. many_at entry_number_at 4 xs (p + 22 + h.plots t * 8 + h.tracks t * 8 + h.edges t * 10) (h.plots t);
  u_is = λ t. many_at price_number_at 8 xs (p + 22 + h.plots t * 8 + h.tracks t * 8 + h.edges t * 10 + h.plots t * 4) (h.plots t);
  v_is = λ t. many_at price_number_at 8 xs (p + 22 + h.plots t * 8 + h.tracks t * 8 + h.edges t * 10 + h.plots t * 4 + h.plots t * 8) (h.tracks t);
  tracks_are = h.tracks;
}

pub columns_at : (xs : List ℕ) (p : ℕ) (c : Cert) (cs : Counts) (edges pairing u v : ℕ) → HasCert xs p c → HasCounts xs p cs → Offsets p cs edges pairing u v
    → AreColumns c cs.tracks (many_at edge_numbers_at 10 xs edges cs.edges) (many_at entry_number_at 4 xs pairing cs.plots) (many_at price_number_at 8 xs u cs.plots) (many_at price_number_at 8 xs v cs.tracks)
columns_at xs p c cs edges pairing u v h k o =
    let r = read_by xs p cs k in
    let e : cert_read xs p ≡ c = (cert_is c h.formed h.problem h.fits h.stands).0 in
    let xe = o.edges_from in
    let xp : pairing ≡ p + 22 + cs.plots * 8 + cs.tracks * 8 + cs.edges * 10 = o.pairing_from ∙ ap (λ q. q + cs.edges * 10) xe in
    let xu : u ≡ p + 22 + cs.plots * 8 + cs.tracks * 8 + cs.edges * 10 + cs.plots * 4 = o.u_from ∙ ap (λ q. q + cs.plots * 4) xp in
    let xv : v ≡ p + 22 + cs.plots * 8 + cs.tracks * 8 + cs.edges * 10 + cs.plots * 4 + cs.plots * 8 = o.v_from ∙ ap (λ q. q + cs.plots * 8) xu in
    record {
      edges_are = ap (λ q. many_at edge_numbers_at 10 xs q cs.edges) xe ∙ r.edges_are ∙ ap (λ (d : Cert). d.costs.edges) e;
      pairing_is = ap (λ q. many_at entry_number_at 4 xs q cs.plots) xp ∙ r.pairing_is ∙ ap (λ (d : Cert). d.pairing) e;
      u_is = ap (λ q. many_at price_number_at 8 xs q cs.plots) xu ∙ r.u_is ∙ ap (λ (d : Cert). d.u) e;
      v_is = ap (λ q. many_at price_number_at 8 xs q cs.tracks) xv ∙ r.v_is ∙ ap (λ (d : Cert). d.v) e;
      tracks_are = r.tracks_are ∙ ap (λ (d : Cert). d.costs.tracks) e;
    }

-- what a check of these lists asks for
pub record MayProve (edges : List Edge) (pairing : List (Option ℕ)) (tracks : ℕ) (u v : List ℤ) : Type 0 where
  pub few : length pairing < 2 ^ 32
  pub rising : Rises edges
  pub plots : All (λ e. e.0 < length pairing) edges
  pub tracks_below : All (λ e. e.1 < tracks) edges
  pub named : All (λ x. IfSome x (λ t. t < tracks)) pairing
  pub plot_prices : length u ≡ length pairing
  pub track_prices : length v ≡ tracks

pub may_prove : {xs : List ℕ} {p : ℕ} {c : Cert} {tracks : ℕ} {edges : List Edge} {pairing : List (Option ℕ)} {u v : List ℤ} → HasCert xs p c → AreColumns c tracks edges pairing u v → MayProve edges pairing tracks u v
may_prove {xs} {p} {c} {tracks} {edges} {pairing} {u} {v} h a =
    let n : length pairing ≡ c.costs.plots = ap length a.pairing_is ∙ h.formed.pairing in
    record {
      few = omega (arith, n, h.fits.plots);
      rising = subst Rises (sym a.edges_are) h.problem.rising;
      plots = subst (λ (es : List Edge). All (λ e. e.0 < length pairing) es) (sym a.edges_are) (subst (λ (m : ℕ). All (λ e. e.0 < m) c.costs.edges) (sym n) h.problem.plots);
      tracks_below = subst (λ (es : List Edge). All (λ e. e.1 < tracks) es) (sym a.edges_are) (subst (λ (m : ℕ). All (λ e. e.1 < m) c.costs.edges) (sym a.tracks_are) h.problem.tracks);
      named = subst (λ (ys : List (Option ℕ)). All (λ x. IfSome x (λ t. t < tracks)) ys) (sym a.pairing_is) (subst (λ (m : ℕ). All (λ x. IfSome x (λ t. t < m)) c.pairing) (sym a.tracks_are) h.formed.named);
      plot_prices = ap length a.u_is ∙ h.formed.u ∙ sym n;
      track_prices = ap length a.v_is ∙ h.formed.v ∙ sym a.tracks_are;
    }

pub proves_as : {xs : List ℕ} {p : ℕ} (c : Cert) {tracks : ℕ} {edges : List Edge} {pairing : List (Option ℕ)} {u v : List ℤ} {b : Bool} → HasCert xs p c → AreColumns c tracks edges pairing u v
    → (b ≡ true) ↔ Proves (record { plots = length pairing; tracks = tracks; edges = edges }) pairing u v → (b ≡ true) ↔ Proves c.costs c.pairing c.u c.v
proves_as {xs} {p} c {tracks} {edges} {pairing} {u} {v} {b} h a k =
    let n : length pairing ≡ c.costs.plots = ap length a.pairing_is ∙ h.formed.pairing in
    subst (λ (t : Problem × List (Option ℕ) × List ℤ × List ℤ). (b ≡ true) ↔ Proves t.0 t.1 t.2 t.3) (λ j. (record { plots = n j; tracks = a.tracks_are j; edges = a.edges_are j }, a.pairing_is j, a.u_is j, a.v_is j)) k

some_read : (xs : List ℕ) (p : ℕ) → 1 ≤ (cert_read xs p).costs.plots → 1 ≤ plots_at xs p
unfolding cert_read
some_read xs p h = h

few_read : (xs : List ℕ) (p : ℕ) → (cert_read xs p).costs.tracks < 4294967295 → tracks_at xs p < 4294967295
unfolding cert_read
few_read xs p h = h

-- how the parts of a check prove, together
pub proves_by : (edges : List Edge) (xs : List (Option ℕ)) (tracks : ℕ) (us vs : List ℤ) (n : ℕ) (b : Bool) → AreFeasible edges us vs → AllGate (first_rows edges (length xs)) xs × (n ≡ cost (first_rows edges (length xs)) xs)
    → length us ≡ length xs → length vs ≡ tracks → total us +ℤ total vs ≡ pos n → (b ≡ true) ↔ Once xs → (b ≡ true) ↔ Proves (record { plots = length xs; tracks = tracks; edges = edges }) xs us vs
proves_by edges xs tracks us vs n b f g l m e k = (
  (λ t. record {
    pairing = record { gates = g.0; once = k.0 t };
    plot_prices = l;
    track_prices = m;
    below_miss = f.below_miss;
    below_zero = f.below_zero;
    below_cost = f.below_cost;
    equal = e ∙ ap pos g.1;
  }),
  (λ p. k.1 p.pairing.once),
)

-- the counts that are read
pub counts_read : (xs : List ℕ) (p : ℕ) (c : Cert) (plots tracks edges : ℕ) → HasCert xs p c → plots ≡ plots_at xs p → tracks ≡ tracks_at xs p → edges ≡ half_at xs (p + 18 + plots * 8 + tracks * 8) → HasCounts xs p (record { plots = plots; tracks = tracks; edges = edges })
counts_read xs p c plots tracks edges h a b d =
    let k = cert_is c h.formed h.problem h.fits h.stands in
    let f = subst (λ (o : Cert). (1 ≤ o.costs.plots) × (o.costs.tracks < 4294967295)) (sym k.0) (h.formed.some_plot, h.formed.few_tracks) in
    record {
      inside = omega (arith, k.1, h.stands.inside);
      plots = a;
      tracks = b;
      edges = d ∙ (λ j. half_at xs (p + 18 + a j * 8 + b j * 8));
      some_plot = some_read xs p f.0;
      few_tracks = few_read xs p f.1;
    }

pub long_enough : (xs : List ℕ) (p : ℕ) (c : Cert) → HasCert xs p c → (p + 10 + 4 ≤ length xs) × (p + 14 + 4 ≤ length xs) × (p + 18 + plots_at xs p * 8 + tracks_at xs p * 8 + 4 ≤ length xs)
long_enough xs p c h =
    let k = cert_is c h.formed h.problem h.fits h.stands in
    let le : cert_end xs p ≤ length xs = omega (arith, k.1, h.stands.inside) in
    (omega (arith, le), omega (arith, le), omega (arith, le))
