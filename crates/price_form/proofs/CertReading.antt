-- The certificate that is put together of what was read, and those that are refused.
use Rattle.std.proofs.Common.{◌≡◌, ℕ, ℤ, ◌+◌, ◌*◌, ◌<◌, Bool, true, false, List, Option, length, arith, refl, sym, ◌∙◌, ap, subst, get_or, ◌↔◌}
use Rattle.std.specs.List.{All}
use Rattle.std.specs.Option.{IfSome}
use Rattle.std.proofs.lemmas.Bool.{both_ways}
use Rattle.assignment_dual.specs.Problems.{Edge, IsProblem, Problem}
use Rattle.price_form.specs.declared.certs.Cert.{Cert}
use Rattle.price_form.specs.declared.reading.Counts.{Counts}
use Rattle.price_form.specs.Octets.{many_at, word_at, price_number_at, edge_numbers_at, entry_number_at}
use Rattle.price_form.specs.Reading.{plots_at, tracks_at, end_of, cert_end, cert_of, cert_read, HasCounts, ReadsCert, ReadsNone}
use Rattle.price_form.proofs.Standing.{AreOctets, length-many}
use Rattle.price_form.proofs.Filed.{small_half}
use Rattle.price_form.proofs.ReadSteps.{bad_edges, bad_names, read_edges, read_entries}

pub refused_edges : (xs : List ℕ) (p : ℕ) (cs : Counts) → HasCounts xs p cs → {edges : List Edge} → edges ≡ many_at edge_numbers_at 10 xs (p + 22 + cs.plots * 8 + cs.tracks * 8) cs.edges
    → (b : Bool) → (b ≡ true) ↔ IsProblem (record { plots = cs.plots; tracks = cs.tracks; edges = edges }) → b ≡ false → ReadsNone xs p
refused_edges xs p cs h {edges} e b iff no' =
    let es : edges ≡ read_edges xs p = e ∙ (λ j. many_at edge_numbers_at 10 xs (p + 22 + h.plots j * 8 + h.tracks j * 8) (h.edges j)) in
    let a : Problem = record { plots = cs.plots; tracks = cs.tracks; edges = edges } in
    let d : Problem = record { plots = plots_at xs p; tracks = tracks_at xs p; edges = read_edges xs p } in
    let same : a ≡ d = λ j. record { plots = h.plots j; tracks = h.tracks j; edges = es j } in
    bad_edges xs p (λ q. both_ways b no' (iff.1 (subst IsProblem (sym same) q)))

pub refused_names : (xs : List ℕ) (p : ℕ) (cs : Counts) → HasCounts xs p cs → {entries : List (Option ℕ)} → entries ≡ many_at entry_number_at 4 xs (p + 22 + cs.plots * 8 + cs.tracks * 8 + cs.edges * 10) cs.plots
    → (b : Bool) → (b ≡ true) ↔ All (λ x. IfSome x (λ t. t < cs.tracks)) entries → b ≡ false → ReadsNone xs p
refused_names xs p cs h {entries} e b iff no' =
    let es : entries ≡ read_entries xs p = e ∙ (λ j. many_at entry_number_at 4 xs (p + 22 + h.plots j * 8 + h.tracks j * 8 + h.edges j * 10) (h.plots j)) in
    let P : ℕ → List (Option ℕ) → Type 0 = λ k ys. All (λ x. IfSome x (λ t. t < k)) ys in
    bad_names xs p (λ q. both_ways b no' (iff.1 (subst (λ k. P k entries) (sym h.tracks) (subst (P (tracks_at xs p)) (sym es) q))))

pub put_together : (xs : List ℕ) (p : ℕ) (cs : Counts) (end : ℕ) → AreOctets xs → HasCounts xs p cs → {slot radar : ℕ} {ps ts : List ℕ} {edges : List Edge} {entries : List (Option ℕ)} {us vs : List ℤ}
    → slot ≡ word_at xs (p + 1) → radar ≡ get_or xs (p + 9) 0 → ps ≡ many_at word_at 8 xs (p + 18) cs.plots → ts ≡ many_at word_at 8 xs (p + 18 + cs.plots * 8) cs.tracks
    → edges ≡ many_at edge_numbers_at 10 xs (p + 22 + cs.plots * 8 + cs.tracks * 8) cs.edges
    → entries ≡ many_at entry_number_at 4 xs (p + 22 + cs.plots * 8 + cs.tracks * 8 + cs.edges * 10) cs.plots
    → us ≡ many_at price_number_at 8 xs (p + 22 + cs.plots * 8 + cs.tracks * 8 + cs.edges * 10 + cs.plots * 4) cs.plots
    → vs ≡ many_at price_number_at 8 xs (p + 22 + cs.plots * 8 + cs.tracks * 8 + cs.edges * 10 + cs.plots * 4 + cs.plots * 8) cs.tracks
    → IsProblem (record { plots = cs.plots; tracks = cs.tracks; edges = edges }) → All (λ x. IfSome x (λ t. t < cs.tracks)) entries → end ≡ end_of cs.plots cs.tracks cs.edges p
    → ReadsCert xs p (record { slot = slot; radar = radar; plots = ps; tracks = ts; costs = record { plots = cs.plots; tracks = cs.tracks; edges = edges }; pairing = entries; u = us; v = vs }) end
unfolding cert_read
put_together xs p cs end o h {slot} {radar} {ps} {ts} {edges} {entries} {us} {vs} a b d e f g i j problem named ends = record {
  value =
      (λ t. record { slot = a t; radar = b t; plots = d t; tracks = e t; costs = record { plots = cs.plots; tracks = cs.tracks; edges = f t }; pairing = g t; u = i t; v = j t })
      ∙ (λ t. cert_of xs p (h.plots t) (h.tracks t) (h.edges t));
  end' = ends ∙ (λ t. end_of (h.plots t) (h.tracks t) (h.edges t) p);
  inside = h.inside;
  formed = record {
    some_plot = omega (arith, h.some_plot, h.plots);
    few_tracks = omega (arith, h.few_tracks, h.tracks);
    few_edges = omega (arith, ap length f, length-many edge_numbers_at 10 xs (p + 22 + cs.plots * 8 + cs.tracks * 8) cs.edges, h.edges, small_half xs o (p + 18 + plots_at xs p * 8 + tracks_at xs p * 8));
    plots = ap length d ∙ length-many word_at 8 xs (p + 18) cs.plots;
    tracks = ap length e ∙ length-many word_at 8 xs (p + 18 + cs.plots * 8) cs.tracks;
    pairing = ap length g ∙ length-many entry_number_at 4 xs _ cs.plots;
    named = named;
    u = ap length i ∙ length-many price_number_at 8 xs _ cs.plots;
    v = ap length j ∙ length-many price_number_at 8 xs _ cs.tracks;
  };
  problem = problem;
}

-- the certificate that stands there, where its edges and its names were judged
pub read_here : (xs : List ℕ) (p : ℕ) (cs : Counts) → AreOctets xs → HasCounts xs p cs → IsProblem (record { plots = cs.plots; tracks = cs.tracks; edges = many_at edge_numbers_at 10 xs (p + 22 + cs.plots * 8 + cs.tracks * 8) cs.edges })
    → All (λ x. IfSome x (λ t. t < cs.tracks)) (many_at entry_number_at 4 xs (p + 22 + cs.plots * 8 + cs.tracks * 8 + cs.edges * 10) cs.plots) → ReadsCert xs p (cert_read xs p) (cert_end xs p)
read_here xs p cs o h problem named =
    let r = put_together xs p cs (end_of cs.plots cs.tracks cs.edges p) o h refl refl refl refl refl refl refl refl problem named refl in
    subst (λ (t : Cert × ℕ). ReadsCert xs p t.0 t.1) (λ j. (r.value j, r.end' j)) r

-- and its parts, as they are read
pub read_costs : (xs : List ℕ) (p : ℕ) (cs : Counts) → HasCounts xs p cs → {edges : List Edge} → edges ≡ many_at edge_numbers_at 10 xs (p + 22 + cs.plots * 8 + cs.tracks * 8) cs.edges
    → let a : Problem = record { plots = cs.plots; tracks = cs.tracks; edges = edges } in a ≡ (cert_read xs p).costs
unfolding cert_read
read_costs xs p cs h {edges} f = (λ t. record { plots = cs.plots; tracks = cs.tracks; edges = f t }) ∙ (λ t. (cert_of xs p (h.plots t) (h.tracks t) (h.edges t)).costs)

pub read_value : (xs : List ℕ) (p : ℕ) (cs : Counts) → HasCounts xs p cs → {slot radar : ℕ} {ps ts : List ℕ} {edges : List Edge} {entries : List (Option ℕ)} {us vs : List ℤ}
    → slot ≡ word_at xs (p + 1) → radar ≡ get_or xs (p + 9) 0 → ps ≡ many_at word_at 8 xs (p + 18) cs.plots → ts ≡ many_at word_at 8 xs (p + 18 + cs.plots * 8) cs.tracks
    → edges ≡ many_at edge_numbers_at 10 xs (p + 22 + cs.plots * 8 + cs.tracks * 8) cs.edges
    → entries ≡ many_at entry_number_at 4 xs (p + 22 + cs.plots * 8 + cs.tracks * 8 + cs.edges * 10) cs.plots
    → us ≡ many_at price_number_at 8 xs (p + 22 + cs.plots * 8 + cs.tracks * 8 + cs.edges * 10 + cs.plots * 4) cs.plots
    → vs ≡ many_at price_number_at 8 xs (p + 22 + cs.plots * 8 + cs.tracks * 8 + cs.edges * 10 + cs.plots * 4 + cs.plots * 8) cs.tracks
    → let c : Cert = record { slot = slot; radar = radar; plots = ps; tracks = ts; costs = record { plots = cs.plots; tracks = cs.tracks; edges = edges }; pairing = entries; u = us; v = vs } in c ≡ cert_read xs p
unfolding cert_read
read_value xs p cs h a b d e f g i j =
    (λ t. record { slot = a t; radar = b t; plots = d t; tracks = e t; costs = record { plots = cs.plots; tracks = cs.tracks; edges = f t }; pairing = g t; u = i t; v = j t })
    ∙ (λ t. cert_of xs p (h.plots t) (h.tracks t) (h.edges t))
