-- The components of a batch are paired one after the other.
use Rattle.std.proofs.Common.{◌≡◌, ◌∙◌, ap, sym, refl, ℕ, suc, ◌+◌, ◌-◌, ◌<◌, ◌≤◌, ◌^◌, append_assoc, List, [], ◌∷◌, ◌++◌, length, get_or, map, take, drop, Option, None, arith, subst, inl, inr}
use Rattle.std.specs.Prelude.{ℤ, Contains, All, IfSome}
use Rattle.std.specs.List.{AllByRecursion, AllZip}
use Rattle.std.specs.List.Sorted.{IsStrictlySortedBy}
use Rattle.std.proofs.Math.Seq.{take-suc}
use Rattle.std.proofs.lemmas.List.{append-nil, drop_all, get_or_default, length-map, same_lists, take_all}
use Rattle.std.proofs.lemmas.List.Elements.{Contains-append_cases}
use Rattle.trk_base.specs.declared.keys.Key.{Key}
use Rattle.trk_base.specs.Keys.{key_cmp}
use Rattle.plot_geometry.specs.Plots.{PlanePlot}
use Rattle.assignment_dual.specs.Parts.{at_plots, IsPartOf}
use Rattle.assignment_dual.specs.Problems.{Problem, IsProblem, IsSolvedBy, rows_of}
use Rattle.assignment_dual.proofs.Unique.{gate_count}
use Rattle.assignment_dual.proofs.Signed.{count_rows}
use Rattle.cluster_split.specs.declared.splitting.Component.{Component}
use Rattle.cluster_split.specs.Components.{IsComponent, AreComponents}
use Rattle.price_form.specs.Certificates.{IsCert}
use Rattle.track_life.specs.declared.settings.LifeSettings.{LifeSettings}
use Rattle.track_life.specs.Tracks.{TrackState}
use Rattle.slot_step.specs.Batches.{least}
use Rattle.slot_step.specs.Certificates.{Certificate, plots, IsAt}
use Rattle.slot_step.specs.Components.{edge_pairs, IsSolved}
use Rattle.slot_step.specs.Problems.{IsProblemOf}
use Rattle.slot_step.specs.Told.{told}
use Rattle.slot_step.specs.ToldComponents.{IsPairedComponent, AreToldBehind}
use Rattle.slot_step.specs.Tracker.{track_gate, tracking, ordered}
use Rattle.slot_step.specs.declared.certs.KeyedCert.{KeyedCert}
use Rattle.slot_step.proofs.Interleavings.{all_append, contains_cons, contains_none}
use Rattle.slot_step.proofs.Batching.{least_length}
use Rattle.slot_step.proofs.Certifying.{within}
use Rattle.slot_step.proofs.Components.{at_from, at_map, at_get, all_at, zip_length, restricted, each_certified, all_certified, firsts_rise}
use Rattle.slot_step.proofs.ComponentProblem.{few_tracks}
use Rattle.slot_step.proofs.Placing.{is_in}
use Rattle.slot_step.proofs.Tracker.{tracks_ordered}

zip_more : {X Y : Type 0} (R : X → Y → Type 0) (xs : List X) (ys : List Y) (x : X) (y : Y) → AllZip R xs ys → R x y → AllZip R (xs ++ x ∷ []) (ys ++ y ∷ [])
zip_more R [] [] x y z r = (r, tt)
zip_more R [] (b ∷ ys) x y z r = absurd z
zip_more R (a ∷ xs) [] x y z r = absurd z
zip_more R (a ∷ xs) (b ∷ ys) x y z r = (z.0, zip_more R xs ys x y z.1 r)

pub map_one : {X Y : Type 0} (f : X → Y) (xs : List X) (x : X) → map f (xs ++ x ∷ []) ≡ map f xs ++ f x ∷ []
map_one f [] x = refl
map_one {Y = Y} f (y ∷ xs) x = ap (λ (ys : List Y). f y ∷ ys) (map_one f xs x)

abbrev pub AllGood : List KeyedCert → Type 0
AllGood cs = AllByRecursion (λ c. IsCert c.cert) cs

-- the first n components were paired
pub record ArePaired (ts : List TrackState) (ps : List PlanePlot) (whole : Problem) (parts : List Component) (before : List KeyedCert) (n : ℕ) (pairing : List (Option ℕ)) (certs : List KeyedCert) : Type 0 where
  pub count : length pairing ≡ length ps
  pub own : (life : LifeSettings) (part : Component) → Contains (take n parts) part → (plot : ℕ) → Contains part.plots plot → get_or pairing plot None ≡ get_or (least (tracking life) ts ps) plot None
  pub certificates : List (Certificate PlanePlot Key)
  pub solved : (life : LifeSettings) → AllZip (IsSolved (ordered life) ts ps whole) (take n parts) certificates
  pub all : certs ≡ before ++ map told certificates
  pub good : AllGood before → AllGood certs

module _ (ts : List TrackState) (ps : List PlanePlot) (whole : Problem) (w : IsProblemOf track_gate ts ps whole) (few : length ts < 2 ^ 32 - 1) where
  -- a certificate has lists of the right lengths
  good_cert : (part : Component) → IsComponent (length ps) (edge_pairs whole.edges) part → (keyed : KeyedCert) (old new : List (Option ℕ)) → IsPairedComponent ts ps whole part keyed old new → IsCert keyed.cert
  good_cert part c keyed old new d =
      let cert : Certificate PlanePlot Key = d.told.certificate in
      let own_plots : cert.costs.plots ≡ length part.plots = ap (λ (p : Problem). p.plots) d.told.costs ∙ d.is_part.plots in
      let own_tracks : cert.costs.tracks ≡ length part.tracks = ap (λ (p : Problem). p.tracks) d.told.costs ∙ d.is_part.tracks in
      let below : length part.tracks ≤ whole.tracks = few_tracks whole w.problem part (subst (λ n. IsComponent n (edge_pairs whole.edges) part) (sym w.plot_count) c) in
      subst (λ (k : KeyedCert). IsCert k.cert) (sym d.told.is) (record {
        some_plot = omega (arith, c.some_plot, own_plots);
        few_tracks = omega (arith, below, own_tracks, w.track_count, few);
        few_edges = omega (arith, ap (λ (p : Problem). length p.edges) d.told.costs, d.few);
        plots = length-map (plots cert) (λ p. p.key.arrival) ∙ zip_length (IsAt ps) part.plots (plots cert) d.told.plots_at ∙ sym own_plots;
        tracks = length-map cert.births (λ b. b.arrival) ∙ zip_length (IsAt (map (λ t. t.birth) ts)) part.tracks cert.births d.told.births_at ∙ sym own_tracks;
        pairing = ap length d.told.pairing ∙ gate_count (rows_of d.costs) d.pairing d.solved.least.pairing.gates ∙ count_rows d.costs ∙ sym (ap (λ (p : Problem). p.plots) d.told.costs);
        named = subst (λ (y : Problem × List (Option ℕ)). All (λ x. IfSome x (λ t. t < y.0.tracks)) y.1) (λ i. (sym d.told.costs i, sym d.told.pairing i)) d.solved.tracks;
        u = ap length d.told.u ∙ d.solved.proves.plot_prices ∙ sym (ap (λ (p : Problem). p.plots) d.told.costs);
        v = ap length d.told.v ∙ d.solved.proves.track_prices ∙ sym (ap (λ (p : Problem). p.tracks) d.told.costs);
      })

  certified : (life : LifeSettings) (part : Component) (keyed : KeyedCert) (old new : List (Option ℕ)) (d : IsPairedComponent ts ps whole part keyed old new) → IsSolved (ordered life) ts ps whole part d.told.certificate
  certified life part keyed old new d = record {
    plots_at = d.told.plots_at;
    births_at = d.told.births_at;
    problem = subst IsProblem (sym d.told.costs) d.problem;
    costs = subst (IsPartOf whole part.plots part.tracks) (sym d.told.costs) d.is_part;
    worth = d.worth;
    solved = subst (λ (y : Problem × List (Option ℕ) × List ℤ × List ℤ). IsSolvedBy y.0 y.1 y.2 y.3 d.worth) (λ i. (sym d.told.costs i, sym d.told.pairing i, sym d.told.u i, sym d.told.v i)) d.solved;
  }

  pub none_paired : (parts : List Component) (certs : List KeyedCert) (pairing : List (Option ℕ)) → length pairing ≡ length ps → ArePaired ts ps whole parts certs 0 pairing certs
  none_paired parts certs pairing l = record {
    count = l;
    own = λ life part c. contains_none part c;
    certificates = [];
    solved = λ life. tt;
    all = sym (append-nil certs);
    good = λ g. g;
  }

  entry_same : (xs ys : List (Option ℕ)) (own : List ℕ) (plot : ℕ) → at_plots None xs own ≡ at_plots None ys own → Contains own plot → get_or xs plot None ≡ get_or ys plot None
  entry_same xs ys own plot e c =
      let a : (i : ℕ) × IsAt own i plot = at_from own plot c in
      sym (at_map (λ i. get_or xs i None) None own a.0 plot a.1) ∙ ap (λ (zs : List (Option ℕ)). get_or zs a.0 None) e ∙ at_map (λ i. get_or ys i None) None own a.0 plot a.1

  pub paired_more : (parts : List Component) (before : List KeyedCert) (n : ℕ) (pairing : List (Option ℕ)) (certs : List KeyedCert) → ArePaired ts ps whole parts before n pairing certs → AreComponents (length ps) (edge_pairs whole.edges) parts
      → (part : Component) → IsAt parts n part → (keyed : KeyedCert) (new : List (Option ℕ)) → IsPairedComponent ts ps whole part keyed pairing new → ArePaired ts ps whole parts before (n + 1) new (certs ++ keyed ∷ [])
  paired_more parts before n pairing certs h comps part a keyed new d =
      let s : suc n ≡ n + 1 = omega arith in
      let front : take (n + 1) parts ≡ take n parts ++ part ∷ [] = ap (λ m. take m parts) (sym s) ∙ take-suc parts n part (within parts n part a) ∙ ap (λ (p : Component). take n parts ++ p ∷ []) (at_get part parts n part a) in
      let ic : IsComponent (length ps) (edge_pairs whole.edges) part = all_at (IsComponent (length ps) (edge_pairs whole.edges)) parts n part comps.each a in
      record {
        count = d.count ∙ h.count;
        own = λ life p c plot k. elim (is_in part.plots plot) [
          | inl here ↦ entry_same new (least (tracking life) ts ps) part.plots plot (d.own ∙ sym (restricted (tracking life) ts ps whole w parts comps n part a d.costs d.pairing d.problem d.is_part d.solved.least)) here
          | inr gone ↦ d.others plot gone ∙ elim (Contains-append_cases (take n parts) (part ∷ []) p (subst (λ (ps : List Component). Contains ps p) front c)) [
            | inl q ↦ h.own life p q plot k
            | inr q ↦ elim (contains_cons part p [] q) [
              | inl e ↦ absurd (gone (subst (λ (r : Component). Contains r.plots plot) (sym e) k))
              | inr r ↦ contains_none p r
            ]
          ]
        ];
        certificates = h.certificates ++ d.told.certificate ∷ [];
        solved = λ life. subst (λ (ps' : List Component). AllZip (IsSolved (ordered life) ts ps whole) ps' (h.certificates ++ d.told.certificate ∷ [])) (sym front)
            (zip_more (IsSolved (ordered life) ts ps whole) (take n parts) h.certificates part d.told.certificate (h.solved life) (certified life part keyed pairing new d));
        all = ap (λ (cs : List KeyedCert). cs ++ keyed ∷ []) h.all ∙ append_assoc before (map told h.certificates) (keyed ∷ [])
            ∙ ap (λ (cs : List KeyedCert). before ++ cs) (ap (λ (k : KeyedCert). map told h.certificates ++ k ∷ []) d.told.is ∙ sym (map_one told h.certificates d.told.certificate));
        good = λ g. all_append (λ c. IsCert c.cert) certs (keyed ∷ []) (h.good g) (good_cert part ic keyed pairing new d, tt);
      }

  module _ (parts : List Component) (before : List KeyedCert) (n : ℕ) (pairing : List (Option ℕ)) (certs : List KeyedCert) (h : ArePaired ts ps whole parts before n pairing certs) (comps : AreComponents (length ps) (edge_pairs whole.edges) parts) (end : length parts ≤ n) where
    all_parts : take n parts ≡ parts
    all_parts = take_all n parts end

    pub paired_least : (life : LifeSettings) → pairing ≡ least (tracking life) ts ps
    paired_least life = same_lists pairing (least (tracking life) ts ps) (h.count ∙ sym (least_length (tracking life) ts ps)) (λ k x lt.
        let v = comps.whole k (omega (arith, lt, h.count)) in
        get_or_default pairing k x None lt ∙ h.own life v.0 (subst (λ (ps' : List Component). Contains ps' v.0) (sym all_parts) v.1) k v.2
        ∙ get_or_default (least (tracking life) ts ps) k None x (omega (arith, lt, h.count, least_length (tracking life) ts ps)))

    pub paired_told : (life : LifeSettings) → IsStrictlySortedBy (λ t u. key_cmp t.birth u.birth) ts → IsStrictlySortedBy (λ p q. key_cmp p.key q.key) ps → AreToldBehind life ts ps before certs
    paired_told life up rising =
        let z : AllZip (IsSolved (ordered life) ts ps whole) parts h.certificates = subst (λ (ps' : List Component). AllZip (IsSolved (ordered life) ts ps whole) ps' h.certificates) all_parts (h.solved life) in
        record {
          certificates = h.certificates;
          are = record {
            each = each_certified (tracking life) (ordered life) (tracks_ordered life) ts ps whole up rising w parts h.certificates comps z;
            whole = all_certified (tracking life) (ordered life) (tracks_ordered life) ts ps whole up rising w parts h.certificates comps z;
            order = firsts_rise (tracking life) (ordered life) (tracks_ordered life) ts ps whole up rising w parts h.certificates comps.each comps.order z;
          };
          all = h.all;
        }

-- what a slice of a whole list leaves behind when it was written
pub written_back : {X : Type 0} (new items : List X) (n : ℕ) → length new ≡ length items → n ≡ length items → take n (new ++ drop (length new) items) ≡ new
written_back {X} new items n l e =
    ap (λ (rest : List X). take n (new ++ rest)) (drop_all (length new) items (omega (arith, l))) ∙ ap (take n) (append-nil new) ∙ take_all n new (omega (arith, l, e))

pub map_append : {X Y : Type 0} (f : X → Y) (xs ys : List X) → map f (xs ++ ys) ≡ map f xs ++ map f ys
map_append f [] ys = refl
map_append {Y = Y} f (x ∷ xs) ys = ap (λ (zs : List Y). f x ∷ zs) (map_append f xs ys)
