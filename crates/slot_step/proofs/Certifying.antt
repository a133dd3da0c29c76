-- The certificates of two parts are those of the whole.
use Rattle.std.proofs.Common.{◌≡◌, ap, sym, refl, ℕ, zero, suc, ◌≤◌, ◌<◌, List, [], ◌∷◌, length, eqb, Option, Some, None, IsSome, arith, subst, inl, inr}
use Rattle.std.specs.Prelude.{Contains, option_map}
use Rattle.std.specs.List.{AllByRecursion, AllZip}
use Rattle.std.specs.Cmp.{IsTotalOrder}
use Rattle.std.specs.List.Sorted.{IsStrictlySortedBy}
use Rattle.std.specs.declared.cmp.Ordering.{Ordering}
use Rattle.std.specs.declared.cmp.Ordering.TheVariants.{Equal}
use Rattle.std.proofs.lemmas.Cmp.{on_total}
use Rattle.assignment_dual.specs.Renumbering.{number_at, renumbered}
use Rattle.slot_step.specs.Interleavings.{Interleaved}
use Rattle.slot_step.specs.Interleavings.Interleaved.{neither, first, second}
use Rattle.slot_step.specs.Batches.{Tracking, entries, least, of_radar, table_at, GateNone}
use Rattle.slot_step.specs.Slots.{Ordered, OrderLaws, plot_radar, run}
use Rattle.slot_step.specs.Certificates.{Certificate, plots, IsGateWalk, IsAt, IsPairedAs, IsCertificateOf, IsCertificateIn, AreCertificates}
use Rattle.slot_step.specs.Parts.{merged, merged_certificates, DontCross, AreTwoParts}
use Rattle.slot_step.proofs.Interleavings.{swapped, both_filter, all_of, all_contains, all_first, in_one, in_both, in_filter, contains_cons, contains_first, contains_later, contains_none}
use Rattle.slot_step.proofs.Merging.{merged_is, merged_only}
use Rattle.slot_step.proofs.Weaving.{lefts, lefts_length, number_suc}
use Rattle.slot_step.proofs.Batching.{least_of_both, pairing_of_both, wove}
use Rattle.slot_step.proofs.Tables.{in_two, none_gated, rested, plots_differ}

gated_not : {T P : Type 0} (gate : T → P → Option ℕ) (ts : List T) (ps : List P) (t : T) (p : P) → GateNone gate ts ps → Contains ts t → Contains ps p → IsSome (gate t p) → ⊥
gated_not gate ts ps t p h c d s = let e : gate t p ≡ None = all_contains (λ q. gate t q ≡ None) p ps (all_contains (λ u. AllByRecursion (λ q. gate u q ≡ None) ps) t ts h c) d in let z = subst IsSome e s in cc

pub some_is : (x : Option ℕ) (c : ℕ) → x ≡ Some c → IsSome x
some_is x c e = subst IsSome (sym e) refl

pub within : {X : Type 0} (xs : List X) (i : ℕ) (x : X) → IsAt xs i x → i < length xs
within [] i x h = absurd h
within (y ∷ ys) zero x h = omega arith
within (y ∷ ys) (suc i) x h = omega (arith, within ys i x h)

pub at_contains : {X : Type 0} (xs : List X) (i : ℕ) (x : X) → IsAt xs i x → Contains xs x
at_contains [] i x h = absurd h
at_contains (y ∷ ys) zero x h = contains_first y x ys h
at_contains (y ∷ ys) (suc i) x h = contains_later y x ys (at_contains ys i x h)

index_up : {X : Type 0} (us vs ws : List X) (m : Interleaved us vs ws) (i : ℕ) (x : X) → IsAt us i x → IsAt ws (number_at (lefts us vs ws m) i) x
unfolding lefts
index_up _ _ _ neither i x h = absurd h
index_up _ _ _ (first y us vs ws m) zero x h = h
index_up _ _ _ (first y us vs ws m) (suc i) x h = subst (λ j. IsAt (y ∷ ws) j x) (sym (number_suc (lefts us vs ws m) i (omega (arith, within us i x h, lefts_length us vs ws m)))) (index_up us vs ws m i x h)
index_up _ _ _ (second y us vs ws m) i x h = subst (λ j. IsAt (y ∷ ws) j x) (sym (number_suc (lefts us vs ws m) i (omega (arith, within us i x h, lefts_length us vs ws m)))) (index_up us vs ws m i x h)

entry_renumbered : {P : Type 0} (numbers : List ℕ) (ps : List P) (xs : List (Option ℕ)) (p : P) (x : Option ℕ) → Contains (entries ps xs) (p, x) → Contains (entries ps (renumbered numbers xs)) (p, option_map (number_at numbers) x)
entry_renumbered numbers [] xs p x c = contains_none (p, x) c
entry_renumbered numbers (q ∷ ps) [] p x c = contains_none (p, x) c
entry_renumbered {P} numbers (q ∷ ps) (y ∷ xs) p x c = elim (contains_cons (q, y) (p, x) (entries ps xs) c) [
  | inl e ↦ contains_first _ _ _ (ap (λ (z : P × Option ℕ). (z.0, option_map (number_at numbers) z.1)) e)
  | inr d ↦ contains_later _ _ _ (entry_renumbered numbers ps xs p x d)
]

zip_weaker : {X Y : Type 0} (Q R : X → Y → Type 0) → ((x : X) (y : Y) → Q x y → R x y) → (xs : List X) (ys : List Y) → AllZip Q xs ys → AllZip R xs ys
zip_weaker Q R f [] [] h = tt
zip_weaker Q R f [] (y ∷ ys) h = absurd h
zip_weaker Q R f (x ∷ xs) [] h = absurd h
zip_weaker Q R f (x ∷ xs) (y ∷ ys) h = (f x y h.0, zip_weaker Q R f xs ys h.1)

module _ {T P K : Type 0} (k : Tracking T P) (o : Ordered T P K) (l : OrderLaws k o) where
  -- a walk over both stays with the plots that it began with
  walk_up : (us vs ws : List T) → Interleaved us vs ws → (xs ys zs : List P) → Interleaved xs ys zs → (p : P) (over : List P) (q : P) → IsGateWalk k.gate us xs p over q → IsGateWalk k.gate ws zs p over q
  walk_up us vs ws m xs ys zs n p [] q w = w
  walk_up us vs ws m xs ys zs n p (r ∷ over) q w =
      (in_both r xs ys zs n w.0, record { track = w.1.track; known = in_both w.1.track us vs ws m w.1.known; one = w.1.one; other = w.1.other }, walk_up us vs ws m xs ys zs n r over q w.2)

  walk_down : (us vs ws : List T) → Interleaved us vs ws → (xs ys zs : List P) → Interleaved xs ys zs → GateNone k.gate us ys → GateNone k.gate vs xs → (p : P) (over : List P) (q : P) → Contains xs p → IsGateWalk k.gate ws zs p over q → IsGateWalk k.gate us xs p over q × Contains xs q
  walk_down us vs ws m xs ys zs n hu hv p [] q c w = (w, subst (Contains xs) w c)
  walk_down us vs ws m xs ys zs n hu hv p (r ∷ over) q c w = elim (in_one w.1.track us vs ws m w.1.known) [
    | inl u ↦ elim (in_one r xs ys zs n w.0) [
      | inl a ↦
          let d : IsGateWalk k.gate us xs r over q × Contains xs q = walk_down us vs ws m xs ys zs n hu hv r over q a w.2 in
          ((a, record { track = w.1.track; known = u; one = w.1.one; other = w.1.other }, d.0), d.1)
      | inr b ↦ absurd (gated_not k.gate us ys w.1.track r hu u b w.1.other)
    ]
    | inr v ↦ absurd (gated_not k.gate vs xs w.1.track p hv v c w.1.one)
  ]

  -- what pairs a plot of one part pairs it in both
  paired_up : (us vs ws : List T) → Interleaved us vs ws → (xs ys zs : List P) → Interleaved xs ys zs → GateNone k.gate us ys → GateNone k.gate vs xs → (births : List K) (p : P) (x : Option ℕ) → IsPairedAs k o us xs births p x → IsPairedAs k o ws zs births p x
  unfolding pairing_of_both
  paired_up us vs ws m xs ys zs n hu hv births p None c =
      let w = wove k us vs ws m xs ys zs n in
      subst (λ (e : List (Option ℕ)). Contains (entries zs e) (p, None)) (sym (least_of_both k us vs ws m xs ys zs n hu hv)) (in_both (p, None) _ _ _ w.mix (entry_renumbered (lefts us vs ws m) xs (least k us xs) p None c))
  paired_up us vs ws m xs ys zs n hu hv births p (Some j) h =
      let w = wove k us vs ws m xs ys zs n in
      record {
        index = number_at (lefts us vs ws m) h.index;
        track = h.track;
        entry = subst (λ (e : List (Option ℕ)). Contains (entries zs e) (p, Some (number_at (lefts us vs ws m) h.index))) (sym (least_of_both k us vs ws m xs ys zs n hu hv)) (in_both (p, Some (number_at (lefts us vs ws m) h.index)) _ _ _ w.mix (entry_renumbered (lefts us vs ws m) xs (least k us xs) p (Some h.index) h.entry));
        track_at = index_up us vs ws m h.index h.track h.track_at;
        birth_at = h.birth_at;
      }

  -- a component of one part is one of both
  certificate_up : (us vs ws : List T) → Interleaved us vs ws → (xs ys zs : List P) → Interleaved xs ys zs → GateNone k.gate us ys → GateNone k.gate vs xs → (c : Certificate P K) → IsCertificateOf k o us xs c → IsCertificateOf k o ws zs c
  certificate_up us vs ws m xs ys zs n hu hv c h =
      let own : (p : P) → Contains (plots c) p → Contains xs p = λ p d. ((h.plots_are p).0 d).known in
      record {
        plots_rise = h.plots_rise;
        plots_are = λ p. (
          λ d. let j = (h.plots_are p).0 d in record { known = in_both p xs ys zs n j.known; over = j.over; walk = walk_up us vs ws m xs ys zs n c.first j.over p j.walk },
          λ j. let d = walk_down us vs ws m xs ys zs n hu hv c.first j.over p (own c.first (contains_first c.first c.first c.rest refl)) j.walk in (h.plots_are p).1 (record { known = d.1; over = j.over; walk = d.0 }),
        );
        births_rise = h.births_rise;
        births_are = λ b. (
          λ d. let g = (h.births_are b).0 d in record { track = g.track; plot = g.plot; known = in_both g.track us vs ws m g.known; is = g.is; own = g.own; gates = g.gates },
          λ g. elim (in_one g.track us vs ws m g.known) [
            | inl u ↦ (h.births_are b).1 (record { track = g.track; plot = g.plot; known = u; is = g.is; own = g.own; gates = g.gates })
            | inr v ↦ absurd (gated_not k.gate vs xs g.track g.plot hv v (own g.plot g.own) g.gates)
          ],
        );
        problem = h.problem;
        plot_count = h.plot_count;
        track_count = h.track_count;
        edges_are = λ i j cost. (
          λ d. let g = (h.edges_are i j cost).0 d in record { plot = g.plot; track = g.track; plot_at = g.plot_at; known = in_both g.track us vs ws m g.known; birth_at = g.birth_at; gate_is = g.gate_is },
          λ g. elim (in_one g.track us vs ws m g.known) [
            | inl u ↦ (h.edges_are i j cost).1 (record { plot = g.plot; track = g.track; plot_at = g.plot_at; known = u; birth_at = g.birth_at; gate_is = g.gate_is })
            | inr v ↦ absurd (gated_not k.gate vs xs g.track g.plot hv v (own g.plot (at_contains (plots c) i g.plot g.plot_at)) (some_is (k.gate g.track g.plot) cost g.gate_is))
          ],
        );
        pairing_is = zip_weaker (IsPairedAs k o us xs c.births) (IsPairedAs k o ws zs c.births) (paired_up us vs ws m xs ys zs n hu hv c.births) (plots c) c.pairing h.pairing_is;
        proves = h.proves;
      }

  abbrev by_first : Certificate P K → Certificate P K → Ordering
  by_first c d = o.cmp (o.key c.first) (o.key d.first)

  by_first_total : IsTotalOrder by_first
  by_first_total = on_total (λ (c : Certificate P K). o.key c.first) l.total

  first_own : (s : List T) (n : ℕ) (xs : List P) (cs : List (Certificate P K)) → AreCertificates k o s n xs cs → (c : Certificate P K) → Contains cs c → Contains xs c.first
  first_own s n xs cs a c d =
      in_filter (λ p. eqb (plot_radar o p) (plot_radar o c.first)) c.first xs (((all_contains (IsCertificateIn k o s n xs) c cs a.each d).plots_are c.first).0 (contains_first c.first c.first c.rest refl)).known

  firsts_differ : (s t : List T) (n : ℕ) (xs ys zs : List P) (a b : List (Certificate P K)) → AreTwoParts o n s t xs ys zs → AreCertificates k o s n xs a → AreCertificates k o t n ys b → (c d : Certificate P K) → Contains a c → Contains b d → by_first c d ≡ Equal → ⊥
  firsts_differ s t n xs ys zs a b i ha hb c d e f q = plots_differ k o l xs ys zs i.plots i.rising c.first d.first (first_own s n xs a ha c e) (first_own t n ys b hb d f) (l.exact (o.key c.first) (o.key d.first) q)

  pub certificates_merged : (s t : List T) (n : ℕ) (xs ys zs : List P) (a b : List (Certificate P K)) → AreTwoParts o n s t xs ys zs → DontCross k o n s t xs ys → AreCertificates k o s n xs a → AreCertificates k o t n ys b → AreCertificates k o (merged o s t) n zs (merged_certificates o a b)
  certificates_merged s t n xs ys zs a b i h ha hb =
      let m : Interleaved a b (merged_certificates o a b) × IsStrictlySortedBy by_first (merged_certificates o a b) = merged_is by_first by_first_total a b ha.order hb.order (firsts_differ s t n xs ys zs a b i ha hb) in
      record {
        each = all_of (IsCertificateIn k o (merged o s t) n zs) (merged_certificates o a b) (λ c d. elim (in_one c a b (merged_certificates o a b) m.0 d) [
          | inl e ↦ certificate_up _ _ _ (in_two k o l s t n xs ys zs i h (plot_radar o c.first)) _ _ _ (both_filter (λ p. eqb (plot_radar o p) (plot_radar o c.first)) xs ys zs i.plots)
              (none_gated k o l s n xs ys h.there (plot_radar o c.first)) (none_gated k o l t n ys xs h.back (plot_radar o c.first)) c (all_contains (IsCertificateIn k o s n xs) c a ha.each e)
          | inr e ↦ certificate_up _ _ _ (swapped _ _ _ (in_two k o l s t n xs ys zs i h (plot_radar o c.first))) _ _ _ (swapped _ _ _ (both_filter (λ p. eqb (plot_radar o p) (plot_radar o c.first)) xs ys zs i.plots))
              (none_gated k o l t n ys xs h.back (plot_radar o c.first)) (none_gated k o l s n xs ys h.there (plot_radar o c.first)) c (all_contains (IsCertificateIn k o t n ys) c b hb.each e)
        ]);
        whole = λ p d. elim (in_one p xs ys zs i.plots d) [
          | inl e ↦ let r = ha.whole p e in (r.0, in_both r.0 a b (merged_certificates o a b) m.0 r.1, r.2)
          | inr e ↦ let r = hb.whole p e in (r.0, in_both r.0 b a (merged_certificates o a b) (swapped _ _ _ m.0) r.1, r.2)
        ];
        order = m.1;
      }

  pub no_certificates : (t : List T) (n : ℕ) → AreCertificates k o t n [] []
  unfolding IsStrictlySortedBy
  no_certificates t n = record { each = tt; whole = λ p c. contains_none p c; order = tt }

  pub certificates_alone : (s t : List T) (n : ℕ) (xs : List P) (a : List (Certificate P K)) → AreTwoParts o n s t xs [] xs → DontCross k o n s t xs [] → AreCertificates k o s n xs a → AreCertificates k o (merged o s t) n xs a
  unfolding IsStrictlySortedBy
  certificates_alone s t n xs a i h ha =
      subst (AreCertificates k o (merged o s t) n xs) (sym (merged_only by_first by_first_total a [] a ha.order tt (λ c d e f. contains_none d f) (all_first a) ha.order))
      (certificates_merged s t n xs [] xs a [] i h ha (no_certificates t n))

  pub certificates_rested : (s : List T) (a b : ℕ) (xs : List P) (cs : List (Certificate P K)) → a ≤ b → AreCertificates k o s b xs cs → AreCertificates k o (run k o s a []) b xs cs
  certificates_rested s a b xs cs h c = record {
    each = subst (λ ts. AllByRecursion (λ (d : Certificate P K). IsCertificateOf k o (table_at k (plot_radar o) ts xs (plot_radar o d.first)) (of_radar (plot_radar o) (plot_radar o d.first) xs) d) cs) (sym (rested k o l s a b h)) c.each;
    whole = c.whole;
    order = c.order;
  }
