-- Any number of parts of a slot, joined one after the other.
use Rattle.std.proofs.Common.{◌≡◌, ◌∙◌, ap, sym, refl, ℕ, List, [], ◌∷◌, map, subst, inl, inr}
use Rattle.std.specs.Prelude.{Contains}
use Rattle.std.specs.List.{AllByRecursion, AllZip}
use Rattle.slot_step.specs.Interleavings.{Interleaved}
use Rattle.slot_step.specs.Batches.{Tracking}
use Rattle.slot_step.specs.Slots.{Ordered, OrderLaws, IsGated, by_key, plot_slot, run}
use Rattle.slot_step.specs.Certificates.{Certificate, AreCertificates}
use Rattle.slot_step.specs.Parts.{merged, merged_certificates, AreBeside, DontCross, AreTwoParts, Part, all_merged, all_certificates, AreParts}
use Rattle.slot_step.proofs.Interleavings.{two_first, alone, all_of_first, first_rises, in_one, contains_cons, contains_first, contains_later}
use Rattle.slot_step.proofs.Tables.{beside_merged, merged_before, gated_merged, run_merged}
use Rattle.slot_step.proofs.Certifying.{certificates_merged}

module _ {T P K : Type 0} (k : Tracking T P) (o : Ordered T P K) (l : OrderLaws k o) (n : ℕ) where
  -- the first two parts, whose plots are ws, as one
  abbrev joined : Part T P → Part T P → List P → Part T P
  joined p q ws = record { tracks = merged o p.tracks q.tracks; plots = ws }

  record Joins (p q : Part T P) (ps : List (Part T P)) (zs : List P) : Type 0 where
    plots : List P
    two : AreTwoParts o n p.tracks q.tracks p.plots q.plots plots
    apart : DontCross k o n p.tracks q.tracks p.plots q.plots
    parts : AreParts k o n (joined p q plots ∷ ps) zs

  all_beside : (p q : Part T P) (ps : List (Part T P)) → AreBeside o p.tracks q.tracks → AllByRecursion (λ r. AreBeside o p.tracks r.tracks) ps → AllByRecursion (λ r. AreBeside o q.tracks r.tracks) ps
      → AllByRecursion (λ r. AreBeside o (merged o p.tracks q.tracks) r.tracks) ps
  all_beside p q [] b h g = tt
  all_beside p q (r ∷ ps) b h g = (beside_merged k o l p.tracks q.tracks r.tracks b h.0 g.0, all_beside p q ps b h.1 g.1)

  all_apart : (p q : Part T P) (ws : List P) (ps : List (Part T P)) → AreTwoParts o n p.tracks q.tracks p.plots q.plots ws → DontCross k o n p.tracks q.tracks p.plots q.plots
      → AllByRecursion (λ r. DontCross k o n p.tracks r.tracks p.plots r.plots) ps → AllByRecursion (λ r. DontCross k o n q.tracks r.tracks q.plots r.plots) ps
      → AllByRecursion (λ r. DontCross k o n (merged o p.tracks q.tracks) r.tracks ws r.plots) ps
  all_apart p q ws [] i a h g = tt
  all_apart p q ws (r ∷ ps) i a h g = (
    record {
      there = λ x. elim (gated_merged k o l p.tracks q.tracks n p.plots q.plots ws x.0 i a x.2) [ inl c ↦ h.0.there (x.0, x.1, c) | inr c ↦ g.0.there (x.0, x.1, c) ];
      back = λ x. elim (in_one x.0 p.plots q.plots ws i.plots x.1) [ inl c ↦ h.0.back (x.0, c, x.2) | inr c ↦ g.0.back (x.0, c, x.2) ];
    },
    all_apart p q ws ps i a h.1 g.1,
  )

  join : (p q : Part T P) (ps : List (Part T P)) (zs : List P) → AreParts k o n (p ∷ q ∷ ps) zs → Joins p q ps zs
  join p q ps zs h =
      let t : (ws : List P) × Interleaved p.plots q.plots ws × Interleaved ws h.plots.2.0 zs = two_first p.plots h.plots.0 q.plots h.plots.2.0 zs h.plots.1 h.plots.2.1 in
      let i : AreTwoParts o n p.tracks q.tracks p.plots q.plots t.0 = record {
        plots = t.1;
        of_slot = all_of_first (λ x. plot_slot o x ≡ n) t.0 h.plots.2.0 zs t.2 h.of_slot;
        rising = first_rises (by_key o) t.0 h.plots.2.0 zs t.2 h.rising;
        beside = h.beside.0.0;
        one = h.before.0;
        other = h.before.1.0;
      } in
      record {
        plots = t.0;
        two = i;
        apart = h.apart.0.0;
        parts = record {
          plots = (h.plots.2.0, t.2, h.plots.2.2);
          of_slot = h.of_slot;
          rising = h.rising;
          before = (merged_before k o l p.tracks q.tracks n h.beside.0.0 h.before.0 h.before.1.0, h.before.1.1);
          beside = (all_beside p q ps h.beside.0.0 h.beside.0.1 h.beside.1.0, h.beside.1.1);
          apart = (all_apart p q t.0 ps i h.apart.0.0 h.apart.0.1 h.apart.1.0, h.apart.1.1);
        };
      }

  only : (p : Part T P) (zs : List P) → AreParts k o n (p ∷ []) zs → p.plots ≡ zs
  only p zs h = alone p.plots h.plots.0 zs h.plots.1 h.plots.2

  pub run_all : (p : Part T P) (ps : List (Part T P)) (zs : List P) → AreParts k o n (p ∷ ps) zs
      → run k o (all_merged o p.tracks (map (λ r. r.tracks) ps)) n zs ≡ all_merged o (run k o p.tracks n p.plots) (map (λ r. run k o r.tracks n r.plots) ps)
  run_all p [] zs h = ap (run k o p.tracks n) (sym (only p zs h))
  run_all p (q ∷ ps) zs h =
      let j : Joins p q ps zs = join p q ps zs h in
      run_all (joined p q j.plots) ps zs j.parts
      ∙ ap (λ ts. all_merged o ts (map (λ r. run k o r.tracks n r.plots) ps)) (run_merged k o l p.tracks q.tracks n p.plots q.plots j.plots j.two j.apart)

  pub certificates_all : (p : Part T P) (ps : List (Part T P)) (zs : List P) (cs : List (Certificate P K)) (css : List (List (Certificate P K))) → AreParts k o n (p ∷ ps) zs
      → AreCertificates k o p.tracks n p.plots cs → AllZip (λ r ds. AreCertificates k o r.tracks n r.plots ds) ps css
      → AreCertificates k o (all_merged o p.tracks (map (λ r. r.tracks) ps)) n zs (all_certificates o cs css)
  certificates_all p [] zs cs [] h c d = subst (λ xs. AreCertificates k o p.tracks n xs cs) (only p zs h) c
  certificates_all p [] zs cs (ds ∷ css) h c d = absurd d
  certificates_all p (q ∷ ps) zs cs [] h c d = absurd d
  certificates_all p (q ∷ ps) zs cs (ds ∷ css) h c d =
      let j : Joins p q ps zs = join p q ps zs h in
      certificates_all (joined p q j.plots) ps zs (merged_certificates o cs ds) css j.parts (certificates_merged k o l p.tracks q.tracks n p.plots q.plots j.plots cs ds j.two j.apart c d.0) d.1

  pub gated_all : (p : Part T P) (ps : List (Part T P)) (zs : List P) (x : P) → AreParts k o n (p ∷ ps) zs → IsGated k o (all_merged o p.tracks (map (λ r. r.tracks) ps)) n zs x
      → (r : Part T P) × Contains (p ∷ ps) r × IsGated k o r.tracks n r.plots x
  gated_all p [] zs x h g = (p, contains_first p p [] refl, subst (λ xs. IsGated k o p.tracks n xs x) (sym (only p zs h)) g)
  gated_all p (q ∷ ps) zs x h g =
      let j : Joins p q ps zs = join p q ps zs h in
      let f : (r : Part T P) × Contains (joined p q j.plots ∷ ps) r × IsGated k o r.tracks n r.plots x = gated_all (joined p q j.plots) ps zs x j.parts g in
      elim (contains_cons (joined p q j.plots) f.0 ps f.1) [
        | inl e ↦ elim (gated_merged k o l p.tracks q.tracks n p.plots q.plots j.plots x j.two j.apart (subst (λ (r : Part T P). IsGated k o r.tracks n r.plots x) (sym e) f.2)) [
          | inl a ↦ (p, contains_first p p (q ∷ ps) refl, a)
          | inr a ↦ (q, contains_later p q (q ∷ ps) (contains_first q q ps refl), a)
        ]
        | inr c ↦ (f.0, contains_later p f.0 (q ∷ ps) (contains_later q f.0 ps c), f.2)
      ]
