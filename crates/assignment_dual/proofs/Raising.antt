-- The prices at the places of a list of nodes rise, or fall, one after the other.
use Rattle.std.proofs.Common.{◌≡◌, ◌≢◌, ◌≤◌, ◌<◌, inl, inr, ℕ, ◌+◌, length, get_or, set, List, arith, refl, sym, ◌∙◌, ap, get_or-set_same, get_or-set_other}
use Rattle.std.proofs.lemmas.List.{length-set}
use Rattle.std.proofs.lemmas.Bool.{cases_lt}
use Rattle.assignment_dual.specs.declared.search.Node.{Node}
use Rattle.assignment_dual.specs.Search.{vertex_at, mate_at}
use Rattle.assignment_dual.specs.Rising.{MayShift, AreRaised, AreShifted}

pub raised_none : (qs : List ℕ) (place : ℕ → ℕ) (from d : ℕ) → AreRaised qs qs place from from d
raised_none qs place from d = record { count = refl; raised = λ i h k. absurd (omega (arith, h, k)); others = λ v f. refl }

-- a place after those before stands as it stood
pub not_yet : {old mid : List ℕ} {place : ℕ → ℕ} {from k d : ℕ} → AreRaised old mid place from k d → ((i : ℕ) → from ≤ i → i < k → place i ≢ place k) → get_or mid (place k) 0 ≡ get_or old (place k) 0
not_yet {old} {mid} {place} {from} {k} {d} r f = r.others (place k) f

-- one place more rises
pub raised_more : {old mid : List ℕ} {place : ℕ → ℕ} {from k d : ℕ} (w q : ℕ) → AreRaised old mid place from k d → from ≤ k → ((i : ℕ) → from ≤ i → i < k → place i ≢ place k) → w ≡ place k → w < length old
    → q ≡ get_or mid w 0 + d → AreRaised old (set mid w q) place from (k + 1) d
raised_more {old} {mid} {place} {from} {k} {d} w q r b f we l qe =
    let here : get_or (set mid w q) w 0 ≡ q = get_or-set_same mid w q 0 (omega (arith, l, r.count)) in
    record {
      count = length-set mid w q ∙ r.count;
      raised = λ i h j. elim (cases_lt i k) [
        | inl z ↦ get_or-set_other mid w (place i) q 0 (λ e. f i h z (e ∙ we)) ∙ r.raised i h z
        | inr z ↦
            let e : i ≡ k = omega (arith, j, z) in
            ap (λ (o : ℕ). get_or (set mid w q) o 0) (ap place e ∙ sym we) ∙ here ∙ qe
            ∙ ap (λ (o : ℕ). o + d) (ap (λ (o : ℕ). get_or mid o 0) we ∙ not_yet r f ∙ ap (λ (o : ℕ). get_or old (place o) 0) (sym e))
      ];
      others = λ v g.
          get_or-set_other mid w v q 0 (λ e. g k b (omega arith) (sym (e ∙ we)))
          ∙ r.others v (λ i h j. g i h (omega (arith, j)));
    }

-- one place more falls
pub lowered_more : {old mid : List ℕ} {place : ℕ → ℕ} {from k d : ℕ} (w q : ℕ) → AreRaised mid old place from k d → from ≤ k → ((i : ℕ) → from ≤ i → i < k → place i ≢ place k) → w ≡ place k → w < length mid
    → q + d ≡ get_or mid w 0 → AreRaised (set mid w q) old place from (k + 1) d
lowered_more {old} {mid} {place} {from} {k} {d} w q r b f we l qe =
    let here : get_or (set mid w q) w 0 ≡ q = get_or-set_same mid w q 0 l in
    record {
      count = r.count ∙ sym (length-set mid w q);
      raised = λ i h j. elim (cases_lt i k) [
        | inl z ↦ r.raised i h z ∙ ap (λ (o : ℕ). o + d) (sym (get_or-set_other mid w (place i) q 0 (λ e. f i h z (e ∙ we))))
        | inr z ↦
            let e : i ≡ k = omega (arith, j, z) in
            let p : place i ≡ w = ap place e ∙ sym we in
            ap (λ (o : ℕ). get_or old (place o) 0) e ∙ not_yet r f ∙ ap (λ (o : ℕ). get_or mid o 0) (sym we) ∙ sym qe
            ∙ ap (λ (o : ℕ). o + d) (sym here ∙ ap (λ (o : ℕ). get_or (set mid w q) o 0) (sym p))
      ];
      others = λ v g.
          r.others v (λ i h j. g i h (omega (arith, j)))
          ∙ sym (get_or-set_other mid w v q 0 (λ e. g k b (omega arith) (sym (e ∙ we))));
    }

-- the vertices stand as they stood when their mates have risen
vertex_kept : {qs mid ms : List ℕ} {tree : List Node} {d : ℕ} → MayShift qs ms tree d → AreRaised qs mid (mate_at ms tree) 0 (length tree) d → (i : ℕ) → 0 < i → i < length tree → get_or mid (vertex_at tree i) 0 ≡ get_or qs (vertex_at tree i) 0
vertex_kept {qs} {mid} {ms} {tree} {d} s r i p h = r.others (vertex_at tree i) (λ j a b. s.apart j i b p h)

pub may_lower : {qs mid ms : List ℕ} {tree : List Node} {d : ℕ} → MayShift qs ms tree d → AreRaised qs mid (mate_at ms tree) 0 (length tree) d → (i : ℕ) → 0 < i → i < length tree → d ≤ get_or mid (vertex_at tree i) 0
may_lower {qs} {mid} {ms} {tree} {d} s r i p h = omega (arith, vertex_kept s r i p h, s.fall i p h)

pub shifted_both : {qs mid new ms : List ℕ} {tree : List Node} {d : ℕ} → MayShift qs ms tree d → AreRaised qs mid (mate_at ms tree) 0 (length tree) d → AreRaised new mid (vertex_at tree) 1 (length tree) d → AreShifted qs new ms tree d
shifted_both {qs} {mid} {new} {ms} {tree} {d} s r l = record {
  count = sym l.count ∙ r.count;
  risen = λ i h. sym (l.others (mate_at ms tree i) (λ j a b e. s.apart i j h (omega (arith, a)) b (sym e))) ∙ r.raised i (omega arith) h;
  fallen = λ i p h. sym (l.raised i (omega (arith, p)) h) ∙ vertex_kept s r i p h;
  others = λ v a b. sym (l.others v (λ j p h. b j (omega (arith, p)) h)) ∙ r.others v (λ j p h. a j h);
}
