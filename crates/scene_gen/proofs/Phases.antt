-- The aircraft by phase, as they are put there one by one.
use Rattle.std.proofs.Common.{◌≡◌, ◌∙◌, ap, sym, inl, inr, ℕ, ◌+◌, ◌<◌, List, [], ◌∷◌, ◌++◌, length, take, get_or, set, replicate, cond, eqb, arith}
use Rattle.std.specs.Prelude.{slice_index}
use Rattle.std.proofs.lemmas.Bool.{cases_eq, eq-eqb, ne_eqb}
use Rattle.std.proofs.lemmas.List.{append-nil, get_or-replicate, get_or-set_other, get_or-set_same, length-replicate, length-set}
use Rattle.std.proofs.lemmas.List.Elements.{filter_more}
use Rattle.scene_gen.specs.declared.fleet.Aircraft.{Aircraft}
use Rattle.scene_gen.specs.declared.radars.SceneRadar.{SceneRadar}
use Rattle.scene_gen.specs.Sweeps.{with_phase}

-- the first of the aircraft are there
pub record Filled (r : SceneRadar) (aircraft : List Aircraft) (i : ℕ) (b : List (List Aircraft)) : Type 0 where
  pub count : length b ≡ r.period
  pub each : (phase : ℕ) → phase < r.period → get_or b phase [] ≡ with_phase r (take i aircraft) phase

pub filled_none : (r : SceneRadar) (aircraft : List Aircraft) {b : List (List Aircraft)} → b ≡ replicate r.period [] → Filled r aircraft 0 b
filled_none r aircraft {b} made = record {
  count = ap length made ∙ length-replicate r.period [];
  each = λ phase lt. ap (λ (l : List (List Aircraft)). get_or l phase []) made ∙ get_or-replicate r.period phase [] [] lt;
}

pub filled_more : (r : SceneRadar) (aircraft : List Aircraft) (i : ℕ) (a : Aircraft) {b new : List (List Aircraft)} → Filled r aircraft i b → i < length aircraft → a ≡ get_or aircraft i a → slice_index a.phases r.feed < r.period → new ≡ set b (slice_index a.phases r.feed) (get_or b (slice_index a.phases r.feed) [] ++ a ∷ []) → Filled r aircraft (i + 1) new
filled_more r aircraft i a {b} {new} inv within read fits push =
    let k = slice_index a.phases r.feed in
    let v : List Aircraft = get_or b k [] ++ a ∷ [] in
    record {
      count = ap length push ∙ length-set b k v ∙ inv.count;
      each = λ phase lt.
          let first : List Aircraft = with_phase r (take i aircraft) phase in
          let more : with_phase r (take (i + 1) aircraft) phase ≡ first ++ cond (eqb phase k) (a ∷ []) [] =
          filter_more (λ (x : Aircraft). eqb phase (slice_index x.phases r.feed)) aircraft i a within ∙ (λ j. first ++ cond (eqb phase (slice_index (sym read j).phases r.feed)) (sym read j ∷ []) []) in
          elim (cases_eq phase k) [
            | inl same ↦
                ap (λ (l : List (List Aircraft)). get_or l phase []) push ∙ ap (λ (n : ℕ). get_or (set b k v) n []) same ∙ get_or-set_same b k v [] (omega (arith, inv.count))
                ∙ ap (λ (n : ℕ). get_or b n [] ++ a ∷ []) (sym same) ∙ ap (λ (l : List Aircraft). l ++ a ∷ []) (inv.each phase lt)
                ∙ ap (λ t. first ++ cond t (a ∷ []) []) (sym (eq-eqb phase k same)) ∙ sym more
            | inr other ↦
                ap (λ (l : List (List Aircraft)). get_or l phase []) push ∙ get_or-set_other b k phase v [] other ∙ inv.each phase lt
                ∙ sym (append-nil first) ∙ ap (λ t. first ++ cond t (a ∷ []) []) (sym (ne_eqb phase k other)) ∙ sym more
          ];
    }
