-- Directions that are made one by one.
use Rattle.std.proofs.Common.{◌≡◌, ◌∙◌, ap, sym, inl, inr, ℕ, ◌<◌, List, length, get_or, set, replicate, Option, Some, None, ℤ, arith}
use Rattle.std.specs.Option.{unwrap_or}
use Rattle.std.proofs.lemmas.Bool.{cases_eq, cases_lt}
use Rattle.std.proofs.lemmas.List.{get_or-replicate, get_or-set_other, get_or-set_same, get_or_default, get_or_past, length-replicate, length-set}
use Rattle.scene_gen.specs.Bearings.{AreDirections, direction}

no_some : (d : ℤ × ℤ) → ◌≡◌ {A = Option (ℤ × ℤ)} None (Some d) → ⊥
no_some d e = cc

-- nothing stands at any angle
nothing : (angle : ℕ) → ◌≡◌ {A = Option (ℤ × ℤ)} (get_or (replicate 65536 None) angle None) None
nothing angle =
    let none : Option (ℤ × ℤ) = None in
    elim (cases_lt angle 65536) [
      | inl lt ↦ get_or-replicate 65536 angle none none lt
      | inr ge ↦ get_or_past (replicate 65536 none) angle none (omega (arith, ge, length-replicate 65536 none))
    ]

pub none_made : {made : List (Option (ℤ × ℤ))} → made ≡ replicate 65536 None → AreDirections made
none_made {made} all =
    let none : Option (ℤ × ℤ) = None in
    record {
      count = ap length all ∙ length-replicate 65536 none;
      right = λ angle d e. absurd (no_some d (sym (ap (λ (l : List (Option (ℤ × ℤ))). get_or l angle none) all ∙ nothing angle) ∙ e));
    }

pub one_made : (made : List (Option (ℤ × ℤ))) (angle : ℕ) (p : ℤ × ℤ) → AreDirections made → angle < 65536 → p ≡ direction angle → AreDirections (set made angle (Some p))
one_made made angle p are within is = record {
  count = length-set made angle (Some p) ∙ are.count;
  right = λ k d e.
      elim (cases_eq k angle) [
        | inl same ↦
            let there : get_or (set made angle (Some p)) k None ≡ Some p = ap (λ (n : ℕ). get_or (set made angle (Some p)) n None) same ∙ get_or-set_same made angle (Some p) None (omega (arith, are.count)) in
            ap (λ (o : Option (ℤ × ℤ)). unwrap_or o p) (sym e ∙ there) ∙ is ∙ ap direction (sym same)
        | inr other ↦ are.right k d (sym (get_or-set_other made angle k (Some p) None other) ∙ e)
      ];
}

-- what is read at an angle
pub read_made : (made : List (Option (ℤ × ℤ))) (angle : ℕ) (p : ℤ × ℤ) {i : ℕ} {o : Option (ℤ × ℤ)} → AreDirections made → i ≡ angle → angle < 65536 → o ≡ get_or made i o → o ≡ Some p → p ≡ direction angle
read_made made angle p {i} {o} are at within read there =
    are.right angle p (get_or_default made angle None o (omega (arith, are.count)) ∙ ap (λ (n : ℕ). get_or made n o) (sym at) ∙ sym read ∙ there)
