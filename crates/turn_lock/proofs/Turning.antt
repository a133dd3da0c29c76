-- What a turn holds while its call runs.
use Rattle.std.proofs.Common.{◌≡◌, ℕ, Bool, List, [], ◌∷◌, get_or, sym, ap, ◌∙◌, subst}
use Rattle.atomic_table.specs.Table.{Me, rest}
use Rattle.turn_lock.specs.declared.rule.View.{View}
use Rattle.turn_lock.specs.declared.rule.Stage.TheVariants.{Holding}
use Rattle.turn_lock.specs.Steps.{with_stage, Found}

module _ {S E B : Type 0} (events : S → List E) (is_publish : E → Bool) (base : S → B) where
  abbrev M : Type 0
  M = Me S (View E B)

  -- the value that is lent is the one that was found
  pub record Held (old w : M) (t : ℕ) (x : S) : Type 0 where
    pub found : Found events is_publish base old.0 x
    pub is : w ≡ (with_stage old.0 (Holding t (events x)), (0, x) ∷ [])

  pub held : (old w : M) (t : ℕ) (y x : S) → Found events is_publish base old.0 y → w ≡ (with_stage old.0 (Holding t (events y)), (0, y) ∷ []) → w.1 ≡ (0, x) ∷ rest w.1 → Held old w t x
  held old w t y x f taken shown = let same : y ≡ x = ap (λ (l : List (ℕ × S)). (get_or l 0 (0, y)).1) (sym (ap (λ (m : M). m.1) taken) ∙ shown) in
      subst (λ (z : S). Held old w t z) same record { found = f; is = taken }
