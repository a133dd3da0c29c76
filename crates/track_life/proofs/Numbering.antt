-- Giving numbers changes nothing else.
use Rattle.std.proofs.Common.{◌≡◌, refl, sym, ap, subst, ℕ, suc, length, arith, List, [], ◌∷◌, ◌++◌, map}
use Rattle.std.specs.Prelude.{None}
use Rattle.std.specs.Option.{option_to_list}
use Rattle.std.specs.List.Sorted.{IsStrictlySortedBy}
use Rattle.trk_base.specs.Keys.{key_cmp}
use Rattle.track_life.specs.Tables.{IsTable}
use Rattle.track_life.specs.Tracks.{TrackState}
use Rattle.track_life.specs.Numbers.{with_number, held, new_number, given, assigned}

bare_given : (numbers : List ℕ) (ts : List TrackState) → map (with_number None) (given numbers ts) ≡ map (with_number None) ts
bare_given numbers [] = refl
bare_given numbers (t ∷ ts) = λ j. with_number None t ∷ bare_given (option_to_list (new_number numbers t) ++ numbers) ts j

pub bare_assigned : (ts : List TrackState) → map (with_number None) (assigned ts) ≡ map (with_number None) ts
unfolding assigned
bare_assigned ts = bare_given (held ts) ts

births_stay : (numbers : List ℕ) (ts : List TrackState) → map (λ t. t.birth) (given numbers ts) ≡ map (λ t. t.birth) ts
births_stay numbers [] = refl
births_stay numbers (t ∷ ts) = λ j. t.birth ∷ births_stay (option_to_list (new_number numbers t) ++ numbers) ts j

as_many : (numbers : List ℕ) (ts : List TrackState) → length (given numbers ts) ≡ length ts
as_many numbers [] = refl
as_many numbers (t ∷ ts) = ap suc (as_many (option_to_list (new_number numbers t) ++ numbers) ts)

-- a table stays one
pub assigned_is : (ts : List TrackState) → IsTable ts → IsTable (assigned ts)
unfolding assigned
assigned_is ts h = record {
  births = subst (IsStrictlySortedBy key_cmp) (sym (births_stay (held ts) ts)) h.births;
  fewer = omega (arith, as_many (held ts) ts, h.fewer);
}
