-- Tracks are given their numbers one after the other.
use Rattle.std.proofs.Common.{◌≡◌, ◌∙◌, refl, sym, ap, ℕ, ◌+◌, ◌<◌, ◌≤◌, cond, List, [], ◌∷◌, ◌++◌, Bool, true, false, take, drop, suc, length, get_or, set, append_assoc, eqb, arith}
use Rattle.std.specs.Prelude.{◌||◌, Option, Some, None}
use Rattle.std.specs.Option.{option_or, option_to_list}
use Rattle.std.specs.List.{list_any, cons_option}
use Rattle.std.proofs.Math.Seq.{take-suc, drop-cons, take-suc-set}
use Rattle.std.proofs.Math.Bool.{or_comm}
use Rattle.std.proofs.lemmas.List.{append-nil, drop-set-lt, drop_all, take_all}
use Rattle.std.proofs.lemmas.List.Elements.{filter_map-append}
use Rattle.std.proofs.lemmas.List.Folds.{list_any-append}
use Rattle.track_life.specs.Tracks.{TrackState}
use Rattle.track_life.specs.Numbers.{with_number, held, is_among, first_free, is_waiting, new_number, given, assigned}
use Rattle.track_life.specs.HeldNumbers.{LeapOver}
use Rattle.track_life.proofs.Leaps.{over_same}

-- whether a number is among those of one more track
one_more : (x : Option ℕ) (numbers : List ℕ) (n : ℕ) → is_among (option_to_list x ++ numbers) n ≡ (is_among numbers n || is_among (cons_option x []) n)
one_more None numbers n = or_comm false (is_among numbers n)
one_more (Some m) numbers n = list_any-append (λ k. eqb k n) (m ∷ []) numbers ∙ or_comm (is_among (m ∷ []) n) (is_among numbers n)

among_more : (ts : List TrackState) (t : TrackState) (n : ℕ) → is_among (option_to_list t.number ++ held ts) n ≡ is_among (held (ts ++ t ∷ [])) n
among_more ts t n =
    one_more t.number (held ts) n ∙ sym (list_any-append (λ k. eqb k n) (held ts) (held (t ∷ []))) ∙ ap (λ ms. is_among ms n) (sym (filter_map-append (λ u. u.number) ts (t ∷ [])))

taken_more : (ts : List TrackState) (i : ℕ) (t : TrackState) → i < length ts → t ≡ get_or ts i t → take (i + 1) ts ≡ take i ts ++ t ∷ []
taken_more ts i t lt e =
    let next : i + 1 ≡ suc i = omega arith in
    ap (λ k. take k ts) next ∙ take-suc ts i t lt ∙ ap (λ x. take i ts ++ x ∷ []) (sym e)

-- the numbers of one more track are held
pub over_more : (ts : List TrackState) (i : ℕ) (t : TrackState) (ls : List ℕ) → i < length ts → t ≡ get_or ts i t → LeapOver (is_among (option_to_list t.number ++ held (take i ts))) ls → LeapOver (is_among (held (take (i + 1) ts))) ls
over_more ts i t ls lt e h =
    let more : take (i + 1) ts ≡ take i ts ++ t ∷ [] = taken_more ts i t lt e in
    over_same _ _ ls (λ n. among_more (take i ts) t n ∙ ap (λ us. is_among (held us) n) (sym more)) h

-- one more track was given its number
pub one_given : (before : List ℕ) (all ts : List TrackState) (i : ℕ) (t u : TrackState) → i < length ts → t ≡ get_or ts i t → u ≡ with_number (option_or t.number (new_number before t)) t → all ≡ take i ts ++ given before (drop i ts)
    → all ≡ take (i + 1) (set ts i u) ++ given (option_to_list (new_number before t) ++ before) (drop (i + 1) (set ts i u))
one_given before all ts i t u lt e d h =
    let next : i + 1 ≡ suc i = omega arith in
    let taken : take (i + 1) (set ts i u) ≡ take i ts ++ u ∷ [] = ap (λ k. take k (set ts i u)) next ∙ take-suc-set ts i u lt in
    let rest : drop (i + 1) (set ts i u) ≡ drop (suc i) ts = drop-set-lt (i + 1) ts i u (omega arith) ∙ ap (λ k. drop k ts) next in
    let here : drop i ts ≡ t ∷ drop (suc i) ts = drop-cons ts i t lt ∙ ap (λ x. x ∷ drop (suc i) ts) (sym e) in
    let after = option_to_list (new_number before t) ++ before in
    h ∙ ap (λ us. take i ts ++ given before us) here ∙ ap (λ x. take i ts ++ x ∷ given after (drop (suc i) ts)) (sym d) ∙ sym (append_assoc (take i ts) (u ∷ []) (given after (drop (suc i) ts)))
    ∙ (λ j. sym taken j ++ given after (sym rest j))

-- after the last track
pub all_taken : (before : List ℕ) (all ts : List TrackState) (i : ℕ) → length ts ≤ i → all ≡ take i ts ++ given before (drop i ts) → ts ≡ all
all_taken before all ts i le h = sym (h ∙ (λ j. take_all i ts le j ++ given before (drop_all i ts le j)) ∙ append-nil ts)

own_number : (waiting : Bool) (t : TrackState) (x : Option ℕ) → waiting ≡ false → with_number (option_or t.number (cond waiting x None)) t ≡ t
own_number waiting t x e = ap (λ w. with_number (option_or t.number (cond w x None)) t) e ∙ ap (λ y. with_number y t) (itself t.number)
  where
    itself : (y : Option ℕ) → option_or y None ≡ y
    itself None = refl
    itself (Some n) = refl

no_number : (waiting : Bool) (x : Option ℕ) (numbers : List ℕ) → waiting ≡ false → option_to_list (cond waiting x None) ++ numbers ≡ numbers
no_number waiting x numbers e = ap (λ w. option_to_list (cond w x None) ++ numbers) e

-- where none waits for a number, none is given
none_given : (numbers : List ℕ) (ts : List TrackState) → list_any is_waiting ts ≡ false → given numbers ts ≡ ts
none_given numbers [] e = refl
none_given numbers (t ∷ ts) e =
    let own = first_none (is_waiting t) (list_any is_waiting ts) e in
    let x = first_free numbers t.birth.arrival in
    (λ j. own_number (is_waiting t) t x own.0 j ∷ given (no_number (is_waiting t) x numbers own.0 j) ts) ∙ ap (λ us. t ∷ us) (none_given numbers ts own.1)
  where
    first_none : (a b : Bool) → (a || b) ≡ false → (a ≡ false) × (b ≡ false)
    first_none true b e = cc
    first_none false b e = (refl, e)

pub none_assigned : (ts : List TrackState) → list_any is_waiting ts ≡ false → assigned ts ≡ ts
unfolding assigned
none_assigned ts e = none_given (held ts) ts e
