-- Lists that are filled side by side, seen as the list of them.
use Rattle.std.proofs.Common.{◌≡◌, ◌∙◌, ap, sym, ℕ, ◌<◌, List, [], ◌∷◌, ◌++◌, length, map, get_or, set, arith}
use Rattle.std.specs.Prelude.{Vec}
use Rattle.std.proofs.lemmas.List.{get_or-map, length-map, map-set}

abbrev pub lists_of : {X Z : Type 0} → List (Vec X Z) → List (List X)
lists_of vs = map (λ v. v.items) vs

-- what is read at an index
read_is : {X Z : Type 0} (vs : List (Vec X Z)) (i : ℕ) {ls : List (List X)} {v : Vec X Z} → lists_of vs ≡ ls → i < length ls → v ≡ get_or vs i v → v.items ≡ get_or ls i []
read_is {X} {Z} vs i {ls} {v} seen within read =
    let short : i < length vs = omega (arith, ap length seen, length-map vs (λ (u : Vec X Z). u.items)) in
    ap (λ (u : Vec X Z). u.items) read ∙ sym (get_or-map (λ (u : Vec X Z). u.items) vs i v [] short) ∙ ap (λ (l : List (List X)). get_or l i []) seen

-- one element more at an index
pub pushed : {X Z : Type 0} (vs : List (Vec X Z)) (i : ℕ) (x : X) (w : Vec X Z) {ls : List (List X)} {v : Vec X Z} → lists_of vs ≡ ls → i < length ls → v ≡ get_or vs i v → w.items ≡ v.items ++ x ∷ [] → lists_of (set vs i w) ≡ set ls i (get_or ls i [] ++ x ∷ [])
pushed {X} {Z} vs i x w {ls} {v} seen within read more =
    let grown : w.items ≡ get_or ls i [] ++ x ∷ [] = more ∙ ap (λ (l : List X). l ++ x ∷ []) (read_is vs i seen within read) in
    map-set (λ (u : Vec X Z). u.items) vs i w ∙ (λ j. set (seen j) i (grown j))

-- none at an index
pub cleared : {X Z : Type 0} (vs : List (Vec X Z)) (i : ℕ) (w : Vec X Z) {ls : List (List X)} → lists_of vs ≡ ls → w.items ≡ [] → lists_of (set vs i w) ≡ set ls i []
cleared {X} {Z} vs i w {ls} seen none = map-set (λ (u : Vec X Z). u.items) vs i w ∙ (λ j. set (seen j) i (none j))
