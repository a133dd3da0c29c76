-- Tests one after the other, in whichever order they are taken.
use Rattle.std.proofs.Common.{◌≡◌, ◌∙◌, ap, sym, refl, Bool, true, false, List, [], ◌∷◌, ◌++◌}
use Rattle.std.specs.Prelude.{◌&&◌}

-- from the left
abbrev pub lefts : Bool → List Bool → Bool
lefts a [] = a
lefts a (b ∷ bs) = lefts (a && b) bs

-- from the right
abbrev pub rights : Bool → List Bool → Bool
rights a [] = a
rights a (b ∷ bs) = a && rights b bs

and_rights : (a b : Bool) (bs : List Bool) → rights (a && b) bs ≡ a && rights b bs
and_rights true b [] = refl
and_rights false b [] = refl
and_rights true b (c ∷ bs) = refl
and_rights false b (c ∷ bs) = refl

pub lefts_rights : (a : Bool) (bs : List Bool) → lefts a bs ≡ rights a bs
lefts_rights a [] = refl
lefts_rights a (b ∷ bs) = lefts_rights (a && b) bs ∙ and_rights a b bs

-- all of them
abbrev all : List Bool → Bool
all [] = true
all (b ∷ bs) = b && all bs

and_true : (a : Bool) → a ≡ a && true
and_true true = refl
and_true false = refl

rights_all : (a : Bool) (bs : List Bool) → rights a bs ≡ a && all bs
rights_all a [] = and_true a
rights_all a (b ∷ bs) = ap (λ t. a && t) (rights_all b bs)

and_assoc : (a b c : Bool) → (a && b) && c ≡ a && (b && c)
and_assoc true b c = refl
and_assoc false b c = refl

and_comm : (a b : Bool) → a && b ≡ b && a
and_comm true true = refl
and_comm true false = refl
and_comm false true = refl
and_comm false false = refl

all_append : (bs cs : List Bool) → all (bs ++ cs) ≡ all bs && all cs
all_append [] cs = refl
all_append (b ∷ bs) cs = ap (λ t. b && t) (all_append bs cs) ∙ sym (and_assoc b (all bs) (all cs))

swapped : (bs cs ds : List Bool) → all (bs ++ (cs ++ ds)) ≡ all (cs ++ (bs ++ ds))
swapped bs cs ds =
    all_append bs (cs ++ ds) ∙ ap (λ t. all bs && t) (all_append cs ds) ∙ sym (and_assoc (all bs) (all cs) (all ds)) ∙ ap (λ t. t && all ds) (and_comm (all bs) (all cs)) ∙ and_assoc (all cs) (all bs) (all ds)
    ∙ ap (λ t. all cs && t) (sym (all_append bs ds)) ∙ sym (all_append cs (bs ++ ds))

-- two stretches of the tests change places
pub rights_swapped : (a : Bool) (front bs cs ds : List Bool) → rights a (front ++ (bs ++ (cs ++ ds))) ≡ rights a (front ++ (cs ++ (bs ++ ds)))
rights_swapped a front bs cs ds =
    rights_all a (front ++ (bs ++ (cs ++ ds))) ∙ ap (λ t. a && t) (all_append front (bs ++ (cs ++ ds)) ∙ ap (λ t. all front && t) (swapped bs cs ds) ∙ sym (all_append front (cs ++ (bs ++ ds)))) ∙ sym (rights_all a (front ++ (cs ++ (bs ++ ds))))
