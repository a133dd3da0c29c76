-- States that share no member, merged by halves.
use Rattle.std.proofs.Common.{◌≡◌, ◌∙◌, ap, sym, refl, subst, List, [], ◌∷◌, ◌++◌, length, get_or, arith}
use Rattle.std.specs.Prelude.{fold}
use Rattle.std.specs.List.{AllByRecursion}
use Rattle.late_window.proofs.Lists.{all_left, all_right}
use Rattle.span_clusters.specs.Interleavings.{EachPair, IsJoin}
use Rattle.cluster_pool.specs.Walks.{Left, left_states}

module _ {X : Type 0} (R : X → X → Type 0) where
  pub pairs_left : (xs ys : List X) → EachPair R (xs ++ ys) → EachPair R xs
  pairs_left [] ys d = tt
  pairs_left (x ∷ xs) ys d = (all_left (R x) xs ys d.0, pairs_left xs ys d.1)

  pub pairs_right : (xs ys : List X) → EachPair R (xs ++ ys) → EachPair R ys
  pairs_right [] ys d = d
  pairs_right (x ∷ xs) ys d = pairs_right xs ys d.1

  pub pairs_across : (xs ys : List X) → EachPair R (xs ++ ys) → AllByRecursion (λ x. AllByRecursion (R x) ys) xs
  pairs_across [] ys d = tt
  pairs_across (x ∷ xs) ys d = (all_right (R x) xs ys d.0, pairs_across xs ys d.1)

pub one_join : {X : Type 0} (op : X → X → X) (xs : List X) (a b : X) → IsJoin op xs a → IsJoin op xs b → a ≡ b
one_join op [] a b h k = absurd h
one_join op (x ∷ xs) a b h k = h ∙ sym k

pub two_of : {X : Type 0} (xs : List X) (a b : X) → length xs ≡ 2 → a ≡ get_or xs 0 a → b ≡ get_or xs 1 b → xs ≡ a ∷ b ∷ []
two_of [] a b l e f = absurd (omega (arith, l))
two_of (x ∷ []) a b l e f = absurd (omega (arith, l))
two_of (x ∷ y ∷ []) a b l e f = λ i. sym e i ∷ sym f i ∷ []
two_of (x ∷ y ∷ z ∷ xs) a b l e f = absurd (omega (arith, l))

pub one_of : {X : Type 0} (xs : List X) (a : X) → length xs ≡ 1 → a ≡ get_or xs 0 a → xs ≡ a ∷ []
one_of [] a l e = absurd (omega (arith, l))
one_of (x ∷ []) a l e = λ i. sym e i ∷ []
one_of (x ∷ y ∷ xs) a l e = absurd (omega (arith, l))

states_append : {S O : Type 0} (xs ys : List (Left S O)) → left_states (xs ++ ys) ≡ left_states xs ++ left_states ys
states_append [] ys = refl
states_append {S} {O} (x ∷ xs) ys = ap (λ (l : List S). x.state ∷ l) (states_append xs ys)

module _ {S : Type 0} (beside : S → S → Type 0) (merged : S → S → S)
    (back : (s t : S) → beside s t → beside t s)
    (beside_merged : (s t r : S) → beside s t → beside s r → beside t r → beside (merged s t) r)
    (merged_rest : (s t r : S) → beside s t → beside s r → beside t r → merged (merged s t) r ≡ merged s (merged t r)) where
  all_of_both : (a b : S) (xs : List S) → beside a b → AllByRecursion (beside a) xs → AllByRecursion (beside b) xs → AllByRecursion (beside (merged a b)) xs
  all_of_both a b [] d h k = tt
  all_of_both a b (x ∷ xs) d h k = (beside_merged a b x d h.0 k.0, all_of_both a b xs d h.1 k.1)

  beside_fold : (r x : S) (xs : List S) → AllByRecursion (beside r) (x ∷ xs) → EachPair beside (x ∷ xs) → beside r (fold merged x xs)
  beside_fold r x [] h d = h.0
  beside_fold r x (y ∷ xs) h d =
      beside_fold r (merged x y) xs (back (merged x y) r (beside_merged x y r d.0.0 (back r x h.0) (back r y h.1.0)), h.1.1) (all_of_both x y xs d.0.0 d.0.1 d.1.0, d.1.1)

  fold_beside : (x : S) (xs ys : List S) → EachPair beside (x ∷ xs) → AllByRecursion (λ u. AllByRecursion (beside u) ys) (x ∷ xs) → AllByRecursion (beside (fold merged x xs)) ys
  fold_beside x [] ys d h = h.0
  fold_beside x (z ∷ xs) ys d h = fold_beside (merged x z) xs ys (all_of_both x z xs d.0.0 d.0.1 d.1.0, d.1.1) (all_of_both x z ys d.0.0 h.0 h.1.0, h.1.1)

  -- some merged to a state one after the other are merged to it at once
  fold_on : (a y : S) (ys : List S) → AllByRecursion (beside a) (y ∷ ys) → EachPair beside (y ∷ ys) → fold merged (merged a y) ys ≡ merged a (fold merged y ys)
  fold_on a y [] h d = refl
  fold_on a y (z ∷ ys) h d =
      ap (λ t. fold merged t ys) (merged_rest a y z h.0 h.1.0 d.0.0)
      ∙ fold_on a (merged y z) ys (back (merged y z) a (beside_merged y z a d.0.0 (back a y h.0) (back a z h.1.0)), h.1.1) (all_of_both y z ys d.0.0 d.0.1 d.1.0, d.1.1)

  fold_append : (x : S) (xs ys : List S) → fold merged x (xs ++ ys) ≡ fold merged (fold merged x xs) ys
  fold_append x [] ys = refl
  fold_append x (z ∷ xs) ys = fold_append (merged x z) xs ys

  -- the two halves
  pub record AreHalves (xs ys : List S) (s t : S) : Type 0 where
    pub apart : beside s t
    pub whole : IsJoin merged (xs ++ ys) (merged s t)

  pub halves : (xs ys : List S) (s t : S) → EachPair beside (xs ++ ys) → IsJoin merged xs s → IsJoin merged ys t → AreHalves xs ys s t
  halves [] ys s t d h k = absurd h
  halves (x ∷ xs) [] s t d h k = absurd k
  halves (x ∷ xs) (y ∷ ys) s t d h k =
      let one : EachPair beside (x ∷ xs) = pairs_left beside (x ∷ xs) (y ∷ ys) d in
      let other : EachPair beside (y ∷ ys) = pairs_right beside (x ∷ xs) (y ∷ ys) d in
      let apart : AllByRecursion (beside (fold merged x xs)) (y ∷ ys) = fold_beside x xs (y ∷ ys) one (pairs_across beside (x ∷ xs) (y ∷ ys) d) in
      record {
        apart = rw (h, k) (beside_fold (fold merged x xs) y ys apart other);
        whole = (λ i. merged (h i) (k i)) ∙ sym (fold_append x xs (y ∷ ys) ∙ fold_on (fold merged x xs) y ys apart other);
      }

  module _ {O : Type 0} (ws : List (Left S O)) (apart : EachPair beside (left_states ws)) where
    pub two_beside : (a b : Left S O) → ws ≡ a ∷ b ∷ [] → beside a.state b.state
    two_beside a b e = (subst (λ (l : List (Left S O)). EachPair beside (left_states l)) e apart).0.0

    pub two_joined : (a b : Left S O) (s : S) → ws ≡ a ∷ b ∷ [] → s ≡ merged a.state b.state → IsJoin merged (left_states ws) s
    two_joined a b s e h = subst (λ (l : List (Left S O)). IsJoin merged (left_states l) s) (sym e) h

    cut_states : (xs ys : List (Left S O)) → ws ≡ xs ++ ys → left_states ws ≡ left_states xs ++ left_states ys
    cut_states xs ys e = ap left_states e ∙ states_append xs ys

    pub left_beside : (xs ys : List (Left S O)) → ws ≡ xs ++ ys → EachPair beside (left_states xs)
    left_beside xs ys e = pairs_left beside (left_states xs) (left_states ys) (subst (EachPair beside) (cut_states xs ys e) apart)

    pub right_beside : (xs ys : List (Left S O)) → ws ≡ xs ++ ys → EachPair beside (left_states ys)
    right_beside xs ys e = pairs_right beside (left_states xs) (left_states ys) (subst (EachPair beside) (cut_states xs ys e) apart)

    pub both_halves : (xs ys : List (Left S O)) (s t : S) → ws ≡ xs ++ ys → IsJoin merged (left_states xs) s → IsJoin merged (left_states ys) t → AreHalves (left_states xs) (left_states ys) s t
    both_halves xs ys s t e h k = halves (left_states xs) (left_states ys) s t (subst (EachPair beside) (cut_states xs ys e) apart) h k

    pub halves_joined : (xs ys : List (Left S O)) (s t r : S) → ws ≡ xs ++ ys → IsJoin merged (left_states xs) s → IsJoin merged (left_states ys) t → r ≡ merged s t → IsJoin merged (left_states ws) r
    halves_joined xs ys s t r e h k m = subst (λ (l : List S). IsJoin merged l r) (sym (cut_states xs ys e)) (subst (IsJoin merged (left_states xs ++ left_states ys)) (sym m) (both_halves xs ys s t e h k).whole)
