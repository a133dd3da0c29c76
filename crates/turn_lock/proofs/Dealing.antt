-- The numbers of a new lock are given to its seats one by one.
use Rattle.std.proofs.Common.{◌≡◌, ℕ, zero, suc, ◌-◌, ◌<◌, ◌≤◌, List, [], ◌∷◌, ◌++◌, length, map, refl, sym, ap, ◌∙◌, arith}
use Rattle.std.proofs.lemmas.List.{length-reverse}
use Rattle.std.specs.Prelude.{Option, Some, true, slice_get, EachIndex}
use mathlib.Core.List.{reverse, reverse-cons}
use mathlib.Core.Logic.{dite}
use native.Mathlib.Decide.{ℕ_discrete}
use Rattle.atomic_table.specs.Seated.{TableId}
use Rattle.atomic_table.specs.Table.{Me}
use Rattle.turn_lock.specs.declared.rule.View.{View}
use Rattle.turn_lock.specs.declared.rule.Stage.TheVariants.{Idle}
use Rattle.turn_lock.specs.Lists.{is_member, below}
use Rattle.turn_lock.specs.Turns.{Token, new_token, token_of}
use Rattle.turn_lock.proofs.Opening.{below_there}

below_step : (k : ℕ) → 1 ≤ k → below k ≡ (k - 1) ∷ below (k - 1)
below_step zero l = absurd (omega arith)
below_step (suc k) l = let e : suc k - 1 ≡ k = omega arith in ap (λ z. z ∷ below z) (sym e)

module _ {E B : Type 0} (table : TableId) (base : Option B) where
  -- a seat that has the numbers below left
  abbrev pub keeper : ℕ → View E B
  keeper left = record { seen = []; mine = []; told = 0; numbers = below left; stage = Idle; joined = []; base = base }

  abbrev pub token : ℕ → Token E B
  token n = new_token table base n

  -- the turns have the numbers from left on, and the seat has those below
  pub record IsDealt {S : Type 0} (seats left : ℕ) (turns : List (Token E B)) (me : Me S (View E B)) : Type 0 where
    pub some : 1 ≤ left
    pub me_is : me ≡ (keeper left, [])
    pub turns_are : turns ++ map token (below left) ≡ map token (below seats)

  module _ {S : Type 0} (seats left : ℕ) (turns : List (Token E B)) (me : Me S (View E B)) (d : IsDealt seats left turns me) where
    -- what the split asks
    pub more : 1 < left → (n : ℕ) × (ns : List ℕ) × (me.0.numbers ≡ n ∷ ns) × (is_member 0 ns ≡ true)
    more l = (left - 1, below (left - 1), ap (λ (m : Me S (View E B)). m.0.numbers) d.me_is ∙ below_step left d.some, below_there (left - 1) 0 (omega arith))

    pub all_dealt : left ≤ 1 → (t : Token E B) → t ≡ token_of table me.0 → turns ++ t ∷ [] ≡ map token (below seats)
    all_dealt l t is = let one : left ≡ 1 = let s = d.some in omega arith in
        ap (λ z. turns ++ z ∷ []) (is ∙ ap (λ (m : Me S (View E B)). token_of table m.0) (d.me_is ∙ ap (λ z. (keeper z, [])) one)) ∙ (ap (λ z. turns ++ map token (below z)) (sym one) ∙ d.turns_are)

module _ {A : Type 0} (f : ℕ → A) where
  length_below : (n : ℕ) → length (map f (below n)) ≡ n
  length_below zero = refl
  length_below (suc n) = let h = length_below n in omega arith

  get_push : (xs : List A) (a : A) (k : ℕ) → k ≡ length xs → slice_get (xs ++ a ∷ []) k ≡ Some a
  get_push [] a k e = ap (slice_get (a ∷ [])) e
  get_push (x ∷ xs) a zero e = absurd (omega arith)
  get_push (x ∷ xs) a (suc k) e = get_push xs a k (omega arith)

  get_left : (xs ys : List A) (k : ℕ) → k < length xs → slice_get (xs ++ ys) k ≡ slice_get xs k
  get_left [] ys k l = absurd (omega arith)
  get_left (x ∷ xs) ys zero l = refl
  get_left (x ∷ xs) ys (suc k) l = get_left xs ys k (omega arith)

  upwards : (n k : ℕ) → k < n → slice_get (reverse (map f (below n))) k ≡ Some (f k)
  upwards zero k l = absurd (omega arith)
  upwards (suc n) k l = let size : length (reverse (map f (below n))) ≡ n = length-reverse (map f (below n)) ∙ length_below n in
      ap (λ z. slice_get z k) (reverse-cons (f n) (map f (below n))) ∙ dite (ℕ_discrete k n)
      (λ e. get_push (reverse (map f (below n))) (f n) k (e ∙ sym size) ∙ ap (λ z. Some (f z)) (sym e))
      (λ ne. get_left (reverse (map f (below n))) (f n ∷ []) k (omega arith) ∙ upwards n k (omega arith))

  pub in_order : (n : ℕ) (xs : List A) → xs ≡ reverse (map f (below n)) → EachIndex xs (λ k. slice_get xs k ≡ Some (f k))
  in_order n xs is k l = let size : length xs ≡ n = ap length is ∙ (length-reverse (map f (below n)) ∙ length_below n) in ap (λ z. slice_get z k) is ∙ upwards n k (omega arith)
