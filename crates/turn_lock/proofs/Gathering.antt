-- The seats of a list of turns become one seat, which knows what each of them knew.
use Rattle.std.proofs.Common.{◌≡◌, ℕ, ◌+◌, ◌<◌, ◌≤◌, true, List, [], ◌∷◌, ◌++◌, length, refl, sym, ap, ◌∙◌, subst, arith, append_assoc, length-append}
use Rattle.std.specs.List.{Any}
use Rattle.std.proofs.lemmas.List.Elements.{All-cons, All-weaker}
use Rattle.std.proofs.lemmas.List.Sums.{sum_by-cons}
use Rattle.atomic_table.specs.Seated.{TableId}
use Rattle.atomic_table.specs.Table.{Me}
use Rattle.turn_lock.specs.declared.rule.View.{View}
use Rattle.turn_lock.specs.declared.rule.Stage.TheVariants.{Idle}
use Rattle.turn_lock.specs.Lists.{is_member, count_of, Begins}
use Rattle.turn_lock.specs.Rule.{Reaches}
use Rattle.turn_lock.specs.Steps.{both}
use Rattle.turn_lock.specs.Turns.{Token, number_in, token_of, times_made, Rests, Gathers}
use Rattle.turn_lock.proofs.Lists.{each_left, is_member-left, is_member-right, is_member_first, count_of-append}

own_number : (ns : List ℕ) → ns ≡ number_in ns ∷ [] → is_member (number_in ns) ns ≡ true
own_number ns one = ap (is_member (number_in ns)) one ∙ is_member_first (number_in ns) (number_in ns) [] refl

module _ {E B : Type 0} where
  -- what reaches two seats as one reaches each
  reaches_first : (v w : View E B) (l : List E) (n : ℕ) → Reaches (both v w) l n → Reaches v l n
  reaches_first v w l n r = let P : List E × ℕ → Type 0 = λ x. Begins x.0 l × (x.1 ≤ n) in record { seen = r.joined.0.0; told = r.joined.0.1; joined = each_left P v.joined w.joined r.joined.1.1 }

  gathers_more : (table : TableId) (v w : View E B) (ts : List (Token E B)) → Gathers v ts → w.numbers ≡ number_in w.numbers ∷ [] → Gathers (both v w) (token_of table w ∷ ts)
  gathers_more table v w ts g one = let t : Token E B = token_of table w in record {
    numbers = All-cons (λ (t : Token E B). is_member t.number (v.numbers ++ w.numbers) ≡ true) t ts (is_member-right t.number v.numbers w.numbers (own_number w.numbers one))
        (All-weaker (λ (t : Token E B). is_member t.number v.numbers ≡ true) (λ (t : Token E B). is_member t.number (v.numbers ++ w.numbers) ≡ true) (λ t h. is_member-left t.number v.numbers w.numbers h) ts g.numbers);
    mine = λ p. let sum = count_of-append p v.mine w.mine in let was = g.mine p in let more : times_made p (t ∷ ts) ≡ count_of p t.mine + times_made p ts = sum_by-cons (λ (t : Token E B). count_of p t.mine) t ts in omega arith;
    reached = λ l n r. All-cons (λ (t : Token E B). Begins t.seen l × (t.told ≤ n)) t ts r.joined.1.0 (g.reached l n (reaches_first v w l n r));
  }

  -- some of the turns are gathered in the seat, and the others are left
  pub record IsGathering {S : Type 0} (left all : List (Token E B)) (me : Me S (View E B)) : Type 0 where
    pub empty : me.1 ≡ []
    pub idle : me.0.stage ≡ Idle
    pub some : 0 < length me.0.numbers
    pub done : List (Token E B)
    pub parts : left ++ done ≡ all
    pub gathers : Gathers me.0 done

  pub gathered_more : {S : Type 0} (table : TableId) (before left all : List (Token E B)) (t : Token E B) (me other after : Me S (View E B)) → IsGathering before all me → before ≡ left ++ t ∷ [] → token_of table other.0 ≡ t → Rests other
      → after ≡ (both me.0 other.0, me.1) → IsGathering left all after
  gathered_more {S} table before left all t me other after d parts is r now = subst (λ (m : Me S (View E B)). IsGathering left all m) (sym now) record {
    empty = d.empty;
    idle = d.idle;
    some = let s = d.some in let l = length-append me.0.numbers other.0.numbers in omega arith;
    done = t ∷ d.done;
    parts = sym (append_assoc left (t ∷ []) d.done) ∙ (ap (λ l. l ++ d.done) (sym parts) ∙ d.parts);
    gathers = subst (λ (t : Token E B). Gathers (both me.0 other.0) (t ∷ d.done)) is (gathers_more table me.0 other.0 d.done d.gathers r.one);
  }

  -- the seat has the number of each turn
  pub has_number_of : (v : View E B) (ts : List (Token E B)) (n : ℕ) → Gathers v ts → Any (λ t. t.number ≡ n) ts → is_member n v.numbers ≡ true
  has_number_of v ts n g a = let at : is_member a.1.number v.numbers ≡ true = subst (λ (t : Token E B). is_member t.number v.numbers ≡ true) a.3 (g.numbers a.0 a.1 a.2) in subst (λ z. is_member z v.numbers ≡ true) a.4 at
