-- The seat that has all numbers finds the value at home when the table is closed.
use Rattle.std.proofs.Common.{◌≡◌, ℕ, ◌<◌, ◌≤◌, Bool, true, true≢false, List, [], ◌∷◌, length, sym, ap, ◌∙◌, subst, ⊎_elim, refl, arith}
use Rattle.std.specs.Prelude.{count_by}
use mathlib.Core.Logic.{dite}
use mathlib.Core.Option.{some, some-injective}
use native.Mathlib.Decide.{ℕ_discrete}
use lib.ListN.{get_elem?}
use Rattle.atomic_table.specs.Table.{State, Final, Seen}
use Rattle.turn_lock.specs.declared.rule.View.{View}
use Rattle.turn_lock.specs.declared.rule.Stage.TheVariants.{Idle}
use Rattle.turn_lock.specs.Lists.{is_member, count_of}
use Rattle.turn_lock.specs.Rule.{is_out, Home, Away, Kept, Reaches, IsWhole}
use Rattle.turn_lock.proofs.Lists.{is_member_first, is_member_counted, count_of_member}

module _ {S E B : Type 0} (events : S → List E) (is_publish : E → Bool) (base : S → B) (b : B) (seats : ℕ) where
  abbrev V : Type 0
  V = View E B

  abbrev Rule : State S V → Type 0
  Rule = Kept events is_publish base b seats

  first_number : (ns : List ℕ) → 0 < length ns → (n : ℕ) × (is_member n ns ≡ true)
  first_number [] l = absurd (omega arith)
  first_number (n ∷ ns) l = (n, is_member_first n n ns refl)

  -- a view that has a number is the one that has them all
  same_view : (s : State S V) (r : Rule s) (id : ℕ) (v : V) → get_elem? s.views id ≡ some v → ((n : ℕ) → n < seats → is_member n v.numbers ≡ true) → (i : ℕ) (u : V) → get_elem? s.views i ≡ some u → 0 < length u.numbers → u ≡ v
  same_view s r id v here all i u there some_there = let n = first_number u.numbers some_there in let q = (r.each_seat i u there).numbered n.0 n.1 in let m = (r.each_seat id v here).numbered n.0 (all n.0 q.0) in
      let e : i ≡ id = sym q.1 ∙ m.1 in some-injective u v (sym there ∙ (ap (get_elem? s.views) e ∙ here))

  not_spent : (u : V) → (length u.numbers ≡ 0 → (u.mine ≡ []) × (u.stage ≡ Idle)) → ((u.mine ≡ []) × (u.stage ≡ Idle) → ⊥) → 0 < length u.numbers
  not_spent u spent never = dite (ℕ_discrete (length u.numbers) 0) (λ z. absurd (never (spent z))) (λ n. omega arith)

  home : (s : State S V) (r : Rule s) (id : ℕ) (v : V) → get_elem? s.views id ≡ some v → ((n : ℕ) → n < seats → is_member n v.numbers ≡ true) → v.stage ≡ Idle → Home events is_publish base b seats r.course s
  home s r id v here all rests = ⊎_elim (λ h. h) (λ (a : Away events is_publish base b seats r.course s). let i : ℕ = r.course.ticket_seat r.course.serving in
      let busy = not_spent a.holder (r.each_seat i a.holder a.holder_is).spent (λ z. true≢false (sym a.holds ∙ ap is_out z.1)) in
      let e = same_view s r id v here all i a.holder a.holder_is busy in
      absurd (true≢false (sym a.holds ∙ (ap (λ (z : V). is_out z.stage) e ∙ ap is_out rests)))) r.slot

  one : (s : State S V) (r : Rule s) (id : ℕ) (v : V) → get_elem? s.views id ≡ some v → ((n : ℕ) → n < seats → is_member n v.numbers ≡ true) → (p : ℕ) → p < length r.course.history → count_of p v.mine ≡ 1
  one s r id v here all p l = let m = r.each_index p l in let i : ℕ = r.course.index_seat p in
      let busy = not_spent m.0 (r.each_seat i m.0 m.1).spent (λ z. true≢false (sym m.2 ∙ ap (is_member p) z.0)) in
      let e = same_view s r id v here all i m.0 m.1 busy in let few = (r.each_seat id v here).made_once p in
      let some_there : 0 < count_of p v.mine = count_of_member p v.mine (ap (λ (z : V). is_member p z.mine) (sym e) ∙ m.2) in omega arith

  none : (s : State S V) (r : Rule s) (id : ℕ) (v : V) → get_elem? s.views id ≡ some v → (p : ℕ) → length r.course.history ≤ p → count_of p v.mine ≡ 0
  none s r id v here p l = dite (ℕ_discrete (count_of p v.mine) 0) (λ z. z)
      (λ n. let low : p < length r.course.history = ((r.each_seat id v here).made p (is_member_counted p v.mine (omega arith))).0 in absurd (omega arith))

  pub closes : (id : ℕ) (v : V) (ws : List ℕ) (xs : List S) (y : S) → ((n : ℕ) → n < seats → is_member n v.numbers ≡ true) → v.stage ≡ Idle → Final (Seen Rule id v) ws xs → get_elem? xs 0 ≡ some y → IsWhole events is_publish base b v y
  closes id v ws xs y all rests f at = let s = f.0 in let r = f.1.0 in let here = f.1.1 in let h = home s r id v here all rests in let g = r.each_seat id v here in
      let same : h.value ≡ y = some-injective h.value y (sym (f.4 0 h.value (ap (λ l. get_elem? l 0) h.at_home)) ∙ at) in let is : r.course.history ≡ events y = sym h.stands_for ∙ ap events same in record {
        rooted = ap base (sym same) ∙ h.rooted;
        reached = subst (λ (z : List E × ℕ). Reaches v z.0 z.1) (λ i. (is i, (h.raised ∙ ap (count_by is_publish) is) i)) record { seen = g.begins; told = g.told; joined = g.joined };
        once = λ p l. one s r id v here all p (subst (λ z. p < length z) (sym is) l);
        within = λ p l. none s r id v here p (subst (λ z. length z ≤ p) (sym is) l);
      }
