-- A seat gives a number away, to a new seat.
use Rattle.std.proofs.Common.{◌≡◌, ◌≢◌, ◌⊎◌, ℕ, zero, suc, ◌+◌, ◌<◌, ◌≤◌, Bool, true, false, true≢false, List, [], ◌∷◌, ◌++◌, length, set, sym, refl, ap, ◌∙◌, subst, ⊎_elim, inl, inr, arith}
use Rattle.std.specs.Prelude.{count_by}
use mathlib.Core.Logic.{dite}
use mathlib.Core.Option.{some, some-injective, some-ne-none}
use native.Mathlib.Decide.{ℕ_discrete}
use lib.ListN.{get_elem?}
use Rattle.atomic_table.specs.Table.{State, Splits}
use Rattle.atomic_table.proofs.Lists.{at_longer, at_last}
use Rattle.turn_lock.specs.declared.rule.View.{View}
use Rattle.turn_lock.specs.declared.rule.Stage.TheVariants.{Idle}
use Rattle.turn_lock.specs.Lists.{is_member, count_of}
use Rattle.turn_lock.specs.Rule.{is_out, ticket_of, unraised, Course, Fits, SeatWith, Home, Away, Kept}
use Rattle.turn_lock.specs.Steps.{giver, given, rest_of, first_of}
use Rattle.turn_lock.proofs.Lists.{put_at, put_elim, all_set, seat_set, is_member_one, is_member_first, is_member_other, count_of_member, count_of_one, count_of_head}

-- an element of a list with one more is one of the list, or the last
at_end : {A : Type 0} (xs : List A) (a b : A) (j : ℕ) → get_elem? (xs ++ a ∷ []) j ≡ some b → (get_elem? xs j ≡ some b) ⊎ ((j ≡ length xs) × (a ≡ b))
at_end [] a b zero e = inr (refl, some-injective a b e)
at_end [] a b (suc j) e = absurd (some-ne-none b (sym e))
at_end (x ∷ xs) a b zero e = inl e
at_end (x ∷ xs) a b (suc j) e = ⊎_elim (λ t. inl t) (λ (t : (j ≡ length xs) × (a ≡ b)). inr (ap suc t.0, t.1)) (at_end xs a b j e)

is_member_tail : (k n : ℕ) (ns : List ℕ) → is_member k ns ≡ true → is_member k (n ∷ ns) ≡ true
is_member_tail k n ns h = dite (ℕ_discrete k n) (λ e. is_member_first k n ns e) (λ ne. is_member_other k n ns ne ∙ h)

count_of_more : (k n : ℕ) (ns : List ℕ) → count_of k ns ≤ count_of k (n ∷ ns)
count_of_more k n ns = omega arith

module _ {S E B : Type 0} (events : S → List E) (is_publish : E → Bool) (base : S → B) (b : B) (seats : ℕ) where
  abbrev V : Type 0
  V = View E B

  abbrev Rule : State S V → Type 0
  Rule = Kept events is_publish base b seats

  -- a seat at rest with the numbers n and ns keeps ns, of which 0 is one
  splits : (id : ℕ) (v : V) (n : ℕ) (ns : List ℕ) → v.stage ≡ Idle → v.numbers ≡ n ∷ ns → is_member 0 ns ≡ true
      → Splits Rule id v (record v { numbers = ns }) record { seen = []; mine = []; told = 0; numbers = n ∷ []; stage = Idle; joined = []; base = v.base }
  splits id v n ns rests are zero_there s r here = let c : Course E = r.course in let u : V = record v { numbers = ns } in let w : V = record { seen = []; mine = []; told = 0; numbers = n ∷ []; stage = Idle; joined = []; base = v.base } in
      let vs : List V = set s.views id u in let f = r.each_seat id v here in let new : ℕ = length vs in
      let d : Course E = record c { number_seat = put_at c.number_seat n new } in let G : ℕ → V → Type 0 = Fits is_publish b seats d in
      let mine : (k : ℕ) → is_member k (n ∷ ns) ≡ true → (k < seats) × (c.number_seat k ≡ id) = λ k h. f.numbered k (ap (is_member k) are ∙ h) in
      let first = mine n (is_member_first n n ns refl) in let few : count_of n (n ∷ ns) ≤ 1 = subst (λ z. count_of n z ≤ 1) are (f.numbered_once n) in let two : count_of n (n ∷ ns) ≡ 1 + count_of n ns = count_of_head n n ns refl in
      let not_first : (k : ℕ) → is_member k ns ≡ true → k ≢ n = λ k h e. let p : 0 < count_of n ns = count_of_member n ns (subst (λ z. is_member z ns ≡ true) e h) in absurd (omega arith) in
      let old_seat : (k j : ℕ) → k ≢ n → c.number_seat k ≡ j → d.number_seat k ≡ j = λ k j ne e. put_elim c.number_seat n new k (λ z. z ≡ j) (λ q. absurd (ne q)) (λ _. e) in
      let busy : 0 < length v.numbers = subst (λ z. 0 < length z) (sym are) (omega arith) in
      let some_left : 0 < length ns = dite (ℕ_discrete (length ns) 0) (λ z. absurd (none_in ns z zero_there)) (λ nz. omega arith) in
      let longer : (Q : V → Type 0) (i : ℕ) → SeatWith vs i Q → SeatWith (vs ++ w ∷ []) i Q = λ Q i t. (t.0, at_longer vs (w ∷ []) i t.0 t.1, t.2) in record {
        course = d;
        words = r.words;
        ahead = r.ahead;
        each_seat = λ j x e. ⊎_elim
            (λ (t : get_elem? vs j ≡ some x). all_set G s.views id u
            record {
              based = λ _. f.based busy;
              spent = λ z. absurd (omega arith);
              numbered = λ k h. let q = mine k (is_member_tail k n ns h) in (q.0, old_seat k id (not_first k h) q.1);
              numbered_once = λ k. let a : count_of k (n ∷ ns) ≤ 1 = subst (λ z. count_of k z ≤ 1) are (f.numbered_once k) in let m = count_of_more k n ns in omega arith;
              stands = f.stands;
              begins = f.begins;
              head = λ h. f.head (ap (is_member 0) are ∙ is_member_tail 0 n ns h);
              made = f.made;
              made_once = f.made_once;
              told = f.told;
              raised = f.raised;
              joined = f.joined;
            }
            (λ i y ne ei. let g = r.each_seat i y ei in record {
              based = g.based;
              spent = g.spent;
              numbered = λ k h. let q = g.numbered k h in (q.0, old_seat k i (λ z. ne (sym q.1 ∙ (ap c.number_seat z ∙ first.1))) q.1);
              numbered_once = g.numbered_once;
              stands = g.stands;
              begins = g.begins;
              head = g.head;
              made = g.made;
              made_once = g.made_once;
              told = g.told;
              raised = g.raised;
              joined = g.joined;
            }) j x t)
            (λ (t : (j ≡ new) × (w ≡ x)). subst (λ (z : ℕ × V). G z.0 z.1) (λ i. (sym t.0 i, t.1 i)) record {
              based = λ _. f.based busy;
              spent = λ z. absurd (omega arith);
              numbered = λ k h. let e = is_member_one k n h in (subst (λ z. z < seats) (sym e) first.0, put_elim c.number_seat n new k (λ z. z ≡ new) (λ _. refl) (λ ne. absurd (ne e)));
              numbered_once = λ k. count_of_one k n;
              stands = tt;
              begins = (c.history, refl);
              head = λ h. absurd (not_first 0 zero_there (is_member_one 0 n h));
              made = λ p h. absurd (true≢false (sym h));
              made_once = λ p. omega arith;
              told = omega arith;
              raised = omega arith;
              joined = tt;
            }) (at_end vs w x j e);
        each_ticket = λ t lo hi. longer (λ x. ticket_of x.stage ≡ some t) (c.ticket_seat t) (seat_set s.views id v u (λ x. ticket_of x.stage ≡ some t) here (λ q. q) (c.ticket_seat t) (r.each_ticket t lo hi));
        each_number = λ k l. put_elim c.number_seat n new k (λ z. SeatWith (vs ++ w ∷ []) z (λ x. is_member k x.numbers ≡ true)) (λ e. (w, at_last vs w new refl, is_member_first k n [] e))
            (λ ne. longer (λ x. is_member k x.numbers ≡ true) (c.number_seat k)
            (seat_set s.views id v u (λ x. is_member k x.numbers ≡ true) here (λ q. sym (is_member_other k n ns ne) ∙ (sym (ap (is_member k) are) ∙ q)) (c.number_seat k) (r.each_number k l)));
        each_index = λ p l. longer (λ x. is_member p x.mine ≡ true) (c.index_seat p) (seat_set s.views id v u (λ x. is_member p x.mine ≡ true) here (λ q. q) (c.index_seat p) (r.each_index p l));
        slot = ⊎_elim (λ (h : Home events is_publish base b seats c s). inl record {
          value = h.value;
          at_home = h.at_home;
          stands_for = h.stands_for;
          rooted = h.rooted;
          nobody = λ i x e. ⊎_elim (λ (t : get_elem? vs i ≡ some x). all_set (λ _ y. is_out y.stage ≡ false) s.views id u (ap is_out rests) (λ i y _ ei. h.nobody i y ei) i x t)
              (λ (t : (i ≡ new) × (w ≡ x)). ap (λ (y : V). is_out y.stage) (sym t.1)) (at_end vs w x i e);
          raised = h.raised;
        })
            (λ (a : Away events is_publish base b seats c s). let Q : V → Type 0 = λ x. (is_out x.stage ≡ true) × (c.published + unraised x.stage ≡ count_by is_publish c.history) in
            let t = longer Q (c.ticket_seat c.serving) (seat_set s.views id v u Q here (λ q. q) (c.ticket_seat c.serving) (a.holder, a.holder_is, (a.holds, a.raised))) in inr record {
              holder = t.0;
              holder_is = t.1;
              holds = t.2.0;
              gone = a.gone;
              drawn = a.drawn;
              raised = t.2.1;
            }) r.slot;
      }
    where
      none_in : (ms : List ℕ) → length ms ≡ 0 → is_member 0 ms ≡ true → ⊥
      none_in [] z h = true≢false (sym h)
      none_in (m ∷ ms) z h = absurd (omega arith)

  pub gives_away : (id : ℕ) (v : V) (n : ℕ) (ns : List ℕ) → v.stage ≡ Idle → v.numbers ≡ n ∷ ns → is_member 0 ns ≡ true → Splits Rule id v (giver v) (given v)
  gives_away id v n ns rests are zero_there =
      subst (λ (z : List ℕ). Splits Rule id v (record v { numbers = rest_of z }) record { seen = []; mine = []; told = 0; numbers = first_of z; stage = Idle; joined = []; base = v.base }) (sym are) (splits id v n ns rests are zero_there)
