-- Two seats at rest become one.
use Rattle.std.proofs.Common.{◌≡◌, ◌≢◌, ℕ, ◌+◌, ◌<◌, ◌≤◌, Bool, true, false, true≢false, List, [], ◌++◌, length, set, sym, refl, ap, ◌∙◌, subst, ⊎_elim, inl, inr, arith, length-append, append-nil}
use Rattle.std.specs.Prelude.{if◌then◌else◌, count_by}
use mathlib.Core.Logic.{dite}
use mathlib.Core.Option.{some, some-injective, some-ne-none}
use native.Mathlib.Decide.{ℕ_discrete}
use lib.ListN.{get_elem?}
use Rattle.atomic_table.specs.Table.{State, Joins}
use Rattle.atomic_table.proofs.Lists.{at_set, set_else}
use Rattle.turn_lock.specs.declared.rule.View.{View}
use Rattle.turn_lock.specs.declared.rule.Stage.TheVariants.{Idle}
use Rattle.turn_lock.specs.Lists.{is_member, count_of, Begins}
use Rattle.turn_lock.specs.Rule.{is_out, ticket_of, unraised, Course, Stands, Fits, SeatWith, Home, Away, Kept}
use Rattle.turn_lock.specs.Steps.{both, spent}
use Rattle.turn_lock.proofs.Lists.{set_there, all_set, each_append, is_member-append, is_member-left, is_member-right, count_of-append, is_member_counted}
use Rattle.turn_lock.proofs.Stages.{stays}
use Rattle.turn_lock.proofs.Views.{goes_on}

abbrev pick : {P : Type 0} → Dec P → ℕ → ℕ → ℕ
pick (yes _) a b = a
pick (no _) a b = b

-- what was the other's is this seat's
redirect : ℕ → ℕ → ℕ → ℕ
redirect other id j = pick (ℕ_discrete j other) id j

redirect_elim : (other id j : ℕ) (F : ℕ → Type 0) → (j ≡ other → F id) → (j ≢ other → F j) → F (redirect other id j)
unfolding redirect
redirect_elim other id j F here elsewhere = go (ℕ_discrete j other)
  where
    go : (d : Dec (j ≡ other)) → F (pick d id j)
    go (yes e) = here e
    go (no n) = elsewhere n

-- what holds of both choices
pub choice : {A : Type 0} (c : Bool) (x y : A) (F : A → Type 0) → (c ≡ true → F x) → (c ≡ false → F y) → F (if c then x else y)
choice true x y F yes_case no_case = yes_case refl
choice false x y F yes_case no_case = no_case refl

module _ {S E B : Type 0} (events : S → List E) (is_publish : E → Bool) (base : S → B) (b : B) (seats : ℕ) where
  abbrev V : Type 0
  V = View E B

  abbrev Rule : State S V → Type 0
  Rule = Kept events is_publish base b seats

  -- no number and no index is in two views
  once_in_both : (n : ℕ) (xs ys : List ℕ) → count_of n xs ≤ 1 → count_of n ys ≤ 1 → (is_member n xs ≡ true → is_member n ys ≡ true → ⊥) → count_of n (xs ++ ys) ≤ 1
  once_in_both n xs ys few_left few_right apart = let t = count_of-append n xs ys in dite (ℕ_discrete (count_of n xs) 0) (λ z. omega arith)
      (λ nx. dite (ℕ_discrete (count_of n ys) 0) (λ z. omega arith) (λ ny. absurd (apart (is_member_counted n xs (omega arith)) (is_member_counted n ys (omega arith)))))

  pub joins : (id : ℕ) (v : V) (other : ℕ) (w : V) → v.stage ≡ Idle → w.stage ≡ Idle → 0 < length v.numbers → Joins Rule id v other w (both v w) spent
  joins id v other w vi wi some_there s r here apart there = let c : Course E = r.course in let u : V = both v w in let vs : List V = set s.views id u in let ws : List V = set vs other spent in let f = r.each_seat id v here in
      let was : get_elem? s.views other ≡ some w = ⊎_elim (λ (t : (other ≡ id) × (u ≡ w)). absurd (apart t.0)) (λ (t : (other ≢ id) × (get_elem? s.views other ≡ some w)). t.1) (at_set s.views id other u w there) in
      let g = r.each_seat other w was in let two : id ≢ other = λ e. apart (sym e) in
      let d : Course E = record c { number_seat = λ n. redirect other id (c.number_seat n); index_seat = λ p. redirect other id (c.index_seat p) } in let G : ℕ → V → Type 0 = Fits is_publish b seats d in
      let to : (j k : ℕ) → j ≡ k → k ≢ other → redirect other id j ≡ k = λ j k e n. redirect_elim other id j (λ z. z ≡ k) (λ q. absurd (n (sym e ∙ q))) (λ _. e) in
      let to_me : (j : ℕ) → j ≡ other → redirect other id j ≡ id = λ j e. redirect_elim other id j (λ z. z ≡ id) (λ _. refl) (λ n. absurd (n e)) in
      let v_raised : count_by is_publish v.seen ≤ c.published + unraised v.stage = f.raised in let w_raised : count_by is_publish w.seen ≤ c.published + unraised w.stage = g.raised in
      let v_level : unraised v.stage ≡ 0 = ap unraised vi in let w_level : unraised w.stage ≡ 0 = ap unraised wi in
      let kept : (Q : V → Type 0) (i : ℕ) → (Q v → ⊥) → (Q w → ⊥) → SeatWith s.views i Q → SeatWith ws i Q = λ Q i nv nw t.
      let n1 : i ≢ id = λ e. nv (subst Q (some-injective t.0 v (sym t.1 ∙ (ap (get_elem? s.views) e ∙ here))) t.2) in
      let n2 : i ≢ other = λ e. nw (subst Q (some-injective t.0 w (sym t.1 ∙ (ap (get_elem? s.views) e ∙ was))) t.2) in
      (t.0, set_else vs other i spent n2 ∙ (set_else s.views id i u n1 ∙ t.1), t.2) in
      let me_now : get_elem? ws id ≡ some u = set_else vs other id spent two ∙ set_there s.views id v u here in
      let moved : (Q : V → Type 0) (i : ℕ) → (Q v → Q u) → (Q w → Q u) → SeatWith s.views i Q → SeatWith ws (redirect other id i) Q = λ Q i qv qw t. redirect_elim other id i (λ z. SeatWith ws z Q)
      (λ e. (u, me_now, qw (subst Q (some-injective t.0 w (sym t.1 ∙ (ap (get_elem? s.views) e ∙ was))) t.2)))
      (λ n2. dite (ℕ_discrete i id) (λ e. (u, ap (get_elem? ws) e ∙ me_now, qv (subst Q (some-injective t.0 v (sym t.1 ∙ (ap (get_elem? s.views) e ∙ here))) t.2)))
      (λ n1. (t.0, set_else vs other i spent n2 ∙ (set_else s.views id i u n1 ∙ t.1), t.2))) in record {
        course = d;
        words = r.words;
        ahead = r.ahead;
        each_seat = all_set G vs other spent
            record {
              based = λ l. absurd (omega arith);
              spent = λ _. (refl, refl);
              numbered = λ n h. absurd (true≢false (sym h));
              numbered_once = λ n. omega arith;
              stands = tt;
              begins = (c.history, refl);
              head = λ h. absurd (true≢false (sym h));
              made = λ p h. absurd (true≢false (sym h));
              made_once = λ p. omega arith;
              told = omega arith;
              raised = omega arith;
              joined = tt;
            }
            (λ j x nj e. all_set (λ i y. i ≢ other → G i y) s.views id u
            (λ _. record {
              based = λ _. f.based some_there;
              spent = λ z. let l = length-append v.numbers w.numbers in absurd (omega arith);
              numbered = λ n h. ⊎_elim (λ a. let q = f.numbered n a in (q.0, to (c.number_seat n) id q.1 two)) (λ a. let q = g.numbered n a in (q.0, to_me (c.number_seat n) q.1)) (is_member-append n v.numbers w.numbers h);
              numbered_once = λ n. once_in_both n v.numbers w.numbers (f.numbered_once n) (g.numbered_once n) (λ a m. two (sym (f.numbered n a).1 ∙ (g.numbered n m).1));
              stands = subst (Stands d id u.seen) (sym vi) tt;
              begins = choice (is_member 0 w.numbers) w.seen v.seen (λ l. Begins l c.history) (λ _. g.begins) (λ _. f.begins);
              head = λ h. choice (is_member 0 w.numbers) w.seen v.seen (λ l. count_by is_publish l ≡ count_by is_publish c.history) g.head
                  (λ no_head. f.head (⊎_elim (λ a. a) (λ a. absurd (true≢false (sym a ∙ no_head))) (is_member-append 0 v.numbers w.numbers h)));
              made = λ p h. ⊎_elim (λ a. let q = f.made p a in (q.0, to (c.index_seat p) id q.1 two)) (λ a. let q = g.made p a in (q.0, to_me (c.index_seat p) q.1)) (is_member-append p v.mine w.mine h);
              made_once = λ p. once_in_both p v.mine w.mine (f.made_once p) (g.made_once p) (λ a m. two (sym (f.made p a).1 ∙ (g.made p m).1));
              told = f.told;
              raised = choice (is_member 0 w.numbers) w.seen v.seen (λ l. count_by is_publish l ≤ c.published + unraised v.stage) (λ _. omega arith) (λ _. v_raised);
              joined = ((f.begins, f.told), ((g.begins, g.told), each_append (λ (x : List E × ℕ). Begins x.0 c.history × (x.1 ≤ c.published)) v.joined w.joined f.joined g.joined));
            })
            (λ i y ni ei no2. let h = r.each_seat i y ei in goes_on is_publish b seats c i y d h record {
              added = [];
              history = sym (append-nil c.history);
              published = omega arith;
              numbers = λ n _ e. to (c.number_seat n) i e no2;
              indices = λ p _ _ e. to (c.index_seat p) i e no2;
              stands = stays c i y.seen d (λ q lo has. (has, lo)) y.stage (λ _. (refl, refl)) h.stands;
              head = λ _. refl;
            }) j x e nj);
        each_ticket = λ t lo hi. kept (λ x. ticket_of x.stage ≡ some t) (c.ticket_seat t) (λ q. some-ne-none t (sym q ∙ ap ticket_of vi)) (λ q. some-ne-none t (sym q ∙ ap ticket_of wi)) (r.each_ticket t lo hi);
        each_number = λ n l. moved (λ x. is_member n x.numbers ≡ true) (c.number_seat n) (λ q. is_member-left n v.numbers w.numbers q) (λ q. is_member-right n v.numbers w.numbers q) (r.each_number n l);
        each_index = λ p l. moved (λ x. is_member p x.mine ≡ true) (c.index_seat p) (λ q. is_member-left p v.mine w.mine q) (λ q. is_member-right p v.mine w.mine q) (r.each_index p l);
        slot = ⊎_elim (λ (h : Home events is_publish base b seats c s). inl record {
          value = h.value;
          at_home = h.at_home;
          stands_for = h.stands_for;
          rooted = h.rooted;
          nobody = all_set (λ _ x. is_out x.stage ≡ false) vs other spent refl
              (λ j x _ e. all_set (λ _ y. is_out y.stage ≡ false) s.views id u (ap is_out vi) (λ i y _ ei. h.nobody i y ei) j x e);
          raised = h.raised;
        })
            (λ (a : Away events is_publish base b seats c s). let Q : V → Type 0 = λ x. (is_out x.stage ≡ true) × (c.published + unraised x.stage ≡ count_by is_publish c.history) in
            let t = kept Q (c.ticket_seat c.serving) (λ q. true≢false (sym q.0 ∙ ap is_out vi)) (λ q. true≢false (sym q.0 ∙ ap is_out wi)) (a.holder, a.holder_is, (a.holds, a.raised)) in inr record {
              holder = t.0;
              holder_is = t.1;
              holds = t.2.0;
              gone = a.gone;
              drawn = a.drawn;
              raised = t.2.1;
            }) r.slot;
      }
