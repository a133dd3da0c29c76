-- Who has the slot, and what that seat knows.
use Rattle.std.proofs.Common.{◌≡◌, ◌≢◌, ◌⊎◌, ℕ, ◌+◌, Bool, true, false, true≢false, List, get_or, sym, ap, ◌∙◌, subst, ⊎_elim}
use Rattle.std.specs.Prelude.{count_by}
use mathlib.Core.Option.{some, some-injective}
use lib.ListN.{get_elem?}
use lib.Seq.{set-get_or}
use Rattle.atomic_table.specs.Table.{State, Me, keeps, stepped}
use Rattle.atomic_table.proofs.Lists.{set_again}
use Rattle.turn_lock.specs.declared.rule.View.{View}
use Rattle.turn_lock.specs.declared.rule.Stage.TheVariants.{Waiting}
use Rattle.turn_lock.specs.Rule.{is_out, unraised, Stands, Home, Away, Kept}
use Rattle.turn_lock.proofs.Stages.{lone}

module _ {S E B : Type 0} (events : S → List E) (is_publish : E → Bool) (base : S → B) (b : B) (seats : ℕ) where
  abbrev V : Type 0
  V = View E B

  abbrev St : Type 0
  St = State S V

  abbrev M : Type 0
  M = Me S V

  abbrev Rule : St → Type 0
  Rule = Kept events is_publish base b seats

  pub unmoved : (s : St) (r : Rule s) (i id : ℕ) (cs : List (ℕ × S)) (v : V) → get_elem? s.views id ≡ some v → Rule (stepped s i (get_or s.words i 0) id cs v keeps)
  unmoved s r i id cs v at = subst (λ (z : List ℕ × List V). Rule record { words = z.0; homes = s.homes; views = z.1 }) (λ j. (sym (set-get_or s.words i 0) j, sym (set_again s.views id v at) j)) r

  -- while another seat has the slot, nobody else has
  pub not_out : (s : St) (r : Rule s) (id j : ℕ) (d : V) → r.course.ticket_seat r.course.serving ≡ id → j ≢ id → get_elem? s.views j ≡ some d → is_out d.stage ≡ true → ⊥
  not_out s r id j d held other e out = other (sym (lone r.course j d.seen d.stage out (r.each_seat j d e).stands) ∙ held)

  -- a stage at which the seat has the slot leaves it nobody else
  pub held_by : (s : St) (r : Rule s) (id : ℕ) (v : V) → get_elem? s.views id ≡ some v → is_out v.stage ≡ true → r.course.ticket_seat r.course.serving ≡ id
  held_by s r id v here out = lone r.course id v.seen v.stage out (r.each_seat id v here).stands

  pub away_now : (s : St) (r : Rule s) (id : ℕ) (v : V) → get_elem? s.views id ≡ some v → is_out v.stage ≡ true → Away events is_publish base b seats r.course s
  away_now s r id v here out = ⊎_elim (λ (h : Home events is_publish base b seats r.course s). absurd (true≢false (sym out ∙ h.nobody id v here))) (λ a. a) r.slot

  -- how far the published word is behind, as the seat that has the slot knows
  pub behind : (s : St) (r : Rule s) (id : ℕ) (v : V) → get_elem? s.views id ≡ some v → is_out v.stage ≡ true → r.course.published + unraised v.stage ≡ count_by is_publish r.course.history
  behind s r id v here out = let a = away_now s r id v here out in
      let same : a.holder ≡ v = some-injective a.holder v (sym a.holder_is ∙ (ap (get_elem? s.views) (held_by s r id v here out) ∙ here)) in
      subst (λ (z : V). r.course.published + unraised z.stage ≡ count_by is_publish r.course.history) same a.raised

  -- the seat that looks at its own ticket finds the slot at home
  pub home_there : (s : St) (r : Rule s) (id t : ℕ) (v : V) → get_elem? s.views id ≡ some v → v.stage ≡ Waiting t → r.course.serving ≡ t → Home events is_publish base b seats r.course s
  home_there s r id t v here is now = ⊎_elim (λ h. h)
      (λ (a : Away events is_publish base b seats r.course s). let k = subst (Stands r.course id v.seen) is (r.each_seat id v here).stands in
      let e : r.course.ticket_seat r.course.serving ≡ id = ap r.course.ticket_seat now ∙ k.0.1 in let same : a.holder ≡ v = some-injective a.holder v (sym a.holder_is ∙ (ap (get_elem? s.views) e ∙ here)) in
      absurd (true≢false (sym a.holds ∙ (ap (λ (z : V). is_out z.stage) same ∙ ap is_out is)))) r.slot
