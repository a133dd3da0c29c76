-- What the rule says of a seat is carried from one course of the lock to the next.
use Rattle.std.proofs.Common.{◌≡◌, ℕ, ◌+◌, ◌<◌, ◌≤◌, Bool, true, List, [], ◌++◌, length, sym, refl, ap, ◌∙◌, subst, arith, length-append, append-nil}
use Rattle.std.specs.Prelude.{count_by}
use Rattle.turn_lock.specs.declared.rule.View.{View}
use Rattle.turn_lock.specs.declared.rule.Stage.{Stage}
use Rattle.turn_lock.specs.Lists.{is_member, Begins}
use Rattle.turn_lock.specs.Rule.{unraised, Course, Stands, Fits}
use Rattle.turn_lock.specs.Steps.{with_stage, raised}
use Rattle.turn_lock.proofs.Lists.{begins_append, each_more, count_by-append}

module _ {E B : Type 0} (is_publish : E → Bool) (b : B) (seats : ℕ) (c : Course E) (seat : ℕ) (v : View E B) where
  -- what a course that went on keeps of a seat's view
  pub record Goes (d : Course E) : Type 0 where
    pub added : List E
    pub history : d.history ≡ c.history ++ added
    pub published : c.published ≤ d.published
    pub numbers : (n : ℕ) → is_member n v.numbers ≡ true → c.number_seat n ≡ seat → d.number_seat n ≡ seat
    pub indices : (p : ℕ) → p < length c.history → is_member p v.mine ≡ true → c.index_seat p ≡ seat → d.index_seat p ≡ seat
    pub stands : Stands d seat v.seen v.stage
    pub head : is_member 0 v.numbers ≡ true → count_by is_publish added ≡ 0

  pub goes_on : (d : Course E) → Fits is_publish b seats c seat v → Goes d → Fits is_publish b seats d seat v
  goes_on d f g = let up : c.published ≤ d.published = g.published in let size : length d.history ≡ length c.history + length g.added = ap length g.history ∙ length-append c.history g.added in record {
    based = f.based;
    spent = f.spent;
    numbered = λ n h. let q = f.numbered n h in (q.0, g.numbers n h q.1);
    numbered_once = f.numbered_once;
    stands = g.stands;
    begins = subst (Begins v.seen) (sym g.history) (begins_append v.seen c.history g.added f.begins);
    head = λ h. let was : count_by is_publish v.seen ≡ count_by is_publish c.history = f.head h in let none_more : count_by is_publish g.added ≡ 0 = g.head h in
        let sum : count_by is_publish d.history ≡ count_by is_publish c.history + count_by is_publish g.added = ap (count_by is_publish) g.history ∙ count_by-append is_publish c.history g.added in omega arith;
    made = λ p h. let q = f.made p h in let low : p < length c.history = q.0 in (omega arith, g.indices p q.0 h q.1);
    made_once = f.made_once;
    told = let low : v.told ≤ c.published = f.told in omega arith;
    raised = let low : count_by is_publish v.seen ≤ c.published + unraised v.stage = f.raised in omega arith;
    joined = each_more (λ (x : List E × ℕ) q. let low : x.1 ≤ c.published = q.1 in (subst (Begins x.0) (sym g.history) (begins_append x.0 c.history g.added q.0), omega arith)) v.joined f.joined;
  }

  -- the view at another stage
  pub restaged : (st : Stage E) → Fits is_publish b seats c seat v → 0 < length v.numbers → Stands c seat v.seen st → unraised v.stage ≤ unraised st → Fits is_publish b seats c seat (with_stage v st)
  restaged st f some_there stands up = record {
    based = f.based;
    spent = λ z. absurd (omega arith);
    numbered = f.numbered;
    numbered_once = f.numbered_once;
    stands = stands;
    begins = f.begins;
    head = f.head;
    made = f.made;
    made_once = f.made_once;
    told = f.told;
    raised = let low : count_by is_publish v.seen ≤ c.published + unraised v.stage = f.raised in omega arith;
    joined = f.joined;
  }

  -- where nothing but tickets, the served one and the published number changed
  pub restands : (d : Course E) → Fits is_publish b seats c seat v → d.history ≡ c.history → c.published ≤ d.published → ((n : ℕ) → d.number_seat n ≡ c.number_seat n) → ((p : ℕ) → d.index_seat p ≡ c.index_seat p)
      → Stands d seat v.seen v.stage → Fits is_publish b seats d seat v
  restands d f same up numbers indices stands = goes_on d f record {
    added = [];
    history = same ∙ sym (append-nil c.history);
    published = up;
    numbers = λ n h e. numbers n ∙ e;
    indices = λ p l h e. indices p ∙ e;
    stands = stands;
    head = λ _. refl;
  }
