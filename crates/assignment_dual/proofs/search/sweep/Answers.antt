use Rattle.std.proofs.Common.{◌≡◌, ◌≢◌, ◌<◌, ℕ, length, get_or, true, false, Bool, List, arith, subst, sym, ◌∙◌, ap, ◌-◌}
use Rattle.std.proofs.lemmas.List.{length-set}
use Rattle.assignment_dual.specs.declared.search.Node.{Node}
use Rattle.trk_base.specs.Limits.{miss_cost}
use Rattle.assignment_dual.specs.Search.{mate_at}
use Rattle.assignment_dual.proofs.Turns.{across_differ}
use Rattle.assignment_dual.proofs.Trees.{Opened, opened, open_pays, end_pushed, sweeping_opened, sweeping_closed}
use Rattle.assignment_dual.proofs.search.sweep.Goals as goal
use Rattle.assignment_dual.proofs.search.sweep.Goals.{in-Some+in_ok-push+else-mates-y, in_default}

-- what was read of the list that was lent
unseen_there : {seen items : List Bool} (y : ℕ) → seen ≡ items → get_or seen y false ≡ false → get_or items y false ≡ false
unseen_there {seen} {items} y e h = subst (λ (o : List Bool). get_or o y false ≡ false) e h

seen_there : {seen items : List Bool} (y : ℕ) → seen ≡ items → get_or seen y false ≡ true → get_or items y false ≡ true
seen_there {seen} {items} y e h = subst (λ (o : List Bool). get_or o y false ≡ true) e h

pub returns-then-mates-y-clause-tree : goal.returns-then-mates-y-clause-tree
returns-then-mates-y-clause-tree c =
    let xe : c.mate_of-x.result ≡ mate_at c.args.mates.now c.args.search.now.tree.items c.args.at = c.mate_of-x.ensures ∙ ap (λ (t : List Node). mate_at c.args.mates.now t c.args.at) c.deref.ensures.value in
    let xl : c.mate_of-x.result < length c.args.prices.now = subst (λ (v : ℕ). v < length c.args.prices.now) (sym xe) (c.requires.mates.within _ (c.requires.tree.within c.args.at c.requires.at)) in
    let o : Opened c.args.graph.now c.args.prices.now c.args.mates.now c.args.search.now.seen.items c.loop-k.search.seen.items c.args.search.now.tree.items c.loop-k.search.tree.items c.in-Some.y c.args.at =
    opened c.requires.graph c.requires.mates c.requires.alone c.loop-k.invariant c.requires.at xe xl c.in-Some.ensures.answer.0 c.in-Some.ensures.answer.1 (unseen_there _ c.deref-in-loop-k.ensures.value c.in-Some.ensures.answer.2) in
    rw c.in_ok-push.ensures.items o.search

pub returns-then-mates-y-clause-answer : goal.returns-then-mates-y-clause-answer
returns-then-mates-y-clause-answer c =
    let xe : c.mate_of-x.result ≡ mate_at c.args.mates.now c.args.search.now.tree.items c.args.at = c.mate_of-x.ensures ∙ ap (λ (t : List Node). mate_at c.args.mates.now t c.args.at) c.deref.ensures.value in
    let xl : c.mate_of-x.result < length c.args.prices.now = subst (λ (v : ℕ). v < length c.args.prices.now) (sym xe) (c.requires.mates.within _ (c.requires.tree.within c.args.at c.requires.at)) in
    let o : Opened c.args.graph.now c.args.prices.now c.args.mates.now c.args.search.now.seen.items c.loop-k.search.seen.items c.args.search.now.tree.items c.loop-k.search.tree.items c.in-Some.y c.args.at =
    opened c.requires.graph c.requires.mates c.requires.alone c.loop-k.invariant c.requires.at xe xl c.in-Some.ensures.answer.0 c.in-Some.ensures.answer.1 (unseen_there _ c.deref-in-loop-k.ensures.value c.in-Some.ensures.answer.2) in
    let b : get_or c.args.prices.now c.mate_of-x.result 0 ≢ miss_cost = subst (λ (v : ℕ). get_or c.args.prices.now v 0 ≢ miss_cost) (sym xe) c.requires.below in
    let f : get_or c.args.prices.now c.in-Some.y 0 ≡ miss_cost = open_pays c.requires.priced c.requires.pay (across_differ o.side) c.in-Some.ensures.answer.1 c.if-mates-y.true b c.in-Some.ensures.answer.0 in
    let n : length c.loop-k.search.tree.items ≡ c.len.result - 1 = omega (arith, c.len.ensures, c.in_ok-push.ensures.len, c.loop-k.search.tree.ok.0) in
    rw c.in_ok-push.ensures.items (rw (sym n) (end_pushed c.args.at c.loop-k.invariant.paired c.if-mates-y.true f))

pub loop-k-preserved : goal.loop-k-preserved
loop-k-preserved c = elim c.match-opens.branch [
  | in-Some+in_ok-push+else-mates-y w ↦
      let xe : c.mate_of-x.result ≡ mate_at c.args.mates.now c.args.search.now.tree.items c.args.at = c.mate_of-x.ensures ∙ ap (λ (t : List Node). mate_at c.args.mates.now t c.args.at) c.deref.ensures.value in
      let xl : c.mate_of-x.result < length c.args.prices.now = subst (λ (v : ℕ). v < length c.args.prices.now) (sym xe) (c.requires.mates.within _ (c.requires.tree.within c.args.at c.requires.at)) in
      let o : Opened c.args.graph.now c.args.prices.now c.args.mates.now c.args.search.now.seen.items c.loop-k.search.seen.items c.args.search.now.tree.items c.loop-k.search.tree.items w.in-Some.y c.args.at =
      opened c.requires.graph c.requires.mates c.requires.alone c.loop-k.invariant c.requires.at xe xl w.in-Some.ensures.answer.0 w.in-Some.ensures.answer.1 (unseen_there _ c.deref-in-loop-k.ensures.value w.in-Some.ensures.answer.2) in
      rw (w.search-is, w.in_ok-push.ensures.items)
      (sweeping_opened c.loop-k.invariant o w.in-Some.ensures.answer.1 w.in-Some.ensures.answer.0 w.if-mates-y.false (length-set c.loop-k.search.seen.items w.in-Some.y true))
  | in_default w ↦ rw w.search-is (sweeping_closed c.loop-k.invariant (λ e. seen_there _ c.deref-in-loop-k.ensures.value (w.in_default.ensures.answer e)))
]
