use Rattle.std.proofs.Common.{◌≡◌, ◌∙◌, Bool, List, subst, sym}
use Rattle.assignment_dual.specs.declared.search.Node.{Node}
use Rattle.assignment_dual.specs.Search.{IsExhausted}
use Rattle.assignment_dual.specs.Rising.{AllHaveSlack, MayShift, AreShifted}
use Rattle.assignment_dual.proofs.Augments.{settling_step, settling_shift}
use Rattle.assignment_dual.proofs.augmenting.augment.Goals as goal

pub shift-requires : goal.shift-requires
shift-requires c =
    let a : (c.reach.new.mates ≡ c.rounds.mates) × IsExhausted c.args.graph.now c.rounds.prices c.rounds.mates c.reach.new.search.seen.items c.reach.new.search.tree.items = rw c.if-branch.false at c.in_ok-reach.ensures.answer in
    let room : AllHaveSlack c.args.graph.now c.rounds.prices c.reach.new.mates c.reach.new.search.seen.items c.reach.new.search.tree.items c.least_slack-by.result =
    subst (λ (o : List Node). AllHaveSlack c.args.graph.now c.rounds.prices c.reach.new.mates c.reach.new.search.seen.items o c.least_slack-by.result) c.deref-in-rounds-2.ensures.value
    (subst (λ (o : List Bool). AllHaveSlack c.args.graph.now c.rounds.prices c.reach.new.mates o c.deref-in-rounds-2.result.now c.least_slack-by.result) c.deref-in-rounds.ensures.value c.least_slack-by.ensures.room) in
    subst (λ (o : List Node). MayShift c.rounds.prices c.reach.new.mates o c.least_slack-by.result) (sym c.deref-in-rounds-3.ensures.value)
    (settling_shift c.requires.graph c.requires.alone c.rounds.invariant.0 c.rounds.invariant.1 a.0 c.in_ok-reach.ensures.tree a.1 room)

pub rounds-preserved : goal.rounds-preserved
rounds-preserved c =
    let a : (c.reach.new.mates ≡ c.rounds.mates) × IsExhausted c.args.graph.now c.rounds.prices c.rounds.mates c.reach.new.search.seen.items c.reach.new.search.tree.items = rw c.if-branch.false at c.in_ok-reach.ensures.answer in
    let room : AllHaveSlack c.args.graph.now c.rounds.prices c.reach.new.mates c.reach.new.search.seen.items c.reach.new.search.tree.items c.least_slack-by.result =
    subst (λ (o : List Node). AllHaveSlack c.args.graph.now c.rounds.prices c.reach.new.mates c.reach.new.search.seen.items o c.least_slack-by.result) c.deref-in-rounds-2.ensures.value
    (subst (λ (o : List Bool). AllHaveSlack c.args.graph.now c.rounds.prices c.reach.new.mates o c.deref-in-rounds-2.result.now c.least_slack-by.result) c.deref-in-rounds.ensures.value c.least_slack-by.ensures.room) in
    let shifted : AreShifted c.rounds.prices c.shift.new.prices c.reach.new.mates c.reach.new.search.tree.items c.least_slack-by.result =
    subst (λ (o : List Node). AreShifted c.rounds.prices c.shift.new.prices c.reach.new.mates o c.least_slack-by.result) c.deref-in-rounds-3.ensures.value c.shift.ensures in
    settling_step c.requires.graph c.requires.alone c.rounds.invariant.0 c.rounds.invariant.1 a.0 (c.in_ok-reach.ensures.seen ∙ sym (c.rounds.invariant.1.seen_count ∙ sym c.rounds.invariant.1.count)) c.in_ok-reach.ensures.tree a.1 room shifted
