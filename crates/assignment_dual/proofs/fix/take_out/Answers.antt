use Rattle.std.proofs.Common.{◌≡◌, ◌<◌, ℕ, List, length, get_or, set, refl, sym, subst, ap, ◌∙◌}
use Rattle.std.proofs.lemmas.List.{length-set}
use Rattle.assignment_dual.specs.Vertices.{IsDualFeasible, AreMatched, OthersPay, IsAugmented}
use Rattle.assignment_dual.proofs.Resting.{AreOut, out_parted, out_priced, out_mates, out_pay, rests_without, rests_alone}
use Rattle.assignment_dual.proofs.fix.take_out.Goals as goal

pub augment-requires-clause-priced : goal.augment-requires-clause-priced
augment-requires-clause-priced c =
    let p : AreOut (length c.args.prices.now) c.args.prices.now c.args.mates.now (set c.args.prices.now c.args.x 0) c.unmatch-y.new.mates c.args.x c.unmatch-y.result =
    out_parted refl c.requires.resting.mates.count c.requires.x c.unmatch-y.ensures.parted in
    rw c.set.ensures (subst (λ (n : ℕ). IsDualFeasible c.args.graph.now n (set c.args.prices.now c.args.x 0)) (sym (length-set c.args.prices.now c.args.x 0)) (out_priced c.requires.resting.priced p))

pub augment-requires-clause-mates : goal.augment-requires-clause-mates
augment-requires-clause-mates c =
    let p : AreOut (length c.args.prices.now) c.args.prices.now c.args.mates.now (set c.args.prices.now c.args.x 0) c.unmatch-y.new.mates c.args.x c.unmatch-y.result =
    out_parted refl c.requires.resting.mates.count c.requires.x c.unmatch-y.ensures.parted in
    rw c.set.ensures (subst (λ (n : ℕ). AreMatched c.args.graph.now n (set c.args.prices.now c.args.x 0) c.unmatch-y.new.mates) (sym (length-set c.args.prices.now c.args.x 0)) (out_mates c.requires.resting.mates c.requires.x c.unmatch-y.ensures.mate p))

pub augment-requires-clause-pay : goal.augment-requires-clause-pay
augment-requires-clause-pay c =
    let p : AreOut (length c.args.prices.now) c.args.prices.now c.args.mates.now (set c.args.prices.now c.args.x 0) c.unmatch-y.new.mates c.args.x c.unmatch-y.result =
    out_parted refl c.requires.resting.mates.count c.requires.x c.unmatch-y.ensures.parted in
    rw c.set.ensures (subst (λ (n : ℕ). OthersPay n (set c.args.prices.now c.args.x 0) c.unmatch-y.new.mates c.unmatch-y.result) (sym (length-set c.args.prices.now c.args.x 0)) (out_pay c.requires.resting p))

pub returns-in_ok-augment-clause-resting : goal.returns-in_ok-augment-clause-resting
returns-in_ok-augment-clause-resting c =
    let p : AreOut (length c.args.prices.now) c.args.prices.now c.args.mates.now (set c.args.prices.now c.args.x 0) c.unmatch-y.new.mates c.args.x c.unmatch-y.result =
    out_parted refl c.requires.resting.mates.count c.requires.x c.unmatch-y.ensures.parted in
    let l : length c.set.new.self ≡ length c.args.prices.now = ap length c.set.ensures ∙ length-set c.args.prices.now c.args.x 0 in
    let yn : c.unmatch-y.result < length c.args.prices.now = subst (λ (v : ℕ). v < length c.args.prices.now) (sym c.unmatch-y.ensures.mate) (c.requires.resting.mates.within c.args.x c.requires.x) in
    rests_without c.requires.resting c.requires.count c.requires.x (λ e. c.if-y-x.true (sym e)) c.requires.here yn (ap (λ (v : ℕ). get_or c.args.mates.now v 0) c.unmatch-y.ensures.mate ∙ c.requires.resting.mates.back c.args.x c.requires.x) p
    (subst (λ (n : ℕ). IsDualFeasible c.args.graph.now n c.augment.new.prices) l c.in_ok-augment.ensures.priced)
    (subst (λ (n : ℕ). AreMatched c.args.graph.now n c.augment.new.prices c.augment.new.mates) l c.in_ok-augment.ensures.mates)
    (subst (λ (o : List ℕ). IsAugmented (length c.args.prices.now) o c.unmatch-y.new.mates c.augment.new.prices c.augment.new.mates c.unmatch-y.result) c.set.ensures
    (subst (λ (n : ℕ). IsAugmented n c.set.new.self c.unmatch-y.new.mates c.augment.new.prices c.augment.new.mates c.unmatch-y.result) l c.in_ok-augment.ensures.settled))

pub returns-else-y-x-clause-resting : goal.returns-else-y-x-clause-resting
returns-else-y-x-clause-resting c =
    rw c.set.ensures (rests_alone c.requires.resting c.requires.count c.requires.x c.if-y-x.false c.unmatch-y.ensures.mate
    (out_parted refl c.requires.resting.mates.count c.requires.x c.unmatch-y.ensures.parted))
