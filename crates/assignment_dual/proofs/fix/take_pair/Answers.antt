use Rattle.std.proofs.Common.{◌≡◌, ◌≢◌, ◌<◌, ◌+◌, ℕ, List, length, get_or, set, sum, true, ap, subst, sym, ◌∙◌}
use Rattle.assignment_dual.specs.Vertices.{IsOptimal}
use Rattle.assignment_dual.proofs.Resting.{pair_rests, pair_sum}
use Rattle.assignment_dual.proofs.fix.take_pair.Goals as goal

pub returns-clause-sum : goal.returns-clause-sum
returns-clause-sum c =
    let e : c.set-2.new.self ≡ set (set c.args.prices.now c.args.x 0) c.unmatch-y.result 0 = c.set-2.ensures ∙ ap (λ (o : List ℕ). set o c.unmatch-y.result 0) c.set.ensures in
    let y : c.unmatch-y.result < length c.args.prices.now = subst (λ (v : ℕ). v < length c.args.prices.now) (sym c.unmatch-y.ensures.mate) c.requires.mate in
    let d : c.args.x ≢ c.unmatch-y.result = λ q. c.requires.two (sym (q ∙ c.unmatch-y.ensures.mate)) in
    subst (λ (o : List ℕ). sum o + (get_or c.args.prices.now c.args.x 0 + get_or c.args.prices.now c.unmatch-y.result 0) ≡ sum c.args.prices.now) (sym e) (pair_sum c.args.prices.now c.args.x c.unmatch-y.result c.requires.x y d)

pub returns-clause-resting : goal.returns-clause-resting
returns-clause-resting c = λ g r.
    let e : c.set-2.new.self ≡ set (set c.args.prices.now c.args.x 0) c.unmatch-y.result 0 = c.set-2.ensures ∙ ap (λ (o : List ℕ). set o c.unmatch-y.result 0) c.set.ensures in
    let y : c.unmatch-y.result < length c.args.prices.now = subst (λ (v : ℕ). v < length c.args.prices.now) (sym c.unmatch-y.ensures.mate) c.requires.mate in
    let d : c.args.x ≢ c.unmatch-y.result = λ q. c.requires.two (sym (q ∙ c.unmatch-y.ensures.mate)) in
    subst (λ (o : List ℕ). IsOptimal g (length c.args.prices.now) o c.unmatch-y.new.mates (set (set c.args.gone.now c.args.x true) c.unmatch-y.result true)) (sym e)
    (pair_rests r c.requires.count c.requires.x y c.unmatch-y.ensures.mate d c.unmatch-y.ensures.parted)
