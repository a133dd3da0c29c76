use Rattle.std.proofs.Common.{◌∙◌, sym, arith}
use Rattle.std.proofs.lemmas.List.{take_all}
use Rattle.settings_text.proofs.Repeating.{own_more, repeats_at, none_but}
use Rattle.settings_text.proofs.radars.repeated.Goals as goal

pub returns-in-Some-clause-found : goal.returns-in-Some-clause-found
returns-in-Some-clause-found c =
    repeats_at c.args.radars.now c.loop-index.index c.index-radars-index.result c.in-Some.first c.loop-index-test.true c.index-radars-index.is c.loop-index.invariant
    (sym c.radar_of.ensures.index ∙ c.in-Some.is) c.in-Some.ensures.within

pub loop-index-preserved : goal.loop-index-preserved
loop-index-preserved c =
    own_more c.args.radars.now c.loop-index.index c.index-radars-index.result c.loop-index-test.true c.index-radars-index.is c.loop-index.invariant
    (sym c.radar_of.ensures.index ∙ none_but c.radar_of.result c.in_default.not-Some)

pub returns-clause-none : goal.returns-clause-none
returns-clause-none c = rw (take_all c.loop-index.index c.args.radars.now (omega (arith, c.loop-index-test.false))) at c.loop-index.invariant
