use Rattle.std.proofs.Common.{refl}
use Rattle.std.proofs.lemmas.Bool.{false≢true}
use Rattle.price_form.proofs.Names.{not_once, all_stretches}
use Rattle.price_form.proofs.pairs.names_once_by.Goals as goal

pub returns-then-not-names_once_from : goal.returns-then-not-names_once_from
returns-then-not-names_once_from g c = ((λ t. absurd (false≢true t)), (λ o. absurd (not_once (g.X.Column.list c.args.pairing.now) c.if-not-names_once_from.ensures o)))

pub returns : goal.returns
returns g c = ((λ t. all_stretches (g.X.Column.list c.args.pairing.now) c.args.tracks c.loop-low.low c.requires.named c.loop-low-test.false c.loop-low.invariant.once), (λ o. refl))
