use Rattle.std.proofs.Common.{sym, subst, refl, ◌∷◌, []}
use Rattle.std.specs.List.{IsDistinct}
use Rattle.edition_form.specs.Pictures.{HaveOwnNumbers, AreEarlier}
use Rattle.edition_form.proofs.Climbing.{no_lines}
use Rattle.station.proofs.Publishing.{edition_of_none}
use Rattle.station.proofs.tests.rounds.edition_under.Goals as goal

own_numbers : HaveOwnNumbers []
unfolding IsDistinct
own_numbers = tt

pub pictured-requires-clause-numbers : goal.pictured-requires-clause-numbers
pictured-requires-clause-numbers c = subst HaveOwnNumbers (sym c.empty.ensures) own_numbers

pub pictured-requires-clause-earlier : goal.pictured-requires-clause-earlier
pictured-requires-clause-earlier c = subst (AreEarlier 4608000) (sym c.empty.ensures) tt

pub pictured-requires-clause-old : goal.pictured-requires-clause-old
pictured-requires-clause-old c = no_lines

pub returns : goal.returns
returns c = let p = c.in_ok-datagrams in
    edition_of_none c.args.settings.now c.args.radar.now c.args.number _ _ c.empty.result _ _ c.requires (λ i. c.bias.ensures i ∷ []) c.empty.ensures refl c.new.ensures refl refl refl refl p.ensures.datagrams refl
