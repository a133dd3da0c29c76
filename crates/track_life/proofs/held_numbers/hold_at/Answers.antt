use Rattle.std.proofs.Common.{subst, sym, set, ◌∷◌}
use Rattle.track_life.specs.Numbers.{is_among}
use Rattle.track_life.specs.HeldNumbers.{AreLeaps, LeapOver}
use Rattle.track_life.proofs.Leaps.{leaps_one_held, one_held}
use Rattle.track_life.proofs.held_numbers.hold_at.Goals as goal

pub returns : goal.returns
returns c =
    let leaps = c.args.leaps.now in
    let place = c.args.place in
    record {
      leaps = subst (λ x. AreLeaps (set leaps place x)) (sym c.max.ensures) (leaps_one_held leaps place c.requires.leaps c.requires.number);
      held = λ numbers h. subst (λ x. LeapOver (is_among (place ∷ numbers)) (set leaps place x)) (sym c.max.ensures) (one_held numbers leaps place c.requires.leaps c.requires.number h);
    }
