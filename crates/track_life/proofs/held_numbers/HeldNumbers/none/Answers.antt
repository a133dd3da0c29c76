use Rattle.track_life.proofs.Leaps.{leaps_none, none_over}
use Rattle.track_life.proofs.held_numbers.HeldNumbers.none.Goals as goal

pub invariant_of-result : goal.invariant_of-result
invariant_of-result c = leaps_none _ (c.in_ok-vec.ensures.items_if_clones_equal (λ y e. e))

pub returns : goal.returns
returns c = none_over _ (c.in_ok-vec.ensures.items_if_clones_equal (λ y e. e))
