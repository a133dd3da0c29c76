use Rattle.std.proofs.Common.{◌≡◌, ◌∙◌, ap, List, ◌∷◌, sym, subst, arith}
use Rattle.std.specs.Prelude.{IsSomeAnd, slice_get}
use Rattle.std.specs.List.{All, EachIndex}
use Rattle.std.specs.Vec.Iter.{into_iter_items}
use Rattle.std.proofs.lemmas.List.Elements.{recursion_from_All}
use Rattle.station.specs.declared.station.Station.{Station}
use Rattle.station.specs.declared.tokens.Feeder.{Feeder}
use Rattle.station.specs.Tokens.{IsFeederOf}
use Rattle.live_picture.proofs.tests.opening.two_feeders.Goals as goal

own_two : (station : Station) (all rest : List Feeder) (one other : Feeder) → all ≡ one ∷ other ∷ rest → All (IsFeederOf station) all → IsFeederOf station one × IsFeederOf station other
own_two station all rest one other are own = let each = recursion_from_All (IsFeederOf station) (one ∷ other ∷ rest) (subst (λ l. All (IsFeederOf station) l) are own) in (each.0, each.1.0)

feeds_two : (all rest : List Feeder) (one other : Feeder) → all ≡ one ∷ other ∷ rest → EachIndex all (λ n. IsSomeAnd (slice_get all n) (λ x. x.feed ≡ n)) → (one.feed ≡ 0) × (other.feed ≡ 1)
feeds_two all rest one other are each = let at = subst (λ l. EachIndex l (λ n. IsSomeAnd (slice_get l n) (λ (x : Feeder). x.feed ≡ n))) are each in (at 0 (omega arith), at 1 (omega arith))

pub returns-clause-own : goal.returns-clause-own
returns-clause-own c = let are : c.args.feeders.items ≡ c.in-Some.one ∷ c.in-Some-next.other ∷ into_iter_items c.next-2.new.self = sym c.into_iter-feeders.ensures.rest ∙ (c.in-Some.ensures.items ∙ ap (λ l. c.in-Some.one ∷ l) c.in-Some-next.ensures.items) in
    own_two c.args.station.now c.args.feeders.items (into_iter_items c.next-2.new.self) c.in-Some.one c.in-Some-next.other are c.requires.own

pub returns-clause-feeds : goal.returns-clause-feeds
returns-clause-feeds c = let are : c.args.feeders.items ≡ c.in-Some.one ∷ c.in-Some-next.other ∷ into_iter_items c.next-2.new.self = sym c.into_iter-feeders.ensures.rest ∙ (c.in-Some.ensures.items ∙ ap (λ l. c.in-Some.one ∷ l) c.in-Some-next.ensures.items) in
    feeds_two c.args.feeders.items (into_iter_items c.next-2.new.self) c.in-Some.one c.in-Some-next.other are c.requires.feeds
