use Rattle.std.proofs.Common.{rules, ◌≡◌, ◌∙◌, ◌+◌, ap, sym, [], ◌∷◌, ◌++◌, map, length, append_assoc, arith}
use Rattle.std.specs.Vec.Iter.{into_iter_items, into_iter_len}
use Rattle.std.proofs.lemmas.List.{map-append}
use Rattle.std.proofs.lemmas.List.Elements.{All-rest}
use Rattle.station.specs.declared.tokens.Feeder.{Feeder}
use Rattle.station.specs.Tokens.{HasAddedNone}
use Rattle.station.proofs.Dealing.{counted_on}
use Rattle.station.proofs.station.opening.deal_feeders.Goals as goal

pub loop-feed-preserved : goal.loop-feed-preserved
loop-feed-preserved c =
    let at = c.loop-feed in
    let steps : into_iter_items at.turns ≡ c.in-Some.turn ∷ into_iter_items c.next.new.self = search rules in
    let gone : into_iter_len c.next.new.self + 1 ≡ into_iter_len at.turns = search rules in
    let turns : map (λ (z : Feeder). z.turn) c.push_reserved.new.self.items ≡ map (λ (z : Feeder). z.turn) at.feeders.items ++ c.in-Some.turn ∷ [] =
    ap (map (λ (z : Feeder). z.turn)) c.push_reserved.ensures.items ∙ map-append (λ (z : Feeder). z.turn) at.feeders.items _ in
    let names : map (λ (z : Feeder). z.feed) c.push_reserved.new.self.items ≡ map (λ (z : Feeder). z.feed) at.feeders.items ++ at.feed ∷ [] =
    ap (map (λ (z : Feeder). z.feed)) c.push_reserved.ensures.items ∙ map-append (λ (z : Feeder). z.feed) at.feeders.items _ in
    record {
      turns = ap (λ l. l ++ into_iter_items c.next.new.self) turns
          ∙ (append_assoc (map (λ (z : Feeder). z.turn) at.feeders.items) (c.in-Some.turn ∷ []) (into_iter_items c.next.new.self)
          ∙ (ap (λ l. map (λ (z : Feeder). z.turn) at.feeders.items ++ l) (sym steps) ∙ at.invariant.turns));
      named = names ∙ (ap (λ l. l ++ at.feed ∷ []) at.invariant.named ∙ sym (counted_on at.feed));
      count = let short = ap length steps in omega (arith, gone, short, at.invariant.count);
      left = omega (arith, gone, at.invariant.left);
      newcomers = All-rest HasAddedNone c.in-Some.turn (into_iter_items c.next.new.self) (into_iter_items at.turns) steps at.invariant.newcomers;
      room = search rules;
    }
