use Rattle.std.proofs.Common.{rules, ◌≡◌, ◌∙◌, ◌+◌, ap, sym, refl, [], ◌∷◌, ◌++◌, map, length, append_assoc, arith}
use Rattle.std.specs.Vec.Iter.{into_iter_items, into_iter_len}
use Rattle.std.proofs.lemmas.List.{map-append}
use Rattle.std.proofs.lemmas.List.Elements.{All-rest, All-same, All-push}
use Rattle.station.specs.declared.tokens.Subscriber.{Subscriber}
use Rattle.station.specs.Tokens.{HasAddedNone}
use Rattle.station.proofs.Dealing.{counted_on}
use Rattle.station.proofs.station.opening.deal_subscribers.Goals as goal

pub loop-reader-preserved : goal.loop-reader-preserved
loop-reader-preserved c =
    let at = c.loop-reader in
    let steps : into_iter_items at.turns ≡ c.in-Some.turn ∷ into_iter_items c.next.new.self = search rules in
    let gone : into_iter_len c.next.new.self + 1 ≡ into_iter_len at.turns = search rules in
    let turns : map (λ (z : Subscriber). z.turn) c.push_reserved.new.self.items ≡ map (λ (z : Subscriber). z.turn) at.subscribers.items ++ c.in-Some.turn ∷ [] =
    ap (map (λ (z : Subscriber). z.turn)) c.push_reserved.ensures.items ∙ map-append (λ (z : Subscriber). z.turn) at.subscribers.items _ in
    let names : map (λ (z : Subscriber). z.reader) c.push_reserved.new.self.items ≡ map (λ (z : Subscriber). z.reader) at.subscribers.items ++ at.reader ∷ [] =
    ap (map (λ (z : Subscriber). z.reader)) c.push_reserved.ensures.items ∙ map-append (λ (z : Subscriber). z.reader) at.subscribers.items _ in
    record {
      turns = ap (λ l. l ++ into_iter_items c.next.new.self) turns
          ∙ (append_assoc (map (λ (z : Subscriber). z.turn) at.subscribers.items) (c.in-Some.turn ∷ []) (into_iter_items c.next.new.self)
          ∙ (ap (λ l. map (λ (z : Subscriber). z.turn) at.subscribers.items ++ l) (sym steps) ∙ at.invariant.turns));
      named = names ∙ (ap (λ l. l ++ at.reader ∷ []) at.invariant.named ∙ sym (counted_on at.reader));
      count = let short = ap length steps in omega (arith, gone, short, at.invariant.count);
      left = omega (arith, gone, at.invariant.left);
      newcomers = All-rest HasAddedNone c.in-Some.turn (into_iter_items c.next.new.self) (into_iter_items at.turns) steps at.invariant.newcomers;
      room = search rules;
      numbers = All-same (λ (z : Subscriber). z.number ≡ 0) _ _ c.push_reserved.ensures.items (All-push (λ (z : Subscriber). z.number ≡ 0) at.subscribers.items _ at.invariant.numbers refl);
    }
