use Rattle.std.proofs.Common.{rules, ◌≡◌, List, [], ◌∷◌, sym, subst}
use Rattle.station.specs.declared.tokens.Feeder.{Feeder}
use Rattle.station.specs.declared.tokens.Subscriber.{Subscriber}
use Rattle.station.specs.Tokens.{AreAllTokens}
use Rattle.live_picture.proofs.Closing.{all_tokens}
use Rattle.live_picture.proofs.tests.opening.closed.Goals as goal

pub close-requires : goal.close-requires
close-requires c =
    let fs : c.push_reserved-3.new.self.items ≡ c.args.one.0 ∷ c.args.other.0 ∷ [] = search rules in let ss : c.push_reserved-4.new.self.items ≡ c.args.one.1 ∷ c.args.other.1 ∷ [] = search rules in
    record {
      tokens = subst (λ (z : List Feeder × List Subscriber). AreAllTokens c.args.station z.0 c.args.conductor z.1) (λ i. (sym fs i, sym ss i))
          (all_tokens c.args.station c.args.one.0 c.args.other.0 c.args.conductor c.args.one.1 c.args.other.1 c.requires.counts.0 c.requires.counts.1 c.requires.own.0 c.requires.own.1 c.requires.own.2 c.requires.own.3 c.requires.own.4
          c.requires.numbers.0 c.requires.numbers.1 c.requires.numbers.2 c.requires.numbers.3);
    }
