use Rattle.std.proofs.Common.{rules, ◌≡◌, ◌<◌, ℕ, zero, suc, List, [], ◌∷◌, sym, subst, arith}
use Rattle.std.specs.List.{Any}
use Rattle.std.proofs.lemmas.List.Elements.{All-cons, All-nil}
use Rattle.station.specs.declared.station.Station.{Station}
use Rattle.station.specs.declared.tokens.Feeder.{Feeder}
use Rattle.station.specs.declared.tokens.Conductor.{Conductor}
use Rattle.station.specs.declared.tokens.Subscriber.{Subscriber}
use Rattle.station.specs.Tokens.{IsFeederOf, IsConductorOf, IsSubscriberOf, AreAllTokens}
use Rattle.station.proofs.Members.{any_first, any_later}
use Rattle.station.proofs.tests.beside.closed.Goals as goal

two_feeds : (one other : Feeder) → one.feed ≡ 0 → other.feed ≡ 1 → (feed : ℕ) → feed < 2 → Any (λ (x : Feeder). x.feed ≡ feed) (one ∷ other ∷ [])
two_feeds one other z o zero l = any_first (λ (x : Feeder). x.feed ≡ 0) one (other ∷ []) z
two_feeds one other z o (suc zero) l = any_later (λ (x : Feeder). x.feed ≡ 1) one (other ∷ []) (any_first (λ (x : Feeder). x.feed ≡ 1) other [] o)
two_feeds one other z o (suc (suc n)) l = absurd (omega (arith, l))

one_reader : (by : Subscriber) → by.reader ≡ 0 → (reader : ℕ) → reader < 1 → Any (λ (x : Subscriber). x.reader ≡ reader) (by ∷ [])
one_reader by z zero l = any_first (λ (x : Subscriber). x.reader ≡ 0) by [] z
one_reader by z (suc n) l = absurd (omega (arith, l))

all_tokens : (station : Station) (one other : Feeder) (conductor : Conductor) (by : Subscriber) → station.feeds ≡ 2 → station.readers ≡ 1 → IsFeederOf station one → IsFeederOf station other → one.feed ≡ 0 → other.feed ≡ 1
    → IsConductorOf station conductor → IsSubscriberOf station by → by.reader ≡ 0 → AreAllTokens station (one ∷ other ∷ []) conductor (by ∷ [])
all_tokens station one other conductor by feeds readers own_one own_other z o own own_by r = record {
  feeders_own = All-cons (IsFeederOf station) one (other ∷ []) own_one (All-cons (IsFeederOf station) other [] own_other (All-nil (IsFeederOf station)));
  each_feed = λ feed l. two_feeds one other z o feed (subst (λ n. feed < n) feeds l);
  feed_count = sym feeds;
  conductor_own = own;
  subscribers_own = All-cons (IsSubscriberOf station) by [] own_by (All-nil (IsSubscriberOf station));
  each_reader = λ reader l. one_reader by r reader (subst (λ n. reader < n) readers l);
  reader_count = sym readers;
}

pub close-requires : goal.close-requires
close-requires c = let fs : c.push_reserved-2.new.self.items ≡ c.args.one ∷ c.args.other ∷ [] = search rules in let ss : c.push_reserved-3.new.self.items ≡ c.args.subscriber ∷ [] = search rules in
    record {
      tokens = subst (λ (z : List Feeder × List Subscriber). AreAllTokens c.args.station z.0 c.args.conductor z.1) (λ i. (sym fs i, sym ss i))
          (all_tokens c.args.station c.args.one c.args.other c.args.conductor c.args.subscriber c.requires.counts.0 c.requires.counts.1 c.requires.own.0 c.requires.own.1 c.requires.numbers.0 c.requires.numbers.1 c.requires.own.2 c.requires.own.3 c.requires.numbers.2);
    }
