-- The tokens of two sites and a conductor are all tokens of a station of two feeds and two readers.
use Rattle.std.proofs.Common.{◌≡◌, ◌<◌, ℕ, zero, suc, [], ◌∷◌, sym, subst, arith}
use Rattle.std.specs.List.{Any}
use Rattle.std.proofs.lemmas.List.Elements.{All-cons, All-nil}
use Rattle.station.specs.declared.station.Station.{Station}
use Rattle.station.specs.declared.tokens.Feeder.{Feeder}
use Rattle.station.specs.declared.tokens.Conductor.{Conductor}
use Rattle.station.specs.declared.tokens.Subscriber.{Subscriber}
use Rattle.station.specs.Tokens.{IsFeederOf, IsConductorOf, IsSubscriberOf, AreAllTokens}
use Rattle.station.proofs.Members.{any_first, any_later}

-- two things with the numbers 0 and 1
two_numbers : {X : Type 0} (number : X → ℕ) (one other : X) → number one ≡ 0 → number other ≡ 1 → (n : ℕ) → n < 2 → Any (λ (x : X). number x ≡ n) (one ∷ other ∷ [])
two_numbers number one other z o zero l = any_first _ one (other ∷ []) z
two_numbers number one other z o (suc zero) l = any_later _ one (other ∷ []) (any_first _ other [] o)
two_numbers number one other z o (suc (suc n)) l = absurd (omega (arith, l))

pub all_tokens : (station : Station) (one other : Feeder) (conductor : Conductor) (first second : Subscriber) → station.feeds ≡ 2 → station.readers ≡ 2 → IsFeederOf station one → IsFeederOf station other → IsConductorOf station conductor
    → IsSubscriberOf station first → IsSubscriberOf station second → one.feed ≡ 0 → other.feed ≡ 1 → first.reader ≡ 0 → second.reader ≡ 1 → AreAllTokens station (one ∷ other ∷ []) conductor (first ∷ second ∷ [])
all_tokens station one other conductor first second feeds readers own_one own_other own own_first own_second z o z' o' = record {
  feeders_own = All-cons (IsFeederOf station) one (other ∷ []) own_one (All-cons (IsFeederOf station) other [] own_other (All-nil (IsFeederOf station)));
  each_feed = λ feed l. two_numbers (λ (x : Feeder). x.feed) one other z o feed (subst (λ n. feed < n) feeds l);
  feed_count = sym feeds;
  conductor_own = own;
  subscribers_own = All-cons (IsSubscriberOf station) first (second ∷ []) own_first (All-cons (IsSubscriberOf station) second [] own_second (All-nil (IsSubscriberOf station)));
  each_reader = λ reader l. two_numbers (λ (x : Subscriber). x.reader) first second z' o' reader (subst (λ n. reader < n) readers l);
  reader_count = sym readers;
}
