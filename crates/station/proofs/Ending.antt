-- When all tokens come back, each event is that of exactly one of them.
use Rattle.std.proofs.Common.{◌≡◌, ◌∙◌, ap, sym, subst, refl, ℕ, zero, suc, ◌+◌, ◌-◌, ◌<◌, ◌≤◌, ◌==◌, Bool, true, true≢false, List, [], ◌∷◌, ◌++◌, length, map, arith, ne_eqb}
use Rattle.std.specs.Prelude.{Option, Some, None, slice_get, sum_by, count_by, filter_map}
use Rattle.std.specs.List.{All, Any}
use Rattle.std.proofs.lemmas.List.Elements.{All-from_recursion, recursion_from_All, All-cons, All-append, All-map, All-weaker}
use Rattle.std.proofs.lemmas.List.Sums.{sum_by-append}
use mathlib.Core.Logic.{dite}
use native.Mathlib.Decide.{ℕ_discrete}
use Rattle.turn_lock.specs.Lists.{Begins, is_member, count_of}
use Rattle.turn_lock.specs.Turns.{Token, IsTurnOf, times_made}
use Rattle.turn_lock.proofs.Lists.{is_member_counted, each_left, each_right}
use Rattle.admission_log.specs.declared.events.Event.{Event}
use Rattle.admission_log.specs.Histories.{published_in}
use Rattle.admission_log.specs.declared.events.Event.TheVariants.{Deliver, Tick, Publish, Bias}
use Rattle.station.specs.declared.shared.Base.{Base}
use Rattle.station.specs.declared.station.Station.{Station}
use Rattle.station.specs.declared.tokens.Feeder.{Feeder}
use Rattle.station.specs.declared.tokens.Conductor.{Conductor}
use Rattle.station.specs.declared.tokens.Subscriber.{Subscriber}
use Rattle.station.specs.Added.{AllAt, is_such, stands_at, is_of_feed, is_of_conductor}
use Rattle.station.specs.Tokens.{AreAllTokens}
use Rattle.station.specs.Newest.{is_publication}
use Rattle.station.proofs.Counting.{counted}
use Rattle.station.proofs.Indices.{all_seen}
use Rattle.station.proofs.Members.{any_first, any_later, any_left, any_right, any_map, each_unmapped}

-- the turns, in the order in which they are put together
abbrev pub turns_of : List Feeder → Conductor → List Subscriber → List (Token Event Base)
turns_of feeders conductor subscribers = conductor.turn ∷ (map (λ x. x.turn) feeders ++ map (λ x. x.turn) subscribers)

module _ (station : Station) (feeders : List Feeder) (conductor : Conductor) (subscribers : List Subscriber) (t : AreAllTokens station feeders conductor subscribers) where
  abbrev L : Type 0
  L = Token Event Base

  pub all_own : All (IsTurnOf station.lock) (turns_of feeders conductor subscribers)
  all_own = All-cons (IsTurnOf station.lock) conductor.turn _ t.conductor_own.turn
      (All-append (IsTurnOf station.lock) (map (λ (x : Feeder). x.turn) feeders) (map (λ (x : Subscriber). x.turn) subscribers)
      (All-map (IsTurnOf station.lock) (λ (x : Feeder). x.turn) feeders (λ k d lt. (t.feeders_own k d lt).turn))
      (All-map (IsTurnOf station.lock) (λ (x : Subscriber). x.turn) subscribers (λ k d lt. (t.subscribers_own k d lt).turn)))

  -- a turn of each number is among them
  pub each_there : (n : ℕ) → n < 1 + station.feeds + station.readers → Any (λ (u : L). u.number ≡ n) (turns_of feeders conductor subscribers)
  each_there n lt = dite (ℕ_discrete n 0) (λ z. any_first (λ (u : L). u.number ≡ n) conductor.turn _ (t.conductor_own.number ∙ sym z)) (λ nz. any_later (λ (u : L). u.number ≡ n) conductor.turn _ (rest nz))
    where
      fs : List L
      fs = map (λ (x : Feeder). x.turn) feeders

      ss : List L
      ss = map (λ (x : Subscriber). x.turn) subscribers

      P : L → Type 0
      P u = u.number ≡ n

      fed : (feed : ℕ) → n ≡ feed + 1 → Any (λ (x : Feeder). x.feed ≡ feed) feeders → Any (λ (x : Feeder). x.turn.number ≡ n) feeders
      fed feed up (k, x, lt, e, h) = (k, x, lt, e, subst (λ (y : Feeder). y.turn.number ≡ y.feed + 1) e (t.feeders_own k x lt).number ∙ (ap (λ (m : ℕ). m + 1) h ∙ sym up))

      read : (reader : ℕ) → n ≡ station.feeds + 1 + reader → Any (λ (x : Subscriber). x.reader ≡ reader) subscribers → Any (λ (x : Subscriber). x.turn.number ≡ n) subscribers
      read reader up (k, x, lt, e, h) = (k, x, lt, e, subst (λ (y : Subscriber). y.turn.number ≡ station.feeds + 1 + y.reader) e (t.subscribers_own k x lt).number ∙ (ap (λ (m : ℕ). station.feeds + 1 + m) h ∙ sym up))

      rest : (n ≡ 0 → ⊥) → Any P (fs ++ ss)
      rest nz = dite (ℕ_discrete (n - station.feeds) 0)
          (λ low. any_left P fs ss (any_map (λ (x : Feeder). x.turn) P feeders (fed (n - 1) (omega arith) (t.each_feed (n - 1) (omega arith)))))
          (λ high. any_right P fs ss (any_map (λ (x : Subscriber). x.turn) P subscribers (read (n - station.feeds - 1) (omega arith) (t.each_reader (n - station.feeds - 1) (omega arith)))))

-- ---- whose event it is

made_split : (p : ℕ) (c : Token Event Base) (fs ss : List (Token Event Base)) → times_made p (c ∷ (fs ++ ss)) ≡ count_of p c.mine + (times_made p fs + times_made p ss)
made_split p c fs ss = let f : Token Event Base → ℕ = λ u. count_of p u.mine in
    let one : sum_by f (c ∷ (fs ++ ss)) ≡ sum_by f (c ∷ []) + sum_by f (fs ++ ss) = sum_by-append f (c ∷ []) (fs ++ ss) in
    let two : sum_by f (fs ++ ss) ≡ sum_by f fs + sum_by f ss = sum_by-append f fs ss in omega arith

made_first : (p : ℕ) (c : Token Event Base) (ts : List (Token Event Base)) → times_made p (c ∷ ts) ≡ count_of p c.mine + times_made p ts
made_first p c ts = let f : Token Event Base → ℕ = λ u. count_of p u.mine in
    let one : sum_by f (c ∷ ts) ≡ sum_by f (c ∷ []) + sum_by f ts = sum_by-append f (c ∷ []) ts in omega arith

-- an index that feeders have made is one of a feeder's
made_by : (p : ℕ) (feeders : List Feeder) → 0 < times_made p (map (λ (x : Feeder). x.turn) feeders) → Any (λ (x : Feeder). is_member p x.turn.mine ≡ true) feeders
made_by p [] h = absurd (omega arith)
made_by p (x ∷ xs) h = let P : Feeder → Type 0 = λ y. is_member p y.turn.mine ≡ true in let sum = made_first p x.turn (map (λ (y : Feeder). y.turn) xs) in
    dite (ℕ_discrete (count_of p x.turn.mine) 0) (λ z. any_later P x xs (made_by p xs (omega arith))) (λ n. any_first P x xs (is_member_counted p x.turn.mine (omega arith)))

-- subscribers make none
none_made : (p : ℕ) (subscribers : List Subscriber) → times_made p (map (λ (x : Subscriber). x.turn) subscribers) ≡ 0
none_made p [] = refl
none_made p (x ∷ xs) = let sum = made_first p x.turn (map (λ (y : Subscriber). y.turn) xs) in let none : count_of p x.turn.mine ≡ 0 = ap (count_of p) x.made in let rest = none_made p xs in omega arith

within : (such : Event → Bool) (events : List Event) (p : ℕ) → stands_at such p events ≡ true → p < length events
within such [] p h = absurd (true≢false (sym h))
within such (e ∷ es) zero h = omega arith
within such (e ∷ es) (suc p) h = let l = within such es p h in omega arith

-- no event is a feed's and the conductor's, or that of two feeds
apart : (feed : ℕ) (o : Option Event) → is_such (is_of_feed feed) o ≡ true → is_such is_of_conductor o ≡ true → ⊥
apart feed None f c = true≢false (sym f)
apart feed (Some (Deliver by admitted told other)) f c = true≢false (sym c)
apart feed (Some (Tick time)) f c = true≢false (sym f)
apart feed (Some (Publish number cut)) f c = true≢false (sym f)
apart feed (Some (Bias radar slot bias)) f c = true≢false (sym f)

equal : (a b : ℕ) → (a == b) ≡ true → a ≡ b
equal a b h = dite (ℕ_discrete a b) (λ e. e) (λ n. absurd (true≢false (sym h ∙ ne_eqb a b n)))

one_feed : (feed other : ℕ) (o : Option Event) → is_such (is_of_feed feed) o ≡ true → is_such (is_of_feed other) o ≡ true → other ≡ feed
one_feed feed other None f g = absurd (true≢false (sym f))
one_feed feed other (Some (Deliver by admitted told passed)) f g = sym (equal by other g) ∙ equal by feed f
one_feed feed other (Some (Tick time)) f g = absurd (true≢false (sym f))
one_feed feed other (Some (Publish number cut)) f g = absurd (true≢false (sym f))
one_feed feed other (Some (Bias radar slot bias)) f g = absurd (true≢false (sym f))

module _ (feeders : List Feeder) (conductor : Conductor) (subscribers : List Subscriber) (events : List Event) (begins : All (λ (u : Token Event Base). Begins u.seen events) (turns_of feeders conductor subscribers)) where
  abbrev B : Token Event Base → Type 0
  B u = Begins u.seen events

  pub conductor_begins : Begins conductor.turn.seen events
  conductor_begins = (recursion_from_All B (turns_of feeders conductor subscribers) begins).0

  pub feeders_begin : All (λ (x : Feeder). Begins x.turn.seen events) feeders
  feeders_begin = All-from_recursion (λ (x : Feeder). B x.turn) feeders (each_unmapped (λ (x : Feeder). x.turn) B feeders
      (each_left B (map (λ (x : Feeder). x.turn) feeders) (map (λ (x : Subscriber). x.turn) subscribers) (recursion_from_All B (turns_of feeders conductor subscribers) begins).1))

  pub subscribers_begin : All (λ (x : Subscriber). Begins x.turn.seen events) subscribers
  subscribers_begin = All-from_recursion (λ (x : Subscriber). B x.turn) subscribers (each_unmapped (λ (x : Subscriber). x.turn) B subscribers
      (each_right B (map (λ (x : Feeder). x.turn) feeders) (map (λ (x : Subscriber). x.turn) subscribers) (recursion_from_All B (turns_of feeders conductor subscribers) begins).1))

  pub fed : All (λ (x : Feeder). AllAt (is_of_feed x.feed) x.turn.mine events) feeders
  fed = All-weaker (λ (x : Feeder). B x.turn) (λ (x : Feeder). AllAt (is_of_feed x.feed) x.turn.mine events) (λ x b. all_seen (is_of_feed x.feed) x.turn.mine x.turn.seen events x.made b) feeders feeders_begin

  pub conducted : AllAt is_of_conductor conductor.turn.mine events
  conducted = all_seen is_of_conductor conductor.turn.mine conductor.turn.seen events conductor.made conductor_begins

  module _ (once : (p : ℕ) → p < length events → times_made p (turns_of feeders conductor subscribers) ≡ 1) where
    shares : (p : ℕ) → p < length events → count_of p conductor.turn.mine + times_made p (map (λ (x : Feeder). x.turn) feeders) ≡ 1
    shares p lt = let one = once p lt in let split = made_split p conductor.turn (map (λ (x : Feeder). x.turn) feeders) (map (λ (x : Subscriber). x.turn) subscribers) in let none = none_made p subscribers in omega arith

    -- at an index of a feeder stands a datagram of its feed
    feeder_at : (p : ℕ) → 0 < times_made p (map (λ (x : Feeder). x.turn) feeders) → Any (λ (x : Feeder). (stands_at (is_of_feed x.feed) p events ≡ true) × (is_member p x.turn.mine ≡ true)) feeders
    feeder_at p some = let (k, x, lt, e, h) = made_by p feeders some in (k, x, lt, e, (subst (λ (y : Feeder). AllAt (is_of_feed y.feed) y.turn.mine events) e (fed k x lt) p h, h))

    pub fed_all : (feed p : ℕ) → stands_at (is_of_feed feed) p events ≡ true → Any (λ (x : Feeder). (x.feed ≡ feed) × (is_member p x.turn.mine ≡ true)) feeders
    fed_all feed p at = let one = shares p (within (is_of_feed feed) events p at) in
        dite (ℕ_discrete (count_of p conductor.turn.mine) 0)
        (λ z. let (k, x, lt, e, h) = feeder_at p (omega arith) in (k, x, lt, e, (one_feed feed x.feed (slice_get events p) at h.0, h.1)))
        (λ n. absurd (apart feed (slice_get events p) at (conducted p (is_member_counted p conductor.turn.mine (omega arith)))))

    pub conducted_all : (p : ℕ) → stands_at is_of_conductor p events ≡ true → is_member p conductor.turn.mine ≡ true
    conducted_all p at = let one = shares p (within is_of_conductor events p at) in
        dite (ℕ_discrete (count_of p conductor.turn.mine) 0)
        (λ z. let (k, x, lt, e, h) = feeder_at p (omega arith) in absurd (apart x.feed (slice_get events p) h.0 at))
        (λ n. is_member_counted p conductor.turn.mine (omega arith))

pub subscribers_told : (feeders : List Feeder) (conductor : Conductor) (subscribers : List Subscriber) (events : List Event) → All (λ (u : Token Event Base). u.told ≤ count_by is_publication events) (turns_of feeders conductor subscribers)
    → All (λ (x : Subscriber). x.turn.told ≤ length (filter_map published_in events)) subscribers
subscribers_told feeders conductor subscribers events told = let T : Token Event Base → Type 0 = λ u. u.told ≤ length (filter_map published_in events) in
    let all : All T (turns_of feeders conductor subscribers) = subst (λ (n : ℕ). All (λ (u : Token Event Base). u.told ≤ n) (turns_of feeders conductor subscribers)) (sym (counted events)) told in
    All-from_recursion (λ (x : Subscriber). T x.turn) subscribers (each_unmapped (λ (x : Subscriber). x.turn) T subscribers
    (each_right T (map (λ (x : Feeder). x.turn) feeders) (map (λ (x : Subscriber). x.turn) subscribers) (recursion_from_All T (turns_of feeders conductor subscribers) all).1))
