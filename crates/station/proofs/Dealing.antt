-- Tokens that are dealt in order.
use Rattle.std.proofs.Common.{◌≡◌, ◌∙◌, ap, sym, subst, refl, ℕ, zero, suc, ◌+◌, ◌<◌, List, [], ◌∷◌, ◌++◌, length, map, arith, length-append}
use Rattle.std.specs.Prelude.{Some, IsSomeAnd, slice_get}
use Rattle.std.specs.List.{All, Any, AllByRecursion, EachIndex, range_with_len}
use Rattle.std.proofs.lemmas.List.{length-map}
use Rattle.std.proofs.lemmas.List.Elements.{All-from_recursion, recursion_from_All, All-cons, All-nil}
use Rattle.turn_lock.specs.Turns.{Token, LockFacts, IsTurnOf, newcomer}
use Rattle.turn_lock.proofs.Lists.{each_right}
use Rattle.admission_log.specs.declared.events.Event.{Event}
use Rattle.station.specs.declared.shared.Base.{Base}
use Rattle.station.specs.declared.station.Station.{Station}
use Rattle.station.specs.declared.tokens.Feeder.{Feeder}
use Rattle.station.specs.declared.tokens.Conductor.{Conductor}
use Rattle.station.specs.declared.tokens.Subscriber.{Subscriber}
use Rattle.station.specs.Tokens.{HasAddedNone, IsFeederOf, IsSubscriberOf, IsNewFeeder, IsNewConductor, IsNewSubscriber, AreAllTokens}
use Rattle.station.proofs.Members.{any_first, any_later}

last : (a n j : ℕ) → a + n ≡ j → range_with_len a (suc n) ≡ range_with_len a n ++ j ∷ []
last a zero j e = ap (λ (z : ℕ). z ∷ []) (omega (arith, e))
last a (suc n) j e = ap (λ (l : List ℕ). a ∷ l) (last (a + 1) n j (omega (arith, e)))

-- one number more
pub counted_on : (n : ℕ) → range_with_len 0 (n + 1) ≡ range_with_len 0 n ++ n ∷ []
counted_on n = let e : suc n ≡ n + 1 = omega arith in subst (λ m. range_with_len 0 m ≡ range_with_len 0 n ++ n ∷ []) e (last 0 n n (omega arith))

named_at : (a n m : ℕ) → n < m → slice_get (range_with_len a m) n ≡ Some (a + n)
named_at a n zero lt = absurd (omega (arith, lt))
named_at a zero (suc m) lt = ap Some (omega arith)
named_at a (suc n) (suc m) lt = let up : a + 1 + n ≡ a + suc n = omega arith in named_at (a + 1) n m (omega (arith, lt)) ∙ ap Some up

module _ {X : Type 0} (f : X → Token Event Base) (g : X → ℕ) where
  dealt_from : (F : ℕ → Token Event Base) (G : ℕ → ℕ) (xs : List X) (rest : List (Token Event Base)) → ((n : ℕ) → n < length xs → slice_get (map f xs ++ rest) n ≡ Some (F n)) → ((n : ℕ) → n < length xs → slice_get (map g xs) n ≡ Some (G n))
      → (n : ℕ) → n < length xs → IsSomeAnd (slice_get xs n) (λ x. (f x ≡ F n) × (g x ≡ G n))
  dealt_from F G [] rest turns named n lt = absurd (omega (arith, lt))
  dealt_from F G (x ∷ xs) rest turns named zero lt = let t = turns zero lt in let m = named zero lt in (cc, cc)
  dealt_from F G (x ∷ xs) rest turns named (suc n) lt = dealt_from (λ m. F (suc m)) (λ m. G (suc m)) xs rest (λ m l. turns (suc m) (omega (arith, l))) (λ m l. named (suc m) (omega (arith, l))) n (omega (arith, lt))

  -- tokens that were dealt in order have the turns in their order
  pub dealt : (F : ℕ → Token Event Base) (count : ℕ) (xs : List X) (rest all : List (Token Event Base)) → map f xs ++ rest ≡ all → map g xs ≡ range_with_len 0 count → length xs ≡ count → ((n : ℕ) → n < length xs → slice_get all n ≡ Some (F n))
      → (n : ℕ) → n < length xs → IsSomeAnd (slice_get xs n) (λ x. (f x ≡ F n) × (g x ≡ n))
  dealt F count xs rest all are named size turns = dealt_from F (λ n. n) xs rest (λ n lt. ap (λ (l : List (Token Event Base)). slice_get l n) are ∙ turns n lt)
      (λ n lt. ap (λ (l : List ℕ). slice_get l n) named ∙ (named_at 0 n count (subst (λ m. n < m) size lt) ∙ ap Some (omega arith)))

-- the turn at an index, behind one or behind a list
pub behind_one : {A : Type 0} (x : A) (xs : List A) (n : ℕ) → slice_get (x ∷ xs) (n + 1) ≡ slice_get xs n
behind_one x xs n = let e : n + 1 ≡ suc n = omega arith in ap (slice_get (x ∷ xs)) e

pub behind_list : {A : Type 0} (xs ys : List A) (n k : ℕ) → k ≡ length xs + n → slice_get (xs ++ ys) k ≡ slice_get ys n
behind_list [] ys n k e = ap (slice_get ys) (omega (arith, e))
behind_list (x ∷ xs) ys n zero e = absurd (omega (arith, e))
behind_list (x ∷ xs) ys n (suc k) e = behind_list xs ys n k (omega (arith, e))

module _ {A : Type 0} (P : A → Type 0) where
  pub some_at : (xs : List A) (n : ℕ) → IsSomeAnd (slice_get xs n) P → Any P xs
  some_at [] n h = absurd h
  some_at (x ∷ xs) zero h = any_first P x xs h
  some_at (x ∷ xs) (suc n) h = any_later P x xs (some_at xs n h)

  pub all_at : (xs : List A) → ((n : ℕ) → n < length xs → IsSomeAnd (slice_get xs n) P) → All P xs
  all_at [] each = All-nil P
  all_at (x ∷ xs) each = All-cons P x xs (each zero (omega arith)) (all_at xs (λ n lt. each (suc n) (omega (arith, lt))))

  pub all_behind : (xs ys : List A) → All P (xs ++ ys) → All P ys
  all_behind xs ys all = All-from_recursion P ys (each_right P xs ys (recursion_from_All P (xs ++ ys) all))

pub weaker_at : {A : Type 0} {P Q : A → Type 0} → ((x : A) → P x → Q x) → (xs : List A) (n : ℕ) → IsSomeAnd (slice_get xs n) P → IsSomeAnd (slice_get xs n) Q
weaker_at f [] n h = absurd h
weaker_at f (x ∷ xs) zero h = f x h
weaker_at f (x ∷ xs) (suc n) h = weaker_at f xs n h

-- a lock's turns have added nothing yet
pub all_newcomers : (lock : LockFacts Base) (turns : List (Token Event Base)) → EachIndex turns (λ n. slice_get turns n ≡ Some (newcomer lock n)) → All HasAddedNone turns
all_newcomers lock turns each = all_at HasAddedNone turns (λ n lt. subst (λ o. IsSomeAnd o HasAddedNone) (sym (each n lt)) refl)

-- ---- the tokens of a station that is opened

and_at : {A : Type 0} (P Q : A → Type 0) (xs : List A) (n : ℕ) → IsSomeAnd (slice_get xs n) P → AllByRecursion Q xs → IsSomeAnd (slice_get xs n) (λ x. P x × Q x)
and_at P Q [] n h q = absurd h
and_at P Q (x ∷ xs) zero h q = (h, q.0)
and_at P Q (x ∷ xs) (suc n) h q = and_at P Q xs n h q.1

-- behind the head's turn
pub tail_at : (lock : LockFacts Base) (turns : List (Token Event Base)) (head : Token Event Base) (tail : List (Token Event Base)) → EachIndex turns (λ n. slice_get turns n ≡ Some (newcomer lock n)) → turns ≡ head ∷ tail
    → (n : ℕ) → n < length tail → slice_get tail n ≡ Some (newcomer lock (n + 1))
tail_at lock turns head tail each are n lt = sym (behind_one head tail n) ∙ (ap (λ (l : List (Token Event Base)). slice_get l (n + 1)) (sym are) ∙ each (n + 1) (omega (arith, ap length are, lt)))

pub head_is : (lock : LockFacts Base) (turns : List (Token Event Base)) (head : Token Event Base) (tail : List (Token Event Base)) → EachIndex turns (λ n. slice_get turns n ≡ Some (newcomer lock n)) → turns ≡ head ∷ tail → head ≡ newcomer lock 0
head_is lock turns head tail each are = let e : Some head ≡ Some (newcomer lock 0) = ap (λ (l : List (Token Event Base)). slice_get l 0) (sym are) ∙ each 0 (omega (arith, ap length are)) in cc

pub new_feeders : (station : Station) (fs : List Feeder) (tail rest : List (Token Event Base)) (count : ℕ) → map (λ x. x.turn) fs ++ rest ≡ tail → map (λ x. x.feed) fs ≡ range_with_len 0 count → length fs ≡ count
    → ((n : ℕ) → n < length tail → slice_get tail n ≡ Some (newcomer station.lock (n + 1))) → (n : ℕ) → n < length fs → IsSomeAnd (slice_get fs n) (IsNewFeeder station n)
new_feeders station fs tail rest count are named size turns n lt = let long = ap length are in let sum = length-append (map (λ (x : Feeder). x.turn) fs) rest in let same = length-map fs (λ (x : Feeder). x.turn) in
    weaker_at (λ x h. record { turn = h.0; feed_is = h.1 }) fs n (dealt (λ (x : Feeder). x.turn) (λ (x : Feeder). x.feed) (λ m. newcomer station.lock (m + 1)) count fs rest tail are named size (λ m l. turns m (omega (arith, long, sum, same, l))) n lt)

pub new_subscribers : (station : Station) (fs : List Feeder) (ss : List Subscriber) (tail rest end : List (Token Event Base)) (count : ℕ) → map (λ x. x.turn) fs ++ rest ≡ tail → length fs ≡ station.feeds → map (λ x. x.turn) ss ++ end ≡ rest
    → map (λ x. x.reader) ss ≡ range_with_len 0 count → length ss ≡ count → All (λ x. x.number ≡ 0) ss → ((n : ℕ) → n < length tail → slice_get tail n ≡ Some (newcomer station.lock (n + 1)))
    → (n : ℕ) → n < length ss → IsSomeAnd (slice_get ss n) (IsNewSubscriber station n)
new_subscribers station fs ss tail rest end count are fed ends named size numbers turns n lt = let long = ap length are in let sum = length-append (map (λ (x : Feeder). x.turn) fs) rest in let same = length-map fs (λ (x : Feeder). x.turn) in
    let long' = ap length ends in let sum' = length-append (map (λ (x : Subscriber). x.turn) ss) end in let same' = length-map ss (λ (x : Subscriber). x.turn) in
    let at : (m : ℕ) → m < length ss → slice_get rest m ≡ Some (newcomer station.lock (station.feeds + 1 + m)) = λ m l.
    let up : station.feeds + m + 1 ≡ station.feeds + 1 + m = omega arith in
    sym (behind_list (map (λ (x : Feeder). x.turn) fs) rest m (station.feeds + m) (omega (arith, same, fed))) ∙ (ap (λ (l : List (Token Event Base)). slice_get l (station.feeds + m)) are
    ∙ (turns (station.feeds + m) (omega (arith, long, sum, same, fed, long', sum', same', l)) ∙ ap (λ (k : ℕ). Some (newcomer station.lock k)) up)) in
    weaker_at (λ x h. record { turn = h.0.0; reader_is = h.0.1; number = h.1 }) ss n
    (and_at _ _ ss n (dealt (λ (x : Subscriber). x.turn) (λ (x : Subscriber). x.reader) (λ m. newcomer station.lock (station.feeds + 1 + m)) count ss end rest ends named size at n lt) (recursion_from_All (λ (x : Subscriber). x.number ≡ 0) ss numbers))

own_new : (lock : LockFacts Base) (turn : Token Event Base) (n : ℕ) → turn ≡ newcomer lock n → IsTurnOf lock turn
own_new lock turn n e = subst (IsTurnOf lock) (sym e) record { table = refl; base = refl }

pub all_tokens : (station : Station) (fs : List Feeder) (c : Conductor) (ss : List Subscriber) → ((n : ℕ) → n < length fs → IsSomeAnd (slice_get fs n) (IsNewFeeder station n)) → length fs ≡ station.feeds → IsNewConductor station c
    → ((n : ℕ) → n < length ss → IsSomeAnd (slice_get ss n) (IsNewSubscriber station n)) → length ss ≡ station.readers → AreAllTokens station fs c ss
all_tokens station fs c ss feeders fed new subscribers read = record {
  feeders_own = all_at (IsFeederOf station) fs (λ n lt. weaker_at (λ x h. record { turn = own_new station.lock x.turn (n + 1) h.turn; number = ap (λ (t : Token Event Base). t.number) h.turn ∙ ap (λ (m : ℕ). m + 1) (sym h.feed_is) }) fs n (feeders n lt));
  each_feed = λ feed lt. some_at (λ (x : Feeder). x.feed ≡ feed) fs feed (weaker_at (λ x h. h.feed_is) fs feed (feeders feed (omega (arith, lt, fed))));
  feed_count = fed;
  conductor_own = record { turn = own_new station.lock c.turn 0 new.turn; number = ap (λ (t : Token Event Base). t.number) new.turn; roomy = new.roomy };
  subscribers_own = all_at (IsSubscriberOf station) ss (λ n lt. weaker_at (λ x h. record { turn = own_new station.lock x.turn (station.feeds + 1 + n) h.turn; number = ap (λ (t : Token Event Base). t.number) h.turn ∙ ap (λ (m : ℕ). station.feeds + 1 + m) (sym h.reader_is) }) ss n (subscribers n lt));
  each_reader = λ reader lt. some_at (λ (x : Subscriber). x.reader ≡ reader) ss reader (weaker_at (λ x h. h.reader_is) ss reader (subscribers reader (omega (arith, lt, read))));
  reader_count = read;
}
