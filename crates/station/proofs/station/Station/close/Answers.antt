use Rattle.std.proofs.Common.{◌≡◌, ◌∙◌, ◌+◌, ◌<◌, ◌≤◌, ap, sym, subst, List, [], ◌∷◌, ◌++◌, ℕ, map, length, arith}
use Rattle.std.specs.Prelude.{count_by}
use Rattle.std.specs.List.{All, Any}
use Rattle.turn_lock.specs.Lists.{Begins}
use Rattle.turn_lock.specs.Turns.{Token, IsTurnOf, times_made}
use Rattle.admission_log.specs.declared.events.Event.{Event}
use Rattle.station.specs.declared.shared.Base.{Base}
use Rattle.station.specs.declared.tokens.Feeder.{Feeder}
use Rattle.station.specs.declared.tokens.Subscriber.{Subscriber}
use Rattle.station.specs.Newest.{is_publication}
use Rattle.station.proofs.Ending.{turns_of, all_own, each_there, feeders_begin, conductor_begins, subscribers_begin, fed, fed_all, conducted, conducted_all, subscribers_told}
use Rattle.station.proofs.station.Station.close.Goals as goal

pub close-requires-clause-own : goal.close-requires-clause-own
close-requires-clause-own c = let are : c.take_subscribers.new.turns.items ≡ turns_of c.args.feeders.items c.args.conductor c.args.subscribers.items =
    c.take_subscribers.ensures.turns ∙ ap (λ l. l ++ map (λ (x : Subscriber). x.turn) c.args.subscribers.items) (c.take_feeders.ensures.turns ∙ ap (λ l. l ++ map (λ (x : Feeder). x.turn) c.args.feeders.items) (c.push_reserved.ensures.items ∙ ap (λ l. l ++ c.args.conductor.turn ∷ []) c.requires.tokens.conductor_own.roomy.0)) in
    subst (λ (l : List (Token Event Base)). All (IsTurnOf c.args.self.lock) l) (sym are) (all_own c.args.self c.args.feeders.items c.args.conductor c.args.subscribers.items c.requires.tokens)

pub close-requires-clause-all : goal.close-requires-clause-all
close-requires-clause-all c = let are : c.take_subscribers.new.turns.items ≡ turns_of c.args.feeders.items c.args.conductor c.args.subscribers.items =
    c.take_subscribers.ensures.turns ∙ ap (λ l. l ++ map (λ (x : Subscriber). x.turn) c.args.subscribers.items) (c.take_feeders.ensures.turns ∙ ap (λ l. l ++ map (λ (x : Feeder). x.turn) c.args.feeders.items) (c.push_reserved.ensures.items ∙ ap (λ l. l ++ c.args.conductor.turn ∷ []) c.requires.tokens.conductor_own.roomy.0)) in
    λ n lt. subst (λ (l : List (Token Event Base)). Any (λ u. u.number ≡ n) l) (sym are) (each_there c.args.self c.args.feeders.items c.args.conductor c.args.subscribers.items c.requires.tokens n (omega (arith, lt, c.args.self.seats)))

pub returns-clause-feeders_begin : goal.returns-clause-feeders_begin
returns-clause-feeders_begin c = let are : c.take_subscribers.new.turns.items ≡ turns_of c.args.feeders.items c.args.conductor c.args.subscribers.items =
    c.take_subscribers.ensures.turns ∙ ap (λ l. l ++ map (λ (x : Subscriber). x.turn) c.args.subscribers.items) (c.take_feeders.ensures.turns ∙ ap (λ l. l ++ map (λ (x : Feeder). x.turn) c.args.feeders.items) (c.push_reserved.ensures.items ∙ ap (λ l. l ++ c.args.conductor.turn ∷ []) c.requires.tokens.conductor_own.roomy.0)) in
    let begins : All (λ (u : Token Event Base). Begins u.seen c.into_parts-start.result.1.items) (turns_of c.args.feeders.items c.args.conductor c.args.subscribers.items) =
    subst (λ (z : List (Token Event Base) × List Event). All (λ u. Begins u.seen z.1) z.0) (λ i. (are i, sym c.into_parts-start.ensures.events i)) c.close.ensures.begins in
    feeders_begin c.args.feeders.items c.args.conductor c.args.subscribers.items c.into_parts-start.result.1.items begins

pub returns-clause-conductor_begins : goal.returns-clause-conductor_begins
returns-clause-conductor_begins c = let are : c.take_subscribers.new.turns.items ≡ turns_of c.args.feeders.items c.args.conductor c.args.subscribers.items =
    c.take_subscribers.ensures.turns ∙ ap (λ l. l ++ map (λ (x : Subscriber). x.turn) c.args.subscribers.items) (c.take_feeders.ensures.turns ∙ ap (λ l. l ++ map (λ (x : Feeder). x.turn) c.args.feeders.items) (c.push_reserved.ensures.items ∙ ap (λ l. l ++ c.args.conductor.turn ∷ []) c.requires.tokens.conductor_own.roomy.0)) in
    let begins : All (λ (u : Token Event Base). Begins u.seen c.into_parts-start.result.1.items) (turns_of c.args.feeders.items c.args.conductor c.args.subscribers.items) =
    subst (λ (z : List (Token Event Base) × List Event). All (λ u. Begins u.seen z.1) z.0) (λ i. (are i, sym c.into_parts-start.ensures.events i)) c.close.ensures.begins in
    conductor_begins c.args.feeders.items c.args.conductor c.args.subscribers.items c.into_parts-start.result.1.items begins

pub returns-clause-subscribers_begin : goal.returns-clause-subscribers_begin
returns-clause-subscribers_begin c = let are : c.take_subscribers.new.turns.items ≡ turns_of c.args.feeders.items c.args.conductor c.args.subscribers.items =
    c.take_subscribers.ensures.turns ∙ ap (λ l. l ++ map (λ (x : Subscriber). x.turn) c.args.subscribers.items) (c.take_feeders.ensures.turns ∙ ap (λ l. l ++ map (λ (x : Feeder). x.turn) c.args.feeders.items) (c.push_reserved.ensures.items ∙ ap (λ l. l ++ c.args.conductor.turn ∷ []) c.requires.tokens.conductor_own.roomy.0)) in
    let begins : All (λ (u : Token Event Base). Begins u.seen c.into_parts-start.result.1.items) (turns_of c.args.feeders.items c.args.conductor c.args.subscribers.items) =
    subst (λ (z : List (Token Event Base) × List Event). All (λ u. Begins u.seen z.1) z.0) (λ i. (are i, sym c.into_parts-start.ensures.events i)) c.close.ensures.begins in
    subscribers_begin c.args.feeders.items c.args.conductor c.args.subscribers.items c.into_parts-start.result.1.items begins

pub returns-clause-fed : goal.returns-clause-fed
returns-clause-fed c = let are : c.take_subscribers.new.turns.items ≡ turns_of c.args.feeders.items c.args.conductor c.args.subscribers.items =
    c.take_subscribers.ensures.turns ∙ ap (λ l. l ++ map (λ (x : Subscriber). x.turn) c.args.subscribers.items) (c.take_feeders.ensures.turns ∙ ap (λ l. l ++ map (λ (x : Feeder). x.turn) c.args.feeders.items) (c.push_reserved.ensures.items ∙ ap (λ l. l ++ c.args.conductor.turn ∷ []) c.requires.tokens.conductor_own.roomy.0)) in
    let begins : All (λ (u : Token Event Base). Begins u.seen c.into_parts-start.result.1.items) (turns_of c.args.feeders.items c.args.conductor c.args.subscribers.items) =
    subst (λ (z : List (Token Event Base) × List Event). All (λ u. Begins u.seen z.1) z.0) (λ i. (are i, sym c.into_parts-start.ensures.events i)) c.close.ensures.begins in
    fed c.args.feeders.items c.args.conductor c.args.subscribers.items c.into_parts-start.result.1.items begins

pub returns-clause-conducted : goal.returns-clause-conducted
returns-clause-conducted c = let are : c.take_subscribers.new.turns.items ≡ turns_of c.args.feeders.items c.args.conductor c.args.subscribers.items =
    c.take_subscribers.ensures.turns ∙ ap (λ l. l ++ map (λ (x : Subscriber). x.turn) c.args.subscribers.items) (c.take_feeders.ensures.turns ∙ ap (λ l. l ++ map (λ (x : Feeder). x.turn) c.args.feeders.items) (c.push_reserved.ensures.items ∙ ap (λ l. l ++ c.args.conductor.turn ∷ []) c.requires.tokens.conductor_own.roomy.0)) in
    let begins : All (λ (u : Token Event Base). Begins u.seen c.into_parts-start.result.1.items) (turns_of c.args.feeders.items c.args.conductor c.args.subscribers.items) =
    subst (λ (z : List (Token Event Base) × List Event). All (λ u. Begins u.seen z.1) z.0) (λ i. (are i, sym c.into_parts-start.ensures.events i)) c.close.ensures.begins in
    conducted c.args.feeders.items c.args.conductor c.args.subscribers.items c.into_parts-start.result.1.items begins

pub returns-clause-fed_all : goal.returns-clause-fed_all
returns-clause-fed_all c = let are : c.take_subscribers.new.turns.items ≡ turns_of c.args.feeders.items c.args.conductor c.args.subscribers.items =
    c.take_subscribers.ensures.turns ∙ ap (λ l. l ++ map (λ (x : Subscriber). x.turn) c.args.subscribers.items) (c.take_feeders.ensures.turns ∙ ap (λ l. l ++ map (λ (x : Feeder). x.turn) c.args.feeders.items) (c.push_reserved.ensures.items ∙ ap (λ l. l ++ c.args.conductor.turn ∷ []) c.requires.tokens.conductor_own.roomy.0)) in
    let begins : All (λ (u : Token Event Base). Begins u.seen c.into_parts-start.result.1.items) (turns_of c.args.feeders.items c.args.conductor c.args.subscribers.items) =
    subst (λ (z : List (Token Event Base) × List Event). All (λ u. Begins u.seen z.1) z.0) (λ i. (are i, sym c.into_parts-start.ensures.events i)) c.close.ensures.begins in
    let once : (p : ℕ) → p < length c.into_parts-start.result.1.items → times_made p (turns_of c.args.feeders.items c.args.conductor c.args.subscribers.items) ≡ 1 =
    subst (λ (z : List (Token Event Base) × List Event). (p : ℕ) → p < length z.1 → times_made p z.0 ≡ 1) (λ i. (are i, sym c.into_parts-start.ensures.events i)) c.close.ensures.made_once in
    fed_all c.args.feeders.items c.args.conductor c.args.subscribers.items c.into_parts-start.result.1.items begins once

pub returns-clause-conducted_all : goal.returns-clause-conducted_all
returns-clause-conducted_all c = let are : c.take_subscribers.new.turns.items ≡ turns_of c.args.feeders.items c.args.conductor c.args.subscribers.items =
    c.take_subscribers.ensures.turns ∙ ap (λ l. l ++ map (λ (x : Subscriber). x.turn) c.args.subscribers.items) (c.take_feeders.ensures.turns ∙ ap (λ l. l ++ map (λ (x : Feeder). x.turn) c.args.feeders.items) (c.push_reserved.ensures.items ∙ ap (λ l. l ++ c.args.conductor.turn ∷ []) c.requires.tokens.conductor_own.roomy.0)) in
    let begins : All (λ (u : Token Event Base). Begins u.seen c.into_parts-start.result.1.items) (turns_of c.args.feeders.items c.args.conductor c.args.subscribers.items) =
    subst (λ (z : List (Token Event Base) × List Event). All (λ u. Begins u.seen z.1) z.0) (λ i. (are i, sym c.into_parts-start.ensures.events i)) c.close.ensures.begins in
    let once : (p : ℕ) → p < length c.into_parts-start.result.1.items → times_made p (turns_of c.args.feeders.items c.args.conductor c.args.subscribers.items) ≡ 1 =
    subst (λ (z : List (Token Event Base) × List Event). (p : ℕ) → p < length z.1 → times_made p z.0 ≡ 1) (λ i. (are i, sym c.into_parts-start.ensures.events i)) c.close.ensures.made_once in
    conducted_all c.args.feeders.items c.args.conductor c.args.subscribers.items c.into_parts-start.result.1.items begins once

pub returns-clause-told : goal.returns-clause-told
returns-clause-told c = let are : c.take_subscribers.new.turns.items ≡ turns_of c.args.feeders.items c.args.conductor c.args.subscribers.items =
    c.take_subscribers.ensures.turns ∙ ap (λ l. l ++ map (λ (x : Subscriber). x.turn) c.args.subscribers.items) (c.take_feeders.ensures.turns ∙ ap (λ l. l ++ map (λ (x : Feeder). x.turn) c.args.feeders.items) (c.push_reserved.ensures.items ∙ ap (λ l. l ++ c.args.conductor.turn ∷ []) c.requires.tokens.conductor_own.roomy.0)) in
    let told : All (λ (u : Token Event Base). u.told ≤ count_by is_publication c.into_parts-start.result.1.items) (turns_of c.args.feeders.items c.args.conductor c.args.subscribers.items) =
    subst (λ (z : List (Token Event Base) × List Event). All (λ u. u.told ≤ count_by is_publication z.1) z.0) (λ i. (are i, sym c.into_parts-start.ensures.events i)) c.close.ensures.told in
    subscribers_told c.args.feeders.items c.args.conductor c.args.subscribers.items c.into_parts-start.result.1.items told
