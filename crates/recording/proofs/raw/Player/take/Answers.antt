use Rattle.std.proofs.Common.{◌≡◌, ◌∙◌, ap, sym, subst, [], ◌∷◌, ◌++◌, append_assoc}
use Rattle.std.proofs.lemmas.List.{map-append}
use Rattle.recording.specs.declared.item.Item.TheVariants.{Datagram}
use Rattle.recording.specs.Items.{datagram}
use Rattle.recording.specs.Raw.{ticks}
use Rattle.recording.specs.Answers.{item_of, items_of}
use Rattle.recording.specs.Playing.{IsPlayed}
use Rattle.recording.proofs.Clocks.{clock_after, clock_with, tick_of, clock_with_is, tick_of_is, clock_after_is}
use Rattle.recording.proofs.Playing.{played_more}
use Rattle.recording.proofs.raw.Player.take.Goals as goal

pub returns-clause-played : goal.returns-clause-played
returns-clause-played c = λ bs b e o h.
    let old = c.args.self.now in
    let times = c.args.times.now in
    let octets = c.args.octets in
    let clock-is : c.clock_with-clock.result ≡ clock_with old.clock times = c.clock_with-clock.ensures.clock ∙ clock_with_is old.clock times in
    let tick-is : c.tick_of-tick.result ≡ tick_of (clock_with old.clock times) times = c.tick_of-tick.ensures.tick ∙ tick_of_is c.clock_with-clock.result times ∙ ap (λ k. tick_of k times) clock-is in
    let after : c.clock_after-self.result ≡ clock_after (clock_with old.clock times) (tick_of (clock_with old.clock times) times) = c.clock_after-self.ensures.clock ∙ clock_after_is c.clock_with-clock.result c.tick_of-tick.result ∙ (λ i. clock_after (clock-is i) (tick-is i)) in
    let items-are = ap items_of c.in_ok-push.ensures.items
    ∙ map-append item_of c.push_tick.new.items.items (Datagram 0 octets ∷ [])
    ∙ (λ i. (c.in_ok-push_tick.ensures ∙ ap (λ t. items_of old.items.items ++ ticks t) tick-is) i ++ datagram 0 (sym o i) ∷ [])
    ∙ append_assoc (items_of old.items.items) (ticks (tick_of (clock_with old.clock times) times)) _ in
    subst (λ k. IsPlayed (bs ++ b ∷ []) k (items_of c.push.new.self.items)) (sym after)
    (subst (λ t. IsPlayed (bs ++ b ∷ []) (clock_after (clock_with old.clock times) (tick_of (clock_with old.clock times) times)) t) (sym items-are) (played_more bs b old.clock times (items_of old.items.items) e h))
