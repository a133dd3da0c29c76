-- Deliveries that grow message by message and block by block.
use Rattle.std.proofs.Common.{◌≡◌, ◌∙◌, ap, sym, subst, ℕ, ◌+◌, ◌≤◌, List, [], ◌∷◌, ◌++◌, length, map, Result, arith, length-append, append_assoc, append-nil}
use Rattle.std.specs.List.{filter_map}
use Rattle.std.proofs.lemmas.List.{map-append}
use Rattle.std.proofs.lemmas.List.Elements.{filter_map-append}
use Rattle.admission_log.specs.declared.settings.Settings.{Settings}
use Rattle.admission_log.specs.declared.events.Admitted.{Admitted}
use Rattle.admission_log.specs.declared.events.Outcome.{Outcome}
use Rattle.admission_log.specs.declared.delivery.Delivery.{Delivery}
use Rattle.admission_log.specs.declared.events.Event.TheVariants.{Deliver}
use Rattle.trk_base.specs.Limits.{count_limit}
use Rattle.admission_log.specs.Messages.{Message, Said}
use Rattle.admission_log.specs.Outcomes.{outcome_of}
use Rattle.admission_log.specs.Deliveries.{judged_message, admitted_by, AreJudged, IsDeliveryOf}
use Rattle.admission_log.proofs.Judgements.{are_judged, judged_one, judged_more}
use Rattle.admission_log.specs.Brought.{Brings, BringsMessages}

-- nothing was judged
pub brings_none : (old new : Delivery) → new.next ≡ old.next → new.admitted.items ≡ old.admitted.items → new.outcomes.items ≡ old.outcomes.items → Brings [] old new
brings_none old new next admitted outcomes = record {
  next = omega (arith, next);
  admitted = admitted ∙ sym (append-nil _);
  outcomes = outcomes ∙ sym (append-nil _);
  limit = λ h. omega (arith, next, h);
}

-- first some, then more
pub brings_more : (js ks : List (Result Admitted Outcome)) (old mid new : Delivery) → Brings js old mid → Brings ks mid new → Brings (js ++ ks) old new
brings_more js ks old mid new first then = record {
  next = omega (arith, first.next, then.next, ap length (filter_map-append admitted_by js ks), length-append (filter_map admitted_by js) (filter_map admitted_by ks));
  admitted = then.admitted ∙ ap (λ t. t ++ filter_map admitted_by ks) first.admitted ∙ append_assoc old.admitted.items (filter_map admitted_by js) (filter_map admitted_by ks) ∙ ap (λ t. old.admitted.items ++ t) (sym (filter_map-append admitted_by js ks));
  outcomes = then.outcomes ∙ ap (λ t. t ++ map outcome_of ks) first.outcomes ∙ append_assoc old.outcomes.items (map outcome_of js) (map outcome_of ks) ∙ ap (λ t. old.outcomes.items ++ t) (sym (map-append outcome_of js ks));
  limit = λ h. then.limit (first.limit h);
}

-- the same of messages
pub messages_none : (settings : Settings) (last : ℕ) (old new : Delivery) → new.next ≡ old.next → new.admitted.items ≡ old.admitted.items → new.outcomes.items ≡ old.outcomes.items → BringsMessages settings last [] old new
messages_none settings last old new next admitted outcomes = record { judgements = []; are_judged = are_judged settings last old.next []; brings = brings_none old new next admitted outcomes }

pub messages_one : (settings : Settings) (last : ℕ) (m : Message) (j : Result Admitted Outcome) (old new : Delivery) → j ≡ judged_message settings last old.next m → Brings (j ∷ []) old new → BringsMessages settings last (m ∷ []) old new
messages_one settings last m j old new same brings = record { judgements = j ∷ []; are_judged = judged_one settings last old.next m j same; brings = brings }

pub messages_more : (settings : Settings) (last : ℕ) (ms ns : List Message) (old mid new : Delivery) → BringsMessages settings last ms old mid → BringsMessages settings last ns mid new → BringsMessages settings last (ms ++ ns) old new
messages_more settings last ms ns old mid new first then = record {
  judgements = first.judgements ++ then.judgements;
  are_judged = judged_more settings last old.next ms ns first.judgements then.judgements first.are_judged (subst (λ n. AreJudged settings last n ns then.judgements) first.brings.next then.are_judged);
  brings = brings_more first.judgements then.judgements old mid new first.brings then.brings;
}

-- ---- what a delivery that began without any holds in the end

-- nothing was judged yet
pub record IsFresh (next : ℕ) (d : Delivery) : Type 0 where
  pub next_is : d.next ≡ next
  pub admitted : d.admitted.items ≡ []
  pub outcomes : d.outcomes.items ≡ []

pub brought : (settings : Settings) (last next feed : ℕ) (said : Said) (start d : Delivery) → IsFresh next start → BringsMessages settings last said.messages start d → IsDeliveryOf settings last next feed said (Deliver feed d.admitted.items d.outcomes.items said.other)
brought settings last next feed said start d fresh b =
    let admitted = b.brings.admitted ∙ ap (λ t. t ++ filter_map admitted_by b.judgements) fresh.admitted in
    let outcomes = b.brings.outcomes ∙ ap (λ t. t ++ map outcome_of b.judgements) fresh.outcomes in
    record {
      judgements = b.judgements;
      are_judged = subst (λ n. AreJudged settings last n said.messages b.judgements) fresh.next_is b.are_judged;
      event_is = λ i. Deliver feed (admitted i) (outcomes i) said.other;
    }

pub few_brought : (settings : Settings) (last next : ℕ) (said : Said) (start d : Delivery) → IsFresh next start → BringsMessages settings last said.messages start d → next ≤ count_limit → next + length d.admitted.items ≤ count_limit
few_brought settings last next said start d fresh b few =
    let admitted : d.admitted.items ≡ filter_map admitted_by b.judgements = b.brings.admitted ∙ ap (λ t. t ++ filter_map admitted_by b.judgements) fresh.admitted in
    omega (arith, b.brings.next, ap length admitted, fresh.next_is, b.brings.limit (omega (arith, fresh.next_is, few)))
