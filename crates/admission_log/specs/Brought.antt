-- What a delivery holds of the messages that were judged, and the fault of a block that was read.
use Rattle.std.specs.Prelude.{◌≡◌, ℕ, ◌+◌, ◌≤◌, ◌++◌, List, map, Result}
use Rattle.std.specs.List.{filter_map}
use Rattle.asterix_frame.specs.declared.block.Block.{Block}
use Rattle.asterix_frame.specs.declared.block.Malformed.{Malformed}
use Rattle.asterix_frame.specs.declared.tables.Uap.{Uap}
use Rattle.asterix_frame.specs.Tables.{category_of}
use Rattle.asterix_frame.specs.Bodies.{IsFaultOfBody}
use Rattle.asterix_frame.specs.Datagrams.{IsReadCategory}
use Rattle.admission_log.specs.declared.settings.Settings.{Settings}
use Rattle.admission_log.specs.declared.events.Admitted.{Admitted}
use Rattle.admission_log.specs.declared.events.Outcome.{Outcome}
use Rattle.admission_log.specs.declared.delivery.Delivery.{Delivery}
use Rattle.admission_log.specs.Messages.{Message}
use Rattle.admission_log.specs.Outcomes.{outcome_of}
use Rattle.trk_base.specs.Limits.{count_limit}
use Rattle.admission_log.specs.Deliveries.{admitted_by, admitted_count, AreJudged}

-- the new one has what was judged besides
pub record Brings (js : List (Result Admitted Outcome)) (old new : Delivery) : Type 0 where
  pub next : new.next ≡ old.next + admitted_count js
  pub admitted : new.admitted.items ≡ old.admitted.items ++ filter_map admitted_by js
  pub outcomes : new.outcomes.items ≡ old.outcomes.items ++ map outcome_of js
  pub limit : old.next ≤ count_limit → new.next ≤ count_limit

-- .. of these messages
pub record BringsMessages (settings : Settings) (last : ℕ) (messages : List Message) (old new : Delivery) : Type 0 where
  pub judgements : List (Result Admitted Outcome)
  pub are_judged : AreJudged settings last old.next messages judgements
  pub brings : Brings judgements old new

-- the body of a block of a category that is read isn't records
pub record IsFaultOfBlock (block : Block) (m : Malformed) : Type 0 where
  pub uap : Uap
  pub is_read : IsReadCategory uap
  pub category : category_of uap ≡ block.cat
  pub fault : IsFaultOfBody uap block m
