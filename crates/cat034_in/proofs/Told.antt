-- The times of day of service messages.
use Rattle.std.proofs.Common.{◌≡◌, sym, subst, ℕ, ◌<◌, List, [], ◌∷◌, Option, Some, None}
use Rattle.std.specs.Prelude.{All, IfSome}
use Rattle.std.specs.List.{AllByRecursion}
use Rattle.std.specs.Option.{ForSome}
use Rattle.trk_base.specs.Numbers.{day}
use Rattle.trk_base.specs.Ranges.{IsTimeOfDay}
use Rattle.std.proofs.lemmas.List.Elements.{All-from_recursion}
use Rattle.asterix_frame.specs.declared.tables.Uap.TheVariants.{Cat034}
use Rattle.asterix_frame.specs.DataRecords.{DataRecord, time_of}
use Rattle.asterix_frame.specs.Bodies.{AreDataRecords}
use Rattle.asterix_frame.proofs.DataItems.{time_in_day}
use Rattle.cat034_in.specs.declared.service.Service.{Service}
use Rattle.cat034_in.specs.Services.{service_of, services_of, IsTimed}

for_some : (o : Option ℕ) → IfSome o (λ t. t < day) → ForSome o IsTimeOfDay
for_some None h = λ t e. absurd (cc)
for_some (Some x) h = λ t e. let same : x ≡ t = cc in subst (λ t. t < day) same h

timed : (records : List DataRecord) → AreDataRecords Cat034 records → AllByRecursion IsTimed (services_of records)
unfolding service_of
timed [] h = tt
timed (r ∷ rs) h = (for_some (time_of Cat034 r.items) (time_in_day Cat034 r.items h.0.are_items), timed rs h.1)

pub all_timed : (services : List Service) (records : List DataRecord) → AreDataRecords Cat034 records → services ≡ services_of records → All IsTimed services
all_timed services records h e = subst (All IsTimed) (sym e) (All-from_recursion IsTimed (services_of records) (timed records h))
