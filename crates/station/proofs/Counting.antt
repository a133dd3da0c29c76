-- Publishing events are counted alike by the lock and by the log.
use Rattle.std.proofs.Common.{◌≡◌, ◌∙◌, ap, ◌+◌, List, [], ◌∷◌, ◌++◌, length, refl, append-nil, arith}
use Rattle.std.specs.Prelude.{count_by, filter_map}
use Rattle.std.proofs.lemmas.List.Elements.{filter_map-append}
use Rattle.turn_lock.specs.Lists.{Begins}
use Rattle.turn_lock.proofs.Lists.{count_by-append}
use Rattle.admission_log.specs.declared.events.Event.{Event}
use Rattle.admission_log.specs.declared.events.Event.TheVariants.{Deliver, Tick, Publish, Bias}
use Rattle.admission_log.specs.Histories.{published_in}
use Rattle.station.specs.Newest.{is_publication}

pub counted : (events : List Event) → length (filter_map published_in events) ≡ count_by is_publication events
counted [] = refl
counted (Deliver feed admitted told other ∷ events) = counted events
counted (Tick time ∷ events) = counted events
counted (Publish number cut ∷ events) = let one : count_by is_publication (Publish number cut ∷ events) ≡ 1 + count_by is_publication events = count_by-append is_publication (Publish number cut ∷ []) events in omega (arith, counted events, one)
counted (Bias radar slot bias ∷ events) = counted events

none_of : {A : Type 0} (xs : List A) → length xs ≡ 0 → xs ≡ []
none_of [] e = refl
none_of (x ∷ xs) e = absurd (omega arith)

-- who has seen each publishing event has seen each edition
pub seen_all : (seen found : List Event) → Begins seen found → count_by is_publication seen ≡ count_by is_publication found → filter_map published_in found ≡ filter_map published_in seen
seen_all seen found b same = let rest = b.0 in
    let sum : count_by is_publication found ≡ count_by is_publication seen + count_by is_publication rest = ap (count_by is_publication) b.1 ∙ count_by-append is_publication seen rest in
    let size : length (filter_map published_in rest) ≡ count_by is_publication rest = counted rest in
    let none : filter_map published_in rest ≡ [] = none_of (filter_map published_in rest) (omega arith) in
    ap (filter_map published_in) b.1 ∙ (filter_map-append published_in seen rest ∙ (ap (λ xs. filter_map published_in seen ++ xs) none ∙ append-nil (filter_map published_in seen)))
