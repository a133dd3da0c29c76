-- What is made of the items of each record is made of what lies at the offsets found.
use Rattle.std.proofs.Common.{◌≡◌, refl, ℕ, List, [], ◌∷◌}
use Rattle.std.specs.Prelude.{map}
use Rattle.asterix_frame.specs.declared.tables.Uap.{Uap}
use Rattle.asterix_frame.specs.declared.walk.ItemSpans.{ItemSpans}
use Rattle.asterix_frame.specs.Elements.{Element}
use Rattle.asterix_frame.specs.DataRecords.{DataRecord}
use Rattle.asterix_frame.specs.Bodies.{HaveDataRecords, elements_at}

-- what a reader makes of a record at its offsets
abbrev pub made_at : {A : Type 0} → (List Element → A) → List ℕ → ItemSpans → A
made_at make body found = make (elements_at body found.frns.items)

pub all_made : {A : Type 0} (make : List Element → A) (uap : Uap) (body : List ℕ) (from : ℕ) (records : List DataRecord) (found : List ItemSpans)
    → HaveDataRecords uap body from records found → map (made_at make body) found ≡ map (λ r. make r.items) records
all_made make uap body from [] [] h = refl
all_made make uap body from [] (s ∷ ss) h = absurd h
all_made make uap body from (r ∷ rs) [] h = absurd h
all_made make uap body from (r ∷ rs) (s ∷ ss) h = λ i. make (h.0.items i) ∷ all_made make uap body s.next rs ss h.1 i
