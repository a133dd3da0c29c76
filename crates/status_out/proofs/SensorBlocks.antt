-- One more record in the block of the states of the radars: there is room for 32.
use Rattle.std.proofs.Common.{◌≡◌, ◌∙◌, ap, sym, ℕ, ◌+◌, ◌*◌, ◌<◌, ◌≤◌, ◌↔◌, Bool, true, false, List, [], ◌∷◌, ◌++◌, length, map, take, get_or, arith, append-nil, length-append, Result, Ok, if◌then◌else◌}
use Rattle.std.specs.List.{concat}
use Rattle.std.proofs.lemmas.List.{take_more, map-append}
use Rattle.std.proofs.lemmas.List.Folds.{concat-append}
use Rattle.trk_base.specs.declared.memory.NoMemory.{NoMemory}
use Rattle.asterix_frame.specs.Blocks.{DataBlock}
use Rattle.asterix_frame.specs.Packing.{block_limit}
use Rattle.cat062_out.specs.Tracks.{Stamp}
use Rattle.status_out.specs.RadarLines.{RadarLine}
use Rattle.status_out.specs.SensorRecords.{sensor_record}

module _ (stamp : Stamp) (radars : List RadarLine) where
  abbrev record_of_radar : RadarLine → List ℕ
  record_of_radar line = sensor_record (stamp, line)

  -- the records of so many radars are in the block
  pub record Holds (block : DataBlock) (count : ℕ) : Type 0 where
    pub category : block.category ≡ 63
    pub body : block.body ≡ concat (map record_of_radar (take count radars))
    pub size : length block.body ≡ 19 * count

  pub holds_more : (i : ℕ) (line : RadarLine) (block after : DataBlock) (octets : List ℕ) (answer : Result Bool NoMemory) (added : Bool) → Holds block i → i < length radars → length radars ≤ 32
      → line ≡ get_or radars i line → octets ≡ record_of_radar line → length octets ≡ 19 → answer ≡ Ok added → ((answer ≡ Ok false) ↔ (block_limit < length block.body + length octets + 3))
      → after ≡ (if added then record block { body = block.body ++ octets } else block) → Holds after (i + 1)
  holds_more i line block after octets answer false h lt few l r size a full e = absurd (omega (arith, full.0 a, h.size, size, lt, few))
  holds_more i line block after octets answer true h lt few l r size a full e = record {
    category = ap (λ b. b.category) e ∙ h.category;
    body =
        ap (λ b. b.body) e ∙ (λ k. h.body k ++ r k) ∙ ap (λ x. concat (map record_of_radar (take i radars)) ++ x) (sym (append-nil (record_of_radar line))) ∙ sym (concat-append (map record_of_radar (take i radars)) (record_of_radar line ∷ []))
        ∙ ap concat (sym (map-append record_of_radar (take i radars) (line ∷ [])) ∙ ap (map record_of_radar) (ap (λ x. take i radars ++ x ∷ []) l ∙ sym (take_more radars i line lt)));
    size = omega (arith, ap (λ b. length b.body) e, length-append block.body octets, h.size, size);
  }
