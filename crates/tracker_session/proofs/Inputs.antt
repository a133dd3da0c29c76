-- An input is read in one way.
use Rattle.std.proofs.Common.{◌≡◌, inl, inr, ℕ, ◌<◌, List, take, length, All, true, false, arith}
use Rattle.std.specs.Prelude.{Option}
use Rattle.std.proofs.lemmas.Bool.{cases_lt}
use Rattle.std.proofs.lemmas.List.{get_or-take, get_or_past, length-take}
use Rattle.recording.specs.Items.{Item}
use Rattle.recording.proofs.Codes.{IsBytes, bytes_of}
use Rattle.recording.specs.declared.header.Header.{Header}
use Rattle.recording.proofs.Readings.{one_recording}
use Rattle.recording.proofs.SomeReading.{some_reading_of}
use Rattle.io_traits.specs.Places.{place_limit}
use Rattle.tracker_session.specs.Inputs.{HasInput, IsInput}

pub one_read : (octets : List ℕ) (g h : Option Header) (s t : ℕ) (xs ys : List Item) (f k : Option ℕ) → IsInput octets g s xs f → IsInput octets h t ys k → (g ≡ h) × (s ≡ t) × (xs ≡ ys) × (f ≡ k)
one_read octets g h s t xs ys f k r q =
    elim (cases_lt place_limit (length octets)) [
      | inl long ↦ one_recording (take place_limit octets) true g h s t xs ys f k (r.prefix long) (q.prefix long)
      | inr short ↦ one_recording octets false g h s t xs ys f k (r.whole short) (q.whole short)
    ]

pub prefix_bytes : (n : ℕ) (octets : List ℕ) → IsBytes octets → IsBytes (take n octets)
prefix_bytes n octets bytes i =
    elim (cases_lt i n) [
      | inl within ↦ omega (arith, bytes i, get_or-take n octets i 0 within)
      | inr past ↦ omega (arith, get_or_past (take n octets) i 0 (omega (arith, length-take n octets)))
    ]

pub some_read : (octets : List ℕ) → All (λ octet. octet < 256) octets → HasInput octets
some_read octets all =
    elim (cases_lt place_limit (length octets)) [
      | inl long ↦ (let r = some_reading_of (take place_limit octets) true (prefix_bytes place_limit octets (bytes_of octets all)) in
          record { header = r.header; start = r.start; items = r.items; fault = r.fault; reading = record { whole = (λ short. absurd (omega (arith, long, short))); prefix = (λ _. r.contents) } })
      | inr short ↦ (let r = some_reading_of octets false (bytes_of octets all) in
          record { header = r.header; start = r.start; items = r.items; fault = r.fault; reading = record { whole = (λ _. r.contents); prefix = (λ long. absurd (omega (arith, long, short))) } })
    ]
