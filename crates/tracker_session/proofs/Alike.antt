-- What is read of a place stands for all that it holds: two inputs that are one, or that pass the limit and are one before it.
use Rattle.std.proofs.Common.{◌≡◌, ◌∙◌, ap, sym, subst, inl, inr, ℕ, ◌+◌, ◌<◌, ◌⊎◌, List, [], ◌∷◌, length, take, arith}
use Rattle.std.specs.Prelude.{nat_eq, Option, Result, Ok, Err}
use Rattle.std.specs.Cmp.Lexicographic.{pointwise}
use Rattle.std.proofs.lemmas.Bool.{cases_lt}
use Rattle.std.proofs.lemmas.List.{length-take, take-take, take_all}
use Rattle.io_traits.specs.Places.{place_limit}
use Rattle.recording.specs.declared.header.Header.{Header}
use Rattle.recording.specs.Items.{Item}
use Rattle.recording.specs.Readings.{IsReadingOfPrefix}
use Rattle.admission_log.specs.declared.settings.Settings as admission
use Rattle.settings_text.specs.declared.faults.SettingsFault.{SettingsFault}
use Rattle.settings_text.specs.Answers.{IsSettingsAnswer, no_document, in_document}
use Rattle.session_script.specs.Scripts.{read_of}
use Rattle.tracker_session.specs.declared.counts.Counts.{Counts}
use Rattle.tracker_session.specs.Counting.{counts_of}
use Rattle.tracker_session.specs.Inputs.{IsInput, tells_biases}
use Rattle.tracker_session.specs.Replay.{IsPrices, Replays}
use Rattle.tracker_session.specs.ReplayGives.{ReplaysPartly}

pub record BothLong (a b : List ℕ) : Type 0 where
  pub prefix : take place_limit a ≡ take place_limit b
  pub long : place_limit < length a
  pub long' : place_limit < length b

abbrev pub Alike : List ℕ → List ℕ → Type 0
Alike a b = (a ≡ b) ⊎ BothLong a b

-- what is read is like all
pub read_alike : (octets : List ℕ) → Alike (read_of octets) octets
read_alike octets = elim (cases_lt place_limit (length octets)) [
  | inl long ↦ inr (record { prefix = take-take place_limit (place_limit + 1) octets (omega arith); long = omega (arith, long, length-take (place_limit + 1) octets); long' = long })
  | inr short ↦ inl (take_all (place_limit + 1) octets (omega (arith, short)))
]

reading_alike : (a b : List ℕ) (header : Option Header) (start : ℕ) (items : List Item) (fault : Option ℕ) → BothLong a b → IsInput a header start items fault → IsInput b header start items fault
reading_alike a b header start items fault h r =
    record {
      whole = λ short. absurd (omega (arith, h.long', short));
      prefix = λ long. subst (λ (o : List ℕ). IsReadingOfPrefix o header start items fault) h.prefix (r.prefix h.long);
    }

-- both tell their changes of biases, or none
tells_alike : (a b : List ℕ) → BothLong a b → tells_biases a ≡ tells_biases b
tells_alike a b h =
    let begins = λ (xs : List ℕ). take-take 4 place_limit xs (omega arith) in
    ap (pointwise nat_eq (77 ∷ 82 ∷ 84 ∷ 50 ∷ [])) (sym (begins a) ∙ ap (take 4) h.prefix ∙ begins b)

-- they are replayed alike, with the same prices
pub record Priced (settings : admission.Settings) (octets output : List ℕ) (counts : Counts) (fault : Option ℕ) (prices : List ℕ) : Type 0 where
  pub replays : Replays settings octets output counts fault
  pub prices_are : IsPrices settings replays.log prices

pub priced_alike : (settings : admission.Settings) (a b output : List ℕ) (counts : Counts) (fault : Option ℕ) (prices : List ℕ) → Alike a b → Priced settings a output counts fault prices → Priced settings b output counts fault prices
priced_alike settings a b output counts fault prices (inl e) p = subst (λ (o : List ℕ). Priced settings o output counts fault prices) e p
priced_alike settings a b output counts fault prices (inr h) p =
    let r = p.replays in
    record {
      replays = record {
        header = r.header;
        start = r.start;
        items = r.items;
        reading = reading_alike a b r.header r.start r.items fault h r.reading;
        log = r.log;
        log_is = r.log_is;
        output_is = r.output_is;
        counts_are = r.counts_are ∙ ap (λ tells. counts_of tells r.items r.log) (tells_alike a b h);
      };
      prices_are = p.prices_are;
    }

-- and alike where the replay broke off
pub partly_alike : (settings : admission.Settings) (a b output prices : List ℕ) → Alike a b → ReplaysPartly settings a output prices → ReplaysPartly settings b output prices
partly_alike settings a b output prices (inl e) r = subst (λ (o : List ℕ). ReplaysPartly settings o output prices) e r
partly_alike settings a b output prices (inr h) r = record {
  header = r.header;
  start = r.start;
  items = r.items;
  fault = r.fault;
  reading = reading_alike a b r.header r.start r.items r.fault h r.reading;
  number = r.number;
  log = r.log;
  log_is = r.log_is;
  whole = r.whole;
  whole_is = r.whole_is;
  n = r.n;
  within = r.within;
  part = r.part;
  priced = r.priced;
  priced_is = r.priced_is;
  m = r.m;
  within_prices = r.within_prices;
  part_of_prices = r.part_of_prices;
}

-- settings that are one, or both too long, have one answer
pub answer_alike : (a b : List ℕ) (x : Result admission.Settings SettingsFault) → Alike a b → IsSettingsAnswer a x → IsSettingsAnswer b x
answer_alike a b x (inl e) h = subst (λ (o : List ℕ). IsSettingsAnswer o x) e h
answer_alike a b (Ok settings) (inr long) h = absurd (omega (arith, long.long, h.1.small))
answer_alike a b (Err fault) (inr long) (no_document none is) = no_document (λ document d. omega (arith, long.long', d.small)) is
answer_alike a b (Err fault) (inr long) (in_document document d f) = absurd (omega (arith, long.long, d.small))
