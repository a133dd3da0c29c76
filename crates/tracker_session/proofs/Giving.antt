-- What the script of each command gives, by its definition.
use Rattle.std.proofs.Common.{◌≡◌, ◌∙◌, inl, inr, ap, refl, sym, arith, ℕ, List, [], ◌∷◌, length}
use Rattle.std.specs.Prelude.{Option, None, Ok, Err, Result}
use Rattle.std.proofs.lemmas.List.{take_all}
use Rattle.io_traits.specs.declared.host.Place.{Place}
use Rattle.io_traits.specs.declared.host.Place.TheVariants as places
use Rattle.io_traits.specs.declared.host.Way.TheVariants as ways
use Rattle.admission_log.specs.declared.settings.Settings as admission
use Rattle.settings_text.specs.declared.faults.SettingsFault.{SettingsFault}
use Rattle.settings_text.specs.Answers.{IsSettingsAnswer}
use Rattle.session_script.specs.Scripts.{Binding, End, Gives, StopsHere, opens, piece_for, read_of}
use Rattle.tracker_session.specs.Check.{CheckGives, check_script}
use Rattle.tracker_session.specs.Commands.{CommandGives, script_of}
use Rattle.tracker_session.specs.Counting.{counts_of}
use Rattle.tracker_session.specs.Exercise.{ExerciseGives, exercise_script}
use Rattle.tracker_session.specs.Inputs.{tells_biases}
use Rattle.scene_gen.specs.Scenes.{scene as drawn}
use Rattle.tracker_session.specs.ReplayGives.{HasSettings, ReplayGives, Wrote, all_bound, reading, opening, began, prefixes}
use Rattle.tracker_session.specs.ReplayScript.{input_script, prices_script, replay_script, under}
use Rattle.tracker_session.specs.Scene.{RecordingGives, recording_script}
use Rattle.tracker_session.specs.Words.{Line, replay, check, scene, exercise, other}
use Rattle.tracker_session.proofs.Alike.{answer_alike, partly_alike, priced_alike, read_alike}
use Rattle.tracker_session.proofs.Verdicts.{checks_alike}
use Rattle.tracker_session.proofs.GivingItems.{PricesGive, no_more, no_piece, prices_give}

-- ---- the command

abbrev with_input : List ℕ → List ℕ → List Binding → List Binding
with_input settings input rest = (places.Settings, ways.Read, settings) ∷ (places.Input, ways.Read, input) ∷ rest

module _ (settings input output prices : List ℕ) (holds : Place → List ℕ → Type 0) (gets : Place → List ℕ) (stop : Option End) (given : admission.Settings) (has : HasSettings holds given) where
  broke : (bound : List Binding) → Wrote settings input output prices holds given bound gets → stop ≡ None → ReplayGives settings input output prices holds bound gets stop
  broke bound wrote broken = inr (inr (inr (record { given = given; has = has; so_far = wrote; broken = broken })))

  whole_or_part : (octets : List ℕ) (bound : List Binding) → holds places.Input octets → bound ≡ all_bound settings input output prices → PricesGive given (read_of octets) gets stop → ReplayGives settings input output prices holds bound gets stop
  whole_or_part octets bound held e (inl w) =
      let counts = counts_of (tells_biases (read_of octets)) w.reading.items w.log in
      let both = priced_alike given (read_of octets) octets w.output counts w.reading.fault w.prices (read_alike octets) (record { replays = record { header = w.reading.header; start = w.reading.start; items = w.reading.items; reading = w.reading.reading; log = w.log; log_is = w.log_is; output_is = w.output_is; counts_are = refl }; prices_are = w.prices_are }) in
      inr (inl (record {
        given = given;
        has = has;
        octets = octets;
        held = held;
        written = w.output;
        counts = counts;
        fault = w.reading.fault;
        replays = both.replays;
        priced = w.prices;
        priced_is = both.prices_are;
        bound_is = e;
        got = w.got;
        end_is = w.end_is;
      }))
  whole_or_part octets bound held e (inr (inl t)) = broke bound (prefixes e (record { octets = octets; held = held; output = t.output; prices = t.prices; partly = partly_alike given (read_of octets) octets t.output t.prices (read_alike octets) t.partly; got = t.got })) t.broken
  whole_or_part octets bound held e (inr (inr b)) = broke bound (began e b.began) b.broken

  after_prices : (octets : List ℕ) (bound rest : List Binding) → holds places.Input octets → bound ≡ with_input settings input ((places.Output, ways.Write, output) ∷ rest) → Gives (opens places.Prices prices (prices_script given (read_of octets))) holds rest gets stop → ReplayGives settings input output prices holds bound gets stop
  unfolding Gives
  after_prices octets bound rest held e (inl s) = broke bound (opening (e ∙ ap (λ r. with_input settings input ((places.Output, ways.Write, output) ∷ r)) s.unbound) s.nothing) s.broken
  after_prices octets bound rest held e (inr (more, e', h)) =
      let o = prices_give given (read_of octets) holds more gets stop h in
      whole_or_part octets bound held (e ∙ ap (λ r. with_input settings input ((places.Output, ways.Write, output) ∷ r)) (e' ∙ ap (λ r. (places.Prices, ways.Write, prices) ∷ r) o.0)) o.1

  after_open : (octets : List ℕ) (bound rest : List Binding) → holds places.Input octets → bound ≡ with_input settings input rest → Gives (opens places.Output output (opens places.Prices prices (prices_script given (read_of octets)))) holds rest gets stop → ReplayGives settings input output prices holds bound gets stop
  unfolding Gives
  after_open octets bound rest held e (inl s) = broke bound (reading (e ∙ ap (with_input settings input) s.unbound) s.nothing) s.broken
  after_open octets bound rest held e (inr (more, e', h)) = after_prices octets bound more held (e ∙ ap (with_input settings input) e') h

  after_input : (bound rest : List Binding) → bound ≡ (places.Settings, ways.Read, settings) ∷ rest → Gives (input_script input output prices given) holds rest gets stop → ReplayGives settings input output prices holds bound gets stop
  unfolding Gives
  after_input bound rest e (inl s) = inr (inr (inl (record { bound_is = inr (e ∙ ap (λ r. (places.Settings, ways.Read, settings) ∷ r) s.unbound); nothing = s.nothing; broken = s.broken })))
  after_input bound rest e (inr (octets, held, more, e', h)) = after_open octets bound more held (e ∙ ap (λ r. (places.Settings, ways.Read, settings) ∷ r) e') h

module _ (settings input output prices : List ℕ) (holds : Place → List ℕ → Type 0) (bound rest : List Binding) (gets : Place → List ℕ) (stop : Option End) (document : List ℕ) (held : holds places.Settings document) (e : bound ≡ (places.Settings, ways.Read, settings) ∷ rest) where
  at_settings : StopsHere rest gets stop → ReplayGives settings input output prices holds bound gets stop
  at_settings s = inr (inr (inl (record { bound_is = inr (e ∙ ap (λ r. (places.Settings, ways.Read, settings) ∷ r) s.unbound); nothing = s.nothing; broken = s.broken })))

  judged : (answer : Result admission.Settings SettingsFault) → IsSettingsAnswer (read_of document) answer → Gives (under answer (input_script input output prices)) holds rest gets stop → ReplayGives settings input output prices holds bound gets stop
  unfolding Gives
  judged (Ok given) is h = after_input settings input output prices holds gets stop given (record { document = document; held = held; good = answer_alike (read_of document) document (Ok given) (read_alike document) is }) bound rest e h
  judged (Err fault) is (inl s) = at_settings s
  judged (Err fault) is (inr h) = inl (record {
    document = document;
    held = held;
    fault = fault;
    bad = answer_alike (read_of document) document (Err fault) (read_alike document) is;
    bound_is = e ∙ ap (λ r. (places.Settings, ways.Read, settings) ∷ r) h.0;
    nothing = h.1;
    end_is = h.2;
  })

replay_gives : (settings input output prices : List ℕ) (holds : Place → List ℕ → Type 0) (bound : List Binding) (gets : Place → List ℕ) (stop : Option End) → Gives (replay_script settings input output prices) holds bound gets stop → ReplayGives settings input output prices holds bound gets stop
unfolding Gives
replay_gives settings input output prices holds bound gets stop (inl s) = inr (inr (inl (record { bound_is = inl s.unbound; nothing = s.nothing; broken = s.broken })))
replay_gives settings input output prices holds bound gets stop (inr (document, held, rest, e, inl s)) = at_settings settings input output prices holds bound rest gets stop document held e s
replay_gives settings input output prices holds bound gets stop (inr (document, held, rest, e, inr (d, h))) = judged settings input output prices holds bound rest gets stop document held e d.answer d.is h

-- ---- the other lines

check_gives : (prices : List ℕ) (holds : Place → List ℕ → Type 0) (bound : List Binding) (gets : Place → List ℕ) (stop : Option End) → Gives (check_script prices) holds bound gets stop → CheckGives prices holds bound gets stop
unfolding Gives
check_gives prices holds bound gets stop (inl s) = inr (record { bound_is = inl s.unbound; nothing = s.nothing; broken = s.broken })
check_gives prices holds bound gets stop (inr (octets, held, rest, e, inl s)) = inr (record { bound_is = inr (e ∙ ap (λ r. (places.Prices, ways.Read, prices) ∷ r) s.unbound); nothing = s.nothing; broken = s.broken })
check_gives prices holds bound gets stop (inr (octets, held, rest, e, inr (v, inl s))) = inr (record { bound_is = inr (e ∙ ap (λ r. (places.Prices, ways.Read, prices) ∷ r) s.unbound); nothing = s.nothing; broken = s.broken })
check_gives prices holds bound gets stop (inr (octets, held, rest, e, inr (v, inr h))) = inl (record {
  octets = octets;
  held = held;
  verdict = v.verdict;
  checks = checks_alike (read_of octets) octets v.verdict (read_alike octets) v.checks;
  bound_is = e ∙ ap (λ r. (places.Prices, ways.Read, prices) ∷ r) h.0;
  nothing = h.1;
  end_is = h.2;
})

recording_gives : (octets output : List ℕ) (holds : Place → List ℕ → Type 0) (bound : List Binding) (gets : Place → List ℕ) (stop : Option End) → Gives (recording_script octets output) holds bound gets stop → RecordingGives octets output bound gets stop
unfolding Gives
recording_gives octets output holds bound gets stop (inl s) = inr (record { bound_is = inl s.unbound; n = 0; within = omega arith; part = λ p. s.nothing p ∙ sym (no_piece p); unopened = λ e. s.nothing; broken = s.broken })
recording_gives octets output holds bound gets stop (inr (rest, e, inl w)) = inr (record { bound_is = inr (e ∙ ap (λ r. (places.Output, ways.Write, output) ∷ r) w.unbound); n = w.n; within = w.within; part = w.part; unopened = λ none. absurd (some_bound rest (sym e ∙ none)); broken = w.broken })
  where
    some_bound : (rest : List Binding) → (places.Output, ways.Write, output) ∷ rest ≡ [] → ⊥
    some_bound rest f = cc
recording_gives octets output holds bound gets stop (inr (rest, e, inr (more, first, inl s))) = inr (record {
  bound_is = inr (e ∙ ap (λ r. (places.Output, ways.Write, output) ∷ r) s.unbound);
  n = length octets;
  within = omega arith;
  part = λ p. no_more octets more gets first s.nothing p ∙ ap (λ x. piece_for places.Output x p) (sym (take_all (length octets) octets (omega arith)));
  unopened = λ none. absurd (some_bound rest (sym e ∙ none));
  broken = s.broken;
})
  where
    some_bound : (rest : List Binding) → (places.Output, ways.Write, output) ∷ rest ≡ [] → ⊥
    some_bound rest f = cc
recording_gives octets output holds bound gets stop (inr (rest, e, inr (more, first, inr h))) = inl (record {
  bound_is = e ∙ ap (λ r. (places.Output, ways.Write, output) ∷ r) h.0;
  got = no_more octets more gets first h.1;
  end_is = h.2;
})

exercise_gives : (seed aircraft seconds late : ℕ) (holds : Place → List ℕ → Type 0) (bound : List Binding) (gets : Place → List ℕ) (stop : Option End) → Gives (exercise_script seed aircraft seconds late) holds bound gets stop → ExerciseGives seed aircraft seconds late bound gets stop
unfolding Gives
exercise_gives seed aircraft seconds late holds bound gets stop (inl s) = record { unbound = s.unbound; nothing = s.nothing; end_is = inr s.broken }
exercise_gives seed aircraft seconds late holds bound gets stop (inr (e, inl s)) = record { unbound = s.unbound; nothing = s.nothing; end_is = inr s.broken }
exercise_gives seed aircraft seconds late holds bound gets stop (inr (e, inr h)) = record { unbound = h.0; nothing = h.1; end_is = inl (e, h.2) }

-- What the script of a line gives is what the line's definition says.
pub command_gives : (line : Line) (holds : Place → List ℕ → Type 0) (bound : List Binding) (gets : Place → List ℕ) (stop : Option End) → Gives (script_of line) holds bound gets stop → CommandGives line holds bound gets stop
unfolding Gives
command_gives (replay settings input output prices workers) holds bound gets stop h = replay_gives settings input output prices holds bound gets stop h
command_gives (check prices) holds bound gets stop h = check_gives prices holds bound gets stop h
command_gives (scene seed aircraft seconds late output) holds bound gets stop h = recording_gives (drawn seed aircraft seconds late) output holds bound gets stop h
command_gives (exercise seed aircraft seconds late workers) holds bound gets stop h = exercise_gives seed aircraft seconds late holds bound gets stop h
command_gives other holds bound gets stop (inl s) = record { unbound = s.unbound; nothing = s.nothing; end_is = inr s.broken }
command_gives other holds bound gets stop (inr h) = record { unbound = h.0; nothing = h.1; end_is = inl h.2 }
