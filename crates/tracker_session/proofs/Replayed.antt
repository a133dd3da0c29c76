-- A replay has one output and one answer, and what a run that broke off wrote is a prefix of it.
use Rattle.std.proofs.Common.{◌≡◌, ◌≤◌, ◌∙◌, ap, sym, subst, ℕ, List, length, take, drop, arith, length-append}
use Rattle.std.specs.Prelude.{Option}
use Rattle.std.proofs.lemmas.List.{take-append-drop, take-append-le}
use Rattle.recording.specs.declared.header.Header.{Header}
use Rattle.recording.specs.Items.{Item}
use Rattle.admission_log.specs.declared.settings.Settings.{Settings}
use Rattle.admission_log.specs.Histories.{History}
use Rattle.tracker_session.specs.declared.counts.Counts.{Counts}
use Rattle.tracker_session.specs.Counting.{counts_of}
use Rattle.tracker_session.specs.Inputs.{IsInput, tells_biases}
use Rattle.tracker_session.specs.Replay.{IsOutput, IsReplayLog, Replays, empty_log}
use Rattle.tracker_session.specs.ReplayGives.{ReplaysPartly}
use Rattle.tracker_session.proofs.Inputs.{one_read}
use Rattle.tracker_session.proofs.Logs.{log_goes_on, log_rest, logs_same}
use Rattle.tracker_session.proofs.Outputs.{GoesOn, outputs_same, output_prefix}

-- the log of a replay is that of any reading of the octets
log_read : (settings : Settings) (octets output : List ℕ) (counts : Counts) (f fault : Option ℕ) (header : Option Header) (start : ℕ) (items : List Item) → (h : Replays settings octets output counts f) → IsInput octets header start items fault → IsReplayLog settings start items h.log
log_read settings octets output counts f fault header start items h reading =
    let same = one_read octets header h.header start h.start items h.items fault f reading h.reading in
    subst (λ (its : List Item). IsReplayLog settings start its h.log) (sym same.2) (subst (λ (n : ℕ). IsReplayLog settings n h.items h.log) (sym same.1) h.log_is)

pub one_replay : (settings : Settings) (octets a b : List ℕ) (c d : Counts) (f g : Option ℕ) → Replays settings octets a c f → Replays settings octets b d g → (a ≡ b) × (c ≡ d) × (f ≡ g)
one_replay settings octets a b c d f g h k =
    let reading = one_read octets h.header k.header h.start k.start h.items k.items f g h.reading k.reading in
    let log = logs_same settings (empty_log k.start) k.items h.log k.log (log_read settings octets a c f g k.header k.start k.items h k.reading) k.log_is in
    (outputs_same settings k.log a b (subst (λ (l : History). IsOutput settings l a) log h.output_is) k.output_is, h.counts_are ∙ (λ i. counts_of (tells_biases octets) (reading.2 i) (log i)) ∙ sym k.counts_are, reading.3)

-- the output of the first items is a prefix of the replay's
output_of_prefix : (settings : Settings) (octets output : List ℕ) (counts : Counts) (f fault : Option ℕ) (header : Option Header) (start : ℕ) (items : List Item) (number : ℕ) (log : History) (out : List ℕ) → Replays settings octets output counts f → IsInput octets header start items fault → IsReplayLog settings start (take number items) log → IsOutput settings log out → GoesOn out output
output_of_prefix settings octets output counts f fault header start items number log out h reading is o =
    let whole = subst (λ (its : List Item). IsReplayLog settings start its h.log) (sym (take-append-drop number items)) (log_read settings octets output counts f fault header start items h reading) in
    let rest = log_rest settings (empty_log start) (take number items) (drop number items) log h.log is whole in
    output_prefix settings log h.log out output (log_goes_on settings log (drop number items) h.log rest) o h.output_is

-- what a replay that broke off wrote is a prefix of the output
pub prefix_of : (settings : Settings) (octets part prices output : List ℕ) (counts : Counts) (fault : Option ℕ) → ReplaysPartly settings octets part prices → Replays settings octets output counts fault → (n : ℕ) × (n ≤ length output) × (part ≡ take n output)
prefix_of settings octets part prices output counts fault p h =
    let on = output_of_prefix settings octets output counts fault p.fault p.header p.start p.items p.number p.log p.whole h p.reading p.log_is p.whole_is in
    (p.n, omega (arith, p.within, ap length on.parts, length-append p.whole on.rest), p.part ∙ sym (ap (take p.n) on.parts ∙ take-append-le p.n p.whole on.rest p.within))
