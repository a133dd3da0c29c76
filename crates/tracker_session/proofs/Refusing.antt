-- Which line has the status Usage, and that a line has one end.
use Rattle.std.proofs.Common.{◌≡◌, ◌∙◌, ap, inl, inr, refl, sym, ℕ, List}
use Rattle.std.specs.Prelude.{Option, Some, None, Ok, Err}
use Rattle.io_traits.specs.Host.{HostState}
use Rattle.io_traits.specs.declared.host.Place.{Place}
use Rattle.settings_text.specs.declared.faults.SettingsFault.{SettingsFault}
use Rattle.session_script.specs.Ends.{BrokeOff, ComesTo, EndsSo}
use Rattle.session_script.specs.Scripts.{Binding, End}
use Rattle.session_script.specs.declared.status.Status.{Status}
use Rattle.session_script.specs.declared.status.Status.TheVariants as statuses
use Rattle.tracker_session.specs.declared.counts.Counts.{Counts}
use Rattle.tracker_session.specs.Check.{CheckGives, verdict_end}
use Rattle.tracker_session.specs.Checking.{Verdict, proved, fails, fault}
use Rattle.tracker_session.specs.Commands.{CommandGives}
use Rattle.tracker_session.specs.Exercise.{ExerciseGives}
use Rattle.tracker_session.specs.ReplayGives.{ReplayGives}
use Rattle.tracker_session.specs.ReplayScript.{end_at}
use Rattle.tracker_session.specs.Words.{Line, replay, check, scene, exercise, other}
use Rattle.tracker_session.specs.Scene.{RecordingGives}

-- ---- Usage

abbrev NoUsage : Option End → Type 0
NoUsage stop = stop ≡ Some (Err statuses.Usage) → ⊥

same_end : (a b : End) → ◌≡◌ {A = Option End} (Some a) (Some b) → a ≡ b
same_end a b e = cc

end_usage : (fault : Option ℕ) (counts : Counts) → end_at fault counts ≡ Err statuses.Usage → ⊥
end_usage None counts e = cc
end_usage (Some offset) counts e = cc

verdict_usage : (v : Verdict) → verdict_end v ≡ Err statuses.Usage → ⊥
verdict_usage (proved count) e = cc
verdict_usage (fails index offset) e = cc
verdict_usage (fault offset) e = cc

settings_usage : (f : SettingsFault) → ◌≡◌ {A = End} (Err (statuses.Settings f)) (Err statuses.Usage) → ⊥
settings_usage f e = cc

none_usage : ◌≡◌ {A = Option End} None (Some (Err statuses.Usage)) → ⊥
none_usage e = cc

replay_usage : (settings input output prices : List ℕ) (holds : Place → List ℕ → Type 0) (bound : List Binding) (gets : Place → List ℕ) (stop : Option End) → ReplayGives settings input output prices holds bound gets stop → NoUsage stop
replay_usage settings input output prices holds bound gets stop (inl h) e = settings_usage h.fault (same_end _ _ (sym h.end_is ∙ e))
replay_usage settings input output prices holds bound gets stop (inr (inl h)) e = end_usage h.fault h.counts (same_end _ _ (sym h.end_is ∙ e))
replay_usage settings input output prices holds bound gets stop (inr (inr (inl h))) e = none_usage (sym h.broken ∙ e)
replay_usage settings input output prices holds bound gets stop (inr (inr (inr h))) e = none_usage (sym h.broken ∙ e)

check_usage : (prices : List ℕ) (holds : Place → List ℕ → Type 0) (bound : List Binding) (gets : Place → List ℕ) (stop : Option End) → CheckGives prices holds bound gets stop → NoUsage stop
check_usage prices holds bound gets stop (inl h) e = verdict_usage h.verdict (same_end _ _ (sym h.end_is ∙ e))
check_usage prices holds bound gets stop (inr h) e = none_usage (sym h.broken ∙ e)

done_usage : (text : List ℕ) → ◌≡◌ {A = End} (Ok text) (Err statuses.Usage) → ⊥
done_usage text e = cc

recording_usage : (octets output : List ℕ) (bound : List Binding) (gets : Place → List ℕ) (stop : Option End) → RecordingGives octets output bound gets stop → NoUsage stop
recording_usage octets output bound gets stop (inl h) e = done_usage _ (same_end _ _ (sym h.end_is ∙ e))
recording_usage octets output bound gets stop (inr h) e = none_usage (sym h.broken ∙ e)

exercise_usage : (seed aircraft seconds late : ℕ) (bound : List Binding) (gets : Place → List ℕ) (stop : Option End) → ExerciseGives seed aircraft seconds late bound gets stop → NoUsage stop
exercise_usage seed aircraft seconds late bound gets stop h e = elim h.end_is [ inl k ↦ done_usage _ (same_end _ _ (sym k.1 ∙ e)) | inr k ↦ none_usage (sym k ∙ e) ]

-- the end was Usage, where the status is
usage_end : (stop : Option End) (bound : List Binding) (status : Status) (old new : HostState) → EndsSo stop bound status old new → status ≡ statuses.Usage → stop ≡ Some (Err statuses.Usage)
usage_end (Some (Ok text)) bound status old new so e = absurd (elim so.1 [ inl h ↦ (let d = sym h.0 ∙ e in cc) | inr h ↦ (let d = sym h.0 ∙ e in cc) ])
usage_end (Some (Err why)) bound status old new so e = elim so.1 [ inl h ↦ ap (λ s. Some (Err s)) (sym h ∙ e) | inr h ↦ absurd (let d = sym h ∙ e in cc) ]
usage_end None bound status old new so e = absurd (never so.0)
  where
    never : BrokeOff bound status old new → ⊥
    never (inl m) = (let d = sym m ∙ e in cc)
    never (inr h) = elim h.3 [ inl r ↦ (let d = sym r.0 ∙ e in cc) | inr w ↦ (let d = sym w.0 ∙ e in cc) ]

pub only_other : (line : Line) (holds : Place → List ℕ → Type 0) (status : Status) (old new : HostState) → ComesTo (CommandGives line holds) status old new → status ≡ statuses.Usage → line ≡ other
only_other (replay settings input output prices workers) holds status old new c e = absurd (replay_usage settings input output prices holds c.bound c.gets c.stop c.given (usage_end c.stop c.bound status old new c.so e))
only_other (check prices) holds status old new c e = absurd (check_usage prices holds c.bound c.gets c.stop c.given (usage_end c.stop c.bound status old new c.so e))
only_other (scene seed aircraft seconds late output) holds status old new c e = absurd (recording_usage _ output c.bound c.gets c.stop c.given (usage_end c.stop c.bound status old new c.so e))
only_other (exercise seed aircraft seconds late workers) holds status old new c e = absurd (exercise_usage seed aircraft seconds late c.bound c.gets c.stop c.given (usage_end c.stop c.bound status old new c.so e))
only_other other holds status old new c e = refl
