-- A line has one end on what the places hold, and one output.
use Rattle.std.proofs.Common.{◌≡◌, ◌∙◌, ap, inl, inr, sym, subst, ℕ, List, [], ◌++◌}
use Rattle.std.specs.Prelude.{Option, Some, None, Ok, Err, Result}
use Rattle.io_traits.specs.declared.host.Place.{Place}
use Rattle.io_traits.specs.declared.host.Place.TheVariants as places
use Rattle.admission_log.specs.declared.settings.Settings as admission
use Rattle.settings_text.specs.declared.faults.SettingsFault.{SettingsFault}
use Rattle.settings_text.specs.Answers.{IsSettingsAnswer}
use Rattle.settings_text.proofs.OnlyAnswer.{only_answer}
use Rattle.session_script.specs.Scripts.{Binding, End}
use Rattle.session_script.specs.declared.status.Status.TheVariants.{Settings}
use Rattle.tracker_session.specs.Check.{CheckGives, verdict_end}
use Rattle.tracker_session.specs.Checking.{Checks}
use Rattle.tracker_session.specs.Commands.{CommandGives, IsRefusal}
use Rattle.tracker_session.specs.Exercise.{ExerciseGives, exercise_lines}
use Rattle.tracker_session.specs.Replay.{Replays}
use Rattle.tracker_session.specs.ReplayGives.{HasSettings, IsRefused, IsReplayed, ReplayGives}
use Rattle.tracker_session.specs.ReplayScript.{end_at}
use Rattle.tracker_session.specs.Words.{Line, replay, check, scene, exercise, other}
use Rattle.tracker_session.specs.Scene.{RecordingGives}
use Rattle.tracker_session.proofs.Exercising.{lines_same}
use Rattle.tracker_session.proofs.Replayed.{one_replay}
use Rattle.tracker_session.proofs.Verdicts.{one_verdict}

abbrev Same : End → End → List Binding → List Binding → (Place → List ℕ) → (Place → List ℕ) → Type 0
Same end end' bound bound' gets gets' = (end ≡ end') × (bound ≡ bound') × (gets places.Output ≡ gets' places.Output)

abbrev Holds : (Place → List ℕ) → Place → List ℕ → Type 0
Holds held p octets = octets ≡ held p

same_end : (a b : End) → ◌≡◌ {A = Option End} (Some a) (Some b) → a ≡ b
same_end a b e = cc

never_none : (a : End) → ◌≡◌ {A = Option End} (Some a) None → ⊥
never_none a e = cc

same_fault : (f g : SettingsFault) → ◌≡◌ {A = Result admission.Settings SettingsFault} (Err f) (Err g) → f ≡ g
same_fault f g e = cc

same_settings : (s t : admission.Settings) → ◌≡◌ {A = Result admission.Settings SettingsFault} (Ok s) (Ok t) → s ≡ t
same_settings s t e = cc

never_both : (s : admission.Settings) (f : SettingsFault) → ◌≡◌ {A = Result admission.Settings SettingsFault} (Ok s) (Err f) → ⊥
never_both s f e = cc

module _ (held : Place → List ℕ) (bound bound' : List Binding) (gets gets' : Place → List ℕ) (end end' : End) where
  -- settings have one answer
  good : (given : admission.Settings) → HasSettings (Holds held) given → IsSettingsAnswer (held places.Settings) (Ok given)
  good given has = subst (λ (d : List ℕ). IsSettingsAnswer d (Ok given)) has.held has.good

  refused_twice : (settings : List ℕ) → IsRefused settings (Holds held) bound gets (Some end) → IsRefused settings (Holds held) bound' gets' (Some end') → Same end end' bound bound' gets gets'
  refused_twice settings h k =
      let bad = subst (λ (d : List ℕ). IsSettingsAnswer d (Err h.fault)) h.held h.bad in
      let bad' = subst (λ (d : List ℕ). IsSettingsAnswer d (Err k.fault)) k.held k.bad in
      let fault = same_fault h.fault k.fault (only_answer (held places.Settings) (Err h.fault) (Err k.fault) bad bad') in (
        same_end end (Err (Settings h.fault)) h.end_is ∙ ap (λ f. Err (Settings f)) fault ∙ sym (same_end end' (Err (Settings k.fault)) k.end_is),
        h.bound_is ∙ sym k.bound_is,
        h.nothing places.Output ∙ sym (k.nothing places.Output),
      )

  never_differs : (settings input output prices : List ℕ) (b c : List Binding) (x y : Place → List ℕ) (p q : Option End) → IsRefused settings (Holds held) b x p → IsReplayed settings input output prices (Holds held) c y q → ⊥
  never_differs settings input output prices b c x y p q h k =
      let bad = subst (λ (d : List ℕ). IsSettingsAnswer d (Err h.fault)) h.held h.bad in
      never_both k.given h.fault (only_answer (held places.Settings) (Ok k.given) (Err h.fault) (good k.given k.has) bad)

  replayed_twice : (settings input output prices : List ℕ) → IsReplayed settings input output prices (Holds held) bound gets (Some end) → IsReplayed settings input output prices (Holds held) bound' gets' (Some end') → Same end end' bound bound' gets gets'
  replayed_twice settings input output prices h k =
      let given = same_settings h.given k.given (only_answer (held places.Settings) (Ok h.given) (Ok k.given) (good h.given h.has) (good k.given k.has)) in
      let first = subst (λ (o : List ℕ). Replays h.given o h.written h.counts h.fault) h.held h.replays in
      let second = subst (λ (s : admission.Settings). Replays s (held places.Input) k.written k.counts k.fault) (sym given) (subst (λ (o : List ℕ). Replays k.given o k.written k.counts k.fault) k.held k.replays) in
      let same = one_replay h.given (held places.Input) h.written k.written h.counts k.counts h.fault k.fault first second in (
        same_end end (end_at h.fault h.counts) h.end_is ∙ (λ i. end_at (same.2 i) (same.1 i)) ∙ sym (same_end end' (end_at k.fault k.counts) k.end_is),
        h.bound_is ∙ sym k.bound_is,
        h.got places.Output ∙ ap (λ x. x ++ []) same.0 ∙ sym (k.got places.Output),
      )

  replays_once : (settings input output prices : List ℕ) → ReplayGives settings input output prices (Holds held) bound gets (Some end) → ReplayGives settings input output prices (Holds held) bound' gets' (Some end') → Same end end' bound bound' gets gets'
  replays_once settings input output prices (inl h) (inl k) = refused_twice settings h k
  replays_once settings input output prices (inl h) (inr (inl k)) = absurd (never_differs settings input output prices bound bound' gets gets' (Some end) (Some end') h k)
  replays_once settings input output prices (inr (inl h)) (inl k) = absurd (never_differs settings input output prices bound' bound gets' gets (Some end') (Some end) k h)
  replays_once settings input output prices (inr (inl h)) (inr (inl k)) = replayed_twice settings input output prices h k
  replays_once settings input output prices (inr (inr (inl h))) k = absurd (never_none end h.broken)
  replays_once settings input output prices (inr (inr (inr h))) k = absurd (never_none end h.broken)
  replays_once settings input output prices (inl h) (inr (inr (inl k))) = absurd (never_none end' k.broken)
  replays_once settings input output prices (inl h) (inr (inr (inr k))) = absurd (never_none end' k.broken)
  replays_once settings input output prices (inr (inl h)) (inr (inr (inl k))) = absurd (never_none end' k.broken)
  replays_once settings input output prices (inr (inl h)) (inr (inr (inr k))) = absurd (never_none end' k.broken)

  checks_once : (prices : List ℕ) → CheckGives prices (Holds held) bound gets (Some end) → CheckGives prices (Holds held) bound' gets' (Some end') → Same end end' bound bound' gets gets'
  checks_once prices (inl h) (inl k) =
      let first = subst (λ (o : List ℕ). Checks o h.verdict) h.held h.checks in
      let second = subst (λ (o : List ℕ). Checks o k.verdict) k.held k.checks in (
        same_end end (verdict_end h.verdict) h.end_is ∙ ap verdict_end (one_verdict (held places.Prices) h.verdict k.verdict first second) ∙ sym (same_end end' (verdict_end k.verdict) k.end_is),
        h.bound_is ∙ sym k.bound_is,
        h.nothing places.Output ∙ sym (k.nothing places.Output),
      )
  checks_once prices (inl h) (inr k) = absurd (never_none end' k.broken)
  checks_once prices (inr h) k = absurd (never_none end h.broken)

  writes_once : (octets output : List ℕ) → RecordingGives octets output bound gets (Some end) → RecordingGives octets output bound' gets' (Some end') → Same end end' bound bound' gets gets'
  writes_once octets output (inl h) (inl k) = (same_end end end' (h.end_is ∙ sym k.end_is), h.bound_is ∙ sym k.bound_is, h.got places.Output ∙ sym (k.got places.Output))
  writes_once octets output (inl h) (inr k) = absurd (never_none end' k.broken)
  writes_once octets output (inr h) k = absurd (never_none end h.broken)

  exercises_once : (seed aircraft seconds late : ℕ) → ExerciseGives seed aircraft seconds late bound gets (Some end) → ExerciseGives seed aircraft seconds late bound' gets' (Some end') → Same end end' bound bound' gets gets'
  exercises_once seed aircraft seconds late h k = (
    elim h.end_is [
      | inr e ↦ absurd (never_none end e)
      | inl e ↦ elim k.end_is [
        | inr f ↦ absurd (never_none end' f)
        | inl f ↦ same_end end (Ok (exercise_lines e.0.counts e.0.totals)) e.1 ∙ ap Ok (lines_same seed aircraft seconds late e.0 f.0) ∙ sym (same_end end' (Ok (exercise_lines f.0.counts f.0.totals)) f.1)
      ]
    ],
    h.unbound ∙ sym k.unbound,
    h.nothing places.Output ∙ sym (k.nothing places.Output),
  )

  refused_once : IsRefusal bound gets (Some end) → IsRefusal bound' gets' (Some end') → Same end end' bound bound' gets gets'
  refused_once h k = (
    elim h.end_is [
      | inr e ↦ absurd (never_none end e)
      | inl e ↦ elim k.end_is [
        | inr f ↦ absurd (never_none end' f)
        | inl f ↦ same_end end end' (e ∙ sym f)
      ]
    ],
    h.unbound ∙ sym k.unbound,
    h.nothing places.Output ∙ sym (k.nothing places.Output),
  )

pub one_end : (line : Line) (held : Place → List ℕ) (bound bound' : List Binding) (gets gets' : Place → List ℕ) (end end' : End) → CommandGives line (λ p octets. octets ≡ held p) bound gets (Some end) → CommandGives line (λ p octets. octets ≡ held p) bound' gets' (Some end') → (end ≡ end') × (bound ≡ bound') × (gets places.Output ≡ gets' places.Output)
one_end (replay settings input output prices workers) held bound bound' gets gets' end end' h k = replays_once held bound bound' gets gets' end end' settings input output prices h k
one_end (check prices) held bound bound' gets gets' end end' h k = checks_once held bound bound' gets gets' end end' prices h k
one_end (scene seed aircraft seconds late output) held bound bound' gets gets' end end' h k = writes_once held bound bound' gets gets' end end' _ output h k
one_end (exercise seed aircraft seconds late workers) held bound bound' gets gets' end end' h k = exercises_once held bound bound' gets gets' end end' seed aircraft seconds late h k
one_end other held bound bound' gets gets' end end' h k = refused_once held bound bound' gets gets' end end' h k
