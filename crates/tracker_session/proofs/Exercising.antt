-- An exercise tells what a replay of the scene's recording under the scene's settings tells, and there is one.
use Rattle.std.proofs.Common.{◌≡◌, ◌≤◌, ◌<◌, ◌^◌, ◌∙◌, ap, refl, sym, subst, arith, ℕ, ℤ, List, [], ◌∷◌, length, map, get_or, drop, false}
use Rattle.std.specs.Prelude.{Option, Some, None, Ok}
use Rattle.io_traits.specs.Host.{HostState}
use Rattle.io_traits.specs.Places.{place_limit}
use Rattle.recording.specs.declared.header.Header.{Header}
use Rattle.recording.specs.declared.header.Header.TheVariants.{First}
use Rattle.recording.specs.Items.{Item}
use Rattle.recording.specs.Readings.{IsReading}
use Rattle.recording.proofs.Readings.{one_recording}
use Rattle.admission_log.specs.declared.settings.Settings.{Settings}
use Rattle.admission_log.specs.Histories.{History}
use Rattle.plot_geometry.specs.declared.radars.RadarSettings.{RadarSettings}
use Rattle.scene_gen.specs.Datagrams.{start}
use Rattle.scene_gen.specs.Scenes.{scene}
use Rattle.scene_gen.proofs.Fitting.{is_read}
use Rattle.settings_text.specs.Numbers.{radar_numbers}
use Rattle.settings_text.proofs.OnlyAnswer.{same_radar, same_settings}
use Rattle.session_script.specs.Scripts.{Follows, ends}
use Rattle.session_script.proofs.Following.{after_pick, at_end, ended_so}
use Rattle.tracker_session.specs.declared.counts.Counts.{Counts}
use Rattle.tracker_session.specs.declared.totals.Totals.{Totals}
use Rattle.tracker_session.specs.Counting.{counted, counts_of}
use Rattle.tracker_session.specs.Exercise.{Exercised, HaveTotals, IsExercise, IsExerciseText, exercise_lines, exercise_script, scene_items}
use Rattle.tracker_session.specs.Inputs.{tells_biases}
use Rattle.tracker_session.specs.Replay.{IsOutput, IsReplayLog, Replays, empty_log}
use Rattle.tracker_session.specs.SceneSettings.{AreSceneSettings}
use Rattle.tracker_session.specs.Totals.{AreTotals}
use Rattle.tracker_session.specs.Work.{IsSpentOnItems, IsSpentOnScene}
use Rattle.tracker_session.proofs.CertificateCounts.{certificates_count}
use Rattle.tracker_session.proofs.Logs.{logs_same}
use Rattle.tracker_session.proofs.Outputs.{outputs_same}

-- ---- the script

pub exercise_follows : (seed aircraft seconds late : ℕ) (text : List ℕ) (host : HostState) → IsExerciseText seed aircraft seconds late text → Follows (exercise_script seed aircraft seconds late) (Ok text) host host
exercise_follows seed aircraft seconds late text host h =
    let lines = exercise_lines h.0.counts h.0.totals in
    after_pick (λ (e : Exercised seed aircraft seconds late). ends (Ok (exercise_lines e.counts e.totals))) h.0 (Ok text) host host (ended_so (ends (Ok lines)) (Ok lines) (Ok text) host host (ap Ok h.1) (at_end (Ok lines) host))

-- ---- the recording

-- what is read of the recording are the scene's items
pub read_so : (seed aircraft seconds late : ℕ) (octets : List ℕ) (header : Option Header) (s : ℕ) (items : List Item) (fault : Option ℕ) (settings : Settings) (counts : Counts) (totals : Totals) → seconds < 2 ^ 16 → octets ≡ scene seed aircraft seconds late → IsReading octets header s items fault → HaveTotals settings s items counts totals → HaveTotals settings start (scene_items seed aircraft seconds late) counts totals
read_so seed aircraft seconds late octets header s items fault settings counts totals few is reading h =
    let same = one_recording (scene seed aircraft seconds late) false header (Some First) s start items (scene_items seed aircraft seconds late) fault None (subst (λ (o : List ℕ). IsReading o header s items fault) is reading) (is_read seed aircraft seconds late few) in
    subst (λ (n : ℕ). HaveTotals settings n (scene_items seed aircraft seconds late) counts totals) same.1 (subst (λ (xs : List Item). HaveTotals settings s xs counts totals) same.2 h)

-- ---- there is one

radars_same : (xs ys : List RadarSettings) → map radar_numbers xs ≡ map radar_numbers ys → xs ≡ ys
radars_same [] [] h = refl
radars_same [] (y ∷ ys) h = absurd (omega (arith, ap length h))
radars_same (x ∷ xs) [] h = absurd (omega (arith, ap length h))
radars_same (x ∷ xs) (y ∷ ys) h =
    let one = same_radar x y (ap (λ (l : List (List ℤ)). get_or l 0 []) h) in
    let others = radars_same xs ys (ap (drop 1) h) in
    λ i. one i ∷ others i

one_scene : (s t : Settings) → AreSceneSettings s → AreSceneSettings t → s ≡ t
one_scene s t h k = same_settings s t (h.system ∙ sym k.system) (radars_same s.radars t.radars (h.radars_are ∙ sym k.radars_are))

totals_same : (settings : Settings) (log : History) (a b : Totals) → AreTotals settings log a → AreTotals settings log b → a ≡ b
totals_same settings log a b h k =
    let g = h.counted_are in
    let j = k.counted_are in
    let tracks : a.tracks ≡ b.tracks = h.tracks_are ∙ sym k.tracks_are in
    let octets : a.octets ≡ b.octets = g.octets_are ∙ ap (λ (o : List ℕ). counted (length o)) (outputs_same settings log g.output j.output g.output_is j.output_is) ∙ sym j.octets_are in
    let certificates : a.certificates ≡ b.certificates = g.certificates_are ∙ ap counted (certificates_count settings log g.certs j.certs g.certs_are j.certs_are) ∙ sym j.certificates_are in
    λ i. record { tracks = tracks i; octets = octets i; certificates = certificates i }

told_same : (settings : Settings) (s : ℕ) (items : List Item) (a b : Counts) (t u : Totals) → HaveTotals settings s items a t → HaveTotals settings s items b u → (a ≡ b) × (t ≡ u)
told_same settings s items a b t u h k =
    let log = logs_same settings (empty_log s) items h.log k.log h.log_is k.log_is in
    (h.counts_are ∙ ap (counts_of false items) log ∙ sym k.counts_are, totals_same settings k.log t u (subst (λ (l : History). AreTotals settings l t) log h.totals_are) k.totals_are)

exercises_same : (seed aircraft seconds late : ℕ) (a b : Counts) (t u : Totals) → IsExercise seed aircraft seconds late a t → IsExercise seed aircraft seconds late b u → (a ≡ b) × (t ≡ u)
exercises_same seed aircraft seconds late a b t u h k =
    told_same k.settings start (scene_items seed aircraft seconds late) a b t u (subst (λ (s : Settings). HaveTotals s start (scene_items seed aircraft seconds late) a t) (one_scene h.settings k.settings h.given k.given) h.told) k.told

pub lines_same : (seed aircraft seconds late : ℕ) (e f : Exercised seed aircraft seconds late) → exercise_lines e.counts e.totals ≡ exercise_lines f.counts f.totals
lines_same seed aircraft seconds late e f =
    let same = exercises_same seed aircraft seconds late e.counts f.counts e.totals f.totals e.is f.is in
    λ i. exercise_lines (same.0 i) (same.1 i)

-- ---- its steps

-- what is spent on the items that are read of the recording is spent on the scene
pub scene_spent : (seed aircraft seconds late : ℕ) (octets : List ℕ) (header : Option Header) (s : ℕ) (items : List Item) (fault : Option ℕ) (settings : Settings) (old new : ℕ) → seconds < 2 ^ 16 → octets ≡ scene seed aircraft seconds late → IsReading octets header s items fault → AreSceneSettings settings → IsSpentOnItems settings s items old new → IsSpentOnScene seed aircraft seconds late old new
scene_spent seed aircraft seconds late octets header s items fault settings old new few is reading given spent other other_given =
    let same = one_recording (scene seed aircraft seconds late) false header (Some First) s start items (scene_items seed aircraft seconds late) fault None (subst (λ (o : List ℕ). IsReading o header s items fault) is reading) (is_read seed aircraft seconds late few) in
    let read = subst (λ (n : ℕ). IsSpentOnItems settings n (scene_items seed aircraft seconds late) old new) same.1 (subst (λ (xs : List Item). IsSpentOnItems settings s xs old new) same.2 spent) in
    subst (λ (t : Settings). IsSpentOnItems t start (scene_items seed aircraft seconds late) old new) (one_scene settings other given other_given) read

-- ---- the replay of the recording

-- a recording of the first form tells no changes of biases
no_biases : (seed aircraft seconds late : ℕ) → tells_biases (scene seed aircraft seconds late) ≡ false
unfolding scene
no_biases seed aircraft seconds late = refl

pub as_replayed : (seed aircraft seconds late : ℕ) (told counts : Counts) (totals : Totals) (settings : Settings) (output : List ℕ) (fault : Option ℕ) → seconds < 2 ^ 16 → length (scene seed aircraft seconds late) ≤ place_limit → IsExercise seed aircraft seconds late told totals → AreSceneSettings settings
    → Replays settings (scene seed aircraft seconds late) output counts fault → (told ≡ counts) × (totals.octets ≡ counted (length output)) × (fault ≡ None)
as_replayed seed aircraft seconds late told counts totals settings output fault few short h given r =
    let items = scene_items seed aircraft seconds late in
    let octets = scene seed aircraft seconds late in
    let same = one_recording octets false r.header (Some First) r.start start r.items items fault None (r.reading.whole short) (is_read seed aircraft seconds late few) in
    let told' = subst (λ (s : Settings). HaveTotals s start items told totals) (one_scene h.settings settings h.given given) h.told in
    let log_is = subst (λ (n : ℕ). IsReplayLog settings n items r.log) same.1 (subst (λ (xs : List Item). IsReplayLog settings r.start xs r.log) same.2 r.log_is) in
    let log = logs_same settings (empty_log start) items told'.log r.log told'.log_is log_is in
    let c = told'.totals_are.counted_are in
    let one = outputs_same settings r.log c.output output (subst (λ (l : History). IsOutput settings l c.output) log c.output_is) r.output_is in
    let tells : tells_biases octets ≡ false = no_biases seed aircraft seconds late in
    let told_is = sym tells in
    let items_are = sym same.2 in
    (told'.counts_are ∙ (λ i. counts_of (told_is i) (items_are i) (log i)) ∙ sym r.counts_are, c.octets_are ∙ ap (λ (o : List ℕ). counted (length o)) one, same.3)
