use Rattle.std.proofs.Common.{rules, ◌≡◌, ap, inl, inr, refl, subst, List, ℕ, [], ◌∷◌, Ok, Err}
use Rattle.std.specs.Arc.{arc_value}
use Rattle.std.specs.Prelude.{string_bytes}
use Rattle.io_traits.specs.Host.{HostState}
use Rattle.io_traits.specs.declared.host.Place.TheVariants as places
use Rattle.settings_text.specs.Answers.{IsSettingsAnswer}
use Rattle.admission_log.specs.declared.settings.Settings as admission
use Rattle.session_script.specs.Scripts.{Follows, Script, end_of, picks}
use Rattle.session_script.specs.declared.status.Status.{Status}
use Rattle.session_script.specs.declared.status.Status.TheVariants as statuses
use Rattle.session_script.proofs.Following.{after_pick, after_read, at_end, ended_so, gave_up, reading_broke}
use Rattle.tracker_session.specs.ReplayScript.{DocumentAnswer, StopsJudging, input_script, under}
use Rattle.tracker_session.proofs.Spending.{read_since, read_still}
use Rattle.tracker_session.proofs.commands.replay.replay.Goals as goal

abbrev judging : (admission.Settings → Script) → List ℕ → Script
judging next document = picks (λ (d : DocumentAnswer document). under d.answer next)

-- the first fault of the document is the end
judged_so : (next : admission.Settings → Script) (document : List ℕ) (s : Status) (host : HostState) → StopsJudging document s → Follows (judging next document) (Err s) host host
judged_so next document (statuses.Settings fault) host h = after_pick (λ (d : DocumentAnswer document). under d.answer next) (record { answer = Err fault; is = h }) (Err (statuses.Settings fault)) host host (at_end (Err (statuses.Settings fault)) host)
judged_so next document statuses.Memory host h = gave_up (judging next document) host
judged_so next document statuses.Done host h = absurd h
judged_so next document statuses.Usage host h = absurd h
judged_so next document (statuses.Input offset) host h = absurd h
judged_so next document (statuses.Read spot) host h = absurd h
judged_so next document (statuses.Write spot) host h = absurd h
judged_so next document (statuses.NotProved index offset) host h = absurd h

pub returns-in_err-document-clause-follows : goal.returns-in_err-document-clause-follows
returns-in_err-document-clause-follows g c =
    let state = g.H.Host.state in
    let next = input_script (string_bytes c.args.input) (string_bytes c.args.output) (string_bytes c.args.prices) in
    let s = c.in_err-document.field-0.0 in
    let is : c.from_residual.result ≡ Err s = search rules in
    let old = state c.args.host.now in
    let new = state c.read_file.new.host in
    ended_so _ (Err s) _ old new (ap end_of is) (reading_broke places.Settings (string_bytes c.args.settings) (judging next) s old new c.in_err-document.ensures.broke)

pub returns-in_err-settings-clause-follows : goal.returns-in_err-settings-clause-follows
returns-in_err-settings-clause-follows g c =
    let state = g.H.Host.state in
    let next = input_script (string_bytes c.args.input) (string_bytes c.args.output) (string_bytes c.args.prices) in
    let document = c.in_ok-document.document.items in
    let s = c.in_err-settings.field-0.0 in
    let is : c.from_residual-in_err-settings.result ≡ Err s = search rules in
    let old = state c.args.host.now in
    let new = state c.read_file.new.host in
    let stops = subst (λ (d : List ℕ). StopsJudging d s) c.deref.ensures.value c.in_err-settings.ensures.stops in
    ended_so _ (Err s) _ old new (ap end_of is)
    (after_read places.Settings (string_bytes c.args.settings) document (judging next) (Err s) old new new c.in_ok-document.ensures.read (judged_so next document s new stops))

pub returns-clause-follows : goal.returns-clause-follows
returns-clause-follows g c =
    let state = g.H.Host.state in
    let next = input_script (string_bytes c.args.input) (string_bytes c.args.output) (string_bytes c.args.prices) in
    let document = c.in_ok-document.document.items in
    let given = arc_value c.in_ok-settings.settings in
    let good = subst (λ (d : List ℕ). IsSettingsAnswer d (Ok given)) c.deref.ensures.value c.in_ok-settings.ensures.ok in
    let end = end_of c.replay_under.result in
    let old = state c.args.host.now in
    let mid = state c.read_file.new.host in
    let new = state c.replay_under.new.host in
    after_read places.Settings (string_bytes c.args.settings) document (judging next) end old mid new c.in_ok-document.ensures.read
    (after_pick (λ (d : DocumentAnswer document). under d.answer next) (record { answer = Ok given; is = good }) end mid new c.replay_under.ensures.follows)

pub returns-in_err-document-clause-spent : goal.returns-in_err-document-clause-spent
returns-in_err-document-clause-spent g c = inl refl

pub returns-in_err-settings-clause-spent : goal.returns-in_err-settings-clause-spent
returns-in_err-settings-clause-spent g c = inl refl

pub returns-clause-spent : goal.returns-clause-spent
returns-clause-spent g c =
    let state = g.H.Host.state in
    let document = c.in_ok-document.document.items in
    let given = arc_value c.in_ok-settings.settings in
    let good = subst (λ (d : List ℕ). IsSettingsAnswer d (Ok given)) c.deref.ensures.value c.in_ok-settings.ensures.ok in
    let old = state c.args.host.now in
    let mid = state c.read_file.new.host in
    let new = state c.replay_under.new.host in
    let r = c.in_ok-document.ensures.read in
    elim c.replay_under.ensures.spent [
      | inl same ↦ inl same
      | inr input ↦ inr (record {
        document = document;
        read = read_still places.Settings document (places.Input ∷ places.Output ∷ places.Prices ∷ []) (places.Input ∷ []) (places.Output ∷ places.Prices ∷ []) old mid new r.read c.replay_under.ensures.touches refl refl refl;
        settings = given;
        good = good;
        input = record {
          octets = input.octets;
          read = read_since places.Input input.octets (places.Settings ∷ []) (places.Settings ∷ []) [] old mid new r.touches input.read refl refl refl;
          spent = input.spent;
        };
      })
    ]
