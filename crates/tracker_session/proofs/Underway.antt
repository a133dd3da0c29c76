-- A replay on its way: the log so far, of which the run keeps the summary and the newest events, and the editions that were given.
use Rattle.std.proofs.Common.{◌≡◌, ◌∙◌, ap, sym, refl, subst, arith, ℕ, List, [], ◌∷◌, ◌++◌, drop, Bool, true, false}
use Rattle.std.proofs.lemmas.List.{drop_all}
use Rattle.io_traits.specs.Host.{HostState}
use Rattle.recording.specs.Items.{Item}
use Rattle.session_script.specs.Scripts.{End, Follows, Script}
use Rattle.admission_log.specs.declared.settings.Settings.{Settings}
use Rattle.admission_log.specs.Histories.{History}
use Rattle.admission_log.specs.Legality.{IsLegal}
use Rattle.tracker_session.specs.declared.editions.Editions.{Editions}
use Rattle.tracker_session.specs.declared.taking.Run.{Run}
use Rattle.tracker_session.specs.Counting.{no_counts}
use Rattle.tracker_session.specs.Editions.{AreGiven, HasNext}
use Rattle.tracker_session.specs.Replay.{empty_log}
use Rattle.tracker_session.specs.Taking.{Keeps, Moves, Progress, StandsFor, shows}
use Rattle.tracker_session.proofs.Logs.{log_push}
use Rattle.tracker_session.proofs.Nexts.{cut_is, empty_legal, given_silent, newest_more, next_after}
use Rattle.tracker_session.proofs.Outputs.{last_within}

pub record IsUnderway (settings : Settings) (tells : Bool) (start : ℕ) (items : List Item) (run : Run) (editions : Editions) : Type 0 where
  pub progress : Progress
  pub keeps : Keeps run progress
  pub legal : IsLegal settings progress.log
  pub given : AreGiven settings progress.log editions
  pub stands : StandsFor progress settings tells start items
  pub newest : run.newest.items ≡ drop editions.cut progress.log.events

-- what is left of the script behind a log goes on what was done of the whole
abbrev pub GoesOn : (History → Script) → Script → HostState → HostState → History → Type 0
GoesOn rest whole first now log = (end : End) (last : HostState) → Follows (rest log) end now last → Follows whole end first last

-- it is underway, and this holds of its log
abbrev pub Stands : Settings → Bool → ℕ → (History → Type 0) → List Item → Run → Editions → Type 0
Stands settings tells start P items run editions = (u : IsUnderway settings tells start items run editions) × P u.progress.log

-- what holds of its log, and what it cost
pub record Both (A B : Type 0) : Type 0 where
  pub holds : A
  pub cost : B

-- before any item
pub begins : (settings : Settings) (tells : Bool) (start : ℕ) (P : History → Type 0) (run : Run) (editions : Editions) → Keeps run (record { log = empty_log start; counts = no_counts tells }) → run.newest.items ≡ [] → AreGiven settings (empty_log start) editions → P (empty_log start) → Stands settings tells start P [] run editions
begins settings tells start P run editions keeps none given p = (
  record {
    progress = record { log = empty_log start; counts = no_counts tells };
    keeps = keeps;
    legal = empty_legal settings start editions given;
    given = given;
    stands = record { log = refl; counts = refl };
    newest = none ∙ sym (drop_all editions.cut [] (omega arith));
  },
  p,
)

module _ (settings : Settings) (tells : Bool) (start : ℕ) (items : List Item) (run run' : Run) (editions : Editions) (u : IsUnderway settings tells start items run editions) (item : Item) (shown : Bool) (m : Moves settings item shown u.progress run run') where
  stands_pushed : StandsFor m.after settings tells start (items ++ item ∷ [])
  stands_pushed =
      let t = m.takes in
      record {
        log = log_push settings (empty_log start) items u.progress.log m.after.log item t.added u.stands.log t.has.adds t.has.log;
        counts = t.has.counts tells start items u.stands.log u.stands.counts;
      }

  newest_here : run'.newest.items ≡ drop editions.cut m.after.log.events
  newest_here =
      newest_more u.progress.log m.takes.added editions.cut run.newest.items run'.newest.items (omega (arith, u.given.cut_is, last_within u.progress.log)) u.newest m.newest
      ∙ ap (λ (l : History). drop editions.cut l.events) (sym m.takes.has.log)

  -- what is added gives no edition
  pub silent_on : (P : History → Type 0) → P m.after.log → shows m.takes.added ≡ false → Stands settings tells start P (items ++ item ∷ []) run' editions
  silent_on P p silent = (
    record {
      progress = m.after;
      keeps = m.keeps;
      legal = m.legal u.legal;
      given = subst (λ (l : History). AreGiven settings l editions) (sym m.takes.has.log) (given_silent settings u.progress.log item m.takes.added editions m.takes.has.adds silent u.given);
      stands = stands_pushed;
      newest = newest_here;
    },
    p,
  )

  module _ (is : shows m.takes.added ≡ true) where
    -- an edition comes next
    pub has_next : HasNext settings m.after.log run'.newest.items editions
    has_next = next_after settings u.progress.log m.after.log item m.takes.added run'.newest.items editions m.takes.has.adds is m.takes.has.log (m.legal u.legal) u.given newest_here

    -- it was given, and its events were let go
    pub shown_on : (P : History → Type 0) → P m.after.log → (last : Run) (given : Editions) → AreGiven settings m.after.log given → last.log ≡ run'.log → last.counts ≡ run'.counts → last.newest.items ≡ [] → Stands settings tells start P (items ++ item ∷ []) last given
    shown_on P p last given are log counts none = (
      record {
        progress = m.after;
        keeps = record { log = log ∙ m.keeps.log; counts = counts ∙ m.keeps.counts };
        legal = m.legal u.legal;
        given = are;
        stands = stands_pushed;
        newest = none ∙ sym (drop_all given.cut m.after.log.events (omega (arith, are.cut_is, cut_is settings m.after.log run'.newest.items editions has_next)));
      },
      p,
    )
