-- An engine for a log without events.
use Rattle.std.proofs.Common.{◌≡◌, ◌∙◌, ap, sym, refl, subst, ℕ, zero, suc, ◌+◌, List, [], ◌∷◌, ◌++◌, length, map, Option, None, arith}
use Rattle.std.specs.List.{range_with_len}
use Rattle.std.specs.List.Sorted.{IsStrictlySortedBy}
use Rattle.std.proofs.lemmas.List.Sorted.{IsPermutation-refl}
use Rattle.std.proofs.lemmas.Option.{none-some}
use Rattle.late_window.proofs.Cuts.{before_none}
use Rattle.slot_step.specs.Calls.{AreFromBefore}
use Rattle.admission_log.specs.declared.settings.Settings.{Settings}
use Rattle.admission_log.specs.Entries.{slot_in}
use Rattle.admission_log.specs.Histories.{low_at}
use Rattle.admission_log.specs.Legality.{IsLegal}
use Rattle.tracker_fold.specs.declared.state.TrackerState.{TrackerState}
use Rattle.tracker_fold.specs.Starts.{start}
use Rattle.tracker_fold.specs.Steps.{next, IsOut, IsBefore}
use Rattle.edition_form.specs.declared.lines.ShownLine.{ShownLine}
use Rattle.tracker_engine.specs.Engines.{EntryWindow, StandsFor}
use Rattle.tracker_engine.proofs.Members.{has_of, of_rise}

abbrev none_yet : Option ℕ
none_yet = None

-- a radar more, from which no service message came
pub none_more : (n : ℕ) → map (λ radar. none_yet) (range_with_len 0 n) ++ None ∷ [] ≡ map (λ radar. None) (range_with_len 0 (n + 1))
none_more n = let e : suc n ≡ n + 1 = omega arith in from 0 n ∙ ap (λ m. map (λ radar. None) (range_with_len 0 m)) e
  where
    from : (k n : ℕ) → map (λ radar. none_yet) (range_with_len k n) ++ None ∷ [] ≡ map (λ radar. None) (range_with_len k (suc n))
    from k zero = refl
    from k (suc n) = ap (λ (l : List (Option ℕ)). None ∷ l) (from (k + 1) n)

-- no tracks are before any slot
pub none_before : (settings : Settings) (s : TrackerState) (n : ℕ) → s ≡ start settings → IsBefore s n
unfolding IsStrictlySortedBy
none_before settings s n e =
    let none : AreFromBefore n [] = record { rising = tt; each = tt } in
    subst (AreFromBefore n) (sym (ap (λ t. t.table) e)) none

no_events : (settings : Settings) (at : ℕ) → IsLegal settings (record { start = at; events = [] })
no_events settings at = record { each = λ index event h. absurd (none-some event h) }

pub begins : (settings : Settings) (at low : ℕ) (state : TrackerState) (services : List (Option ℕ)) (w : EntryWindow) (shown : List ShownLine) → low ≡ low_at settings.window at → state ≡ start settings
    → services ≡ map (λ radar. None) (range_with_len 0 (length settings.radars)) → w ≡ record { base = state; items = []; states = []; outs = []; low = low; upto = low } → shown ≡ []
    → StandsFor settings (record { start = at; events = [] }) 0 0 (record { settings = settings; start = at; last = at; count = 0; services = services; window = w; before = 0; shown = shown })
begins settings at low state services w shown low_is state_is none made none_shown =
    subst (λ v. StandsFor settings (record { start = at; events = [] }) 0 0 (record { settings = settings; start = at; last = at; count = 0; services = services; window = v; before = 0; shown = shown })) (sym made) (record {
      legal = no_events settings at;
      settings_are = refl;
      start_is = refl;
      last_is = refl;
      count_is = refl;
      services_are = none;
      entries = record {
        all = [];
        in_order = record { same = IsPermutation-refl []; rise = tt };
        base = state_is ∙ sym (before_none slot_in next IsOut (start settings) low [] tt);
        items = refl;
        states = refl;
        outs = refl;
      };
      low = omega (arith, low_is);
      settled_within = omega arith;
      folded_are = record { rising = of_rise [] tt; all = λ n. (λ there. absurd (has_of n [] there), λ is. absurd (has_of _ [] is.1.filled.there)) };
      before_is = refl;
      before_within = omega arith;
      shown_are = none_shown;
    })
