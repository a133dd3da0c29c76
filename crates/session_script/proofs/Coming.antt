-- What a run comes to that follows a script and whose end is told.
use Rattle.std.proofs.Common.{◌≡◌, ◌≢◌, ◌∙◌, ◌⊎◌, inl, inr, refl, sym, subst, ℕ, List, [], ◌∷◌, ◌++◌, le_trans, Bool, true, false}
use Rattle.std.specs.Prelude.{Option, Some, None, IsTrue, IsFalse, Ok, Err, option_map}
use Rattle.std.specs.Io.KnownBytes.{Appends}
use Rattle.io_traits.specs.Host.{HostState, IsBoundFor, IsEmpty}
use Rattle.io_traits.specs.Places.{Got, HasFailed, NoneFailed}
use Rattle.io_traits.specs.Touching.{Touches, is_in, same_place}
use Rattle.io_traits.specs.declared.host.Place.{Place}
use Rattle.io_traits.specs.declared.host.Place.TheVariants as places
use Rattle.io_traits.specs.declared.host.Way.{Way}
use Rattle.io_traits.specs.declared.host.Way.TheVariants as ways
use Rattle.io_traits.proofs.Faulting.{Rose_until}
use Rattle.io_traits.proofs.Places.{or_false}
use Rattle.session_script.specs.Ends.{AllBound, AllPassed, ArePassed, BrokeOff, ComesTo, Ended, EndsSo, FilesKept, IsForetold, MayHold, OthersPassed, Passed, TellsReading, places_of, read_in, written_in}
use Rattle.session_script.specs.Scripts.{Binding, End, Gives, Script}
use Rattle.session_script.specs.Screen.{status_line}
use Rattle.session_script.specs.Telling.{Says}
use Rattle.session_script.specs.declared.status.Status.{Status}
use Rattle.session_script.specs.declared.status.Status.TheVariants.{Memory}
use Rattle.session_script.proofs.Bindings.{AllFresh, out_places, writes_among}
use Rattle.session_script.proofs.Runs.{Came, Cause, Frame}
use Rattle.session_script.proofs.ToldLines.{done_up, told_up}
use Rattle.session_script.proofs.Reaching.{reached}

-- ---- and its end is told

screen_apart : (bound : List Binding) (old : HostState) → AllFresh bound old → IsFalse (is_in (places_of bound) places.Screen)
screen_apart [] old fresh = refl
screen_apart ((q, way, name) ∷ rest) old fresh = first q fresh.0.file (screen_apart rest old fresh.1) where
  first : (q : Place) → q ≢ places.Screen → IsFalse (is_in (places_of rest) places.Screen) → IsFalse (is_in (q ∷ places_of rest) places.Screen)
  first places.Settings file out = out
  first places.Input file out = out
  first places.Output file out = out
  first places.Prices file out = out
  first places.Screen file out = absurd (file refl)

not_screen : (p : Place) → p ≢ places.Screen → IsFalse (is_in (places.Screen ∷ []) p)
not_screen places.Settings file = refl
not_screen places.Input file = refl
not_screen places.Output file = refl
not_screen places.Prices file = refl
not_screen places.Screen file = absurd (file refl)

shut_unbound : (p : Place) (old : HostState) → old.bound p ≡ None → IsBoundFor ways.Write old p → ⊥
shut_unbound p old unbound is = none_written (subst (λ (b : Option (Way × List ℕ)). option_map (λ binding. binding.0) b ≡ Some ways.Write) unbound is) where
  none_written : ◌≡◌ {A = Option Way} None (Some ways.Write) → ⊥
  none_written e = cc

module _ (script : Script) (status : Status) (old mid new : HostState) (unbound : (p : Place) → old.bound p ≡ None) (screen : Touches [] [] (places.Screen ∷ []) mid new) where
  bound_still : (bound : List Binding) → AllBound bound mid → AllBound bound new
  bound_still [] h = tt
  bound_still ((place, way, name) ∷ rest) h = (screen.bindings place refl ∙ h.0, bound_still rest h.1)

  passed_still : (way : Way) (place : Place) (name : List ℕ) → place ≢ places.Screen → Passed (place, way, name) old mid → Passed (place, way, name) old new
  passed_still ways.Read place name file h = (screen.faults place refl refl (not_screen place file) ∙ h.0, λ octets has short. subst (λ (o : Option (List ℕ)). IsEmpty o) (sym (screen.left place refl)) (h.1 octets has short))
  passed_still ways.Write place name file h = tt

  all_still : (bound : List Binding) → AllFresh bound old → AllPassed bound old mid → AllPassed bound old new
  all_still [] fresh h = tt
  all_still ((place, way, name) ∷ rest) fresh h = (passed_still way place name fresh.0.file h.0, all_still rest fresh.1 h.1)

  others_still : (bound : List Binding) → AllFresh bound old → OthersPassed bound old mid → OthersPassed bound old new
  others_still [] fresh h = tt
  others_still (binding ∷ []) fresh h = tt
  others_still ((place, way, name) ∷ next ∷ rest) fresh h = (passed_still way place name fresh.0.file h.0, others_still (next ∷ rest) fresh.1 h.1)

  are_still : (stop : Option End) (bound : List Binding) → AllFresh bound old → ArePassed stop bound old mid → ArePassed stop bound old new
  are_still (Some it) bound fresh h = all_still bound fresh h
  are_still None bound fresh h = others_still bound fresh h

  only_these : (bound : List Binding) → Frame bound old mid → Touches (places_of bound) (read_in bound) (places.Screen ∷ written_in bound) old new
  only_these bound frame = record {
    bindings = λ p out. screen.bindings p refl ∙ frame.bindings p out;
    left = λ p out. screen.left p refl ∙ frame.left p out;
    got = λ p out. (let o = or_false (same_place p places.Screen) (is_in (written_in bound) p) out in screen.got p (rw o.0 refl) ∙ frame.got p o.1 (shut_unbound p old (unbound p)));
    faults = λ p x y z. (let o = or_false (same_place p places.Screen) (is_in (written_in bound) p) z in screen.faults p refl refl (rw o.0 refl) ∙ frame.faults p x (shut_unbound p old (unbound p)));
    later = λ p. le_trans (frame.later p) (screen.later p);
  }

  got_still : (p : Place) (octets : List ℕ) → p ≢ places.Screen → Got p old mid octets → Got p old new octets
  got_still p octets file g = subst (λ (x : Option (List ℕ)). Appends (old.got p) x octets) (sym (screen.got p (not_screen p file))) g

  files_still : NoneFailed old mid → FilesKept old new
  files_still none p file = screen.faults p refl refl (not_screen p file) ∙ none p

  -- what the status tells is a file
  module _ (bound : List Binding) (fresh : AllFresh bound old) where
    read_file : (p : Place) (s : Status) → TellsReading p bound s → p ≢ places.Screen
    read_file p s h e = is_last (subst (λ (b : List Binding). IsFalse (is_in (places_of b) places.Screen)) h.3 (screen_apart bound old fresh)) where
      is_last : IsFalse (is_in (places_of (h.1 ++ (p, ways.Read, h.2) ∷ [])) places.Screen) → ⊥
      is_last out = (let last = (out_places h.1 ((p, ways.Read, h.2) ∷ []) places.Screen out).1 in last_place (subst (λ (q : Place). IsFalse (is_in (q ∷ []) places.Screen)) e last)) where
        last_place : IsFalse (is_in (places.Screen ∷ []) places.Screen) → ⊥
        last_place f = cc

    written_file : (p : Place) → IsTrue (is_in (written_in bound) p) → p ≢ places.Screen
    written_file p inside e = both_so (is_in (written_in bound) places.Screen) (subst (λ (q : Place). IsTrue (is_in (written_in bound) q)) e inside) (writes_among bound places.Screen (screen_apart bound old fresh)) where
      both_so : (b : Bool) → b ≡ true → b ≡ false → ⊥
      both_so true e f = cc
      both_so false e f = cc

    written_still : (p : Place) → (IsBoundFor ways.Write old p ⊎ IsTrue (is_in (written_in bound) p)) → IsTrue (is_in (written_in bound) p)
    written_still p (inl opened) = absurd (shut_unbound p old (unbound p) opened)
    written_still p (inr inside) = inside

    cause_still : (s : Status) → status ≡ s → Cause bound s old mid → BrokeOff bound status old new
    cause_still s e (inl m) = inl (e ∙ m)
    cause_still s e (inr h) = inr (
      h.0,
      elim h.2 [ inl r ↦ read_file h.0 s r | inr w ↦ written_file h.0 (written_still h.0 w.1) ],
      Rose_until (old.faults h.0) (mid.faults h.0) (new.faults h.0) h.1 (screen.later h.0),
      elim h.2 [
        | inl r ↦ inl (e ∙ r.0, r.1, r.2, r.3)
        | inr w ↦ inr (e ∙ w.0, written_still h.0 w.1)
      ],
    )

  module _ (bound : List Binding) (frame : Frame bound old mid) (fresh : AllFresh bound old) where
    apart : IsFalse (is_in (places_of bound) places.Screen)
    apart = screen_apart bound old fresh

    same_got : mid.got places.Screen ≡ old.got places.Screen
    same_got = frame.got places.Screen (writes_among bound places.Screen apart) (shut_unbound places.Screen old (unbound places.Screen))

    same_faults : mid.faults places.Screen ≡ old.faults places.Screen
    same_faults = frame.faults places.Screen apart (shut_unbound places.Screen old (unbound places.Screen))

    ends_so : (stop : Option End) (end : End) → Came stop end bound old mid → Says end status mid new → EndsSo stop bound status old new
    ends_so (Some (Ok text)) end came says = (files_still came.1, done_up text status old mid new same_got same_faults (subst (λ (e : End). Says e status mid new) came.0 says))
    ends_so (Some (Err why)) end came says =
        let said = subst (λ (e : End). Says e status mid new) came.0 says in
        (files_still came.1, said.0, told_up (status_line status) old mid new same_got same_faults said.1)
    ends_so None (Ok text) came says = absurd came
    ends_so None (Err s) came says = (
      elim says.0 [ inl e ↦ cause_still bound fresh s e came | inr m ↦ inl m ],
      told_up (status_line status) old mid new same_got same_faults says.1,
    )

-- What follows a script from places of which none is bound, and tells its end, comes to what the script gives.
pub comes_to : (script : Script) (status : Status) (old new : HostState) → ((p : Place) → old.bound p ≡ None) → Ended script status old new → ComesTo (Gives script (MayHold old)) status old new
comes_to script status old new unbound e =
    let r = reached script old e.end old e.mid (λ p u. refl) e.follows in
    record {
      bound = r.bound;
      gets = r.gets;
      stop = r.stop;
      given = r.gives;
      binds = record {
        all = bound_still script status old e.mid new unbound e.screen r.bound r.run.all;
        passed = are_still script status old e.mid new unbound e.screen r.stop r.bound r.run.fresh r.run.passed;
        touches = only_these script status old e.mid new unbound e.screen r.bound r.run.frame;
      };
      got = λ p file. got_still script status old e.mid new unbound e.screen p (r.gets p) file (r.run.got p);
      so = ends_so script status old e.mid new unbound e.screen r.bound r.run.frame r.run.fresh r.stop e.end r.run.came e.says;
    }

-- ---- in other words

-- what gives no more in one way than in another
pub comes_so : (gives to : List Binding → (Place → List ℕ) → Option End → Type 0) (status : Status) (old new : HostState) → ((bound : List Binding) (gets : Place → List ℕ) (stop : Option End) → gives bound gets stop → to bound gets stop) → ComesTo gives status old new → ComesTo to status old new
comes_so gives to status old new f c = record { bound = c.bound; gets = c.gets; stop = c.stop; given = f c.bound c.gets c.stop c.given; binds = c.binds; got = c.got; so = c.so }

-- Where no file failed and memory isn't wanting, the status is that of the end.
module _ (gives : List Binding → (Place → List ℕ) → Option End → Type 0) (status : Status) (old new : HostState) (none : (p : Place) → p ≢ places.Screen → HasFailed p old new → ⊥) (memory : status ≢ Memory) where
  by_end : (bound : List Binding) (gets : Place → List ℕ) (stop : Option End) → gives bound gets stop → EndsSo stop bound status old new → IsForetold gives status
  by_end bound gets (Some (Ok text)) given so = record { bound = bound; gets = gets; end = Ok text; given = given; is = elim so.1 [ inl h ↦ inl h.0 | inr h ↦ inr h.0 ] }
  by_end bound gets (Some (Err why)) given so = record { bound = bound; gets = gets; end = Err why; given = given; is = elim so.1 [ inl e ↦ e | inr m ↦ absurd (memory m) ] }
  by_end bound gets None given so = absurd (elim so.0 [ inl m ↦ memory m | inr h ↦ none h.0 h.1 h.2 ])

  pub foretold : ComesTo gives status old new → IsForetold gives status
  foretold c = by_end c.bound c.gets c.stop c.given c.so
