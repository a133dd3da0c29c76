-- What a run that follows a script has reached.
use Rattle.std.proofs.Common.{◌≡◌, inl, inr, refl, subst, arith, ℕ, List, [], ◌∷◌, ◌++◌, take, Bool, true, false}
use Rattle.std.specs.Prelude.{Option, Some, None, Ok, Err, if◌then◌else◌}
use Rattle.io_traits.specs.Host.{HostState}
use Rattle.io_traits.specs.Touching.{same_place}
use Rattle.io_traits.specs.declared.host.Place.{Place}
use Rattle.io_traits.specs.declared.host.Way.TheVariants as ways
use Rattle.session_script.specs.Ends.{MayHold}
use Rattle.session_script.specs.Scripts.{Binding, Breaks, End, Follows, GaveUp, Gives, Script, reads, opens, writes, picks, ends, piece_for, read_of}
use Rattle.session_script.specs.Steps.{OpeningBroke, PlaceOpened, PlaceRead, PlaceWritten, ReadingBroke, WritingBroke}
use Rattle.session_script.specs.declared.status.Status.{Status}
use Rattle.session_script.proofs.Runs.{Run, run_then}
use Rattle.session_script.proofs.Holding.{Unread, held, some_held, unread_opened, unread_read, unread_written}
use Rattle.session_script.proofs.OneStep.{nothing, opened_done, read_done, run_ended, run_gave_up, run_unopened, run_unread, run_unwritten, written_done}

-- ---- a whole script

none_of : (place p : Place) (octets : List ℕ) → [] ≡ piece_for place (take 0 octets) p
none_of place p octets = by_test (same_place p place) where
  by_test : (b : Bool) → [] ≡ (if b then take 0 octets else [])
  by_test true = refl
  by_test false = refl

-- any script can be broken off at once
stops : (script : Script) (holds : Place → List ℕ → Type 0) → Gives script holds [] nothing None
unfolding Gives
stops (reads place name next) holds = inl (record { unbound = refl; nothing = λ p. refl; broken = refl })
stops (opens place name next) holds = inl (record { unbound = refl; nothing = λ p. refl; broken = refl })
stops (writes place octets next) holds = inl (record { n = 0; within = omega arith; unbound = refl; part = λ p. none_of place p octets; broken = refl })
stops (picks next) holds = inl (record { unbound = refl; nothing = λ p. refl; broken = refl })
stops (ends it) holds = inl (record { unbound = refl; nothing = λ p. refl; broken = refl })

pub record Reached (script : Script) (first : HostState) (end : End) (old new : HostState) : Type 0 where
  pub bound : List Binding
  pub gets : Place → List ℕ
  pub stop : Option End
  pub gives : Gives script (MayHold first) bound gets stop
  pub run : Run stop end bound gets old new

at_once : (script : Script) (first : HostState) (end : End) (old new : HostState) → GaveUp end old new → Reached script first end old new
at_once script first end old new g = record { bound = []; gets = nothing; stop = None; gives = stops script (MayHold first); run = run_gave_up end old new g }

broken : (end : End) (why : Status → Type 0) (T : End → Type 0) → ((s : Status) → why s → T (Err s)) → Breaks end why → T end
broken (Ok text) why T f h = absurd h
broken (Err s) why T f h = f s h

reading : (place : Place) (name octets : List ℕ) (next : List ℕ → Script) (first : HostState) (end : End) (old mid new : HostState) → Unread first old → PlaceRead place name octets old mid → Reached (next octets) first end mid new → Reached (reads place name next) first end old new
unfolding Gives
reading place name octets next first end old mid new u h r =
    let all = held first old mid place octets (u place h.fresh.unbound) h.read in
    record {
      bound = (place, ways.Read, name) ∷ r.bound;
      gets = r.gets;
      stop = r.stop;
      gives = inr (all.all, all.may, r.bound, refl, subst (λ (o : List ℕ). Gives (next o) (MayHold first) r.bound r.gets r.stop) all.read r.gives);
      run = run_then r.stop end ((place, ways.Read, name) ∷ []) r.bound nothing r.gets old mid new (read_done place name octets old mid h) r.run;
    }

unread_at : (place : Place) (name : List ℕ) (next : List ℕ → Script) (first : HostState) (s : Status) (old new : HostState) → ReadingBroke place name s old new → Reached (reads place name next) first (Err s) old new
unfolding Gives
unread_at place name next first s old new h =
    let all = some_held first place in
    record {
      bound = (place, ways.Read, name) ∷ [];
      gets = nothing;
      stop = None;
      gives = inr (all.0, all.1, [], refl, stops (next (read_of all.0)) (MayHold first));
      run = run_unread place name s old new h;
    }

opening : (place : Place) (name : List ℕ) (next : Script) (first : HostState) (end : End) (old mid new : HostState) → PlaceOpened place name old mid → Reached next first end mid new → Reached (opens place name next) first end old new
unfolding Gives
opening place name next first end old mid new h r = record {
  bound = (place, ways.Write, name) ∷ r.bound;
  gets = r.gets;
  stop = r.stop;
  gives = inr (r.bound, refl, r.gives);
  run = run_then r.stop end ((place, ways.Write, name) ∷ []) r.bound nothing r.gets old mid new (opened_done place name old mid h) r.run;
}

unopened_at : (place : Place) (name : List ℕ) (next : Script) (first : HostState) (s : Status) (old new : HostState) → OpeningBroke place name s old new → Reached (opens place name next) first (Err s) old new
unfolding Gives
unopened_at place name next first s old new h = record {
  bound = (place, ways.Write, name) ∷ [];
  gets = nothing;
  stop = None;
  gives = inr ([], refl, stops next (MayHold first));
  run = run_unopened place name s old new h;
}

writing : (place : Place) (octets : List ℕ) (next : Script) (first : HostState) (end : End) (old mid new : HostState) → PlaceWritten place octets old mid → Reached next first end mid new → Reached (writes place octets next) first end old new
unfolding Gives
writing place octets next first end old mid new h r = record {
  bound = r.bound;
  gets = λ p. piece_for place octets p ++ r.gets p;
  stop = r.stop;
  gives = inr (r.gets, (λ p. refl), r.gives);
  run = run_then r.stop end [] r.bound (piece_for place octets) r.gets old mid new (written_done place octets old mid h) r.run;
}

unwritten_at : (place : Place) (octets : List ℕ) (next : Script) (first : HostState) (s : Status) (old new : HostState) → WritingBroke place octets s old new → Reached (writes place octets next) first (Err s) old new
unfolding Gives
unwritten_at place octets next first s old new h = record {
  bound = [];
  gets = piece_for place (take h.got.0 octets);
  stop = None;
  gives = inl (record { n = h.got.0; within = h.got.1; unbound = refl; part = λ p. refl; broken = refl });
  run = run_unwritten place octets s old new h;
}

picking : {A : Type 0} (next : A → Script) (a : A) (first : HostState) (end : End) (old new : HostState) → Reached (next a) first end old new → Reached (picks next) first end old new
unfolding Gives
picking next a first end old new r = record { bound = r.bound; gets = r.gets; stop = r.stop; gives = inr (a, r.gives); run = r.run }

ending : (it end : End) (first old new : HostState) → end ≡ it → old ≡ new → Reached (ends it) first end old new
unfolding Gives
ending it end first old new e h = record { bound = []; gets = nothing; stop = Some it; gives = inr (refl, (λ p. refl), refl); run = run_ended it end old new e h }

pub reached : (script : Script) (first : HostState) (end : End) (old new : HostState) → Unread first old → Follows script end old new → Reached script first end old new
unfolding Follows
reached (reads place name next) first end old new u f = elim f [
  | inl g ↦ at_once (reads place name next) first end old new g
  | inr (inl h) ↦ broken end (λ s. ReadingBroke place name s old new) (λ e. Reached (reads place name next) first e old new) (λ s k. unread_at place name next first s old new k) h
  | inr (inr h) ↦ reading place name h.0 next first end old h.1 new u h.2 (reached (next h.0) first end h.1 new (unread_read place name h.0 first old h.1 u h.2) h.3)
]
reached (opens place name next) first end old new u f = elim f [
  | inl g ↦ at_once (opens place name next) first end old new g
  | inr (inl h) ↦ broken end (λ s. OpeningBroke place name s old new) (λ e. Reached (opens place name next) first e old new) (λ s k. unopened_at place name next first s old new k) h
  | inr (inr h) ↦ opening place name next first end old h.0 new h.1 (reached next first end h.0 new (unread_opened place name first old h.0 u h.1) h.2)
]
reached (writes place octets next) first end old new u f = elim f [
  | inl g ↦ at_once (writes place octets next) first end old new g
  | inr (inl h) ↦ broken end (λ s. WritingBroke place octets s old new) (λ e. Reached (writes place octets next) first e old new) (λ s k. unwritten_at place octets next first s old new k) h
  | inr (inr h) ↦ writing place octets next first end old h.0 new h.1 (reached next first end h.0 new (unread_written place octets first old h.0 u h.1) h.2)
]
reached (picks next) first end old new u f = elim f [
  | inl g ↦ at_once (picks next) first end old new g
  | inr h ↦ picking next h.0 first end old new (reached (next h.0) first end old new u h.1)
]
reached (ends it) first end old new u f = elim f [
  | inl g ↦ at_once (ends it) first end old new g
  | inr h ↦ ending it end first old new h.0 h.1
]
