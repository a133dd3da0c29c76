-- What one step makes of the places, done or broken off.
use Rattle.std.proofs.Common.{◌≡◌, ◌≤◌, ◌∙◌, inl, inr, ap, refl, sym, subst, arith, ℕ, List, [], ◌∷◌, length, take, length-append, le_refl}
use Rattle.std.specs.Prelude.{Option, Some, None, IsTrue, IsFalse, Err}
use Rattle.std.specs.Io.KnownBytes.{Appends, Consumes}
use Rattle.io_traits.specs.Host.{HostState, IsBoundFor, IsEmpty}
use Rattle.io_traits.specs.Places.{Got, Has, NoneFailed, WasRead, place_limit}
use Rattle.io_traits.specs.Touching.{Touches, is_in}
use Rattle.io_traits.specs.declared.host.Place.{Place}
use Rattle.io_traits.specs.declared.host.Place.TheVariants as places
use Rattle.io_traits.specs.declared.host.Way.TheVariants as ways
use Rattle.io_traits.proofs.Known.{Appends_nothing}
use Rattle.io_traits.proofs.Places.{same_or_not}
use Rattle.session_script.specs.Ends.{written_in}
use Rattle.session_script.specs.Scripts.{End, GaveUp, piece_for}
use Rattle.session_script.specs.Steps.{OpeningBroke, PlaceOpened, PlaceRead, PlaceWritten, ReadingBroke, WritingBroke}
use Rattle.session_script.specs.declared.status.Status.{Status}
use Rattle.session_script.specs.declared.status.Status.TheVariants.{Memory}
use Rattle.session_script.proofs.Runs.{Done, Frame, Run}

-- ---- one step

abbrev pub nothing : Place → List ℕ
nothing p = []

-- no other place failed
others_kept : (place : Place) (old new : HostState) → new.faults place ≡ old.faults place → ((p : Place) → IsFalse (is_in (place ∷ []) p) → new.faults p ≡ old.faults p) → NoneFailed old new
others_kept place old new here others p = elim (same_or_not p place) [
  | inl e ↦ subst (λ (x : Place). new.faults x ≡ old.faults x) (sym e) here
  | inr apart ↦ others p (rw apart refl)
]

nothing_got : (old new : HostState) (p : Place) → new.got p ≡ old.got p → Got p old new []
nothing_got old new p same = subst (λ (g : Option (List ℕ)). Appends (old.got p) g []) (sym same) (Appends_nothing (old.got p))

frame_read : (place : Place) (name : List ℕ) (old new : HostState) → Touches (place ∷ []) (place ∷ []) [] old new → Frame ((place, ways.Read, name) ∷ []) old new
frame_read place name old new t = record { bindings = t.bindings; left = t.left; got = λ p out shut. t.got p refl; faults = λ p out shut. t.faults p out out refl; later = t.later }

frame_opened : (place : Place) (name : List ℕ) (old new : HostState) → Touches (place ∷ []) [] [] old new → Frame ((place, ways.Write, name) ∷ []) old new
frame_opened place name old new t = record { bindings = t.bindings; left = t.left; got = λ p out shut. t.got p refl; faults = λ p out shut. t.faults p out refl refl; later = t.later }

-- a place that isn't open isn't the one that is written
shut : (place p : Place) (old : HostState) → IsBoundFor ways.Write old place → (IsBoundFor ways.Write old p → ⊥) → IsFalse (is_in (place ∷ []) p)
shut place p old opened closed = elim (same_or_not p place) [
  | inl e ↦ absurd (closed (subst (λ (x : Place). IsBoundFor ways.Write old x) (sym e) opened))
  | inr apart ↦ rw apart refl
]

frame_written : (place : Place) (old new : HostState) → IsBoundFor ways.Write old place → Touches [] [] (place ∷ []) old new → Frame [] old new
frame_written place old new opened t = record { bindings = t.bindings; left = t.left; got = λ p out closed. t.got p (shut place p old opened closed); faults = λ p out closed. t.faults p refl refl (shut place p old opened closed); later = t.later }

piece_got : (place p : Place) (octets : List ℕ) (old new : HostState) → Got place old new octets → Touches [] [] (place ∷ []) old new → Got p old new (piece_for place octets p)
piece_got place p octets old new got t = elim (same_or_not p place) [
  | inl e ↦ subst (λ (x : Place). Got x old new (piece_for place octets x)) (sym e) (here place got)
  | inr apart ↦ rw apart (nothing_got old new p (t.got p (rw apart refl)))
] where
  here : (place : Place) → Got place old new octets → Got place old new (piece_for place octets place)
  here places.Settings h = h
  here places.Input h = h
  here places.Output h = h
  here places.Prices h = h
  here places.Screen h = h

was_passed : (place : Place) (octets all : List ℕ) (old new : HostState) → WasRead place octets old new → Has place old all → length all ≤ place_limit → IsEmpty (new.left place)
was_passed place octets all old new read has short = read.whole (shorter (old.left place) (new.left place) read.taken has) where
  shorter : (a b : Option (List ℕ)) → Consumes a b octets → a ≡ Some all → length octets ≤ place_limit
  shorter None b h e = absurd cc
  shorter (Some xs) None h e = absurd h
  shorter (Some xs) (Some ys) h e = (let same : xs ≡ all = cc in omega (arith, short, ap length (sym same ∙ h), length-append octets ys))

pub read_done : (place : Place) (name octets : List ℕ) (old new : HostState) → PlaceRead place name octets old new → Done ((place, ways.Read, name) ∷ []) nothing old new
read_done place name octets old new h = record {
  frame = frame_read place name old new h.touches;
  fresh = (h.fresh, tt);
  all = (h.bound, tt);
  passed = ((h.read.kept, λ all has short. was_passed place octets all old new h.read has short), tt);
  got = λ p. nothing_got old new p (h.touches.got p refl);
  kept = others_kept place old new h.read.kept (λ p out. h.touches.faults p out out refl);
}

pub opened_done : (place : Place) (name : List ℕ) (old new : HostState) → PlaceOpened place name old new → Done ((place, ways.Write, name) ∷ []) nothing old new
opened_done place name old new h = record {
  frame = frame_opened place name old new h.touches;
  fresh = (h.fresh, tt);
  all = (h.bound, tt);
  passed = (tt, tt);
  got = λ p. nothing_got old new p (h.touches.got p refl);
  kept = others_kept place old new h.kept (λ p out. h.touches.faults p out refl refl);
}

pub written_done : (place : Place) (octets : List ℕ) (old new : HostState) → PlaceWritten place octets old new → Done [] (piece_for place octets) old new
written_done place octets old new h = record {
  frame = frame_written place old new h.opened h.touches;
  fresh = tt;
  all = tt;
  passed = tt;
  got = λ p. piece_got place p octets old new h.got h.touches;
  kept = others_kept place old new h.kept (λ p out. h.touches.faults p refl refl out);
}

-- ---- broken off

stands : (old : HostState) → Frame [] old old
stands old = record { bindings = λ p out. refl; left = λ p out. refl; got = λ p out closed. refl; faults = λ p out closed. refl; later = λ p. le_refl (old.faults p) }

pub run_gave_up : (end : End) (old new : HostState) → GaveUp end old new → Run None end [] nothing old new
run_gave_up end old new g = subst (λ (e : End). Run None e [] nothing old new) (sym g.0) (subst (λ (h : HostState). Run None (Err Memory) [] nothing old h) g.1 (record { frame = stands old; fresh = tt; all = tt; passed = tt; got = λ p. Appends_nothing (old.got p); came = inl refl }))

pub run_ended : (it end : End) (old new : HostState) → end ≡ it → old ≡ new → Run (Some it) end [] nothing old new
run_ended it end old new e h = subst (λ (x : HostState). Run (Some it) end [] nothing old x) h (record { frame = stands old; fresh = tt; all = tt; passed = tt; got = λ p. Appends_nothing (old.got p); came = (e, λ p. refl) })

pub run_unread : (place : Place) (name : List ℕ) (s : Status) (old new : HostState) → ReadingBroke place name s old new → Run None (Err s) ((place, ways.Read, name) ∷ []) nothing old new
run_unread place name s old new h = record {
  frame = frame_read place name old new h.touches;
  fresh = (h.fresh, tt);
  all = (h.bound, tt);
  passed = tt;
  got = λ p. nothing_got old new p (h.touches.got p refl);
  came = elim h.cause [ inl x ↦ inr (place, x.1, inl (x.0, [], name, refl)) | inr m ↦ inl m ];
}

named_here : (place : Place) (name : List ℕ) → IsTrue (is_in (written_in ((place, ways.Write, name) ∷ [])) place)
named_here places.Settings name = refl
named_here places.Input name = refl
named_here places.Output name = refl
named_here places.Prices name = refl
named_here places.Screen name = refl

pub run_unopened : (place : Place) (name : List ℕ) (s : Status) (old new : HostState) → OpeningBroke place name s old new → Run None (Err s) ((place, ways.Write, name) ∷ []) nothing old new
run_unopened place name s old new h = record {
  frame = frame_opened place name old new h.touches;
  fresh = (h.fresh, tt);
  all = (h.bound, tt);
  passed = tt;
  got = λ p. nothing_got old new p (h.touches.got p refl);
  came = inr (place, h.failed, inr (h.told, inr (named_here place name)));
}

pub run_unwritten : (place : Place) (octets : List ℕ) (s : Status) (old new : HostState) → (h : WritingBroke place octets s old new) → Run None (Err s) [] (piece_for place (take h.got.0 octets)) old new
run_unwritten place octets s old new h = record {
  frame = frame_written place old new h.opened h.touches;
  fresh = tt;
  all = tt;
  passed = tt;
  got = λ p. piece_got place p (take h.got.0 octets) old new h.got.2 h.touches;
  came = inr (place, h.failed, inr (h.told, inl h.opened));
}
