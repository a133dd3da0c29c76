-- What a run of some steps made of the places, and one run after another.
use Rattle.std.proofs.Common.{◌≡◌, ◌≤◌, ◌∙◌, ◌⊎◌, inl, inr, ap, sym, subst, ℕ, List, [], ◌∷◌, ◌++◌, append_assoc, le_trans}
use Rattle.std.specs.Prelude.{Option, Some, None, IsTrue, IsFalse, Ok, Err, option_map}
use Rattle.io_traits.specs.Host.{HostState, IsBoundFor, IsEmpty}
use Rattle.io_traits.specs.Places.{Got, HasFailed, NoneFailed}
use Rattle.io_traits.specs.Touching.{is_in}
use Rattle.io_traits.specs.declared.host.Place.{Place}
use Rattle.io_traits.specs.declared.host.Way.{Way}
use Rattle.io_traits.specs.declared.host.Way.TheVariants as ways
use Rattle.io_traits.proofs.Faulting.{Rose_since}
use Rattle.io_traits.proofs.Known.{Appends_trans}
use Rattle.session_script.specs.Ends.{AllBound, AllPassed, ArePassed, OthersPassed, Passed, TellsReading, places_of, read_in, written_in}
use Rattle.session_script.specs.Scripts.{Binding, Breaks, End}
use Rattle.session_script.specs.Status.{spot_of}
use Rattle.session_script.specs.declared.status.Status.{Status}
use Rattle.session_script.specs.declared.status.Status.TheVariants.{Memory, Write}
use Rattle.session_script.proofs.Bindings.{AllFresh, apart_bound, apart_fresh, apart_open, bound_join, decided, fresh_join, inside_back, inside_front, out_places, out_read, out_written, reads_among, writes_among}

-- Only these were bound and read, and only these and what was open was written.
pub record Frame (bound : List Binding) (old new : HostState) : Type 0 where
  pub bindings : (p : Place) → IsFalse (is_in (places_of bound) p) → new.bound p ≡ old.bound p
  pub left : (p : Place) → IsFalse (is_in (read_in bound) p) → new.left p ≡ old.left p
  pub got : (p : Place) → IsFalse (is_in (written_in bound) p) → (IsBoundFor ways.Write old p → ⊥) → new.got p ≡ old.got p
  pub faults : (p : Place) → IsFalse (is_in (places_of bound) p) → (IsBoundFor ways.Write old p → ⊥) → new.faults p ≡ old.faults p
  pub later : (p : Place) → old.faults p ≤ new.faults p

-- steps that were done
pub record Done (made : List Binding) (piece : Place → List ℕ) (old new : HostState) : Type 0 where
  pub frame : Frame made old new
  pub fresh : AllFresh made old
  pub all : AllBound made new
  pub passed : AllPassed made old new
  pub got : (p : Place) → Got p old new (piece p)
  pub kept : NoneFailed old new

-- memory is wanting, or a place failed that was being read, or that was or had been opened
abbrev pub Cause : List Binding → Status → HostState → HostState → Type 0
Cause bound s old new = (s ≡ Memory) ⊎ ((p : Place) × HasFailed p old new × (TellsReading p bound s ⊎ ((s ≡ Write (spot_of p)) × (IsBoundFor ways.Write old p ⊎ IsTrue (is_in (written_in bound) p)))))

abbrev pub Came : Option End → End → List Binding → HostState → HostState → Type 0
Came (Some it) end bound old new = (end ≡ it) × NoneFailed old new
Came None end bound old new = Breaks end (λ s. Cause bound s old new)

-- a run, to its end or broken off
pub record Run (stop : Option End) (end : End) (bound : List Binding) (gets : Place → List ℕ) (old new : HostState) : Type 0 where
  pub frame : Frame bound old new
  pub fresh : AllFresh bound old
  pub all : AllBound bound new
  pub passed : ArePassed stop bound old new
  pub got : (p : Place) → Got p old new (gets p)
  pub came : Came stop end bound old new

-- ---- one behind the other

open_back : (p : Place) (old mid : HostState) → mid.bound p ≡ old.bound p → IsBoundFor ways.Write mid p → IsBoundFor ways.Write old p
open_back p old mid same h = subst (λ (b : Option (Way × List ℕ)). option_map (λ binding. binding.0) b ≡ Some ways.Write) same h

shut_on : (made : List Binding) (p : Place) (old mid : HostState) → Frame made old mid → AllBound made mid → IsFalse (is_in (written_in made) p) → (IsBoundFor ways.Write old p → ⊥) → IsBoundFor ways.Write mid p → ⊥
shut_on made p old mid frame all out shut is = shut (open_back p old mid (frame.bindings p (apart_open made p mid all out is)) is)

frame_then : (made bound : List Binding) (old mid new : HostState) → Frame made old mid → AllBound made mid → Frame bound mid new → Frame (made ++ bound) old new
frame_then made bound old mid new h all k = record {
  bindings = λ p out. (let o = out_places made bound p out in k.bindings p o.1 ∙ h.bindings p o.0);
  left = λ p out. (let o = out_read made bound p out in k.left p o.1 ∙ h.left p o.0);
  got = λ p out shut. (let o = out_written made bound p out in k.got p o.1 (shut_on made p old mid h all o.0 shut) ∙ h.got p o.0 shut);
  faults = λ p out shut. (let o = out_places made bound p out in k.faults p o.1 (shut_on made p old mid h all (writes_among made p o.0) shut) ∙ h.faults p o.0 shut);
  later = λ p. le_trans (h.later p) (k.later p);
}

-- what wasn't bound later, wasn't earlier
fresh_since : (made bound : List Binding) (old mid : HostState) → Frame made old mid → AllBound made mid → AllFresh bound mid → AllFresh bound old
fresh_since made [] old mid frame all h = tt
fresh_since made ((q, way, name) ∷ rest) old mid frame all h = (
  record { file = h.0.file; unbound = sym (frame.bindings q (apart_bound made q mid all h.0.unbound)) ∙ h.0.unbound },
  fresh_since made rest old mid frame all h.1,
)

bound_on : (made bound : List Binding) (mid new : HostState) → AllBound made mid → AllFresh bound mid → Frame bound mid new → AllBound made new
bound_on [] bound mid new h fresh frame = tt
bound_on ((q, way, name) ∷ rest) bound mid new h fresh frame = (frame.bindings q (apart_fresh bound q (way, name) mid fresh h.0) ∙ h.0, bound_on rest bound mid new h.1 fresh frame)

-- ---- what was read

never_open : (name : List ℕ) (b : Option (Way × List ℕ)) → b ≡ Some (ways.Read, name) → option_map (λ binding. binding.0) b ≡ Some ways.Write → ⊥
never_open name b e f = ways_differ (subst (λ (x : Option (Way × List ℕ)). option_map (λ binding. binding.0) x ≡ Some ways.Write) e f)
  where
    ways_differ : Some ways.Read ≡ Some ways.Write → ⊥
    ways_differ g = cc

-- what was read and bound isn't read again
passed_on : (made bound : List Binding) (old mid new : HostState) → AllBound made mid → AllFresh bound mid → Frame bound mid new → AllPassed made old mid → AllPassed made old new
passed_on [] bound old mid new all fresh frame h = tt
passed_on ((q, ways.Read, name) ∷ rest) bound old mid new all fresh frame h =
    let out = apart_fresh bound q (ways.Read, name) mid fresh all.0 in (
      (frame.faults q out (never_open name (mid.bound q) all.0) ∙ h.0.0, λ octets has short. subst (λ (o : Option (List ℕ)). IsEmpty o) (sym (frame.left q (reads_among bound q out))) (h.0.1 octets has short)),
      passed_on rest bound old mid new all.1 fresh frame h.1,
    )
passed_on ((q, ways.Write, name) ∷ rest) bound old mid new all fresh frame h = (tt, passed_on rest bound old mid new all.1 fresh frame h.1)

module _ (made : List Binding) (piece : Place → List ℕ) (old mid new : HostState) (d : Done made piece old mid) where
  one_since : (way : Way) (q : Place) (name : List ℕ) → mid.bound q ≡ None → Passed (q, way, name) mid new → Passed (q, way, name) old new
  one_since ways.Read q name unbound h = (h.0 ∙ d.kept q, λ octets has short. h.1 octets (d.frame.left q (reads_among made q (apart_bound made q mid d.all unbound)) ∙ has) short)
  one_since ways.Write q name unbound h = tt

  all_since : (bound : List Binding) → AllFresh bound mid → AllPassed bound mid new → AllPassed bound old new
  all_since [] fresh h = tt
  all_since ((q, way, name) ∷ rest) fresh h = (one_since way q name fresh.0.unbound h.0, all_since rest fresh.1 h.1)

  others_since : (bound : List Binding) → AllFresh bound mid → OthersPassed bound mid new → OthersPassed bound old new
  others_since [] fresh h = tt
  others_since (binding ∷ []) fresh h = tt
  others_since ((q, way, name) ∷ next ∷ rest) fresh h = (one_since way q name fresh.0.unbound h.0, others_since (next ∷ rest) fresh.1 h.1)

all_join : (made bound : List Binding) (old new : HostState) → AllPassed made old new → AllPassed bound old new → AllPassed (made ++ bound) old new
all_join [] bound old new h k = k
all_join (binding ∷ rest) bound old new h k = (h.0, all_join rest bound old new h.1 k)

others_first : (binding : Binding) (bound : List Binding) (old new : HostState) → Passed binding old new → OthersPassed bound old new → OthersPassed (binding ∷ bound) old new
others_first binding [] old new h k = tt
others_first binding (next ∷ rest) old new h k = (h, k)

others_join : (made bound : List Binding) (old new : HostState) → AllPassed made old new → OthersPassed bound old new → OthersPassed (made ++ bound) old new
others_join [] bound old new h k = k
others_join (binding ∷ rest) bound old new h k = others_first binding (rest ++ bound) old new h.0 (others_join rest bound old new h.1 k)

passed_then : (stop : Option End) (made bound : List Binding) (piece : Place → List ℕ) (old mid new : HostState) → Done made piece old mid → AllFresh bound mid → Frame bound mid new → ArePassed stop bound mid new → ArePassed stop (made ++ bound) old new
passed_then (Some it) made bound piece old mid new d fresh frame h = all_join made bound old new (passed_on made bound old mid new d.all fresh frame d.passed) (all_since made piece old mid new d bound fresh h)
passed_then None made bound piece old mid new d fresh frame h = others_join made bound old new (passed_on made bound old mid new d.all fresh frame d.passed) (others_since made piece old mid new d bound fresh h)

-- ---- why it ended

open_then : (made bound : List Binding) (p : Place) (old mid : HostState) → Frame made old mid → AllBound made mid → IsBoundFor ways.Write mid p → IsBoundFor ways.Write old p ⊎ IsTrue (is_in (written_in (made ++ bound)) p)
open_then made bound p old mid frame all is = elim (decided (is_in (written_in made) p)) [
  | inl inside ↦ inr (inside_front made bound p inside)
  | inr out ↦ inl (open_back p old mid (frame.bindings p (apart_open made p mid all out is)) is)
]

written_then : (made bound : List Binding) (p : Place) (old mid : HostState) → Frame made old mid → AllBound made mid → (IsBoundFor ways.Write mid p ⊎ IsTrue (is_in (written_in bound) p)) → IsBoundFor ways.Write old p ⊎ IsTrue (is_in (written_in (made ++ bound)) p)
written_then made bound p old mid frame all (inl is) = open_then made bound p old mid frame all is
written_then made bound p old mid frame all (inr inside) = inr (inside_back made bound p inside)

reading_then : (made bound : List Binding) (p : Place) (s : Status) → TellsReading p bound s → TellsReading p (made ++ bound) s
reading_then made bound p s h = (h.0, made ++ h.1, h.2, ap (λ b. made ++ b) h.3 ∙ sym (append_assoc made h.1 ((p, ways.Read, h.2) ∷ [])))

cause_then : (made bound : List Binding) (s : Status) (old mid new : HostState) → Frame made old mid → AllBound made mid → Cause bound s mid new → Cause (made ++ bound) s old new
cause_then made bound s old mid new frame all (inl m) = inl m
cause_then made bound s old mid new frame all (inr h) = inr (
  h.0,
  Rose_since (old.faults h.0) (mid.faults h.0) (new.faults h.0) (frame.later h.0) h.1,
  elim h.2 [
    | inl r ↦ inl (reading_then made bound h.0 s r)
    | inr w ↦ inr (w.0, written_then made bound h.0 old mid frame all w.1)
  ],
)

came_then : (stop : Option End) (end : End) (made bound : List Binding) (piece : Place → List ℕ) (old mid new : HostState) → Done made piece old mid → Came stop end bound mid new → Came stop end (made ++ bound) old new
came_then (Some it) end made bound piece old mid new d h = (h.0, λ p. h.1 p ∙ d.kept p)
came_then None (Ok text) made bound piece old mid new d h = absurd h
came_then None (Err s) made bound piece old mid new d h = cause_then made bound s old mid new d.frame d.all h

pub run_then : (stop : Option End) (end : End) (made bound : List Binding) (piece gets : Place → List ℕ) (old mid new : HostState) → Done made piece old mid → Run stop end bound gets mid new → Run stop end (made ++ bound) (λ p. piece p ++ gets p) old new
run_then stop end made bound piece gets old mid new d r = record {
  frame = frame_then made bound old mid new d.frame d.all r.frame;
  fresh = fresh_join made bound old d.fresh (fresh_since made bound old mid d.frame d.all r.fresh);
  all = bound_join made bound new (bound_on made bound mid new d.all r.fresh r.frame) r.all;
  passed = passed_then stop made bound piece old mid new d r.fresh r.frame r.passed;
  got = λ p. Appends_trans (old.got p) (mid.got p) (new.got p) (piece p) (gets p) (d.got p) (r.got p);
  came = came_then stop end made bound piece old mid new d r.came;
}
