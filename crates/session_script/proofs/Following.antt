-- One step more of a script, and the ways in which it breaks off.
use Rattle.std.proofs.Common.{◌≡◌, sym, refl, subst, inl, inr, ℕ, List}
use Rattle.std.specs.Prelude.{Err, Option, Some, option_map, []}
use Rattle.io_traits.specs.Host.{HostState, IsBoundFor}
use Rattle.io_traits.specs.Touching.{Touches}
use Rattle.io_traits.specs.declared.host.Place.{Place}
use Rattle.io_traits.specs.declared.host.Way.{Way}
use Rattle.io_traits.specs.declared.host.Way.TheVariants as ways
use Rattle.session_script.specs.Scripts.{Script, End, Follows, reads, opens, writes, picks, ends}
use Rattle.session_script.specs.Steps.{OpeningBroke, PlaceOpened, PlaceRead, PlaceWritten, ReadingBroke, WritingBroke}
use Rattle.session_script.specs.declared.status.Status.{Status}
use Rattle.session_script.specs.declared.status.Status.TheVariants.{Memory}

pub gave_up : (script : Script) (host : HostState) → Follows script (Err Memory) host host
unfolding Follows
gave_up (reads place name next) host = inl (refl, refl)
gave_up (opens place name next) host = inl (refl, refl)
gave_up (writes place octets next) host = inl (refl, refl)
gave_up (picks next) host = inl (refl, refl)
gave_up (ends it) host = inl (refl, refl)

pub after_read : (place : Place) (name octets : List ℕ) (next : List ℕ → Script) (end : End) (old mid new : HostState) → PlaceRead place name octets old mid → Follows (next octets) end mid new → Follows (reads place name next) end old new
unfolding Follows
after_read place name octets next end old mid new h f = inr (inr (octets, mid, h, f))

pub after_open : (place : Place) (name : List ℕ) (next : Script) (end : End) (old mid new : HostState) → PlaceOpened place name old mid → Follows next end mid new → Follows (opens place name next) end old new
unfolding Follows
after_open place name next end old mid new h f = inr (inr (mid, h, f))

pub after_write : (place : Place) (octets : List ℕ) (next : Script) (end : End) (old mid new : HostState) → PlaceWritten place octets old mid → Follows next end mid new → Follows (writes place octets next) end old new
unfolding Follows
after_write place octets next end old mid new h f = inr (inr (mid, h, f))

pub after_pick : {A : Type 0} (next : A → Script) (a : A) (end : End) (old new : HostState) → Follows (next a) end old new → Follows (picks next) end old new
unfolding Follows
after_pick next a end old new f = inr (a, f)

pub at_end : (end : End) (host : HostState) → Follows (ends end) end host host
unfolding Follows
at_end end host = inr (refl, refl)

pub reading_broke : (place : Place) (name : List ℕ) (next : List ℕ → Script) (s : Status) (old new : HostState) → ReadingBroke place name s old new → Follows (reads place name next) (Err s) old new
unfolding Follows
reading_broke place name next s old new h = inr (inl h)

pub opening_broke : (place : Place) (name : List ℕ) (next : Script) (s : Status) (old new : HostState) → OpeningBroke place name s old new → Follows (opens place name next) (Err s) old new
unfolding Follows
opening_broke place name next s old new h = inr (inl h)

pub writing_broke : (place : Place) (octets : List ℕ) (next : Script) (s : Status) (old new : HostState) → WritingBroke place octets s old new → Follows (writes place octets next) (Err s) old new
unfolding Follows
writing_broke place octets next s old new h = inr (inl h)

-- the same with an end that is told to be this one
pub ended_so : (script : Script) (end end' : End) (old new : HostState) → end' ≡ end → Follows script end old new → Follows script end' old new
ended_so script end end' old new e f = subst (λ (x : End). Follows script x old new) (sym e) f

-- what was bound to be written still is, where no place is bound
pub still_open : (place : Place) (read written : List Place) (old new : HostState) → Touches [] read written old new → IsBoundFor ways.Write old place → IsBoundFor ways.Write new place
still_open place read written old new t h = subst (λ (b : Option (Way × List ℕ)). option_map (λ binding. binding.0) b ≡ Some ways.Write) (sym (t.bindings place refl)) h
