-- What Screen got of a line that failed, and then of the status; and what stays while Screen is told.
use Rattle.std.proofs.Common.{◌≡◌, ◌∙◌, inl, inr, sym, subst, ℕ, List, [], ◌∷◌, ◌++◌, length, take, arith}
use Rattle.std.specs.Prelude.{Option, OnOk, OnErr, Result, Ok, Err}
use Rattle.std.proofs.lemmas.List.{take_all}
use Rattle.std.specs.Io.KnownBytes.{Appends}
use Rattle.io_traits.specs.Faults.{Rose}
use Rattle.io_traits.specs.Host.{HostState}
use Rattle.io_traits.specs.Places.{Got, GotPrefix, HasFailed}
use Rattle.io_traits.specs.Touching.{Touches}
use Rattle.io_traits.specs.declared.host.Place.TheVariants as places
use Rattle.io_traits.proofs.Known.{Appends_trans}
use Rattle.session_script.specs.Screen.{status_line}
use Rattle.session_script.specs.Telling.{SaysDone, Told, ToldAfter}
use Rattle.session_script.specs.declared.status.Spot.TheVariants as spots
use Rattle.session_script.specs.declared.status.Status.{Status}
use Rattle.session_script.specs.declared.status.Status.TheVariants.{Write}

abbrev failed_line : List ℕ
failed_line = status_line (Write spots.Screen)

pub told_after : {T E : Type 0} (text : List ℕ) (old mid new : HostState) (r : Result T E) → GotPrefix places.Screen old mid text → HasFailed places.Screen old mid → Touches [] [] (places.Screen ∷ []) mid new → OnOk r (Got places.Screen mid new failed_line) → OnErr r (GotPrefix places.Screen mid new failed_line) → ToldAfter text old new
told_after text old mid new (Ok v) prefix failed only got part =
    record {
      failed = omega (arith, failed, only.later places.Screen);
      n = prefix.0;
      m = length failed_line;
      within = prefix.1;
      within_status = omega arith;
      got = Appends_trans (old.got places.Screen) (mid.got places.Screen) (new.got places.Screen) (take prefix.0 text) (take (length failed_line) failed_line) prefix.2 (subst (λ (t : List ℕ). Appends (mid.got places.Screen) (new.got places.Screen) t) (sym (take_all (length failed_line) failed_line (omega arith))) got);
    }
told_after text old mid new (Err e) prefix failed only got part =
    record {
      failed = omega (arith, failed, only.later places.Screen);
      n = prefix.0;
      m = part.0;
      within = prefix.1;
      within_status = part.1;
      got = Appends_trans (old.got places.Screen) (mid.got places.Screen) (new.got places.Screen) (take prefix.0 text) (take part.0 failed_line) prefix.2 part.2;
    }

-- ---- from where Screen was to where it was before

line_failed : (old mid new : HostState) → mid.faults places.Screen ≡ old.faults places.Screen → HasFailed places.Screen mid new → HasFailed places.Screen old new
line_failed old mid new faults h = subst (λ (n : ℕ). Rose n (new.faults places.Screen)) faults h

pub told_up : (text : List ℕ) (old mid new : HostState) → mid.got places.Screen ≡ old.got places.Screen → mid.faults places.Screen ≡ old.faults places.Screen → Told text mid new → Told text old new
told_up text old mid new got faults (inl h) = inl (subst (λ (g : Option (List ℕ)). Appends g (new.got places.Screen) text) got h)
told_up text old mid new got faults (inr h) = inr ((h.0.0, h.0.1, subst (λ (g : Option (List ℕ)). Appends g (new.got places.Screen) (take h.0.0 text)) got h.0.2), line_failed old mid new faults h.1)

pub done_up : (text : List ℕ) (status : Status) (old mid new : HostState) → mid.got places.Screen ≡ old.got places.Screen → mid.faults places.Screen ≡ old.faults places.Screen → SaysDone text status mid new → SaysDone text status old new
done_up text status old mid new got faults (inl h) = inl (h.0, subst (λ (g : Option (List ℕ)). Appends g (new.got places.Screen) text) got h.1, h.2 ∙ faults)
done_up text status old mid new got faults (inr h) = inr (
  h.0,
  record {
    failed = line_failed old mid new faults h.1.failed;
    n = h.1.n;
    m = h.1.m;
    within = h.1.within;
    within_status = h.1.within_status;
    got = subst (λ (g : Option (List ℕ)). Appends g (new.got places.Screen) (take h.1.n text ++ take h.1.m failed_line)) got h.1.got;
  },
)
