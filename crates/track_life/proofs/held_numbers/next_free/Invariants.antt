use Rattle.std.proofs.Common.{◌≡◌, ℕ, ◌≤◌, ◌<◌, ◌-◌, Bool, true}
use Rattle.track_life.specs.HeldNumbers.{AreLeaps, LeapOver}
use Rattle.track_life.proofs.held_numbers.next_free.Given as goal

abbrev pub invariant-way : goal.invariant-way
invariant-way l = record {
  leaps : AreLeaps l.leaps;
  above : l.from ≤ l.place;
  below : l.place ≤ 65536;
  over : (held : ℕ → Bool) → LeapOver held l.initial.leaps → LeapOver held l.leaps × ((m : ℕ) → l.from ≤ m → m < l.place → held m ≡ true);
}

abbrev pub decreases-way : goal.decreases-way
decreases-way l = 65536 - l.place
