use Rattle.std.proofs.Common.{◌≡◌, ◌≤◌, ◌+◌, ◌-◌, length}
use Rattle.price_form.specs.Checks.{NamesOnce}
use Rattle.price_form.proofs.pairs.names_once_by.Given as goal

abbrev pub invariant-loop-low : goal.invariant-loop-low
invariant-loop-low g l =
    let pairing = g.X.Column.list l.pairing in
    record {
      once : NamesOnce pairing (length pairing) 0 l.low;
      long : length l.named ≡ length l.fn.named;
      below : l.low ≤ l.tracks + 65536;
    }

abbrev pub decreases-loop-low : goal.decreases-loop-low
decreases-loop-low g l = l.tracks - l.low
