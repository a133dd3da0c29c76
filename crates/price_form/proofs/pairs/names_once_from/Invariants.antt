use Rattle.std.proofs.Common.{◌≡◌, ◌+◌, length}
use Rattle.price_form.specs.Checks.{AreMarked, NamesOnce}
use Rattle.price_form.proofs.pairs.names_once_from.Given as goal

abbrev pub invariant-loop-i : goal.invariant-loop-i
invariant-loop-i g l =
    let pairing = g.X.Column.list l.pairing in
    record {
      long : length l.named ≡ length l.fn.named;
      marked : AreMarked pairing l.i l.low l.named;
      once : NamesOnce pairing l.i l.low (l.low + length l.fn.named);
    }
