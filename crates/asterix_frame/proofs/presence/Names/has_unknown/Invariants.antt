use Rattle.std.proofs.Common.{◌≡◌, ℕ, ◌+◌, ◌-◌, ◌*◌, ◌<◌, true}
use Rattle.std.specs.Int.{bit_at}
use Rattle.asterix_frame.specs.Names.{known}
use Rattle.asterix_frame.proofs.presence.Names.has_unknown.Given as goal

abbrev pub invariant-loop-bit : goal.invariant-loop-bit
invariant-loop-bit l = (b : ℕ) → b < l.bit → bit_at l.octet (7 - b) ≡ 1 → known l.self (7 * l.offset + b) ≡ true
