-- Laws of counts that have risen.
use Rattle.std.proofs.Common.{ℕ, ◌≤◌, arith}
use Rattle.io_traits.specs.Faults.{Rose}

-- what rose from a later count, rose from an earlier one
pub Rose_since : (a b c : ℕ) → a ≤ b → Rose b c → Rose a c
Rose_since a b c earlier rose = omega arith

-- what has risen, has risen still at a later count
pub Rose_until : (a b c : ℕ) → Rose a b → b ≤ c → Rose a c
Rose_until a b c rose later = omega arith
