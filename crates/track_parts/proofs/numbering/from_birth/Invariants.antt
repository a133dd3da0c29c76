use Rattle.std.proofs.Common.{◌≡◌, length}
use Rattle.track_parts.specs.Numbered.{from_birth}
use Rattle.track_parts.proofs.numbering.from_birth.Given as goal

abbrev pub invariant-loop-first : goal.invariant-loop-first
invariant-loop-first l = from_birth l.fn.birth l.fn.tracks ≡ from_birth l.fn.birth l.rest

abbrev pub decreases-loop-first : goal.decreases-loop-first
decreases-loop-first l = length l.rest
