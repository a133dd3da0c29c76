use Rattle.std.proofs.Common.{◌≡◌, drop}
use Rattle.asterix_frame.specs.Bodies.{span_of}
use Rattle.asterix_frame.proofs.body.span_of.Given as goal

abbrev pub invariant-loop-known : goal.invariant-loop-known
invariant-loop-known l = span_of l.frn l.frns ≡ span_of l.frn (drop l.known-index l.frns)
