use Rattle.std.proofs.Common.{◌≡◌, take, map}
use Rattle.std.specs.Prelude.{max, fold}
use Rattle.trk_base.specs.Numbers.{unwrapped}
use Rattle.recording.proofs.raw.latest_of.Given as goal

abbrev pub invariant-loop-tod : goal.invariant-loop-tod
invariant-loop-tod l = record {
  so_far : l.latest ≡ fold max 0 (map (λ tod. unwrapped tod l.last) (take l.tod-index l.times));
}
