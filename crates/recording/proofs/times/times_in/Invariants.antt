use Rattle.std.proofs.Common.{◌≡◌, take}
use Rattle.std.specs.List.{filter_map}
use Rattle.asterix_frame.specs.Bodies.{elements_at}
use Rattle.asterix_frame.specs.DataRecords.{time_of}
use Rattle.recording.proofs.times.times_in.Given as goal

abbrev pub invariant-loop-spans : goal.invariant-loop-spans
invariant-loop-spans l = record {
  so_far : l.times.items ≡ filter_map (λ s. time_of l.fn.uap (elements_at l.fn.body s.frns.items)) (take l.spans-index l.fn.found);
}
