use Rattle.std.proofs.Common.{length, ◌-◌}
use Rattle.cat062_out.specs.Tracks.{Stamp, TrackLine}
use Rattle.cat062_out.specs.TrackRecords.{IsTrack, items_of}
use Rattle.asterix_frame.specs.declared.tables.Uap.TheVariants.{Cat062}
use Rattle.cat062_out.proofs.ProfileReading.{SoFar}
use Rattle.cat062_out.proofs.reader.read062.Given as goal

-- the tracks so far are those of the records so far
abbrev pub invariant-loop-from : goal.invariant-loop-from
invariant-loop-from l = SoFar (Stamp × TrackLine) Cat062 IsTrack items_of l.block.body.now l.from l.tracks.items

abbrev pub decreases-loop-from : goal.decreases-loop-from
decreases-loop-from l = length l.block.body.now - l.from
