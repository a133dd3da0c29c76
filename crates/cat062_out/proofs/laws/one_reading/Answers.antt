use Rattle.cat062_out.specs.Tracks.{Stamp, TrackLine}
use Rattle.cat062_out.specs.TrackRecords.{IsTrack, items_of}
use Rattle.asterix_frame.specs.declared.tables.Uap.TheVariants.{Cat062}
use Rattle.cat062_out.proofs.Profiles.{one_list, one_refusal, not_both}
use Rattle.cat062_out.proofs.TrackProfile.{tracks}
use Rattle.cat062_out.proofs.TrackTotal.{some_of_block}
use Rattle.cat062_out.proofs.laws.one_reading.Goals as goal

pub returns-clause-one_list : goal.returns-clause-one_list
returns-clause-one_list c = one_list (Stamp × TrackLine) Cat062 IsTrack items_of tracks

pub returns-clause-one_refusal : goal.returns-clause-one_refusal
returns-clause-one_refusal c = one_refusal (Stamp × TrackLine) Cat062 IsTrack items_of tracks

pub returns-clause-not_both : goal.returns-clause-not_both
returns-clause-not_both c = not_both (Stamp × TrackLine) Cat062 IsTrack items_of tracks

pub returns-clause-some : goal.returns-clause-some
returns-clause-some c = some_of_block
