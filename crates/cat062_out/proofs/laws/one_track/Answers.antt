use Rattle.cat062_out.specs.Tracks.{Stamp, TrackLine}
use Rattle.cat062_out.specs.TrackRecords.{IsTrack, items_of}
use Rattle.asterix_frame.specs.declared.tables.Uap.TheVariants.{Cat062}
use Rattle.cat062_out.proofs.Profiles.{value_code, value_record}
use Rattle.cat062_out.proofs.TrackProfile.{tracks, written_is}
use Rattle.cat062_out.proofs.laws.one_track.Goals as goal

pub returns-clause-octets : goal.returns-clause-octets
returns-clause-octets c = written_is

pub returns-clause-is_record : goal.returns-clause-is_record
returns-clause-is_record c = λ t h. value_record (Stamp × TrackLine) Cat062 IsTrack items_of tracks t h

pub returns-clause-one : goal.returns-clause-one
returns-clause-one c = (value_code (Stamp × TrackLine) Cat062 IsTrack items_of tracks).same
