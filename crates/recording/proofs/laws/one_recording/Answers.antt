use Rattle.recording.proofs.Codes.{bytes_of}
use Rattle.recording.proofs.Readings.{one_recording}
use Rattle.recording.proofs.SomeReading.{some_reading_of}
use Rattle.recording.proofs.laws.one_recording.Goals as goal

pub returns-clause-some : goal.returns-clause-some
returns-clause-some c = λ octets goes_on all. some_reading_of octets goes_on (bytes_of octets all)

pub returns-clause-one : goal.returns-clause-one
returns-clause-one c = one_recording
