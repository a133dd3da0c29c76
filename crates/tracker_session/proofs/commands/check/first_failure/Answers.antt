use Rattle.std.proofs.Common.{◌∙◌}
use Rattle.std.specs.Prelude.{MatchBool}
use Rattle.rayon.proofs.ToStd.{slice-AllZip}
use Rattle.tracker_session.specs.Judging.{FailsAt, ProvesAt}
use Rattle.tracker_session.proofs.Provings.{first_told}
use Rattle.tracker_session.proofs.commands.check.first_failure.Goals as goal

pub returns : goal.returns
returns g c =
    let octets = c.args.octets.now in
    let offsets = c.args.offsets.now in
    let told = c.position_first.ensures in
    let answered = slice-AllZip told.0 offsets (told.2 ∙ c.par_iter.ensures) (λ at answer. MatchBool answer (FailsAt octets at) (ProvesAt octets at)) told.1 told.3 in
    rw told.4 (first_told octets offsets told.1 c.requires.few answered)
