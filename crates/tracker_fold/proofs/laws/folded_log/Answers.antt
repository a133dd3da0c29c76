use Rattle.tracker_fold.proofs.Certified.{certificates_are}
use Rattle.tracker_fold.proofs.Folded.{planes_are, table_is, out_is}
use Rattle.tracker_fold.proofs.laws.folded_log.Goals as goal

pub returns-clause-plots : goal.returns-clause-plots
returns-clause-plots c = planes_are

pub returns-clause-table : goal.returns-clause-table
returns-clause-table c = table_is

pub returns-clause-told : goal.returns-clause-told
returns-clause-told c = out_is

pub returns-clause-certificates : goal.returns-clause-certificates
returns-clause-certificates c = certificates_are
