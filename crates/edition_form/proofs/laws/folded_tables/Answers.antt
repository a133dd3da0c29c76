use Rattle.edition_form.proofs.Foldings.{folded_log, earlier_log}
use Rattle.edition_form.proofs.laws.folded_tables.Goals as goal

pub returns-clause-numbers : goal.returns-clause-numbers
returns-clause-numbers c settings log slot legal = (folded_log settings log slot legal).numbers

pub returns-clause-before : goal.returns-clause-before
returns-clause-before c settings log slot legal = (folded_log settings log slot legal).earlier

pub returns-clause-earlier : goal.returns-clause-earlier
returns-clause-earlier c settings log legal = earlier_log settings log legal
