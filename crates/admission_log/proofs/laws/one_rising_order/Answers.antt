use Rattle.admission_log.proofs.Rising.{all_move, is_sorted, one_rising}
use Rattle.admission_log.proofs.laws.one_rising_order.Goals as goal

pub returns-clause-moves : goal.returns-clause-moves
returns-clause-moves c = all_move

pub returns-clause-rises : goal.returns-clause-rises
returns-clause-rises c = is_sorted

pub returns-clause-only : goal.returns-clause-only
returns-clause-only c = one_rising
