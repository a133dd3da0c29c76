use Rattle.edition_form.proofs.Sorting.{all_move, rising_up, rising_stays, sorted_is}
use Rattle.edition_form.proofs.laws.one_rising_number.Goals as goal

pub returns-clause-moves : goal.returns-clause-moves
returns-clause-moves g c number xs = all_move number xs

pub returns-clause-rises : goal.returns-clause-rises
returns-clause-rises g c number xs = rising_up number xs

pub returns-clause-stays : goal.returns-clause-stays
returns-clause-stays g c number xs = rising_stays number xs

pub returns-clause-only : goal.returns-clause-only
returns-clause-only g c number xs ys up stable = sorted_is number xs ys up stable
