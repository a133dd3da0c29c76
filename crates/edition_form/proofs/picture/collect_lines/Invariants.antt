use Rattle.edition_form.proofs.Shown.{AreCollected}
use Rattle.edition_form.proofs.picture.collect_lines.Given as goal

abbrev pub invariant-loop-track : goal.invariant-loop-track
invariant-loop-track l = AreCollected l.life l.slot l.time l.tracks l.track-index l.lines.items
