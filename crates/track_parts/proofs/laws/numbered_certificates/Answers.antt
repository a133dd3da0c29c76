use Rattle.late_window.specs.Folding.{slots}
use Rattle.track_parts.specs.Tracking.{slot_of_plot}
use Rattle.track_parts.proofs.Runs.{all_certified, all_told, all_whole}
use Rattle.track_parts.proofs.laws.numbered_certificates.Goals as goal

pub returns-clause-certified : goal.returns-clause-certified
returns-clause-certified c = λ life start plots outs h. all_certified life start plots (slots slot_of_plot plots) outs h

pub returns-clause-told : goal.returns-clause-told
returns-clause-told c = λ life start plots outs h. all_told life start plots (slots slot_of_plot plots) outs h

pub returns-clause-whole : goal.returns-clause-whole
returns-clause-whole c = λ life start plots outs h. all_whole life start plots (slots slot_of_plot plots) outs h
