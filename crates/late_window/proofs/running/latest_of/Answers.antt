use Rattle.std.proofs.Common.{◌∙◌, ap}
use Rattle.std.specs.Option.{unwrap_or}
use Rattle.late_window.proofs.Latest.{latest_got, now_or}
use Rattle.late_window.proofs.running.latest_of.Goals as goal

pub returns : goal.returns
returns g c =
    ap (λ r. r.now) c.unwrap_or.ensures ∙ now_or c.last.result c.args.start ∙ ap (λ o. unwrap_or o c.args.start.now) c.last.ensures.value
    ∙ latest_got c.args.start.now c.args.states.now
