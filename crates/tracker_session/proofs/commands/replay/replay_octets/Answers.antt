use Rattle.std.proofs.Common.{rules, subst, Bool, Err}
use Rattle.std.specs.Arc.{arc_value}
use Rattle.recording.specs.Answers.{items_of}
use Rattle.admission_log.specs.declared.settings.Settings.{Settings}
use Rattle.session_script.specs.Scripts.{Follows, end_of}
use Rattle.session_script.specs.declared.status.Status.TheVariants.{Memory}
use Rattle.session_script.proofs.Following.{after_pick, ended_so, gave_up}
use Rattle.tracker_session.specs.Inputs.{HasInput, tells_biases}
use Rattle.tracker_session.specs.Replay.{empty_log}
use Rattle.tracker_session.specs.ReplayScript.{ending, items_script, octets_script}
use Rattle.tracker_session.specs.Work.{IsSpentOnItems}
use Rattle.tracker_session.proofs.Spending.{input_spent, none_spent_on_octets}
use Rattle.tracker_session.proofs.Touched.{nothing_written}
use Rattle.tracker_session.proofs.commands.replay.replay_octets.Goals as goal

pub returns-in_err-reading-clause-follows : goal.returns-in_err-reading-clause-follows
returns-in_err-reading-clause-follows g c =
    let host = g.H.Host.state c.args.host.now in
    let script = octets_script (arc_value c.args.settings) c.args.octets.now in
    ended_so script (Err Memory) (end_of c.from_residual.result) host host (search rules) (gave_up script host)

pub returns-in_err-clone-clause-follows : goal.returns-in_err-clone-clause-follows
returns-in_err-clone-clause-follows g c =
    let host = g.H.Host.state c.args.host.now in
    let script = octets_script (arc_value c.args.settings) c.args.octets.now in
    ended_so script (Err Memory) (end_of c.from_residual-in_err-clone.result) host host (search rules) (gave_up script host)

pub returns-in_err-editions-clause-follows : goal.returns-in_err-editions-clause-follows
returns-in_err-editions-clause-follows g c =
    let host = g.H.Host.state c.args.host.now in
    let script = octets_script (arc_value c.args.settings) c.args.octets.now in
    ended_so script (Err Memory) (end_of c.from_residual-in_err-editions.result) host host (search rules) (gave_up script host)

pub returns-clause-follows : goal.returns-clause-follows
returns-clause-follows g c =
    let state = g.H.Host.state in
    let settings = arc_value c.args.settings in
    let octets = c.args.octets.now in
    let old = state c.args.host.now in
    let new = state c.take_items.new.host in
    let end = end_of c.take_items.result in
    let r = c.in_ok-reading.reading in
    let items = items_of r.items.items in
    let read : HasInput octets = record { header = r.header; start = r.start; items = items; fault = r.fault; reading = c.in_ok-reading.ensures.read } in
    let took = subst (λ (tells : Bool). Follows (items_script settings (ending tells r.fault items) (empty_log r.start) items) end old new) c.tells_biases-tells_biases.ensures (subst (λ (given : Settings). Follows (items_script given (ending c.tells_biases-tells_biases.result r.fault items) (empty_log r.start) items) end old new) c.deref.ensures c.take_items.ensures.follows) in
    after_pick (λ (i : HasInput octets). items_script settings (ending (tells_biases octets) i.fault i.items) (empty_log i.start) i.items) read end old new took

pub returns-in_err-reading-clause-touches : goal.returns-in_err-reading-clause-touches
returns-in_err-reading-clause-touches g c = nothing_written (g.H.Host.state c.args.host.now)

pub returns-in_err-reading-clause-spent : goal.returns-in_err-reading-clause-spent
returns-in_err-reading-clause-spent g c = none_spent_on_octets (arc_value c.args.settings) c.args.octets.now c.args.steps.now

pub returns-in_err-clone-clause-touches : goal.returns-in_err-clone-clause-touches
returns-in_err-clone-clause-touches g c = nothing_written (g.H.Host.state c.args.host.now)

pub returns-in_err-clone-clause-spent : goal.returns-in_err-clone-clause-spent
returns-in_err-clone-clause-spent g c = none_spent_on_octets (arc_value c.args.settings) c.args.octets.now c.args.steps.now

pub returns-in_err-editions-clause-touches : goal.returns-in_err-editions-clause-touches
returns-in_err-editions-clause-touches g c = nothing_written (g.H.Host.state c.args.host.now)

pub returns-in_err-editions-clause-spent : goal.returns-in_err-editions-clause-spent
returns-in_err-editions-clause-spent g c = none_spent_on_octets (arc_value c.args.settings) c.args.octets.now c.args.steps.now

pub returns-clause-touches : goal.returns-clause-touches
returns-clause-touches g c = c.take_items.ensures.touches

pub returns-clause-spent : goal.returns-clause-spent
returns-clause-spent g c =
    let r = c.in_ok-reading.reading in
    let settings = arc_value c.args.settings in
    let old = c.args.steps.now in
    let new = c.take_items.new.steps in
    let spent = subst (λ (given : Settings). IsSpentOnItems given r.start (items_of r.items.items) old new) c.deref.ensures c.take_items.ensures.spent in
    input_spent settings c.args.octets.now r.header r.start (items_of r.items.items) r.fault old new c.in_ok-reading.ensures.read spent
