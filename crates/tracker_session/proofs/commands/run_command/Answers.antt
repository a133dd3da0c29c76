use Rattle.std.proofs.Common.{rules, sym, subst, Ok, Err}
use Rattle.std.specs.Prelude.{string_bytes}
use Rattle.session_script.specs.Scripts.{Follows, end_of}
use Rattle.session_script.specs.declared.status.Status.TheVariants.{Memory}
use Rattle.session_script.proofs.Following.{ended_so, gave_up}
use Rattle.tracker_session.specs.declared.words.Command.{Command}
use Rattle.tracker_session.specs.Commands.{script_of}
use Rattle.tracker_session.specs.Words.{line_for}
use Rattle.tracker_session.proofs.Exercising.{exercise_follows}
use Rattle.tracker_session.proofs.commands.run_command.Goals as goal

pub returns-in_err-exercise-in-Exercise-clause-follows : goal.returns-in_err-exercise-in-Exercise-clause-follows
returns-in_err-exercise-in-Exercise-clause-follows g c =
    let host = g.H.Host.state c.args.host.now in
    let script = script_of (line_for c.args.command) in
    ended_so script (Err Memory) (end_of c.from_residual.result) host host (search rules) (gave_up script host)

pub returns-in_ok-exercise-in-Exercise-clause-follows : goal.returns-in_ok-exercise-in-Exercise-clause-follows
returns-in_ok-exercise-in-Exercise-clause-follows g c =
    let host = g.H.Host.state c.args.host.now in
    let text = string_bytes c.in_ok-exercise-in-Exercise.field-0 in
    let e = c.in-Exercise in
    subst (λ (m : Command). Follows (script_of (line_for m)) (Ok text) host host) (sym e.is) (exercise_follows e.seed e.aircraft e.seconds e.late text host c.in_ok-exercise-in-Exercise.ensures.text)
