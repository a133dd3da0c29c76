use Rattle.std.proofs.Common.{rules, ◌≡◌, sym, subst, Err}
use Rattle.session_script.specs.Scripts.{Follows, end_of}
use Rattle.session_script.specs.declared.status.Status.TheVariants.{Usage}
use Rattle.session_script.proofs.Following.{at_end, gave_up}
use Rattle.tracker_session.specs.Commands.{script_of}
use Rattle.tracker_session.specs.Words.{Line, Parsed, line_of, texts}
use Rattle.tracker_session.specs.declared.words.WordsError.{WordsError}
use Rattle.tracker_session.specs.declared.words.WordsError.TheVariants as errors
use Rattle.tracker_session.specs.Work.{IsSpent}
use Rattle.tracker_session.proofs.Spent.{unspent}
use Rattle.tracker_session.proofs.batch.run_words.Goals as goal

pub returns-in-Ok-clause-follows : goal.returns-in-Ok-clause-follows
returns-in-Ok-clause-follows g c =
    let state = g.H.Host.state in
    subst (λ (l : Line). Follows (script_of l) (end_of c.run_command.result) (state c.args.host.now) (state c.run_command.new.host)) (sym c.in-Ok.ensures.words) c.run_command.ensures.follows

pub returns-in-Err-Usage-clause-follows : goal.returns-in-Err-Usage-clause-follows
returns-in-Err-Usage-clause-follows g c =
    let host = g.H.Host.state c.args.host.now in
    let usage : c.in-Err-Usage.field-0 ≡ errors.Usage = search rules in
    let none = subst (λ (e : WordsError). Parsed (texts c.args.words.now) (Err e)) usage c.in-Err-Usage.ensures.words in
    subst (λ (l : Line). Follows (script_of l) (Err Usage) host host) (sym none) (at_end (Err Usage) host)

pub returns-in-Err-NoMemory-clause-follows : goal.returns-in-Err-NoMemory-clause-follows
returns-in-Err-NoMemory-clause-follows g c =
    let host = g.H.Host.state c.args.host.now in
    gave_up (script_of (line_of (texts c.args.words.now))) host

pub returns-in-Ok-clause-spent : goal.returns-in-Ok-clause-spent
returns-in-Ok-clause-spent g c =
    let state = g.H.Host.state in
    subst (λ (l : Line). IsSpent l (state c.args.host.now) (state c.run_command.new.host) c.args.steps.now c.run_command.new.steps) (sym c.in-Ok.ensures.words) c.run_command.ensures.spent

pub returns-in-Err-Usage-clause-spent : goal.returns-in-Err-Usage-clause-spent
returns-in-Err-Usage-clause-spent g c = unspent (line_of (texts c.args.words.now)) (g.H.Host.state c.args.host.now) c.args.steps.now

pub returns-in-Err-NoMemory-clause-spent : goal.returns-in-Err-NoMemory-clause-spent
returns-in-Err-NoMemory-clause-spent g c = unspent (line_of (texts c.args.words.now)) (g.H.Host.state c.args.host.now) c.args.steps.now
