use Rattle.io_traits.specs.Host.{HostState}
use Rattle.session_script.specs.Ends.{ComesTo, Ended, MayHold}
use Rattle.session_script.specs.Scripts.{Gives, end_of}
use Rattle.session_script.specs.declared.status.Status.{Status}
use Rattle.session_script.proofs.Coming.{comes_so, comes_to, foretold}
use Rattle.tracker_session.specs.Commands.{CommandGives, script_of}
use Rattle.tracker_session.specs.Words.{Line, line_of, texts}
use Rattle.io_traits.specs.declared.host.Place.{Place}
use Rattle.std.specs.Prelude.{◌≡◌, None}
use Rattle.tracker_session.proofs.Giving.{command_gives}
use Rattle.tracker_session.proofs.Refusing.{only_other}
use Rattle.tracker_session.proofs.Spent.{spent_still}
use Rattle.tracker_session.proofs.batch.run_batch.Goals as goal

came_so : (line : Line) (status : Status) (old new : HostState) → ((p : Place) → old.bound p ≡ None) → Ended (script_of line) status old new → ComesTo (CommandGives line (MayHold old)) status old new
came_so line status old new unbound ended = comes_so (Gives (script_of line) (MayHold old)) (CommandGives line (MayHold old)) status old new (command_gives line (MayHold old)) (comes_to (script_of line) status old new unbound ended)

ended : (g : _) (c : goal.After-tell g) → Ended (script_of (line_of (texts c.args.words.now))) c.tell.result (g.H.Host.state c.args.host.now) (g.H.Host.state c.tell.new.host)
ended g c = record { end = end_of c.run_words-end.result; mid = g.H.Host.state c.run_words-end.new.host; follows = c.run_words-end.ensures.follows; says = c.tell.ensures.says; screen = c.tell.ensures.touches }

came : (g : _) (c : goal.After-tell g) → ComesTo (CommandGives (line_of (texts c.args.words.now)) (MayHold (g.H.Host.state c.args.host.now))) c.tell.result (g.H.Host.state c.args.host.now) (g.H.Host.state c.tell.new.host)
came g c = came_so (line_of (texts c.args.words.now)) c.tell.result (g.H.Host.state c.args.host.now) (g.H.Host.state c.tell.new.host) c.requires (ended g c)

pub returns-clause-came : goal.returns-clause-came
returns-clause-came g c = ended g c

pub returns-clause-outcome : goal.returns-clause-outcome
returns-clause-outcome g c = came g c

pub returns-clause-complete : goal.returns-clause-complete
returns-clause-complete g c = λ none memory. foretold (CommandGives (line_of (texts c.args.words.now)) (MayHold (g.H.Host.state c.args.host.now))) c.tell.result (g.H.Host.state c.args.host.now) (g.H.Host.state c.tell.new.host) none memory (came g c)

pub returns-clause-usage : goal.returns-clause-usage
returns-clause-usage g c = λ usage. only_other (line_of (texts c.args.words.now)) (MayHold (g.H.Host.state c.args.host.now)) c.tell.result (g.H.Host.state c.args.host.now) (g.H.Host.state c.tell.new.host) (came g c) usage

pub returns-clause-spent : goal.returns-clause-spent
returns-clause-spent g c =
    let state = g.H.Host.state in
    spent_still (line_of (texts c.args.words.now)) (state c.args.host.now) (state c.run_words-end.new.host) (state c.tell.new.host) c.args.steps.now c.run_words-end.new.steps c.tell.ensures.touches c.run_words-end.ensures.spent
