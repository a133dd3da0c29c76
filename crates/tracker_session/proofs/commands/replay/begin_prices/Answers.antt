use Rattle.std.proofs.Common.{rules, ◌≡◌, ap, subst, List, ℕ, Err}
use Rattle.std.specs.Arc.{arc_value}
use Rattle.io_traits.specs.declared.host.Place.TheVariants as places
use Rattle.price_form.specs.Files.{magic}
use Rattle.session_script.specs.Scripts.{end_of}
use Rattle.session_script.specs.Steps.{PlaceWritten, WritingBroke}
use Rattle.session_script.proofs.Following.{after_write, ended_so, writing_broke}
use Rattle.tracker_session.specs.ReplayScript.{octets_script}
use Rattle.tracker_session.proofs.Spending.{none_spent_on_octets}
use Rattle.tracker_session.proofs.Touched.{prices_written, then_written}
use Rattle.tracker_session.proofs.commands.replay.begin_prices.Goals as goal

pub returns-in_err-write_file-clause-follows : goal.returns-in_err-write_file-clause-follows
returns-in_err-write_file-clause-follows g c =
    let state = g.H.Host.state in
    let next = octets_script (arc_value c.args.settings) c.args.octets.now in
    let s = c.in_err-write_file.field-0.0 in
    let is : c.from_residual.result ≡ Err s = search rules in
    let old = state c.args.host.now in
    let new = state c.write_file.new.host in
    let broke = subst (λ (o : List ℕ). WritingBroke places.Prices o s old new) c.start_prices.ensures c.in_err-write_file.ensures.broke in
    ended_so _ (Err s) _ old new (ap end_of is) (writing_broke places.Prices magic next s old new broke)

pub returns-clause-follows : goal.returns-clause-follows
returns-clause-follows g c =
    let state = g.H.Host.state in
    let next = octets_script (arc_value c.args.settings) c.args.octets.now in
    let old = state c.args.host.now in
    let mid = state c.write_file.new.host in
    let new = state c.replay_octets.new.host in
    let wrote = subst (λ (o : List ℕ). PlaceWritten places.Prices o old mid) c.start_prices.ensures c.in_ok-write_file.ensures.written in
    after_write places.Prices magic next (end_of c.replay_octets.result) old mid new wrote c.replay_octets.ensures.follows

pub returns-in_err-write_file-clause-touches : goal.returns-in_err-write_file-clause-touches
returns-in_err-write_file-clause-touches g c =
    let state = g.H.Host.state in
    prices_written (state c.args.host.now) (state c.write_file.new.host) c.write_file.ensures.touches

pub returns-in_err-write_file-clause-spent : goal.returns-in_err-write_file-clause-spent
returns-in_err-write_file-clause-spent g c = none_spent_on_octets (arc_value c.args.settings) c.args.octets.now c.args.steps.now

pub returns-clause-touches : goal.returns-clause-touches
returns-clause-touches g c =
    let state = g.H.Host.state in
    let old = state c.args.host.now in
    let mid = state c.write_file.new.host in
    let new = state c.replay_octets.new.host in
    then_written old mid new (prices_written old mid c.write_file.ensures.touches) c.replay_octets.ensures.touches

pub returns-clause-spent : goal.returns-clause-spent
returns-clause-spent g c = c.replay_octets.ensures.spent
