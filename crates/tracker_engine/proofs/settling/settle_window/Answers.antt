use Rattle.std.proofs.Common.{arith}
use Rattle.tracker_engine.proofs.Parted.{is_span, span_rises, span_begins, states_placed, outs_placed, as_many_slots}
use Rattle.tracker_engine.proofs.settling.settle_window.Goals as goal

pub fold_plots-requires-clause-rising : goal.fold_plots-requires-clause-rising
fold_plots-requires-clause-rising g c κs within =
    let s = c.in_ok-state in
    let is = is_span c.args.window.now c.args.upto s.state s.entries.items c.as_slice.result.now c.deref.result.now c.in_ok-plots.field-0 c.in-Some.plots c.deref-in-Some.result.now s.ensures.state s.ensures.items s.ensures.rising s.ensures.before
    c.as_slice.ensures c.deref.ensures.value c.in_ok-plots.ensures.plots c.in_ok-plots.ensures.all c.in-Some.is c.deref-in-Some.ensures.value in
    span_rises c.args.window.now c.args.upto s.state s.entries.items c.deref-in-Some.result.now is

pub fold_plots-requires-clause-before : goal.fold_plots-requires-clause-before
fold_plots-requires-clause-before g c κs within =
    let s = c.in_ok-state in
    let is = is_span c.args.window.now c.args.upto s.state s.entries.items c.as_slice.result.now c.deref.result.now c.in_ok-plots.field-0 c.in-Some.plots c.deref-in-Some.result.now s.ensures.state s.ensures.items s.ensures.rising s.ensures.before
    c.as_slice.ensures c.deref.ensures.value c.in_ok-plots.ensures.plots c.in_ok-plots.ensures.all c.in-Some.is c.deref-in-Some.ensures.value in
    span_begins c.args.window.now c.args.upto s.state s.entries.items c.deref-in-Some.result.now is

pub returns-in_err-states-clause-bound : goal.returns-in_err-states-clause-bound
returns-in_err-states-clause-bound g c =
    let s = c.in_ok-state in
    let is = is_span c.args.window.now c.args.upto s.state s.entries.items c.as_slice.result.now c.deref.result.now c.in_ok-plots.field-0 c.in-Some.plots c.deref-in-Some.result.now s.ensures.state s.ensures.items s.ensures.rising s.ensures.before
    c.as_slice.ensures c.deref.ensures.value c.in_ok-plots.ensures.plots c.in_ok-plots.ensures.all c.in-Some.is c.deref-in-Some.ensures.value in
    omega (arith, c.fold_plots.ensures.bound, as_many_slots c.args.window.now c.args.upto s.state s.entries.items c.deref-in-Some.result.now is)

pub place-requires-clause-states : goal.place-requires-clause-states
place-requires-clause-states g c =
    let s = c.in_ok-state in
    let is = is_span c.args.window.now c.args.upto s.state s.entries.items c.as_slice.result.now c.deref.result.now c.in_ok-plots.field-0 c.in-Some.plots c.deref-in-Some.result.now s.ensures.state s.ensures.items s.ensures.rising s.ensures.before
    c.as_slice.ensures c.deref.ensures.value c.in_ok-plots.ensures.plots c.in_ok-plots.ensures.all c.in-Some.is c.deref-in-Some.ensures.value in
    states_placed c.args.window.now c.args.upto s.state s.entries.items c.deref-in-Some.result.now is c.in_ok-states.states.items c.in_ok-states.ensures.states

pub place-requires-clause-outs : goal.place-requires-clause-outs
place-requires-clause-outs g c =
    let s = c.in_ok-state in
    let is = is_span c.args.window.now c.args.upto s.state s.entries.items c.as_slice.result.now c.deref.result.now c.in_ok-plots.field-0 c.in-Some.plots c.deref-in-Some.result.now s.ensures.state s.ensures.items s.ensures.rising s.ensures.before
    c.as_slice.ensures c.deref.ensures.value c.in_ok-plots.ensures.plots c.in_ok-plots.ensures.all c.in-Some.is c.deref-in-Some.ensures.value in
    outs_placed c.args.window.now c.args.upto s.state s.entries.items c.deref-in-Some.result.now is c.in_ok-states.outs.items c.in_ok-states.ensures.outs c.in_ok-states.ensures.whole

pub returns-in-Some-clause-bound : goal.returns-in-Some-clause-bound
returns-in-Some-clause-bound g c =
    let s = c.in_ok-state in
    let is = is_span c.args.window.now c.args.upto s.state s.entries.items c.as_slice.result.now c.deref.result.now c.in_ok-plots.field-0 c.in-Some.plots c.deref-in-Some.result.now s.ensures.state s.ensures.items s.ensures.rising s.ensures.before
    c.as_slice.ensures c.deref.ensures.value c.in_ok-plots.ensures.plots c.in_ok-plots.ensures.all c.in-Some.is c.deref-in-Some.ensures.value in
    omega (arith, c.fold_plots.ensures.bound, as_many_slots c.args.window.now c.args.upto s.state s.entries.items c.deref-in-Some.result.now is)
