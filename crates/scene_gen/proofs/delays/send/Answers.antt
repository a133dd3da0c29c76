use Rattle.std.proofs.Common.{◌≡◌, ◌∙◌, ap, sym, subst, refl, ℕ, ◌+◌, ◌<◌, ◌≤◌, List, [], ◌++◌, length, map, get_or, arith}
use Rattle.std.proofs.lemmas.List.{append-nil, get_or-map, length-map, length-set, take_all}
use Rattle.recording.specs.Items.{Item, item_octets}
use Rattle.scene_gen.specs.Delays.{Sent, after_delays, delayed}
use Rattle.scene_gen.specs.OnWay.{AreOnWay}
use Rattle.scene_gen.specs.Scenes.{plots_of}
use Rattle.scene_gen.proofs.Delaying.{after_more, none, sent_more}
use Rattle.scene_gen.proofs.delays.send.Goals as goal

pub loop-plot-init : goal.loop-plot-init
unfolding delayed after_delays
loop-plot-init c = record {
  sent = λ before items made on. subst (λ (l : List Sent). AreOnWay l c.args.time c.args.on_way.now) (sym (append-nil before)) on;
  after = λ items made. refl;
  count = c.requires.count;
}

pub loop-plot-preserved : goal.loop-plot-preserved
loop-plot-preserved c =
    let inv = c.loop-plot.invariant in
    let i = c.loop-plot.plot-index in
    let g = c.args.generator.now in
    let within : (items : List Item) → c.args.plots.now ≡ map item_octets items → i < length items = λ items made. omega (arith, ap length made, length-map items item_octets, c.loop-plot-test.true) in
    record {
      sent = λ before items made on.
          sent_more c.args.late c.args.time i g before items (c.args.time + c.next_delay.result) (get_or c.args.plots.now i []) (within items made)
          ((λ j. get_or (made j) i []) ∙ get_or-map item_octets items i none [] (within items made)) (inv.after items made) (ap (λ (n : ℕ). c.args.time + n) c.next_delay.ensures.delay)
          (omega arith) (omega (arith, c.next_delay.ensures.most)) c.in_ok-push.ensures (inv.sent before items made on);
      after = λ items made. after_more c.args.late c.args.time i g items (within items made) (inv.after items made) c.next_delay.ensures.after;
      count = ap length c.in_ok-push.ensures ∙ length-set c.loop-plot.on_way _ _ ∙ inv.count;
    }

pub returns-clause-sent : goal.returns-clause-sent
returns-clause-sent c = λ before items made on.
    let end : length items ≤ c.loop-plot.plot-index = omega (arith, ap length made, length-map items item_octets, c.loop-plot-test.false) in
    subst (λ (l : List Item). AreOnWay (before ++ delayed c.args.late c.args.generator.now (plots_of c.args.time l)) c.args.time c.loop-plot.on_way) (take_all c.loop-plot.plot-index items end) (c.loop-plot.invariant.sent before items made on)
