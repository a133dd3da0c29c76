use Rattle.std.proofs.Common.{◌≡◌, ◌∙◌, ap, sym, subst, ℕ, ◌*◌, ◌<◌, ◌≤◌, List, ◌++◌, map, arith}
use Rattle.std.specs.List.{flat_map}
use Rattle.recording.specs.Items.{Item, item_octets}
use Rattle.scene_gen.specs.declared.sweeps.Sweep.{Sweep}
use Rattle.scene_gen.specs.Delays.{Plot, after_delays, delayed}
use Rattle.scene_gen.specs.OnWay.{AreOnWay}
use Rattle.scene_gen.specs.Scenes.{plots_of}
use Rattle.scene_gen.specs.Skies.{seen_before}
use Rattle.scene_gen.specs.Sweeps.{seen_by}
use Rattle.scene_gen.proofs.Moments.{seen_past}
use Rattle.scene_gen.proofs.Sweeping.{drawn_next, sent_next, swept}
use Rattle.scene_gen.proofs.sky.Sky.see.Goals as goal

pub returns-in_ok-send-clause-seen : goal.returns-in_ok-send-clause-seen
returns-in_ok-send-clause-seen c = λ fleet g seconds late is.
    let s = c.args.self.now in
    let time = c.args.time in
    let items : List Item = flat_map (seen_by time) s.sweeps.items in
    let within : time < 128 * seconds = omega (arith, c.if-time-from.true, c.from.ensures, is.seconds_are) in
    let are = swept fleet time s.sweeps.items is.sweeps in
    let made : c.deref-then-time-from.result.now ≡ map item_octets items =
    c.deref-then-time-from.ensures.value ∙ c.in_ok-look_at.ensures ∙ ap (λ (l : List Sweep). map item_octets (flat_map (seen_by time) l)) c.deref.ensures.value in
    let on = c.in_ok-send.ensures.sent (delayed late g (seen_before fleet seconds time)) items made is.on_way in
    record {
      seconds_are = is.seconds_are;
      late_is = is.late_is;
      sweeps = is.sweeps;
      generator = drawn_next fleet g seconds late time items within are is.generator (c.in_ok-send.ensures.after items made ∙ ap (λ (n : ℕ). after_delays n s.generator (plots_of time items)) is.late_is);
      on_way = sent_next fleet g seconds late time items within are is.generator (subst (λ (n : ℕ). AreOnWay (delayed late g (seen_before fleet seconds time) ++ delayed n s.generator (plots_of time items)) time c.send.new.on_way) is.late_is on);
    }

pub returns-else-time-from-clause-seen : goal.returns-else-time-from-clause-seen
returns-else-time-from-clause-seen c = λ fleet g seconds late is.
    let s = c.args.self.now in
    let past : 128 * seconds ≤ c.args.time = omega (arith, c.if-time-from.false, c.from.ensures, is.seconds_are) in
    let same = sym (seen_past fleet seconds c.args.time past) in
    record {
      seconds_are = is.seconds_are;
      late_is = is.late_is;
      sweeps = is.sweeps;
      generator = is.generator ∙ ap (after_delays late g) same;
      on_way = subst (λ (l : List Plot). AreOnWay (delayed late g l) c.args.time s.on_way) same is.on_way;
    }
