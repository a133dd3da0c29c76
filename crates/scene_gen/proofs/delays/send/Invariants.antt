use Rattle.std.proofs.Common.{◌≡◌, List, ◌++◌, length, map, take}
use Rattle.recording.specs.Items.{Item, item_octets}
use Rattle.scene_gen.specs.Delays.{Sent, after_delays, delayed}
use Rattle.scene_gen.specs.OnWay.{AreOnWay}
use Rattle.scene_gen.specs.Scenes.{plots_of}
use Rattle.scene_gen.proofs.delays.send.Given as goal

-- the first of the plots are on their way, whatever was before
abbrev pub invariant-loop-plot : goal.invariant-loop-plot
invariant-loop-plot l = record {
  sent : (before : List Sent) (items : List Item) → l.plots ≡ map item_octets items → AreOnWay before l.time l.initial.on_way → AreOnWay (before ++ delayed l.late l.initial.generator (plots_of l.time (take l.plot-index items))) l.time l.on_way;
  after : (items : List Item) → l.plots ≡ map item_octets items → l.generator ≡ after_delays l.late l.initial.generator (plots_of l.time (take l.plot-index items));
  count : length l.on_way ≡ 1088;
}
