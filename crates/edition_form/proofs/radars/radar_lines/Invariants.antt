use Rattle.std.proofs.Common.{◌≡◌, ◌++◌, drop, length}
use Rattle.edition_form.specs.Datagrams.{radar_lines}
use Rattle.edition_form.proofs.radars.radar_lines.Given as goal

abbrev pub invariant-loop-index : goal.invariant-loop-index
invariant-loop-index l = record {
  lines : l.lines.items ++ radar_lines l.time (drop l.index l.radars) (drop l.index l.biases) (drop l.index l.services) ≡ radar_lines l.time l.radars l.biases l.services;
  count : length l.lines.items ≡ l.index;
}
