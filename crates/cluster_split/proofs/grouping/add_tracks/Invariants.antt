use Rattle.std.proofs.Common.{◌≡◌, ℕ, List, length}
use Rattle.cluster_split.specs.Grouping.{AreIndices, components_of}
use Rattle.cluster_split.proofs.grouping.add_tracks.Given as goal

abbrev pub invariant-loop-i : goal.invariant-loop-i
invariant-loop-i l = record {
  long : length l.parts.items ≡ length l.initial.parts.items;
  parts : (least : List ℕ) → AreIndices least l.places → l.initial.parts.items ≡ components_of least l.by_track (length l.places) 0 → l.parts.items ≡ components_of least l.by_track (length l.places) l.i;
}
