use Rattle.std.proofs.Common.{◌≡◌, ◌==◌, ◌++◌, drop}
use Rattle.span_clusters.specs.Parts.{picked_items}
use Rattle.track_parts.proofs.splitting.picked_tracks.Given as goal

abbrev pub invariant-loop-index : goal.invariant-loop-index
invariant-loop-index l = l.picked.items ++ picked_items (λ k. k == l.part) (drop l.index l.numbers) (drop l.index l.tracks) ≡ picked_items (λ k. k == l.part) l.numbers l.tracks
