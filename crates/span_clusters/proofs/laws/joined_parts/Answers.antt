use Rattle.span_clusters.proofs.Joins.{joined_splitting}
use Rattle.span_clusters.proofs.Separating.{Separating, SeparatingLaws}
use Rattle.span_clusters.proofs.laws.joined_parts.Goals as goal

pub returns : goal.returns
returns g c =
    let S = g.row.F-State.Denot in
    let I = g.row.F-Item.Denot in
    let K = g.row.F-Key.Denot in
    let O = g.row.F-Out.Denot in
    let F : Separating S I K O = record {
      cmp = g.F.Item.Ord.cmp;
      key = g.F.Fold.key_of;
      slot = g.F.Fold.slot_of;
      next = g.F.Fold.next;
      is_out = g.F.Fold.is_out;
      is_before = g.F.Fold.is_before;
      is_beside = g.F.Separable.is_beside;
      merged = g.F.Separable.merged;
      gates = g.F.Separable.gates;
      both = g.F.Separable.both;
    } in
    let L : SeparatingLaws F = record {
      stays_before = g.met.F.Fold.stays_before;
      goes_before = g.met.F.Fold.goes_before;
      beside_back = g.met.F.Separable.beside_back;
      beside_merged = g.met.F.Separable.beside_merged;
      beside_next = g.met.F.Separable.beside_next;
      merged_back = g.met.F.Separable.merged_back;
      merged_before = g.met.F.Separable.merged_before;
      gates_merged = g.met.F.Separable.gates_merged;
      next_merged = g.met.F.Separable.next_merged;
      out_merged = g.met.F.Separable.out_merged;
      out_alone = g.met.F.Separable.out_alone;
      next_rested = g.met.F.Separable.next_rested;
      out_rested = g.met.F.Separable.out_rested;
      gates_rested = g.met.F.Separable.gates_rested;
    } in
    λ s all p q parts others rest items up i w v m mu. joined_splitting F L g.met.F.Separable.merged_rest g.met.F.Item.Ord.total s all p q parts others rest items up i w v m mu
