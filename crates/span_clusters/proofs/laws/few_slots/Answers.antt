use Rattle.span_clusters.proofs.FewSlots.{few_of_each, few_together}
use Rattle.span_clusters.proofs.laws.few_slots.Goals as goal

pub returns : goal.returns
returns g c =
    let slot = g.F.Fold.slot_of in
    record {
      each = λ s items parts i. few_of_each slot parts items i.items;
      together = λ s items parts i. few_together slot _ parts (few_of_each slot parts items i.items);
    }
