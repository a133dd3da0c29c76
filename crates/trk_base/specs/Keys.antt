-- The one order of all plots.
use Rattle.std.specs.Ordering.{nat_cmp, ordering_then}
use Rattle.std.specs.declared.cmp.Ordering.{Ordering}
use Rattle.trk_base.specs.declared.keys.Key.{Key}

-- by slot, then radar, then time, then arrival
abbrev pub key_cmp : Key → Key → Ordering
key_cmp a b = ordering_then (nat_cmp a.slot b.slot) (ordering_then (nat_cmp a.radar b.radar) (ordering_then (nat_cmp a.time b.time) (nat_cmp a.arrival b.arrival)))
