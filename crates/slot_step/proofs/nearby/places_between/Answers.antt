use Rattle.std.proofs.Common.{rules, ◌≡◌, ◌-◌, ℕ, ℤ, List, length, take, drop, arith}
use Rattle.std.proofs.lemmas.List.{take_all, length-drop}
use Rattle.std.proofs.lemmas.List.Sorted.{IsPartitionPoint-from_clause}
use Rattle.slot_step.proofs.Places.{parted_west, parted_east, rest_rises, between_is}
use Rattle.slot_step.proofs.nearby.places_between.Goals as goal
use lib.Signed.{lt_z, le_z}

pub returns : goal.returns
returns c =
    let places = c.args.places.now in
    let west = c.args.west in
    let east = c.args.east in
    let from = c.partition_point-from.result in
    let count = c.partition_point-count.result in
    let rest : List (ℤ × ℕ) = take (length places - from) (drop from places) in
    let rest_is : rest ≡ drop from places = take_all (length places - from) (drop from places) (omega (arith, length-drop from places)) in
    let first = IsPartitionPoint-from_clause (λ (e : ℤ × ℕ). lt_z e.0 west) places from c.partition_point-from.ensures.partitioned (parted_west places c.requires west) (λ a r f k. search rules) in
    let second = IsPartitionPoint-from_clause (λ (e : ℤ × ℕ). le_z e.0 east) rest count c.partition_point-count.ensures.partitioned (parted_east rest (rest_rises places c.requires rest from rest_is) east) (λ a r f k. search rules) in
    between_is places c.requires rest west east from count rest_is c.partition_point-from.ensures.bound c.partition_point-count.ensures.bound first second
