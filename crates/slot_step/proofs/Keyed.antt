-- The order of keys meets what is asked of it.
use Rattle.std.proofs.Common.{◌≡◌, ◌∙◌, ap, refl, ℕ, ◌<◌, ◌≤◌, Bool, true, arith}
use Rattle.std.specs.declared.cmp.Ordering.{Ordering}
use Rattle.std.specs.declared.cmp.Ordering.TheVariants.{Less, Equal}
use Rattle.std.specs.Ordering.{nat_cmp, ordering_then}
use Rattle.std.proofs.lemmas.Bool.{lt-ltb}
use Rattle.trk_base.specs.declared.keys.Key.{Key}
use Rattle.trk_base.specs.KeyOrder.{key_cmp_total, key_cmp_exact}
use Rattle.slot_step.specs.Batches.{Tracking}
use Rattle.slot_step.specs.Slots.{OrderLaws}
use Rattle.slot_step.specs.Keyed.{keyed}

nat_less : (a b : ℕ) → a < b → nat_cmp a b ≡ Less
nat_less a b h = rw (lt-ltb a b h) refl

nat_same : (a b : ℕ) → a ≡ b → nat_cmp a b ≡ Equal
nat_same a b e = grind arith

-- by radar, then time, then arrival
abbrev after_slot : Key → Key → Ordering
after_slot a b = ordering_then (nat_cmp a.radar b.radar) (ordering_then (nat_cmp a.time b.time) (nat_cmp a.arrival b.arrival))

pub keyed_laws : {T P : Type 0} (k : Tracking T P) (birth : T → Key) (key : P → Key) (kept : ℕ → T → Bool) → ((t : T) (p : P) → birth (k.update t p) ≡ birth t) → ((p : P) → birth (k.begin p) ≡ key p)
    → ((t : T) (a b : ℕ) → a ≤ b → kept b t ≡ true → kept a t ≡ true) → OrderLaws k (keyed birth key kept)
keyed_laws k birth key kept stays is ends = record {
  total = key_cmp_total;
  exact = key_cmp_exact;
  by_slot = λ a b h. ap (λ (o : Ordering). ordering_then o (after_slot a b)) (nat_less a.slot b.slot h);
  by_radar = λ a b e h. ap (λ (o : Ordering). ordering_then o (after_slot a b)) (nat_same a.slot b.slot e) ∙ ap (λ (o : Ordering). ordering_then o (ordering_then (nat_cmp a.time b.time) (nat_cmp a.arrival b.arrival))) (nat_less a.radar b.radar h);
  birth_stays = stays;
  birth_is_key = is;
  kept_before = ends;
}
