-- Tracks and plots in the one order of all plots' keys: slot, radar, time, arrival.
use Rattle.std.specs.Prelude.{ℕ, Bool}
use Rattle.trk_base.specs.declared.keys.Key.{Key}
use Rattle.trk_base.specs.Keys.{key_cmp}
use Rattle.slot_step.specs.Slots.{Ordered}

abbrev pub keyed : {T P : Type 0} → (T → Key) → (P → Key) → (ℕ → T → Bool) → Ordered T P Key
keyed birth key kept = record { cmp = key_cmp; birth = birth; key = key; slot = λ k. k.slot; radar = λ k. k.radar; kept = kept }
