-- What a slot's step and its parts are asked for.
use Rattle.std.proofs.Common.{◌≡◌, ◌∙◌, sym, ℕ, ◌<◌, ◌^◌, ◌-◌, List, [], ◌∷◌, length, arith, subst}
use Rattle.std.specs.Prelude.{fold}
use Rattle.std.specs.List.Sorted.{IsStrictlySortedBy}
use Rattle.std.specs.Cmp.{IsTotalOrder}
use Rattle.std.proofs.lemmas.Cmp.{on_total}
use Rattle.trk_base.specs.Keys.{key_cmp}
use Rattle.trk_base.specs.KeyOrder.{key_cmp_total}
use Rattle.track_life.specs.declared.settings.LifeSettings.{LifeSettings}
use Rattle.track_life.specs.Tracks.{TrackState}
use Rattle.track_life.specs.Tables.{IsTable, unexpired}
use Rattle.slot_step.specs.Parts as tables
use Rattle.slot_step.specs.Tracker.{tracking, ordered, run_tracks}
use Rattle.slot_step.proofs.Slotted.{map_sorted}
use Rattle.slot_step.proofs.Tables.{merged_of, run_of_none}
use Rattle.slot_step.proofs.Tracker.{tracks_ordered}
use Rattle.track_parts.specs.Members.{Tracks}
use Rattle.slot_step.specs.declared.certs.KeyedCert.{KeyedCert}
use Rattle.span_clusters.specs.Interleavings.{IsJoin}
use Rattle.track_parts.specs.Tracking.{woven_by, by_birth, both_certs, SharesNone}
use Rattle.track_parts.specs.Woven.{woven_is}

births_total : IsTotalOrder by_birth
births_total = on_total (λ (t : TrackState). t.birth) key_cmp_total

-- tables that share no birth, woven, are the two merged
pub woven_tables : (s t : Tracks) → SharesNone s t → woven_by by_birth s.table t.table ≡ tables.merged (ordered s.life) s.table t.table
woven_tables s t b = woven_is by_birth births_total s.table t.table b.tables.one b.tables.other

-- and a table, where they aren't too many
pub merged_table : (s t : Tracks) (ts : List TrackState) → SharesNone s t → ts ≡ woven_by by_birth s.table t.table → length ts < 2 ^ 32 - 1 → IsTable ts
merged_table s t ts b e few = record {
  births = map_sorted key_cmp (λ u. u.birth) ts
      (subst (IsStrictlySortedBy by_birth) (sym (e ∙ woven_tables s t b)) (merged_of (tracking s.life) (ordered s.life) (tracks_ordered s.life) s.table t.table b.tables).1);
  fewer = few;
}

-- a slot without plots is expiry alone
pub expired_is : (life : LifeSettings) (ts : List TrackState) (n : ℕ) → unexpired life n ts ≡ run_tracks life ts n []
unfolding unexpired
expired_is life ts n = sym (run_of_none (tracking life) (ordered life) (tracks_ordered life) ts n)

-- put in order with none before it, the first is as it was
pub join_of : (xs : List (List KeyedCert)) (y : List KeyedCert) → 0 < length xs → y ≡ fold both_certs [] xs → IsJoin both_certs xs y
unfolding woven_by
join_of [] y l e = absurd (omega (arith, l))
join_of (x ∷ xs) y l e = e
