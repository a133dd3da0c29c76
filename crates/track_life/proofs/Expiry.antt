-- What is left of a table is one.
use Rattle.std.proofs.Common.{ℕ, ◌≤◌, List, [], ◌∷◌, map, length, Bool, arith}
use Rattle.std.specs.List.{AllByRecursion, filter}
use Rattle.std.specs.List.Sorted.{IsStrictlySortedBy}
use Rattle.std.specs.declared.cmp.Ordering.{Ordering}
use Rattle.std.proofs.lemmas.Bool.{cond_both}
use Rattle.trk_base.specs.Keys.{key_cmp}
use Rattle.track_life.specs.declared.settings.LifeSettings.{LifeSettings}
use Rattle.track_life.specs.Tracks.{TrackState}
use Rattle.track_life.specs.Tables.{IsTable, is_kept, unexpired}

all_left : {T K : Type 0} (P : K → Type 0) (key : T → K) (test : T → Bool) (ts : List T) → AllByRecursion P (map key ts) → AllByRecursion P (map key (filter test ts))
all_left P key test [] h = h
all_left P key test (t ∷ ts) h =
    cond_both (test t) (t ∷ filter test ts) (filter test ts) (λ us. AllByRecursion P (map key us)) (λ _. (h.0, all_left P key test ts h.1)) (λ _. all_left P key test ts h.1)

rises_left : {T K : Type 0} (cmp : K → K → Ordering) (key : T → K) (test : T → Bool) (ts : List T) → IsStrictlySortedBy cmp (map key ts) → IsStrictlySortedBy cmp (map key (filter test ts))
unfolding IsStrictlySortedBy
rises_left cmp key test [] h = h
rises_left cmp key test (t ∷ ts) h =
    cond_both (test t) (t ∷ filter test ts) (filter test ts) (λ us. IsStrictlySortedBy cmp (map key us))
    (λ _. (all_left _ key test ts h.0, rises_left cmp key test ts h.1)) (λ _. rises_left cmp key test ts h.1)

fewer_left : {T : Type 0} (test : T → Bool) (ts : List T) → length (filter test ts) ≤ length ts
fewer_left test [] = omega arith
fewer_left test (t ∷ ts) =
    let rest = fewer_left test ts in
    cond_both (test t) (t ∷ filter test ts) (filter test ts) (λ us. length us ≤ length (t ∷ ts)) (λ _. omega (arith, rest)) (λ _. omega (arith, rest))

pub unexpired_is : (life : LifeSettings) (slot : ℕ) (ts : List TrackState) → IsTable ts → IsTable (unexpired life slot ts)
unfolding unexpired
unexpired_is life slot ts h = record {
  births = rises_left key_cmp (λ t. t.birth) (is_kept life slot) ts h.births;
  fewer = omega (arith, h.fewer, fewer_left (is_kept life slot) ts);
}

pub no_tracks : IsTable []
unfolding IsStrictlySortedBy
no_tracks = record { births = tt; fewer = omega arith }

pub one_track : (t : TrackState) → IsTable (t ∷ [])
unfolding IsStrictlySortedBy
one_track t = record { births = (tt, tt); fewer = omega arith }
