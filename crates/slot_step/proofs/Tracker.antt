-- The tracker's tracks meet what is asked of tracks.
use Rattle.std.proofs.Common.{◌≡◌, refl, ℕ, ◌+◌, ◌*◌, ◌≤◌, true, List, arith}
use Rattle.std.proofs.lemmas.Bool.{leb-true, le-leb}
use Rattle.plot_geometry.specs.Plots.{PlanePlot}
use Rattle.track_life.specs.declared.settings.LifeSettings.{LifeSettings}
use Rattle.track_life.specs.Tracks.{TrackState, begun, continued}
use Rattle.track_life.specs.Tables.{keep, is_kept}
use Rattle.slot_step.specs.Slots.{OrderLaws}
use Rattle.slot_step.specs.Numbers.{NumberLaws, without_numbers}
use Rattle.slot_step.specs.Tracker.{tracking, ordered, numbering}
use Rattle.slot_step.proofs.Keyed.{keyed_laws}

birth_stays : (hits : ℕ) (t : TrackState) (p : PlanePlot) → (continued hits t p).birth ≡ t.birth
unfolding continued
birth_stays hits t p = refl

birth_is_key : (hits : ℕ) (p : PlanePlot) → (begun hits p).birth ≡ p.key
unfolding begun
birth_is_key hits p = refl

kept_before : (life : LifeSettings) (t : TrackState) (a b : ℕ) → a ≤ b → is_kept life b t ≡ true → is_kept life a t ≡ true
kept_before life t a b h e =
    let until : ℕ = t.aim.time + 128 * keep life t.confirmed in
    le-leb (64 * a) until (omega (arith, h, leb-true (64 * b) until e))

pub tracks_ordered : (life : LifeSettings) → OrderLaws (tracking life) (ordered life)
tracks_ordered life = keyed_laws (tracking life) (λ t. t.birth) (λ p. p.key) (is_kept life) (birth_stays life.hits) (birth_is_key life.hits) (kept_before life)

pub tracks_numbered : (life : LifeSettings) (assigned : List TrackState → List TrackState) → ((ts : List TrackState) → without_numbers (numbering assigned) (assigned ts) ≡ without_numbers (numbering assigned) ts) → NumberLaws (tracking life) (ordered life) (numbering assigned)
unfolding continued begun
tracks_numbered life assigned h = record {
  again = λ x y t. refl;
  own = λ t. refl;
  birth = λ x t. refl;
  gate = λ x t p. refl;
  update = λ x t p. refl;
  update_keeps = λ t p. refl;
  begin = λ p. refl;
  kept = λ x n t. refl;
  assigned = h;
}
