-- What stands at a component's indices, and the certificate that tells it.
use Rattle.std.proofs.Common.{◌≡◌, refl, ℕ, zero, suc, ◌<◌, List, [], ◌∷◌, length, get_or, map, Option, arith}
use Rattle.std.specs.Prelude.{ℤ, All}
use Rattle.trk_base.specs.declared.keys.Key.{Key}
use Rattle.plot_geometry.specs.Plots.{PlanePlot}
use Rattle.assignment_dual.specs.Problems.{Problem}
use Rattle.cluster_split.specs.declared.splitting.Component.{Component}
use Rattle.track_life.specs.Tracks.{TrackState}
use Rattle.slot_step.specs.Certificates.{IsAt}
use Rattle.slot_step.specs.Components.{AreAt}
use Rattle.slot_step.specs.ToldComponents.{IsToldOf}
use Rattle.slot_step.proofs.Components.{at_get}
use Rattle.slot_step.proofs.Problems.{stands}

pub stands_all : {X : Type 0} (xs : List X) (is : List ℕ) → All (λ i. i < length xs) is → (ys : List X) × AreAt xs is ys
stands_all xs [] a = ([], tt)
stands_all {X} xs (i ∷ is) a =
    let first : (y : X) × IsAt xs i y = stands xs i (a 0 i (omega arith)) in
    let rest : (ys : List X) × AreAt xs is ys = stands_all xs is (λ k d lt. a (suc k) d (omega (arith, lt))) in
    (first.0 ∷ rest.0, (first.1, rest.1))

pub at_own : {X : Type 0} (xs : List X) (is : List ℕ) (own : List X) → AreAt xs is own → (k : ℕ) → k < length is → (d : X) → get_or xs (get_or is k 0) d ≡ get_or own k d
at_own xs [] [] z k lt d = absurd (omega (arith, lt))
at_own xs [] (y ∷ own) z k lt d = absurd z
at_own xs (i ∷ is) [] z k lt d = absurd z
at_own xs (i ∷ is) (y ∷ own) z zero lt d = at_get d xs i y z.0
at_own xs (i ∷ is) (y ∷ own) z (suc k) lt d = at_own xs is own z.1 k (omega (arith, lt)) d

pub first_of : {X : Type 0} (xs : List X) → 0 < length xs → (x : X) × (rest : List X) × (xs ≡ x ∷ rest)
first_of [] lt = absurd (omega (arith, lt))
first_of (x ∷ xs) lt = (x, xs, refl)

pub told_of : (ts : List TrackState) (ps : List PlanePlot) (part : Component) (p : Problem) (xs : List (Option ℕ)) (us vs : List ℤ) (q : PlanePlot) (rest : List PlanePlot) (bs : List Key) (key : Key) (plots tracks : List ℕ)
    → AreAt ps part.plots (q ∷ rest) → AreAt (map (λ t. t.birth) ts) part.tracks bs → key ≡ q.key → plots ≡ map (λ r. r.key.arrival) (q ∷ rest) → tracks ≡ map (λ b. b.arrival) bs
    → IsToldOf ts ps part p xs us vs (record { least = key; cert = record { slot = key.slot; radar = key.radar; plots = plots; tracks = tracks; costs = p; pairing = xs; u = us; v = vs } })
told_of ts ps part p xs us vs q rest bs key plots tracks a b e f g = record {
  certificate = record { first = q; rest = rest; births = bs; costs = p; pairing = xs; u = us; v = vs };
  plots_at = a;
  births_at = b;
  costs = refl;
  pairing = refl;
  u = refl;
  v = refl;
  is = λ i. record { least = e i; cert = record { slot = (e i).slot; radar = (e i).radar; plots = f i; tracks = g i; costs = p; pairing = xs; u = us; v = vs } };
}
