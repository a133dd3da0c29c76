use Rattle.std.proofs.Common.{◌≡◌, ◌∙◌, ◌<◌, ◌∷◌, ap, sym, ℕ, List, map, get_or, arith, subst}
use Rattle.std.specs.Prelude.{All}
use Rattle.std.proofs.lemmas.List.{length-map}
use Rattle.trk_base.specs.declared.keys.Key.{Key}
use Rattle.plot_geometry.specs.Plots.{PlanePlot}
use Rattle.track_life.specs.Tracks.{TrackState}
use Rattle.slot_step.specs.Certificates.{IsAt}
use Rattle.slot_step.specs.Components.{AreAt}
use Rattle.slot_step.proofs.Components.{zip_length}
use Rattle.slot_step.proofs.Telling.{stands_all, at_own, first_of, told_of}
use Rattle.slot_step.proofs.certs.cert_of.Goals as goal

pub returns : goal.returns
returns c =
    let ps = c.args.plots.now in
    let part = c.args.component.now in
    let all : List Key = map (λ (t : TrackState). t.birth) c.args.tracks.now in
    let own : (qs : List PlanePlot) × AreAt ps part.plots qs = stands_all ps part.plots c.requires.plots in
    let births : (bs : List Key) × AreAt all part.tracks bs = stands_all all part.tracks (subst (λ n. All (λ i. i < n) part.tracks) (sym (length-map c.args.tracks.now (λ (t : TrackState). t.birth))) c.requires.tracks) in
    let first : (q : PlanePlot) × (rest : List PlanePlot) × (own.0 ≡ q ∷ rest) = first_of own.0 (omega (arith, c.requires.some, zip_length (IsAt ps) part.plots own.0 own.1)) in
    let d = c.index-plots-as_slice.result in
    let least : c.first.inside.key ≡ first.0.key =
    ap (λ (p : PlanePlot). p.key) (c.first.view_is ∙ c.index-plots-as_slice.is ∙ ap (λ (is : List ℕ). get_or ps (get_or is 0 0) d) c.as_slice.ensures ∙ at_own ps part.plots own.0 own.1 0 c.requires.some d ∙ ap (λ (qs : List PlanePlot). get_or qs 0 d) first.2) in
    told_of c.args.tracks.now ps part c.args.costs c.args.solved.pairing c.args.solved.u c.args.solved.v first.0 first.1 births.0 c.first.inside.key _ _
    (subst (AreAt ps part.plots) first.2 own.1) births.1 least
    (c.in_ok-arrivals.ensures own.0 (subst (λ (is : List ℕ). AreAt ps is own.0) (sym c.as_slice-2.ensures) own.1) ∙ ap (map (λ (p : PlanePlot). p.key.arrival)) first.2)
    (c.in_ok-births.ensures births.0 (subst (λ (is : List ℕ). AreAt all is births.0) (sym c.as_slice-3.ensures) births.1))
