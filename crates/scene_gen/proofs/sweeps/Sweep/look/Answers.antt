use Rattle.std.proofs.Common.{◌∙◌, ap, sym, ℕ, List, [], ◌∷◌, ◌++◌, get_or}
use Rattle.std.specs.Prelude.{Vec}
use Rattle.std.specs.declared.alloc.Global.{Global}
use Rattle.std.proofs.lemmas.List.{append-nil}
use Rattle.scene_gen.proofs.Seeing.{nowhere, plot_missing, plot_there, seen_more}
use Rattle.scene_gen.proofs.sweeps.Sweep.look.Goals as goal
use Rattle.scene_gen.proofs.sweeps.Sweep.look.Goals.{in-Some+in_ok-push, in_default}

pub loop-aircraft-preserved : goal.loop-aircraft-preserved
loop-aircraft-preserved c =
    let r = c.args.self.now.radar in
    let items = c.at-aircraft-items.result.now in
    let now : List (List ℕ) = c.loop-aircraft.plots.items in
    let i = c.loop-aircraft.aircraft-index in
    elim c.match-sighting.branch [
      | in-Some+in_ok-push w ↦
          seen_more r c.args.time items i nowhere _ c.args.plots.now.items c.loop-aircraft-test.true (plot_there r c.args.time (get_or items i nowhere) c.sighting.ensures w.in-Some.is) c.loop-aircraft.invariant
          (ap (λ (v : Vec (List ℕ) Global). v.items) w.plots-is ∙ w.in_ok-push.ensures.items ∙ ap (λ (o : List ℕ). now ++ o ∷ []) w.plot_octets.ensures)
      | in_default w ↦
          seen_more r c.args.time items i nowhere _ c.args.plots.now.items c.loop-aircraft-test.true (plot_missing r c.args.time (get_or items i nowhere) c.sighting.ensures w.in_default.is) c.loop-aircraft.invariant
          (ap (λ (v : Vec (List ℕ) Global). v.items) w.plots-is ∙ sym (append-nil now))
    ]
