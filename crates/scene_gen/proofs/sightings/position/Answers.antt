use Rattle.std.proofs.Common.{rules, ◌∙◌}
use Rattle.std.specs.Prelude.{FitsSigned}
use Rattle.std.specs.Int.{w32, w64}
use Rattle.std.proofs.lemmas.Int.{to_z-of_z}
use Rattle.scene_gen.specs.Sightings.{coordinate}
use Rattle.scene_gen.proofs.sightings.position.Goals as goal

pub returns-clause-east : goal.returns-clause-east
returns-clause-east c =
    let all : FitsSigned w64 c.coordinate.result = search rules in
    let from : FitsSigned w32 c.args.aircraft.now.x = search rules in
    let velocity : FitsSigned w32 c.args.aircraft.now.vx = search rules in
    let place : FitsSigned w32 c.args.radar.now.x = search rules in
    to_z-of_z w64 c.coordinate.result all ∙ c.coordinate.ensures.value
    ∙ (λ i. coordinate (to_z-of_z w32 c.args.aircraft.now.x from i) (to_z-of_z w32 c.args.aircraft.now.vx velocity i) (to_z-of_z w32 c.args.radar.now.x place i) c.args.time)

pub returns-clause-north : goal.returns-clause-north
returns-clause-north c =
    let all : FitsSigned w64 c.coordinate-2.result = search rules in
    let from : FitsSigned w32 c.args.aircraft.now.y = search rules in
    let velocity : FitsSigned w32 c.args.aircraft.now.vy = search rules in
    let place : FitsSigned w32 c.args.radar.now.y = search rules in
    to_z-of_z w64 c.coordinate-2.result all ∙ c.coordinate-2.ensures.value
    ∙ (λ i. coordinate (to_z-of_z w32 c.args.aircraft.now.y from i) (to_z-of_z w32 c.args.aircraft.now.vy velocity i) (to_z-of_z w32 c.args.radar.now.y place i) c.args.time)
