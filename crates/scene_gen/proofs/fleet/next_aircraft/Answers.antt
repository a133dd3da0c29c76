use Rattle.std.proofs.Common.{rules, ◌∙◌, ap, ◌+◌, ◌*◌, [], ◌∷◌, pos, ◌-ℤ◌, ◌*ℤ◌}
use Rattle.std.specs.Prelude.{FitsSigned}
use Rattle.std.specs.Int.{w32}
use Rattle.std.proofs.lemmas.Int.{to_z-of_z}
use Rattle.rand_pcg.specs.Lcg.{Lcg}
use Rattle.scene_gen.specs.Draws.{drawn}
use Rattle.scene_gen.specs.Fleets.{aircraft_of}
use Rattle.scene_gen.proofs.Drawing.{one_more}
use Rattle.scene_gen.proofs.fleet.next_aircraft.Goals as goal

pub returns-clause-aircraft : goal.returns-clause-aircraft
unfolding aircraft_of
returns-clause-aircraft c =
    let fx : FitsSigned w32 c.next_place-x.result = search rules in
    let fy : FitsSigned w32 c.next_place-y.result = search rules in
    let fvx : FitsSigned w32 c.next_velocity-vx.result = search rules in
    let fvy : FitsSigned w32 c.next_velocity-vy.result = search rules in
    let a1 = c.next_place-x.ensures.after in
    let a2 = one_more c.args.generator.now 1 a1 c.next_place-y.ensures.after in
    let a3 = one_more c.args.generator.now 2 a2 c.next_velocity-vx.ensures.after in
    let a4 = one_more c.args.generator.now 3 a3 c.next_velocity-vy.ensures.after in
    let a5 = one_more c.args.generator.now 4 a4 c.draw-code.ensures.after in
    let a6 = one_more c.args.generator.now 5 a5 c.draw.ensures.after in
    let a7 = one_more c.args.generator.now 6 a6 c.draw-2.ensures.after in
    let a8 = one_more c.args.generator.now 7 a7 c.draw-3.ensures.after in
    let ex = to_z-of_z w32 c.next_place-x.result fx ∙ c.next_place-x.ensures.place in
    let ey = to_z-of_z w32 c.next_place-y.result fy ∙ c.next_place-y.ensures.place ∙ ap (λ (h : Lcg). pos 64 *ℤ (pos (drawn 300001 h) -ℤ pos 150000)) a1 in
    let evx = to_z-of_z w32 c.next_velocity-vx.result fvx ∙ c.next_velocity-vx.ensures.velocity ∙ ap (λ (h : Lcg). pos 1024 *ℤ (pos (drawn 401 h) -ℤ pos 200)) a2 in
    let evy = to_z-of_z w32 c.next_velocity-vy.result fvy ∙ c.next_velocity-vy.ensures.velocity ∙ ap (λ (h : Lcg). pos 1024 *ℤ (pos (drawn 401 h) -ℤ pos 200)) a3 in
    let ecode = c.draw-code.ensures.drawn ∙ ap (drawn 4096) a4 in
    let elevel = c.draw.ensures.drawn ∙ ap (drawn 350) a5 in
    let first = c.draw-2.ensures.drawn ∙ ap (drawn 512) a6 in
    let second = c.draw-3.ensures.drawn ∙ ap (drawn 640) a7 in
    let third = c.draw-4.ensures.drawn ∙ ap (drawn 1280) a8 in
    λ i. record {
      x = ex i;
      y = ey i;
      vx = evx i;
      vy = evy i;
      code = ecode i;
      level = 4 * (50 + elevel i);
      address = c.from.ensures i + 1;
      phases = first i ∷ second i ∷ third i ∷ [];
    }

pub returns-clause-after : goal.returns-clause-after
returns-clause-after c =
    let a1 = c.next_place-x.ensures.after in
    let a2 = one_more c.args.generator.now 1 a1 c.next_place-y.ensures.after in
    let a3 = one_more c.args.generator.now 2 a2 c.next_velocity-vx.ensures.after in
    let a4 = one_more c.args.generator.now 3 a3 c.next_velocity-vy.ensures.after in
    let a5 = one_more c.args.generator.now 4 a4 c.draw-code.ensures.after in
    let a6 = one_more c.args.generator.now 5 a5 c.draw.ensures.after in
    let a7 = one_more c.args.generator.now 6 a6 c.draw-2.ensures.after in
    let a8 = one_more c.args.generator.now 7 a7 c.draw-3.ensures.after in
    one_more c.args.generator.now 8 a8 c.draw-4.ensures.after
