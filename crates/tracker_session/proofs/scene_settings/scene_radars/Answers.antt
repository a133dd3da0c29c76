use Rattle.std.proofs.Common.{rules, ◌≡◌, ◌∙◌, ap, arith, ℕ, [], ◌∷◌, ◌++◌, map, take}
use Rattle.scene_gen.specs.Radars.{radars}
use Rattle.settings_text.specs.Numbers.{radar_numbers}
use Rattle.tracker_session.specs.SceneSettings.{scene_radar}
use Rattle.tracker_session.proofs.SceneRadars.{near, radars_more}
use Rattle.tracker_session.proofs.scene_settings.scene_radars.Goals as goal

pub scene_radar-requires-clause-x : goal.scene_radar-requires-clause-x
scene_radar-requires-clause-x c = (near c.loop-radar.radar-index c.loop-radar-test.true).0

pub scene_radar-requires-clause-y : goal.scene_radar-requires-clause-y
scene_radar-requires-clause-y c = (near c.loop-radar.radar-index c.loop-radar-test.true).1

pub loop-radar-preserved : goal.loop-radar-preserved
loop-radar-preserved c =
    let grown : c.push.new.self.items ≡ c.loop-radar.all.items ++ c.scene_radar.result ∷ [] = search rules in
    ap (map radar_numbers) grown ∙ radars_more c.loop-radar.all.items c.scene_radar.result c.loop-radar.radar-index c.loop-radar-test.true c.loop-radar.invariant c.scene_radar.ensures

pub returns : goal.returns
returns c =
    let all : c.loop-radar.radar-index ≡ 3 = omega (arith, c.loop-radar-test.false, c.loop-radar.auto.radar-index-end) in
    c.loop-radar.invariant ∙ ap (λ (n : ℕ). map scene_radar (take n radars)) all
