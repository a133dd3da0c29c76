use Rattle.std.proofs.Common.{◌≡◌, ◌∙◌, ap, sym, ℕ, ◌*◌, ◌<◌, List, ◌++◌, take, true, false, arith}
use Rattle.std.specs.Prelude.{Vec}
use Rattle.std.specs.declared.alloc.Global.{Global}
use Rattle.std.proofs.lemmas.Bool.{eq-eqb, ne_eqb}
use Rattle.std.proofs.lemmas.List.{append-nil}
use Rattle.scene_gen.specs.Radars.{radars}
use Rattle.scene_gen.proofs.Marking.{marks, marks_all, marks_more, no_radar}
use Rattle.scene_gen.proofs.scenes.put_north_markers.Goals as goal
use Rattle.scene_gen.proofs.scenes.put_north_markers.Goals.{then-time-radar-eq0+in_ok-extend_from_slice, else-time-radar-eq0}

pub loop-radar-init : goal.loop-radar-init
loop-radar-init c = sym (append-nil c.args.octets.now.items)

pub loop-radar-preserved : goal.loop-radar-preserved
loop-radar-preserved c =
    let now : List ℕ = c.loop-radar.octets.items in
    let i = c.loop-radar.radar-index in
    elim c.if-time-radar-eq0.branch [
      | then-time-radar-eq0+in_ok-extend_from_slice w ↦
          marks_more c.args.time i no_radar c.args.octets.now.items true c.loop-radar-test.true (eq-eqb _ 0 w.if-time-radar-eq0.true) c.loop-radar.invariant
          (ap (λ (v : Vec ℕ Global). v.items) w.octets-is ∙ w.in_ok-extend_from_slice.ensures.items ∙ ap (λ (o : List ℕ). now ++ o) w.north_octets.ensures)
      | else-time-radar-eq0 w ↦
          marks_more c.args.time i no_radar c.args.octets.now.items false c.loop-radar-test.true (ne_eqb _ 0 w.if-time-radar-eq0.false) c.loop-radar.invariant
          (ap (λ (v : Vec ℕ Global). v.items) w.octets-is ∙ sym (append-nil now))
    ]

pub returns : goal.returns
returns c =
    let within : c.args.time < 128 * c.args.seconds = omega (arith, c.if-time-from.false, c.from.ensures) in
    let all : c.loop-radar.radar-index ≡ 3 = omega (arith, c.loop-radar-test.false, c.loop-radar.auto.radar-index-end) in
    marks_all c.args.seconds c.args.time c.args.octets.now.items within (c.loop-radar.invariant ∙ ap (λ (n : ℕ). c.args.octets.now.items ++ marks c.args.time (take n radars)) all)
