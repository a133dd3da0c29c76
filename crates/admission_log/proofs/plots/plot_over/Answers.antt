use Rattle.std.proofs.Common.{rules, ◌≡◌, ◌∙◌, ◌<◌, ap, subst, refl, arith, length, get_or, Some, true}
use Rattle.std.specs.Prelude.{slice_get}
use Rattle.std.proofs.lemmas.Option.{slice_get_read}
use Rattle.trk_base.specs.Numbers.{slot_of}
use Rattle.plot_geometry.specs.declared.radars.RadarSettings.{RadarSettings}
use Rattle.plot_geometry.specs.Biases.{bias_of, biased}
use Rattle.plot_geometry.specs.PlanePlots.{plane_plot}
use Rattle.admission_log.specs.Biases.{bias_among}
use Rattle.admission_log.specs.Plots.{is_over}
use Rattle.admission_log.proofs.Changing.{over_is}
use Rattle.admission_log.proofs.plots.plot_over.Goals as goal

pub returns : goal.returns
returns c =
    let a = c.args.admitted.now in
    let settings = c.args.settings.now in
    let changes = c.args.changes.now in
    let slot : c.key-key.result.slot ≡ slot_of a.time = ap (λ k. k.slot) c.key-key.ensures in
    let below : slot_of a.time < slot_of c.args.last = omega (arith, slot, c.slot_of.ensures, c.if-key-slot_of.false) in
    let over : is_over c.args.last a ≡ true = search rules in
    let radar : RadarSettings = c.in_ok-radar.radar.now in
    let radars = c.as_slice.result.now in
    let looked = c.in_ok-radar.ensures.lookup in
    let within : a.radar < length radars = search rules in
    let read : radar ≡ get_or radars a.radar radar = looked.1 in
    let found : slice_get settings.radars a.radar ≡ Some radar = subst (λ rs. slice_get rs a.radar ≡ Some radar) c.as_slice.ensures (slice_get_read radars (length radars) a.radar radar refl within read) in
    let bias : c.bias_among-bias.result ≡ bias_among changes (bias_of radar) a.radar (slot_of a.time) = c.bias_among-bias.ensures ∙ (λ i. bias_among changes (c.bias.ensures i) a.radar (slot i)) in
    let settled : c.biased.result ≡ biased radar (bias_among changes (bias_of radar) a.radar (slot_of a.time)) = c.biased.ensures ∙ ap (biased radar) bias in
    over_is settings changes c.args.last a radar c.to_plane.result over found (c.to_plane.ensures ∙ (λ i. plane_plot (settled i) a.plot (c.key-key.ensures i)))
