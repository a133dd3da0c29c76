use Rattle.std.proofs.Common.{arith, ◌∷◌}
use Rattle.recording.specs.declared.header.Header.TheVariants.{Second}
use Rattle.recording.specs.Items.{ItemsEnd}
use Rattle.recording.proofs.BiasOctets.{gain_stops, range_stops, azimuth_stops}
use Rattle.recording.proofs.Contents.{err_so}
use Rattle.recording.proofs.recorded.first_bias.Goals as goal

pub returns-in_err-gain-clause-none : goal.returns-in_err-gain-clause-none
returns-in_err-gain-clause-none c =
    let octets = c.args.octets.now in
    let r = c.in_ok-radar in
    let ending = c.in_err-gain.field-0.0 in
    err_so c.from_residual-in_err-gain.result ending (λ ending. ItemsEnd Second ending (3 ∷ octets)) c.from_residual-in_err-gain.ensures.1
    (gain_stops octets r.radar r.slot r.after.now ending (λ i. omega (arith, c.type_inv.octets i)) r.ensures.found c.in_err-gain.ensures.none)

pub returns-in_err-range-clause-none : goal.returns-in_err-range-clause-none
returns-in_err-range-clause-none c =
    let octets = c.args.octets.now in
    let r = c.in_ok-radar in
    let g = c.in_ok-gain in
    let ending = c.in_err-range.field-0.0 in
    err_so c.from_residual-in_err-range.result ending (λ ending. ItemsEnd Second ending (3 ∷ octets)) c.from_residual-in_err-range.ensures.1
    (range_stops octets r.radar r.slot r.after.now g.gain g.after.now ending (λ i. omega (arith, c.type_inv.octets i)) r.ensures.found g.ensures.found c.in_err-range.ensures.none)

pub returns-in_err-azimuth-clause-none : goal.returns-in_err-azimuth-clause-none
returns-in_err-azimuth-clause-none c =
    let octets = c.args.octets.now in
    let r = c.in_ok-radar in
    let g = c.in_ok-gain in
    let t = c.in_ok-range in
    let ending = c.in_err-azimuth.field-0.0 in
    err_so c.from_residual-in_err-azimuth.result ending (λ ending. ItemsEnd Second ending (3 ∷ octets)) c.from_residual-in_err-azimuth.ensures.1
    (azimuth_stops octets r.radar r.slot r.after.now g.gain g.after.now t.range t.after.now ending (λ i. omega (arith, c.type_inv.octets i)) r.ensures.found g.ensures.found t.ensures.found c.in_err-azimuth.ensures.none)
