use Rattle.std.proofs.Common.{◌∙◌, ap, rules, ℤ}
use Rattle.std.specs.Prelude.{FitsSigned}
use Rattle.std.specs.Int.{w16, w32}
use Rattle.std.proofs.lemmas.Int.{to_z-of_z}
use Rattle.cat062_out.specs.Reading.{number_of, position_of, velocity_of, code_of, address_of, level_of, status_bit, ages_of, accuracy_of, line_of}
use Rattle.cat062_out.proofs.reader.line_of.Goals as goal

pub returns : goal.returns
unfolding line_of
returns c =
    let fits_x : FitsSigned w32 c.position_of-x.result.0 = search rules in
    let fits_y : FitsSigned w32 c.position_of-x.result.1 = search rules in
    let fits_vx : FitsSigned w16 c.velocity_of-vx.result.0 = search rules in
    let fits_vy : FitsSigned w16 c.velocity_of-vx.result.1 = search rules in
    let position = c.position_of-x.ensures.value ∙ ap position_of c.octets.ensures in
    let velocity = c.velocity_of-vx.ensures ∙ ap velocity_of c.octets-2.ensures in
    let ages = c.ages_of-psr.ensures.value ∙ ap ages_of c.octets-3.ensures in
    let accuracy = c.accuracy_of-sx.ensures ∙ ap accuracy_of c.octets-4.ensures in
    let status = c.octets-status.ensures in
    let number = c.number_of.ensures ∙ ap number_of c.octets-5.ensures in
    let code = c.code_of.ensures.value ∙ ap code_of c.octets-6.ensures in
    let address = c.address_of.ensures.value ∙ ap address_of c.octets-7.ensures in
    let level = c.level_of.ensures ∙ ap level_of c.octets-8.ensures in
    let x = to_z-of_z w32 c.position_of-x.result.0 fits_x ∙ ap (λ (p : ℤ × ℤ). p.0) position in
    let y = to_z-of_z w32 c.position_of-x.result.1 fits_y ∙ ap (λ (p : ℤ × ℤ). p.1) position in
    let vx = to_z-of_z w16 c.velocity_of-vx.result.0 fits_vx ∙ ap (λ (p : ℤ × ℤ). p.0) velocity in
    let vy = to_z-of_z w16 c.velocity_of-vx.result.1 fits_vy ∙ ap (λ (p : ℤ × ℤ). p.1) velocity in
    let mono = c.has_flag.ensures ∙ ap (λ o. status_bit o 0 8) status in
    let spi = c.has_flag-2.ensures ∙ ap (λ o. status_bit o 0 7) status in
    let coast = c.has_flag-3.ensures ∙ ap (λ o. status_bit o 3 8) status in
    let first = c.has_flag-4.ensures ∙ ap (λ o. status_bit o 1 6) status in
    let ended = c.has_flag-5.ensures ∙ ap (λ o. status_bit o 1 7) status in
    λ i. record {
      number = number i;
      x = x i;
      y = y i;
      vx = vx i;
      vy = vy i;
      code = code i;
      address = address i;
      level = level i;
      psr = (ages i).0;
      ssr = (ages i).1.0;
      mds = (ages i).1.1;
      mono = mono i;
      spi = spi i;
      coast = coast i;
      first = first i;
      ended = ended i;
      sx = (accuracy i).0;
      sy = (accuracy i).1;
    }
