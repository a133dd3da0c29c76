use Rattle.slot_step.proofs.Components.{each_certified, all_certified, firsts_rise}
use Rattle.slot_step.proofs.laws.component_certificates.Goals as goal

pub returns : goal.returns
returns g c = λ k o l ts ps whole up rising w comps cs h z. record {
  each = each_certified k o l ts ps whole up rising w comps cs h z;
  whole = all_certified k o l ts ps whole up rising w comps cs h z;
  order = firsts_rise k o l ts ps whole up rising w comps cs h.each h.order z;
}
