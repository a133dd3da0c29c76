use Rattle.std.proofs.Common.{refl, [], ◌∷◌}
use Rattle.std.specs.List.{concat}
use Rattle.asterix_frame.specs.declared.tables.Uap.TheVariants.{Cat065}
use Rattle.cat062_out.proofs.Profiles.{one_list, one_refusal, not_both}
use Rattle.status_out.specs.declared.service_line.Line065.{Line065}
use Rattle.status_out.specs.ServiceRecords.{IsLine065, AreServiceMessages, service_items, service_record}
use Rattle.status_out.proofs.ServiceProfile.{service_profile}
use Rattle.status_out.proofs.Total.{some_service_reading}
use Rattle.status_out.proofs.laws.one_service_reading.Goals as goal

reads_back : (line : Line065) → IsLine065 line → AreServiceMessages (concat (service_record line ∷ [])) (line ∷ [])
unfolding service_record
reads_back line is = record { are_values = (is, tt); whole = refl }

pub returns : goal.returns
returns c = record {
  written = reads_back;
  some = some_service_reading;
  one_list = one_list Line065 Cat065 IsLine065 service_items service_profile;
  one_refusal = one_refusal Line065 Cat065 IsLine065 service_items service_profile;
  not_both = not_both Line065 Cat065 IsLine065 service_items service_profile;
}
