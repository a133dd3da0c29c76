use Rattle.std.proofs.Common.{◌∙◌, ap, sym, refl, List, ℕ, ◌∷◌, [], ◌++◌, ◌%◌, map}
use Rattle.asterix_frame.proofs.Packings.{one_block_packing}
use Rattle.cat062_out.specs.TrackRecords.{track_record}
use Rattle.admission_log.specs.Histories.{last_of}
use Rattle.edition_form.specs.Lines.{told_lines}
use Rattle.edition_form.specs.Datagrams.{nogo, radars_in, shown_at, shown_of, stamp}
use Rattle.edition_form.specs.Pictures.{picture_of}
use Rattle.status_out.specs.SensorRecords.{sensor_block}
use Rattle.status_out.specs.ServiceRecords.{service_block}
use Rattle.status_out.specs.declared.service_line.Line065.TheVariants.{Status, End}
use Rattle.edition_form.proofs.Packable.{packable}
use Rattle.edition_form.proofs.TrackSizes.{all_within}
use Rattle.edition_form.proofs.laws.one_edition.Goals as goal

pub returns-clause-some : goal.returns-clause-some
returns-clause-some c settings log before number =
    let lines = told_lines (shown_at settings log before) (shown_of settings log) in
    let p = packable 62 (map (track_record (stamp settings (last_of log))) lines) (all_within (stamp settings (last_of log)) lines) in
    (_, record { blocks = p.blocks; packed = p.packed; all = refl })

pub returns-clause-only : goal.returns-clause-only
returns-clause-only c settings log before number one other h k =
    let s = stamp settings (last_of log) in
    let lines = told_lines (shown_at settings log before) (shown_of settings log) in
    let radars = radars_in settings (picture_of settings log) in
    let rest : List (List ℕ) = sensor_block s radars ∷ service_block (Status s (nogo radars)) ∷ service_block (End s (number % 256)) ∷ [] in
    h.all ∙ ap (λ blocks. blocks ++ rest) (one_block_packing 62 (map (track_record s) lines) h.blocks k.blocks h.packed k.packed) ∙ sym k.all
