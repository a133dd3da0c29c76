-- A log has one list of datagrams.
use Rattle.std.proofs.Common.{◌≡◌, ◌∙◌, ap, sym, refl, ℕ, ◌%◌, List, [], ◌∷◌, ◌++◌}
use Rattle.std.specs.Prelude.{map}
use Rattle.asterix_frame.proofs.Packings.{one_block_packing}
use Rattle.cat062_out.specs.TrackRecords.{track_record}
use Rattle.status_out.specs.SensorRecords.{sensor_block}
use Rattle.status_out.specs.ServiceRecords.{service_block}
use Rattle.status_out.specs.declared.service_line.Line065.TheVariants.{Status, End}
use Rattle.admission_log.specs.declared.settings.Settings.{Settings}
use Rattle.admission_log.specs.Histories.{History, last_of}
use Rattle.edition_form.specs.Datagrams.{AreDatagramsOf, nogo, radars_in, shown_at, shown_of, stamp}
use Rattle.edition_form.specs.Lines.{told_lines}
use Rattle.edition_form.specs.Pictures.{picture_of}
use Rattle.edition_form.proofs.Packable.{packable}
use Rattle.edition_form.proofs.TrackSizes.{all_within}

pub one_list_of_datagrams : (settings : Settings) (log : History) (before number : ℕ) (one other : List (List ℕ)) → AreDatagramsOf settings log before number one → AreDatagramsOf settings log before number other → one ≡ other
one_list_of_datagrams settings log before number one other h k =
    let s = stamp settings (last_of log) in
    let lines = told_lines (shown_at settings log before) (shown_of settings log) in
    let radars = radars_in settings (picture_of settings log) in
    let rest : List (List ℕ) = sensor_block s radars ∷ service_block (Status s (nogo radars)) ∷ service_block (End s (number % 256)) ∷ [] in
    h.all ∙ ap (λ blocks. blocks ++ rest) (one_block_packing 62 (map (track_record s) lines) h.blocks k.blocks h.packed k.packed) ∙ sym k.all

pub record SomeDatagrams (settings : Settings) (log : History) (before number : ℕ) : Type 0 where
  pub datagrams : List (List ℕ)
  pub are : AreDatagramsOf settings log before number datagrams

pub some_datagrams : (settings : Settings) (log : History) (before number : ℕ) → SomeDatagrams settings log before number
some_datagrams settings log before number =
    let s = stamp settings (last_of log) in
    let lines = told_lines (shown_at settings log before) (shown_of settings log) in
    let p = packable 62 (map (track_record s) lines) (all_within s lines) in
    record { datagrams = _; are = record { blocks = p.blocks; packed = p.packed; all = refl } }
