-- The items of a track's record tell its stamp and its line.
use Rattle.std.proofs.Common.{◌≡◌, ◌∙◌, ap, refl, ℕ, List, [], ◌∷◌, ◌++◌, arith, Some, None}
use Rattle.std.specs.Option.{option_map, unwrap_or}
use Rattle.asterix_frame.specs.Elements.{Element}
use Rattle.asterix_frame.specs.Values.{big_endian}
use Rattle.asterix_frame.specs.DataRecords.{item, item_octets}
use Rattle.asterix_frame.specs.Encoding.{item_of}
use Rattle.cat062_out.specs.Tracks.{Stamp, IsStamp, TrackLine, IsTrackLine}
use Rattle.cat062_out.specs.TrackRecords.{where_known, two_signed, three_signed, address_octets, status_octets, ages_octets, accuracy_octets, status_items, track_items}
use Rattle.cat062_out.specs.Reading.{number_of, position_of, velocity_of, code_of, address_of, level_of, status_bit, ages_of, accuracy_of, stamp_of, line_of}
use Rattle.cat062_out.proofs.KnownItems.{past, found}
use Rattle.cat062_out.proofs.Written.{number_back, time_back, position_back, velocity_back, code_back, level_back, address_back, accuracy_back, ages_back, mono_back, spi_back, ended_back, first_back, coast_back}

module _ (s : Stamp) (l : TrackLine) where
  -- ---- what is put in after the items that are always there

  abbrev at_accuracy : List Element
  at_accuracy = item_of 27 (accuracy_octets l) ∷ []

  abbrev at_level : List Element
  at_level = where_known 17 two_signed l.level ++ at_accuracy

  abbrev at_status : List Element
  at_status = status_items l ++ at_level

  abbrev at_address : List Element
  at_address = where_known 11 address_octets l.address ++ at_status

  abbrev at_code : List Element
  at_code = where_known 9 (λ code. big_endian 2 code) l.code ++ at_address

  -- behind the items that are there only where their value is known
  behind : (frn : ℕ) → (9 ≡ frn → ⊥) → (11 ≡ frn → ⊥) → item frn at_code ≡ item frn at_status
  behind frn n9 n11 = past 9 (λ code. big_endian 2 code) frn l.code at_address n9 ∙ past 11 address_octets frn l.address at_status n11

  no_code : item 9 at_address ≡ None
  no_code = past 11 address_octets 9 l.address at_status (λ e. omega (arith, e)) ∙ past 17 two_signed 9 l.level at_accuracy (λ e. omega (arith, e))

  no_address : item 11 at_status ≡ None
  no_address = past 17 two_signed 11 l.level at_accuracy (λ e. omega (arith, e))

  -- ---- the items by FRN

  number_item : item 12 (track_items s l) ≡ Some (big_endian 2 l.number)
  unfolding track_items
  number_item = behind 12 (λ e. omega (arith, e)) (λ e. omega (arith, e))

  status_item : item 13 (track_items s l) ≡ Some (status_octets l)
  unfolding track_items
  status_item = behind 13 (λ e. omega (arith, e)) (λ e. omega (arith, e))

  ages_item : item 14 (track_items s l) ≡ Some (ages_octets l)
  unfolding track_items
  ages_item = behind 14 (λ e. omega (arith, e)) (λ e. omega (arith, e))

  code_item : item 9 (track_items s l) ≡ option_map (λ code. big_endian 2 code) l.code
  unfolding track_items
  code_item = found 9 (λ code. big_endian 2 code) l.code at_address refl no_code

  address_item : item 11 (track_items s l) ≡ option_map address_octets l.address
  unfolding track_items
  address_item = past 9 (λ code. big_endian 2 code) 11 l.code at_address (λ e. omega (arith, e)) ∙ found 11 address_octets l.address at_status refl no_address

  level_item : item 17 (track_items s l) ≡ option_map two_signed l.level
  unfolding track_items
  level_item = behind 17 (λ e. omega (arith, e)) (λ e. omega (arith, e)) ∙ found 17 two_signed l.level at_accuracy refl refl

  accuracy_item : item 27 (track_items s l) ≡ Some (accuracy_octets l)
  unfolding track_items
  accuracy_item = behind 27 (λ e. omega (arith, e)) (λ e. omega (arith, e)) ∙ past 17 two_signed 27 l.level at_accuracy (λ e. omega (arith, e))

  octets_of_item : (frn : ℕ) (octets : List ℕ) → item frn (track_items s l) ≡ Some octets → item_octets frn (track_items s l) ≡ octets
  octets_of_item frn octets e = ap (λ o. unwrap_or o []) e

  position_octets : item_octets 6 (track_items s l) ≡ three_signed l.x ++ three_signed l.y
  unfolding track_items
  position_octets = refl

  velocity_octets : item_octets 7 (track_items s l) ≡ two_signed l.vx ++ two_signed l.vy
  unfolding track_items
  velocity_octets = refl

  -- ---- the stamp and the line

  pub stamp_back : IsStamp s → stamp_of (track_items s l) ≡ s
  unfolding stamp_of track_items
  stamp_back h = λ i. record { sac = s.sac; sic = s.sic; service = s.service; tod = time_back s.tod h.tod i }

  pub line_back : IsTrackLine l → line_of (track_items s l) ≡ l
  unfolding line_of
  line_back h =
      let number = ap number_of (octets_of_item 12 _ number_item) ∙ number_back l.number h.number in
      let position = ap position_of position_octets ∙ position_back l.x l.y h.x h.y in
      let velocity = ap velocity_of velocity_octets ∙ velocity_back l.vx l.vy h.vx h.vy in
      let code = ap (λ o. code_of (unwrap_or o [])) code_item ∙ code_back l.code h.code in
      let address = ap (λ o. address_of (unwrap_or o [])) address_item ∙ address_back l.address h.address in
      let level = ap (λ o. level_of (unwrap_or o [])) level_item ∙ level_back l.level h.level in
      let ages = ap ages_of (octets_of_item 14 _ ages_item) ∙ ages_back l h.detected in
      let accuracy = ap accuracy_of (octets_of_item 27 _ accuracy_item) ∙ accuracy_back l h.sx h.sy in
      let status = octets_of_item 13 _ status_item in
      let mono = ap (λ o. status_bit o 0 8) status ∙ mono_back l in
      let spi = ap (λ o. status_bit o 0 7) status ∙ spi_back l in
      let coast = ap (λ o. status_bit o 3 8) status ∙ coast_back l in
      let first = ap (λ o. status_bit o 1 6) status ∙ first_back l in
      let ended = ap (λ o. status_bit o 1 7) status ∙ ended_back l in
      λ i. record {
        number = number i;
        x = (position i).0;
        y = (position i).1;
        vx = (velocity i).0;
        vy = (velocity i).1;
        code = code i;
        address = address i;
        level = level i;
        psr = (ages i).0;
        ssr = (ages i).1.0;
        mds = (ages i).1.1;
        mono = mono i;
        spi = spi i;
        coast = coast i;
        first = first i;
        ended = ended i;
        sx = (accuracy i).0;
        sy = (accuracy i).1;
      }
