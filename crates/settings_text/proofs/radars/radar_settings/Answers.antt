use Rattle.std.proofs.Common.{◌≡◌, ◌∙◌, ◌≤◌, ℤ, pos, negsuc, ◌≤ℤ◌, [], ◌∷◌, sym, subst, w16, w32, to_z, of_z, arith, lit<}
use Rattle.std.specs.Prelude.{FitsSigned, unsigned_abs}
use Rattle.std.proofs.lemmas.Int.{to_z-of_z, ints}
use Rattle.settings_text.specs.Keys.{radar_keys}
use Rattle.settings_text.proofs.Ranges.{blank, range_at, by_index}
use Rattle.settings_text.proofs.radars.radar_settings.Goals as goal

-- a number that fits stays itself when it is put into a field
kept32 : (result number : ℤ) → FitsSigned w32 result → result ≡ number → to_z w32 (of_z w32 result) ≡ number
kept32 result number fits same = to_z-of_z w32 result fits ∙ same

kept16 : (result number : ℤ) → FitsSigned w16 result → result ≡ number → to_z w16 (of_z w16 result) ≡ number
kept16 result number fits same = to_z-of_z w16 result fits ∙ same

pub to_u8-requires : goal.to_u8-requires
to_u8-requires c =
    let range = range_at radar_keys c.args.numbers.now 0 blank c.requires (lit< tt) in
    (omega (arith, ints), omega (arith, ints))

pub to_u8-requires-2 : goal.to_u8-requires-2
to_u8-requires-2 c =
    let range = range_at radar_keys c.args.numbers.now 1 blank c.requires (lit< tt) in
    (omega (arith, ints), omega (arith, ints))

pub to_i32-requires : goal.to_i32-requires
to_i32-requires c =
    let range = range_at radar_keys c.args.numbers.now 2 blank c.requires (lit< tt) in
    (omega (arith, ints), omega (arith, ints))

pub to_i32-requires-2 : goal.to_i32-requires-2
to_i32-requires-2 c =
    let range = range_at radar_keys c.args.numbers.now 3 blank c.requires (lit< tt) in
    (omega (arith, ints), omega (arith, ints))

pub to_i16-requires : goal.to_i16-requires
to_i16-requires c =
    let range = range_at radar_keys c.args.numbers.now 4 blank c.requires (lit< tt) in
    (omega (arith, ints), omega (arith, ints))

pub to_u16-requires : goal.to_u16-requires
to_u16-requires c =
    let range = range_at radar_keys c.args.numbers.now 5 blank c.requires (lit< tt) in
    (omega (arith, ints), omega (arith, ints))

pub to_i16-requires-2 : goal.to_i16-requires-2
to_i16-requires-2 c =
    let range = range_at radar_keys c.args.numbers.now 6 blank c.requires (lit< tt) in
    (omega (arith, ints), omega (arith, ints))

pub to_i16-requires-3 : goal.to_i16-requires-3
to_i16-requires-3 c =
    let range = range_at radar_keys c.args.numbers.now 7 blank c.requires (lit< tt) in
    (omega (arith, ints), omega (arith, ints))

pub to_i16-requires-4 : goal.to_i16-requires-4
to_i16-requires-4 c =
    let range = range_at radar_keys c.args.numbers.now 8 blank c.requires (lit< tt) in
    (omega (arith, ints), omega (arith, ints))

pub to_i16-requires-5 : goal.to_i16-requires-5
to_i16-requires-5 c =
    let range = range_at radar_keys c.args.numbers.now 9 blank c.requires (lit< tt) in
    (omega (arith, ints), omega (arith, ints))

pub to_u16-requires-2 : goal.to_u16-requires-2
to_u16-requires-2 c =
    let range = range_at radar_keys c.args.numbers.now 10 blank c.requires (lit< tt) in
    (omega (arith, ints), omega (arith, ints))

pub to_u16-requires-3 : goal.to_u16-requires-3
to_u16-requires-3 c =
    let range = range_at radar_keys c.args.numbers.now 11 blank c.requires (lit< tt) in
    (omega (arith, ints), omega (arith, ints))

pub invariant_of-result : goal.invariant_of-result
invariant_of-result c =
    let x = range_at radar_keys c.args.numbers.now 2 blank c.requires (lit< tt) in
    let y = range_at radar_keys c.args.numbers.now 3 blank c.requires (lit< tt) in
    let height = range_at radar_keys c.args.numbers.now 4 blank c.requires (lit< tt) in
    let range_gain = range_at radar_keys c.args.numbers.now 6 blank c.requires (lit< tt) in
    let range_bias = range_at radar_keys c.args.numbers.now 7 blank c.requires (lit< tt) in
    let azimuth_bias = range_at radar_keys c.args.numbers.now 8 blank c.requires (lit< tt) in
    let time_bias = range_at radar_keys c.args.numbers.now 9 blank c.requires (lit< tt) in
    let range_sigma = range_at radar_keys c.args.numbers.now 10 blank c.requires (lit< tt) in
    let azimuth_sigma = range_at radar_keys c.args.numbers.now 11 blank c.requires (lit< tt) in
    record {
      x_range = subst (λ z. unsigned_abs z ≤ 1000000) (sym (kept32 c.to_i32.result _ (record { sfits = c.to_i32.type_inv }) c.to_i32.ensures)) (omega (arith, ints));
      y_range = subst (λ z. unsigned_abs z ≤ 1000000) (sym (kept32 c.to_i32-2.result _ (record { sfits = c.to_i32-2.type_inv }) c.to_i32-2.ensures)) (omega (arith, ints));
      height_range = subst (λ z. (negsuc 499 ≤ℤ z) × (z ≤ℤ pos 9000)) (sym (kept16 c.to_i16.result _ (record { sfits = c.to_i16.type_inv }) c.to_i16.ensures)) height;
      range_gain_range = subst (λ z. unsigned_abs z ≤ 10000) (sym (kept16 c.to_i16-2.result _ (record { sfits = c.to_i16-2.type_inv }) c.to_i16-2.ensures)) (omega (arith, ints));
      range_bias_range = subst (λ z. unsigned_abs z ≤ 1000) (sym (kept16 c.to_i16-3.result _ (record { sfits = c.to_i16-3.type_inv }) c.to_i16-3.ensures)) (omega (arith, ints));
      azimuth_bias_range = subst (λ z. unsigned_abs z ≤ 1000) (sym (kept16 c.to_i16-4.result _ (record { sfits = c.to_i16-4.type_inv }) c.to_i16-4.ensures)) (omega (arith, ints));
      time_bias_range = subst (λ z. unsigned_abs z ≤ 1280) (sym (kept16 c.to_i16-5.result _ (record { sfits = c.to_i16-5.type_inv }) c.to_i16-5.ensures)) (omega (arith, ints));
      range_sigma_range = (omega (arith, ints, c.to_u16-2.ensures), omega (arith, ints, c.to_u16-2.ensures));
      azimuth_sigma_range = (omega (arith, ints, c.to_u16-3.ensures), omega (arith, ints, c.to_u16-3.ensures));
    }

pub returns : goal.returns
returns c =
    (λ i. c.to_u8.ensures i
    ∷ c.to_u8-2.ensures i
    ∷ (kept32 c.to_i32.result _ (record { sfits = c.to_i32.type_inv }) c.to_i32.ensures) i
    ∷ (kept32 c.to_i32-2.result _ (record { sfits = c.to_i32-2.type_inv }) c.to_i32-2.ensures) i
    ∷ (kept16 c.to_i16.result _ (record { sfits = c.to_i16.type_inv }) c.to_i16.ensures) i
    ∷ c.to_u16.ensures i
    ∷ (kept16 c.to_i16-2.result _ (record { sfits = c.to_i16-2.type_inv }) c.to_i16-2.ensures) i
    ∷ (kept16 c.to_i16-3.result _ (record { sfits = c.to_i16-3.type_inv }) c.to_i16-3.ensures) i
    ∷ (kept16 c.to_i16-4.result _ (record { sfits = c.to_i16-4.type_inv }) c.to_i16-4.ensures) i
    ∷ (kept16 c.to_i16-5.result _ (record { sfits = c.to_i16-5.type_inv }) c.to_i16-5.ensures) i
    ∷ c.to_u16-2.ensures i
    ∷ c.to_u16-3.ensures i
    ∷ [])
    ∙ sym (by_index 12 c.args.numbers.now c.told-numbers)
