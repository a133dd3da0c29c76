-- What the octets of a change of biases begin: one, one with a number out of range, or a truncated one.
use Rattle.std.proofs.Common.{◌≡◌, ◌∙◌, ap, sym, refl, subst, inl, inr, ℕ, suc, ◌+◌, ◌<◌, ◌≤◌, ◌⊎◌, ◌^◌, List, [], ◌∷◌, ◌++◌, length, take, get_or, arith, ℤ, pos, append_assoc, length-append}
use Rattle.std.specs.Prelude.{FitsSigned, unsigned_abs}
use Rattle.std.specs.Int.{w16}
use Rattle.std.proofs.lemmas.Bool.{cases_lt}
use Rattle.std.proofs.lemmas.Int.{fits_signed_from_abs}
use Rattle.plot_geometry.specs.declared.biases.Bias.{Bias}
use Rattle.recording.specs.declared.ending.Ending.{Ending}
use Rattle.recording.specs.declared.ending.Ending.TheVariants.{Nothing, Other, Truncated}
use Rattle.recording.specs.declared.header.Header.TheVariants.{Second}
use Rattle.asterix_frame.specs.Values.{big_endian}
use Rattle.recording.specs.Biases.{Numbers, FitOctets, IsWrong, HasWrongNumber, IsTruncatedBias, NumberEnds, bias_octets, signed_octets, slot_limit}
use Rattle.recording.specs.Items.{Item, IsItem, IsNoItem, IsTruncatedItem, ItemsEnd, bias, item_octets, numbers_of}
use Rattle.recording.proofs.Codes.{IsBytes, Begins, rest_bytes}
use Rattle.recording.proofs.Octets.{five_octets, five_same, signed_number, signed_same, two}

-- ---- octets that agree have the same numbers

heads_same : (r s r' s' : ℕ) (x y : List ℕ) → s < 2 ^ 40 → s' < 2 ^ 40 → 3 ∷ r ∷ big_endian 5 s ++ x ≡ 3 ∷ r' ∷ big_endian 5 s' ++ y → (r ≡ r') × (s ≡ s') × (x ≡ y)
heads_same r s r' s' x y hs hs' e =
    let p = two 3 r 3 r' (big_endian 5 s ++ x) (big_endian 5 s' ++ y) e in
    let q = five_same s s' x y hs hs' p.2 in
    (p.1, q.0, q.1)

-- what follows the slot, the gain, the range and the azimuth
abbrev after_range : Numbers → List ℕ → List ℕ
after_range n x = signed_octets n.azimuth ++ x

abbrev after_gain : Numbers → List ℕ → List ℕ
after_gain n x = signed_octets n.range ++ after_range n x

abbrev after_slot : Numbers → List ℕ → List ℕ
after_slot n x = signed_octets n.gain ++ after_gain n x

pub numbers_same : (n m : Numbers) (x y : List ℕ) → FitOctets n → FitOctets m → bias_octets n ++ x ≡ bias_octets m ++ y → (n.radar ≡ m.radar) × (n.slot ≡ m.slot) × (n.gain ≡ m.gain) × (n.range ≡ m.range) × (n.azimuth ≡ m.azimuth) × (x ≡ y)
numbers_same n m x y f k e =
    let s = heads_same n.radar n.slot m.radar m.slot (after_slot n x) (after_slot m y) f.slot k.slot e in
    let g = signed_same n.gain m.gain (after_gain n x) (after_gain m y) f.gain k.gain s.2 in
    let r = signed_same n.range m.range (after_range n x) (after_range m y) f.range k.range g.1 in
    let a = signed_same n.azimuth m.azimuth x y f.azimuth k.azimuth r.1 in
    (s.0, s.1, g.0, r.0, a.0, a.1)

abbrev Agrees : ℕ → Numbers → Numbers → List ℕ → List ℕ → Type 0
Agrees end n m rest y = take end (bias_octets n) ++ rest ≡ bias_octets m ++ y

-- a number that is out of range is so in all that begins alike
pub wrong_alike : (end : ℕ) (n m : Numbers) (rest y : List ℕ) → FitOctets n → FitOctets m → Agrees end n m rest y → IsWrong end n → IsWrong end m
wrong_alike end n m rest y f k e (inl w) =
    let s = heads_same n.radar n.slot m.radar m.slot rest (after_slot m y) f.slot k.slot (subst (λ t. Agrees t n m rest y) w.0 e) in
    inl (w.0, omega (arith, w.1, s.1))
wrong_alike end n m rest y f k e (inr (inl w)) =
    let s = heads_same n.radar n.slot m.radar m.slot (signed_octets n.gain ++ rest) (after_slot m y) f.slot k.slot (subst (λ t. Agrees t n m rest y) w.0 e) in
    let g = signed_same n.gain m.gain rest (after_gain m y) f.gain k.gain s.2 in
    inr (inl (w.0, subst (λ z. 10000 < unsigned_abs z) g.0 w.1))
wrong_alike end n m rest y f k e (inr (inr (inl w))) =
    let s = heads_same n.radar n.slot m.radar m.slot (signed_octets n.gain ++ (signed_octets n.range ++ rest)) (after_slot m y) f.slot k.slot (subst (λ t. Agrees t n m rest y) w.0 e) in
    let g = signed_same n.gain m.gain (signed_octets n.range ++ rest) (after_gain m y) f.gain k.gain s.2 in
    let r = signed_same n.range m.range rest (after_range m y) f.range k.range g.1 in
    inr (inr (inl (w.0, subst (λ z. 1000 < unsigned_abs z) r.0 w.1)))
wrong_alike end n m rest y f k e (inr (inr (inr w))) =
    let a = numbers_same n m rest y f k (subst (λ t. Agrees t n m rest y) w.0 e) in
    inr (inr (inr (w.0, subst (λ z. 1000 < unsigned_abs z) a.4 w.1)))

pub wrong_length : (end : ℕ) (n : Numbers) → IsWrong end n → length (take end (bias_octets n)) ≡ end
wrong_length end n (inl w) = subst (λ t. length (take t (bias_octets n)) ≡ t) (sym w.0) refl
wrong_length end n (inr (inl w)) = subst (λ t. length (take t (bias_octets n)) ≡ t) (sym w.0) refl
wrong_length end n (inr (inr (inl w))) = subst (λ t. length (take t (bias_octets n)) ≡ t) (sym w.0) refl
wrong_length end n (inr (inr (inr w))) = subst (λ t. length (take t (bias_octets n)) ≡ t) (sym w.0) refl

-- what begins so begins with the octet of a change of biases
abbrev Three : List ℕ → Type 0
Three octets = (rest : List ℕ) × (octets ≡ 3 ∷ rest)

wrong_start : (end : ℕ) (n : Numbers) (rest : List ℕ) → IsWrong end n → Three (take end (bias_octets n) ++ rest)
wrong_start end n rest (inl w) = subst (λ t. Three (take t (bias_octets n) ++ rest)) (sym w.0) (_, refl)
wrong_start end n rest (inr (inl w)) = subst (λ t. Three (take t (bias_octets n) ++ rest)) (sym w.0) (_, refl)
wrong_start end n rest (inr (inr (inl w))) = subst (λ t. Three (take t (bias_octets n) ++ rest)) (sym w.0) (_, refl)
wrong_start end n rest (inr (inr (inr w))) = subst (λ t. Three (take t (bias_octets n) ++ rest)) (sym w.0) (_, refl)

pub wrong_first : (octets : List ℕ) → HasWrongNumber octets → (rest : List ℕ) × (octets ≡ 3 ∷ rest)
wrong_first octets h =
    let s = wrong_start h.end h.numbers h.rest h.wrong in
    (s.0, h.whole ∙ s.1)

-- ---- ranges

no_wrong : (end : ℕ) (n : Numbers) → (end ≡ 7 → n.slot < slot_limit) → (end ≡ 9 → unsigned_abs n.gain ≤ 10000) → (end ≡ 11 → unsigned_abs n.range ≤ 1000) → (end ≡ 13 → unsigned_abs n.azimuth ≤ 1000) → IsWrong end n → ⊥
no_wrong end n a b c d (inl w) = omega (arith, a w.0, w.1)
no_wrong end n a b c d (inr (inl w)) = omega (arith, b w.0, w.1)
no_wrong end n a b c d (inr (inr (inl w))) = omega (arith, c w.0, w.1)
no_wrong end n a b c d (inr (inr (inr w))) = omega (arith, d w.0, w.1)

-- a change of biases has no number out of range
pub none_wrong : (radar slot : ℕ) (b : Bias) (end : ℕ) → slot < slot_limit → IsWrong end (numbers_of radar slot b) → ⊥
none_wrong radar slot b end fits w = no_wrong end (numbers_of radar slot b) (λ e. fits) (λ e. b.gain_range) (λ e. b.range_range) (λ e. b.azimuth_range) w

fits16 : (z : ℤ) → unsigned_abs z ≤ 10000 → FitsSigned w16 z
fits16 z h = fits_signed_from_abs w16 z (omega (arith, h))

pub bias_fits : (radar slot : ℕ) (b : Bias) → radar < 256 → slot < slot_limit → FitOctets (numbers_of radar slot b)
bias_fits radar slot b r s =
    record {
      radar = r;
      slot = omega (arith, s);
      gain = fits16 b.gain b.gain_range;
      range = fits16 b.range (omega (arith, b.range_range));
      azimuth = fits16 b.azimuth (omega (arith, b.azimuth_range));
    }

-- ---- from the left

zero16 : FitsSigned w16 (pos 0)
zero16 = fits16 (pos 0) (omega arith)

abbrev six : List ℕ
six = 0 ∷ 0 ∷ 0 ∷ 0 ∷ 0 ∷ 0 ∷ []

-- before the slot is whole
slot_cut : (rest more : List ℕ) (radar slot : ℕ) → radar < 256 → slot < 2 ^ 40 → length rest < 6 → 0 < length more → radar ∷ big_endian 5 slot ≡ rest ++ more → IsTruncatedBias (3 ∷ rest)
slot_cut rest more radar slot r s short some e =
    let n : Numbers = record { radar = radar; slot = slot; gain = pos 0; range = pos 0; azimuth = pos 0 } in
    record {
      numbers = n;
      fit = record { radar = r; slot = s; gain = zero16; range = zero16; azimuth = zero16 };
      more = more ++ six;
      begun = omega arith;
      missing = omega (arith, length-append more six, some);
      whole = ap (λ t. 3 ∷ t ++ six) e ∙ ap (λ t. 3 ∷ t) (append_assoc rest more six);
      right = λ end within w. no_wrong end n (λ k. absurd (omega (arith, k, within, short))) (λ k. absurd (omega (arith, k, within, short))) (λ k. absurd (omega (arith, k, within, short))) (λ k. absurd (omega (arith, k, within, short))) w;
    }

pub slot_truncated : (rest : List ℕ) → IsBytes rest → length rest < 6 → IsTruncatedBias (3 ∷ rest)
slot_truncated [] bytes short = slot_cut [] six 0 0 (omega arith) (omega arith) short (omega arith) refl
slot_truncated (r ∷ []) bytes short = slot_cut (r ∷ []) (0 ∷ 0 ∷ 0 ∷ 0 ∷ 0 ∷ []) r 0 (bytes 0) (omega arith) short (omega arith) refl
slot_truncated (r ∷ a ∷ []) bytes short =
    let n = five_octets a 0 0 0 0 (bytes 1) (omega arith) (omega arith) (omega arith) (omega arith) in
    slot_cut (r ∷ a ∷ []) (0 ∷ 0 ∷ 0 ∷ 0 ∷ []) r n.0 (bytes 0) n.1 short (omega arith) (ap (λ t. r ∷ t) n.2)
slot_truncated (r ∷ a ∷ b ∷ []) bytes short =
    let n = five_octets a b 0 0 0 (bytes 1) (bytes 2) (omega arith) (omega arith) (omega arith) in
    slot_cut (r ∷ a ∷ b ∷ []) (0 ∷ 0 ∷ 0 ∷ []) r n.0 (bytes 0) n.1 short (omega arith) (ap (λ t. r ∷ t) n.2)
slot_truncated (r ∷ a ∷ b ∷ c ∷ []) bytes short =
    let n = five_octets a b c 0 0 (bytes 1) (bytes 2) (bytes 3) (omega arith) (omega arith) in
    slot_cut (r ∷ a ∷ b ∷ c ∷ []) (0 ∷ 0 ∷ []) r n.0 (bytes 0) n.1 short (omega arith) (ap (λ t. r ∷ t) n.2)
slot_truncated (r ∷ a ∷ b ∷ c ∷ d ∷ []) bytes short =
    let n = five_octets a b c d 0 (bytes 1) (bytes 2) (bytes 3) (bytes 4) (omega arith) in
    slot_cut (r ∷ a ∷ b ∷ c ∷ d ∷ []) (0 ∷ []) r n.0 (bytes 0) n.1 short (omega arith) (ap (λ t. r ∷ t) n.2)
slot_truncated (r ∷ a ∷ b ∷ c ∷ d ∷ e ∷ rest) bytes short = absurd (omega arith)

pub slot_wrong : (radar slot : ℕ) (after : List ℕ) → radar < 256 → slot < 2 ^ 40 → slot_limit ≤ slot → HasWrongNumber (3 ∷ radar ∷ big_endian 5 slot ++ after)
slot_wrong radar slot after r s high =
    record {
      numbers = record { radar = radar; slot = slot; gain = pos 0; range = pos 0; azimuth = pos 0 };
      fit = record { radar = r; slot = s; gain = zero16; range = zero16; azimuth = zero16 };
      end = 7;
      wrong = inl (refl, high);
      rest = after;
      whole = refl;
    }

-- the radar and a slot in range
pub record Slot (radar slot : ℕ) : Type 0 where
  pub radar_fits : radar < 256
  pub slot_fits : slot < slot_limit

-- a number that its octets begin, before they are whole
abbrev Begun : List ℕ → Type 0
Begun octets = (z : ℤ) × FitsSigned w16 z × (more : List ℕ) × (0 < length more) × (signed_octets z ≡ octets ++ more)

begun : (octets : List ℕ) → IsBytes octets → length octets < 2 → Begun octets
begun [] bytes short = (pos 0, zero16, 0 ∷ 0 ∷ [], omega arith, refl)
begun (a ∷ []) bytes short =
    let n = signed_number a 0 (bytes 0) (omega arith) in
    (n.0, n.1, 0 ∷ [], omega arith, n.2)
begun (a ∷ b ∷ rest) bytes short = absurd (omega arith)

abbrev at_gain : ℕ → ℕ → List ℕ → List ℕ
at_gain radar slot after = 3 ∷ radar ∷ big_endian 5 slot ++ after

abbrev at_range : ℕ → ℕ → ℤ → List ℕ → List ℕ
at_range radar slot gain after = at_gain radar slot (signed_octets gain ++ after)

abbrev at_azimuth : ℕ → ℕ → ℤ → ℤ → List ℕ → List ℕ
at_azimuth radar slot gain range after = at_range radar slot gain (signed_octets range ++ after)

gain_truncated : (radar slot : ℕ) (after : List ℕ) → Slot radar slot → IsBytes after → length after < 2 → IsTruncatedBias (at_gain radar slot after)
gain_truncated radar slot after f bytes short =
    let z = begun after bytes short in
    let n : Numbers = record { radar = radar; slot = slot; gain = z.0; range = pos 0; azimuth = pos 0 } in
    record {
      numbers = n;
      fit = record { radar = f.radar_fits; slot = omega (arith, f.slot_fits); gain = z.1; range = zero16; azimuth = zero16 };
      more = z.2 ++ (0 ∷ 0 ∷ 0 ∷ 0 ∷ []);
      begun = omega arith;
      missing = omega (arith, length-append z.2 (0 ∷ 0 ∷ 0 ∷ 0 ∷ []));
      whole = ap (λ t. at_gain radar slot (t ++ (0 ∷ 0 ∷ 0 ∷ 0 ∷ []))) z.4 ∙ ap (at_gain radar slot) (append_assoc after z.2 (0 ∷ 0 ∷ 0 ∷ 0 ∷ []));
      right = λ end within w. no_wrong end n (λ k. f.slot_fits) (λ k. absurd (omega (arith, k, within, short))) (λ k. absurd (omega (arith, k, within, short))) (λ k. absurd (omega (arith, k, within, short))) w;
    }

range_truncated : (radar slot : ℕ) (gain : ℤ) (after : List ℕ) → Slot radar slot → unsigned_abs gain ≤ 10000 → IsBytes after → length after < 2 → IsTruncatedBias (at_range radar slot gain after)
range_truncated radar slot gain after f g bytes short =
    let z = begun after bytes short in
    let n : Numbers = record { radar = radar; slot = slot; gain = gain; range = z.0; azimuth = pos 0 } in
    record {
      numbers = n;
      fit = record { radar = f.radar_fits; slot = omega (arith, f.slot_fits); gain = fits16 gain g; range = z.1; azimuth = zero16 };
      more = z.2 ++ (0 ∷ 0 ∷ []);
      begun = omega arith;
      missing = omega (arith, length-append z.2 (0 ∷ 0 ∷ []));
      whole = ap (λ t. at_range radar slot gain (t ++ (0 ∷ 0 ∷ []))) z.4 ∙ ap (at_range radar slot gain) (append_assoc after z.2 (0 ∷ 0 ∷ []));
      right = λ end within w. no_wrong end n (λ k. f.slot_fits) (λ k. g) (λ k. absurd (omega (arith, k, within, short))) (λ k. absurd (omega (arith, k, within, short))) w;
    }

azimuth_truncated : (radar slot : ℕ) (gain range : ℤ) (after : List ℕ) → Slot radar slot → unsigned_abs gain ≤ 10000 → unsigned_abs range ≤ 1000 → IsBytes after → length after < 2 → IsTruncatedBias (at_azimuth radar slot gain range after)
azimuth_truncated radar slot gain range after f g r bytes short =
    let z = begun after bytes short in
    let n : Numbers = record { radar = radar; slot = slot; gain = gain; range = range; azimuth = z.0 } in
    record {
      numbers = n;
      fit = record { radar = f.radar_fits; slot = omega (arith, f.slot_fits); gain = fits16 gain g; range = fits16 range (omega (arith, r)); azimuth = z.1 };
      more = z.2;
      begun = omega arith;
      missing = z.3;
      whole = ap (at_azimuth radar slot gain range) z.4;
      right = λ end within w. no_wrong end n (λ k. f.slot_fits) (λ k. g) (λ k. r) (λ k. absurd (omega (arith, k, within, short))) w;
    }

-- where no number begins, no item does
pub gain_ends : (ending : Ending) (radar slot : ℕ) (after : List ℕ) → Slot radar slot → IsBytes after → NumberEnds 10000 ending after → ItemsEnd Second ending (at_gain radar slot after)
gain_ends Nothing radar slot after f bytes h = absurd h
gain_ends Truncated radar slot after f bytes h = inr (gain_truncated radar slot after f bytes h)
gain_ends Other radar slot after f bytes h =
    inr (record {
      numbers = record { radar = radar; slot = slot; gain = h.0; range = pos 0; azimuth = pos 0 };
      fit = record { radar = f.radar_fits; slot = omega (arith, f.slot_fits); gain = h.2; range = zero16; azimuth = zero16 };
      end = 9;
      wrong = inr (inl (refl, h.1));
      rest = h.3;
      whole = ap (at_gain radar slot) h.4;
    })

pub range_ends : (ending : Ending) (radar slot : ℕ) (gain : ℤ) (after : List ℕ) → Slot radar slot → unsigned_abs gain ≤ 10000 → IsBytes after → NumberEnds 1000 ending after → ItemsEnd Second ending (at_range radar slot gain after)
range_ends Nothing radar slot gain after f g bytes h = absurd h
range_ends Truncated radar slot gain after f g bytes h = inr (range_truncated radar slot gain after f g bytes h)
range_ends Other radar slot gain after f g bytes h =
    inr (record {
      numbers = record { radar = radar; slot = slot; gain = gain; range = h.0; azimuth = pos 0 };
      fit = record { radar = f.radar_fits; slot = omega (arith, f.slot_fits); gain = fits16 gain g; range = h.2; azimuth = zero16 };
      end = 11;
      wrong = inr (inr (inl (refl, h.1)));
      rest = h.3;
      whole = ap (at_range radar slot gain) h.4;
    })

pub azimuth_ends : (ending : Ending) (radar slot : ℕ) (gain range : ℤ) (after : List ℕ) → Slot radar slot → unsigned_abs gain ≤ 10000 → unsigned_abs range ≤ 1000 → IsBytes after → NumberEnds 1000 ending after → ItemsEnd Second ending (at_azimuth radar slot gain range after)
azimuth_ends Nothing radar slot gain range after f g r bytes h = absurd h
azimuth_ends Truncated radar slot gain range after f g r bytes h = inr (azimuth_truncated radar slot gain range after f g r bytes h)
azimuth_ends Other radar slot gain range after f g r bytes h =
    inr (record {
      numbers = record { radar = radar; slot = slot; gain = gain; range = range; azimuth = h.0 };
      fit = record { radar = f.radar_fits; slot = omega (arith, f.slot_fits); gain = fits16 gain g; range = fits16 range (omega (arith, r)); azimuth = h.2 };
      end = 13;
      wrong = inr (inr (inr (refl, h.1)));
      rest = h.3;
      whole = ap (at_azimuth radar slot gain range) h.4;
    })

-- the same, as it is read
radar_fits : (octets : List ℕ) (radar : ℕ) (rest : List ℕ) → IsBytes octets → octets ≡ radar ∷ rest → radar < 256
radar_fits octets radar rest bytes e = subst (λ t. get_or t 0 0 < 256) e (bytes 0)

pub slot_stops : (octets : List ℕ) (radar slot : ℕ) (rest after : List ℕ) → IsBytes octets → slot < 2 ^ 40 → octets ≡ radar ∷ rest → rest ≡ big_endian 5 slot ++ after → slot_limit ≤ slot → ItemsEnd Second Other (3 ∷ octets)
slot_stops octets radar slot rest after bytes s e f high =
    inr (subst (λ t. HasWrongNumber (3 ∷ t)) (sym (e ∙ ap (λ t. radar ∷ t) f)) (slot_wrong radar slot after (radar_fits octets radar rest bytes e) s high))

abbrev SlotAt : List ℕ → ℕ → ℕ → List ℕ → Type 0
SlotAt octets radar slot after = (slot < slot_limit) × (octets ≡ radar ∷ big_endian 5 slot ++ after)

abbrev NumberAt : ℕ → List ℕ → ℤ → List ℕ → Type 0
NumberAt size octets z after = (unsigned_abs z ≤ size) × (octets ≡ signed_octets z ++ after)

slot_is : (octets : List ℕ) (radar slot : ℕ) (after : List ℕ) → IsBytes octets → SlotAt octets radar slot after → Slot radar slot
slot_is octets radar slot after bytes h = record { radar_fits = radar_fits octets radar _ bytes h.1; slot_fits = h.0 }

after_bytes : (octets : List ℕ) (radar slot : ℕ) (after : List ℕ) → IsBytes octets → SlotAt octets radar slot after → IsBytes after
after_bytes octets radar slot after bytes h = rest_bytes octets (radar ∷ big_endian 5 slot) after bytes h.1

tail_bytes : (size : ℕ) (octets : List ℕ) (z : ℤ) (after : List ℕ) → IsBytes octets → NumberAt size octets z after → IsBytes after
tail_bytes size octets z after bytes h = rest_bytes octets (signed_octets z) after bytes h.1

pub gain_stops : (octets : List ℕ) (radar slot : ℕ) (a : List ℕ) (ending : Ending) → IsBytes octets → SlotAt octets radar slot a → NumberEnds 10000 ending a → ItemsEnd Second ending (3 ∷ octets)
gain_stops octets radar slot a ending bytes s h =
    subst (λ t. ItemsEnd Second ending (3 ∷ t)) (sym s.1) (gain_ends ending radar slot a (slot_is octets radar slot a bytes s) (after_bytes octets radar slot a bytes s) h)

pub range_stops : (octets : List ℕ) (radar slot : ℕ) (a : List ℕ) (gain : ℤ) (b : List ℕ) (ending : Ending) → IsBytes octets → SlotAt octets radar slot a → NumberAt 10000 a gain b → NumberEnds 1000 ending b → ItemsEnd Second ending (3 ∷ octets)
range_stops octets radar slot a gain b ending bytes s g h =
    let bytes_a = after_bytes octets radar slot a bytes s in
    subst (λ t. ItemsEnd Second ending (3 ∷ t)) (sym (s.1 ∙ ap (λ t. radar ∷ big_endian 5 slot ++ t) g.1)) (range_ends ending radar slot gain b (slot_is octets radar slot a bytes s) g.0 (tail_bytes 10000 a gain b bytes_a g) h)

pub azimuth_stops : (octets : List ℕ) (radar slot : ℕ) (a : List ℕ) (gain : ℤ) (b : List ℕ) (range : ℤ) (d : List ℕ) (ending : Ending) → IsBytes octets → SlotAt octets radar slot a → NumberAt 10000 a gain b → NumberAt 1000 b range d → NumberEnds 1000 ending d → ItemsEnd Second ending (3 ∷ octets)
azimuth_stops octets radar slot a gain b range d ending bytes s g r h =
    let bytes_a = after_bytes octets radar slot a bytes s in
    let bytes_b = tail_bytes 10000 a gain b bytes_a g in
    subst (λ t. ItemsEnd Second ending (3 ∷ t)) (sym (s.1 ∙ ap (λ t. radar ∷ big_endian 5 slot ++ t) (g.1 ∙ ap (λ t. signed_octets gain ++ t) r.1)))
    (azimuth_ends ending radar slot gain range d (slot_is octets radar slot a bytes s) g.0 r.0 (tail_bytes 1000 b range d bytes_b r) h)

-- ---- each list of octets

-- a number of at most this size, or why there is none
abbrev Number : ℕ → List ℕ → Type 0
Number size octets = ((z : ℤ) × (unsigned_abs z ≤ size) × (next : List ℕ) × (octets ≡ signed_octets z ++ next)) ⊎ (NumberEnds size Other octets ⊎ NumberEnds size Truncated octets)

number : (size : ℕ) (octets : List ℕ) → IsBytes octets → Number size octets
number size [] bytes = inr (inr (omega arith))
number size (a ∷ []) bytes = inr (inr (omega arith))
number size (a ∷ b ∷ rest) bytes =
    let n = signed_number a b (bytes 0) (bytes 1) in
    let whole = ap (λ t. t ++ rest) (sym n.2) in
    elim (cases_lt size (unsigned_abs n.0)) [
      | inl large ↦ inr (inl (n.0, large, n.1, rest, whole))
      | inr small ↦ inl (n.0, small, rest, whole)
    ]

abbrev BeginsSecond : List ℕ → Type 0
BeginsSecond = Begins Item (IsItem Second) item_octets (IsNoItem Second) (IsTruncatedItem Second)

at_azimuth_begins : (radar slot : ℕ) (gain range : ℤ) (after : List ℕ) → Slot radar slot → unsigned_abs gain ≤ 10000 → unsigned_abs range ≤ 1000 → IsBytes after → BeginsSecond (at_azimuth radar slot gain range after)
at_azimuth_begins radar slot gain range after f g r bytes =
    elim (number 1000 after bytes) [
      | inl n ↦ inl (record {
        one = bias radar slot (record { gain = gain; range = range; azimuth = n.0; gain_range = g; range_range = r; azimuth_range = n.1 });
        next = n.2;
        fits = (f.radar_fits, f.slot_fits);
        whole = ap (at_azimuth radar slot gain range) n.3;
      })
      | inr (inl o) ↦ inr (inl (azimuth_ends Other radar slot gain range after f g r bytes o))
      | inr (inr c) ↦ inr (inr (azimuth_ends Truncated radar slot gain range after f g r bytes c))
    ]

at_range_begins : (radar slot : ℕ) (gain : ℤ) (after : List ℕ) → Slot radar slot → unsigned_abs gain ≤ 10000 → IsBytes after → BeginsSecond (at_range radar slot gain after)
at_range_begins radar slot gain after f g bytes =
    elim (number 1000 after bytes) [
      | inl n ↦ subst (λ t. BeginsSecond (at_range radar slot gain t)) (sym n.3) (at_azimuth_begins radar slot gain n.0 n.2 f g n.1 (rest_bytes after (signed_octets n.0) n.2 bytes n.3))
      | inr (inl o) ↦ inr (inl (range_ends Other radar slot gain after f g bytes o))
      | inr (inr c) ↦ inr (inr (range_ends Truncated radar slot gain after f g bytes c))
    ]

at_gain_begins : (radar slot : ℕ) (after : List ℕ) → Slot radar slot → IsBytes after → BeginsSecond (at_gain radar slot after)
at_gain_begins radar slot after f bytes =
    elim (number 10000 after bytes) [
      | inl n ↦ subst (λ t. BeginsSecond (at_gain radar slot t)) (sym n.3) (at_range_begins radar slot n.0 n.2 f n.1 (rest_bytes after (signed_octets n.0) n.2 bytes n.3))
      | inr (inl o) ↦ inr (inl (gain_ends Other radar slot after f bytes o))
      | inr (inr c) ↦ inr (inr (gain_ends Truncated radar slot after f bytes c))
    ]

slot_begins : (radar slot : ℕ) (after : List ℕ) → radar < 256 → slot < 2 ^ 40 → IsBytes after → BeginsSecond (at_gain radar slot after)
slot_begins radar slot after r s bytes =
    elim (cases_lt slot slot_limit) [
      | inl low ↦ at_gain_begins radar slot after (record { radar_fits = r; slot_fits = low }) bytes
      | inr high ↦ inr (inl (inr (slot_wrong radar slot after r s high)))
    ]

pub bias_begins : (rest : List ℕ) → IsBytes rest → BeginsSecond (3 ∷ rest)
bias_begins [] bytes = inr (inr (inr (slot_truncated [] bytes (omega arith))))
bias_begins (r ∷ []) bytes = inr (inr (inr (slot_truncated (r ∷ []) bytes (omega arith))))
bias_begins (r ∷ a ∷ []) bytes = inr (inr (inr (slot_truncated (r ∷ a ∷ []) bytes (omega arith))))
bias_begins (r ∷ a ∷ b ∷ []) bytes = inr (inr (inr (slot_truncated (r ∷ a ∷ b ∷ []) bytes (omega arith))))
bias_begins (r ∷ a ∷ b ∷ c ∷ []) bytes = inr (inr (inr (slot_truncated (r ∷ a ∷ b ∷ c ∷ []) bytes (omega arith))))
bias_begins (r ∷ a ∷ b ∷ c ∷ d ∷ []) bytes = inr (inr (inr (slot_truncated (r ∷ a ∷ b ∷ c ∷ d ∷ []) bytes (omega arith))))
bias_begins (r ∷ a ∷ b ∷ c ∷ d ∷ e ∷ after) bytes =
    let n = five_octets a b c d e (bytes 1) (bytes 2) (bytes 3) (bytes 4) (bytes 5) in
    subst (λ t. BeginsSecond (3 ∷ r ∷ t ++ after)) n.2 (slot_begins r n.0 after (bytes 0) n.1 (λ i. bytes (suc (suc (suc (suc (suc (suc i))))))))
