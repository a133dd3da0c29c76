-- What octets begin: an item, octets that no item begins with, or a truncated item.
use Rattle.std.proofs.Common.{◌≡◌, ◌∙◌, ap, sym, refl, inl, inr, ℕ, zero, suc, ◌+◌, ◌-◌, ◌*◌, ◌^◌, ◌<◌, ◌≤◌, ◌⊎◌, List, [], ◌∷◌, ◌++◌, length, get_or, take, drop, arith, append_assoc, append-nil, length-append}
use Rattle.std.specs.List.{AllByRecursion}
use Rattle.std.proofs.lemmas.Bool.{cases_lt}
use Rattle.std.proofs.lemmas.List.{length-take-le, take-append-drop}
use Rattle.plot_geometry.specs.declared.biases.Bias.{Bias}
use Rattle.plot_geometry.specs.BiasOrder.{same_bias}
use Rattle.recording.specs.declared.header.Header.{Header}
use Rattle.recording.specs.declared.header.Header.TheVariants.{First, Second}
use Rattle.recording.specs.Endings.{IsTruncated}
use Rattle.asterix_frame.specs.Values.{big_endian}
use Rattle.recording.specs.Biases.{HasWrongNumber, IsTruncatedBias, bias_octets}
use Rattle.recording.specs.Items.{Item, datagram, tick, bias, item_octets, numbers_of, IsItem, IsNoItem, IsTruncatedItem}
use Rattle.recording.specs.Readings.{header_octets, version}
use Rattle.recording.proofs.Codes.{IsCode, IsBytes, Begins, BeginsOne, Decides, truncated_first}
use Rattle.recording.proofs.Octets.{five_octets, two_octets, split_same, two, five_same, two_same, tail_same}
use Rattle.recording.proofs.BiasOctets.{numbers_same, wrong_alike, wrong_length, wrong_first, none_wrong, bias_fits, bias_begins}
use Rattle.recording.proofs.Zeros.{zeros, length-zeros}

-- a tick or a datagram, after either header
abbrev Plain : Item → Type 0
Plain = IsItem First

abbrev IsTruncatedPlain : List ℕ → Type 0
IsTruncatedPlain = IsTruncated Item Plain item_octets

abbrev BeginsPlain : List ℕ → Type 0
BeginsPlain octets = BeginsOne Item Plain item_octets octets ⊎ IsTruncatedPlain octets

tick_short : (rest more : List ℕ) (n : ℕ) → n < 2 ^ 40 → big_endian 5 n ≡ rest ++ more → 0 < length more → BeginsPlain (1 ∷ rest)
tick_short rest more n fits e some = inr (record { one = tick n; fits = fits; more = more; begun = omega arith; missing = some; whole = ap (λ t. 1 ∷ t) e })

tick_begins : (rest : List ℕ) → IsBytes rest → BeginsPlain (1 ∷ rest)
tick_begins [] bytes = let n = five_octets 0 0 0 0 0 (omega arith) (omega arith) (omega arith) (omega arith) (omega arith) in tick_short [] (0 ∷ 0 ∷ 0 ∷ 0 ∷ 0 ∷ []) n.0 n.1 n.2 (omega arith)
tick_begins (a ∷ []) bytes = let n = five_octets a 0 0 0 0 (bytes 0) (omega arith) (omega arith) (omega arith) (omega arith) in tick_short (a ∷ []) (0 ∷ 0 ∷ 0 ∷ 0 ∷ []) n.0 n.1 n.2 (omega arith)
tick_begins (a ∷ b ∷ []) bytes = let n = five_octets a b 0 0 0 (bytes 0) (bytes 1) (omega arith) (omega arith) (omega arith) in tick_short (a ∷ b ∷ []) (0 ∷ 0 ∷ 0 ∷ []) n.0 n.1 n.2 (omega arith)
tick_begins (a ∷ b ∷ c ∷ []) bytes = let n = five_octets a b c 0 0 (bytes 0) (bytes 1) (bytes 2) (omega arith) (omega arith) in tick_short (a ∷ b ∷ c ∷ []) (0 ∷ 0 ∷ []) n.0 n.1 n.2 (omega arith)
tick_begins (a ∷ b ∷ c ∷ d ∷ []) bytes = let n = five_octets a b c d 0 (bytes 0) (bytes 1) (bytes 2) (bytes 3) (omega arith) in tick_short (a ∷ b ∷ c ∷ d ∷ []) (0 ∷ []) n.0 n.1 n.2 (omega arith)
tick_begins (a ∷ b ∷ c ∷ d ∷ e ∷ next) bytes =
    let n = five_octets a b c d e (bytes 0) (bytes 1) (bytes 2) (bytes 3) (bytes 4) in
    inl (record { one = tick n.0; next = next; fits = n.1; whole = ap (λ t. 1 ∷ t ++ next) (sym n.2) })

datagram_is : (feed n a b : ℕ) (octets : List ℕ) → length octets ≡ n → big_endian 2 n ≡ a ∷ b ∷ [] → item_octets (datagram feed octets) ≡ 2 ∷ feed ∷ a ∷ b ∷ octets
datagram_is feed n a b octets long e = ap (λ t. 2 ∷ feed ∷ t ++ octets) (ap (big_endian 2) long ∙ e)

datagram_begins : (rest : List ℕ) → IsBytes rest → BeginsPlain (2 ∷ rest)
datagram_begins [] bytes = inr (record { one = datagram 0 []; fits = (omega arith, omega arith); more = 0 ∷ 0 ∷ 0 ∷ []; begun = omega arith; missing = omega arith; whole = refl })
datagram_begins (f ∷ []) bytes = inr (record { one = datagram f []; fits = (bytes 0, omega arith); more = 0 ∷ 0 ∷ []; begun = omega arith; missing = omega arith; whole = refl })
datagram_begins (f ∷ a ∷ []) bytes =
    let n = two_octets a 0 (bytes 1) (omega arith) in
    inr (record { one = datagram f (zeros n.0); fits = (bytes 0, omega (arith, n.1, length-zeros n.0)); more = 0 ∷ zeros n.0; begun = omega arith; missing = omega arith; whole = datagram_is f n.0 a 0 (zeros n.0) (length-zeros n.0) n.2 })
datagram_begins (f ∷ a ∷ b ∷ after) bytes =
    let n = two_octets a b (bytes 1) (bytes 2) in
    elim (cases_lt (length after) n.0) [
      | inl short ↦ (let gap = zeros (n.0 - length after) in
          let long : length (after ++ gap) ≡ n.0 = omega (arith, short, length-append after gap, length-zeros (n.0 - length after)) in
          inr (record { one = datagram f (after ++ gap); fits = (bytes 0, omega (arith, long, n.1)); more = gap; begun = omega arith; missing = omega (arith, short, length-zeros (n.0 - length after)); whole = datagram_is f n.0 a b (after ++ gap) long n.2 }))
      | inr enough ↦ (let long : length (take n.0 after) ≡ n.0 = length-take-le n.0 after enough in
          inl (record { one = datagram f (take n.0 after); next = drop n.0 after; fits = (bytes 0, omega (arith, long, n.1)); whole = ap (λ t. 2 ∷ f ∷ a ∷ b ∷ t) (sym (take-append-drop n.0 after)) ∙ ap (λ t. t ++ drop n.0 after) (sym (datagram_is f n.0 a b (take n.0 after) long n.2)) }))
    ]

-- the second header has the items of the first, and more
pub in_second : (h : Header) (item : Item) → IsItem h item → IsItem Second item
in_second First (tick time) fits = fits
in_second First (datagram feed octets) fits = fits
in_second First (bias radar slot b) fits = absurd fits
in_second Second item fits = fits

abbrev BeginsItem : Header → List ℕ → Type 0
BeginsItem h = Begins Item (IsItem h) item_octets (IsNoItem h) (IsTruncatedItem h)

plain : (h : Header) (octets : List ℕ) → BeginsPlain octets → BeginsItem h octets
plain First octets (inl one) = inl one
plain First octets (inr c) = inr (inr c)
plain Second octets (inl one) = inl (record { one = one.one; next = one.next; fits = in_second First one.one one.fits; whole = one.whole })
plain Second octets (inr c) = inr (inr (inl c))

other : (h : Header) (n : ℕ) (rest : List ℕ) → BeginsItem h (suc (suc (suc (suc n))) ∷ rest)
other First n rest = inr (inl ((λ e. omega arith), (λ e. omega arith)))
other Second n rest = inr (inl (inl ((λ e. omega arith), (λ e. omega arith), (λ e. omega arith))))

none : (h : Header) (rest : List ℕ) → BeginsItem h (0 ∷ rest)
none First rest = inr (inl ((λ e. omega arith), (λ e. omega arith)))
none Second rest = inr (inl (inl ((λ e. omega arith), (λ e. omega arith), (λ e. omega arith))))

three : (h : Header) (rest : List ℕ) → IsBytes rest → BeginsItem h (3 ∷ rest)
three First rest bytes = inr (inl ((λ e. omega arith), (λ e. omega arith)))
three Second rest bytes = bias_begins rest bytes

begins : (h : Header) (octets : List ℕ) → IsBytes octets → 0 < length octets → BeginsItem h octets
begins h [] bytes some = absurd (omega arith)
begins h (zero ∷ rest) bytes some = none h rest
begins h (suc zero ∷ rest) bytes some = plain h (1 ∷ rest) (tick_begins rest (λ i. bytes (suc i)))
begins h (suc (suc zero) ∷ rest) bytes some = plain h (2 ∷ rest) (datagram_begins rest (λ i. bytes (suc i)))
begins h (suc (suc (suc zero)) ∷ rest) bytes some = three h rest (λ i. bytes (suc i))
begins h (suc (suc (suc (suc n))) ∷ rest) bytes some = other h n rest

item_some : (item : Item) → 0 < length (item_octets item)
item_some (tick time) = omega arith
item_some (datagram feed octets) = omega arith
item_some (bias radar slot b) = omega arith

pub items_decided : (h : Header) → Decides Item (IsItem h) item_octets (IsNoItem h) (IsTruncatedItem h)
items_decided h = record { some = item_some; begins = begins h }

-- ---- what is truncated

tick_long : (rest : List ℕ) (item : Item) (next : List ℕ) → 1 ∷ rest ≡ item_octets item ++ next → 5 ≤ length rest
tick_long rest (tick time) next e = omega (arith, ap length e)
tick_long rest (datagram feed octets) next e = absurd cc
tick_long rest (bias radar slot b) next e = absurd cc

truncated : (h : Header) (octets : List ℕ) → IsTruncatedPlain octets → IsTruncatedItem h octets
truncated First octets c = c
truncated Second octets c = inl c

-- a tick with fewer octets than it has is truncated
pub tick_cut : (h : Header) (rest : List ℕ) → IsBytes rest → length rest < 5 → IsTruncatedItem h (1 ∷ rest)
tick_cut h rest bytes short =
    elim (tick_begins rest bytes) [
      | inl one ↦ absurd (omega (arith, tick_long rest one.one one.next one.whole))
      | inr c ↦ truncated h (1 ∷ rest) c
    ]

second : (a b c d : ℕ) (x y : List ℕ) → 2 ∷ a ∷ b ∷ c ∷ x ≡ 2 ∷ d ∷ y → b ∷ c ∷ x ≡ y
second a b c d x y e = cc

datagram_long : (rest : List ℕ) (item : Item) (next : List ℕ) → Plain item → 2 ∷ rest ≡ item_octets item ++ next → 3 + 256 * get_or rest 1 0 + get_or rest 2 0 ≤ length rest
datagram_long rest (bias radar slot b) next fits e = absurd fits
datagram_long rest (tick time) next fits e = absurd cc
datagram_long [] (datagram feed octets) next fits e = absurd cc
datagram_long (f ∷ []) (datagram feed octets) next fits e = absurd cc
datagram_long (f ∷ a ∷ []) (datagram feed octets) next fits e = absurd cc
datagram_long (f ∷ a ∷ b ∷ rest) (datagram feed octets) next fits e =
    let p = two a b _ _ rest (octets ++ next) (second f a b feed rest (big_endian 2 (length octets) ++ (octets ++ next)) e) in
    omega (arith, p.0, p.1, ap length p.2, length-append octets next, fits.1)

-- and so is a datagram
pub datagram_cut : (h : Header) (rest : List ℕ) → IsBytes rest → length rest < 3 + 256 * get_or rest 1 0 + get_or rest 2 0 → IsTruncatedItem h (2 ∷ rest)
datagram_cut h rest bytes short =
    elim (datagram_begins rest bytes) [
      | inl one ↦ absurd (omega (arith, short, datagram_long rest one.one one.next one.fits one.whole))
      | inr c ↦ truncated h (2 ∷ rest) c
    ]

-- ---- no item begins another

both_same : (a b : Item) (x y : List ℕ) → IsItem Second a → IsItem Second b → item_octets a ++ x ≡ item_octets b ++ y → (a ≡ b) × (x ≡ y)
both_same (tick t) (tick u) x y ha hb e =
    let p = five_same t u x y ha hb (tail_same 1 1 (big_endian 5 t ++ x) (big_endian 5 u ++ y) e).1 in
    (ap tick p.0, p.1)
both_same (tick t) (datagram f o) x y ha hb e = absurd cc
both_same (tick t) (bias r s b) x y ha hb e = absurd cc
both_same (datagram f o) (tick t) x y ha hb e = absurd cc
both_same (datagram f o) (datagram g p) x y ha hb e =
    let heads = two 2 f 2 g (big_endian 2 (length o) ++ (o ++ x)) (big_endian 2 (length p) ++ (p ++ y)) e in
    let long = two_same (length o) (length p) (o ++ x) (p ++ y) ha.1 hb.1 heads.2 in
    let rest = split_same o p x y long.0 long.1 in
    ((λ i. datagram (heads.1 i) (rest.0 i)), rest.1)
both_same (datagram f o) (bias r s b) x y ha hb e = absurd cc
both_same (bias r s b) (tick t) x y ha hb e = absurd cc
both_same (bias r s b) (datagram g p) x y ha hb e = absurd cc
both_same (bias r s b) (bias r' s' b') x y ha hb e =
    let n = numbers_same (numbers_of r s b) (numbers_of r' s' b') x y (bias_fits r s b ha.0 ha.1) (bias_fits r' s' b' hb.0 hb.1) e in
    let one = same_bias b b' n.2 n.3 n.4 in
    ((λ i. bias (n.0 i) (n.1 i) (one i)), n.5)

items_same : (h : Header) (a b : Item) (x y : List ℕ) → IsItem h a → IsItem h b → item_octets a ++ x ≡ item_octets b ++ y → (a ≡ b) × (x ≡ y)
items_same h a b x y ha hb e = both_same a b x y (in_second h a ha) (in_second h b hb) e

no_item : (h : Header) → IsNoItem h [] → ⊥
no_item First h = h
no_item Second h = h

wrong_on : (octets more : List ℕ) → HasWrongNumber octets → HasWrongNumber (octets ++ more)
wrong_on octets more h =
    record {
      numbers = h.numbers;
      fit = h.fit;
      end = h.end;
      wrong = h.wrong;
      rest = h.rest ++ more;
      whole = ap (λ t. t ++ more) h.whole ∙ append_assoc (take h.end (bias_octets h.numbers)) h.rest more;
    }

no_item_on : (h : Header) (rest more : List ℕ) → IsNoItem h rest → IsNoItem h (rest ++ more)
no_item_on First [] more h = absurd h
no_item_on Second [] more h = absurd h
no_item_on First (first ∷ rest) more h = h
no_item_on Second (first ∷ rest) more (inl h) = inl h
no_item_on Second (first ∷ rest) more (inr h) = inr (wrong_on (first ∷ rest) more h)

first_differs : (a b : ℕ) (x y octets : List ℕ) → octets ≡ a ∷ x → octets ≡ b ∷ y → a ≡ b
first_differs a b x y octets e f = (tail_same a b x y (sym e ∙ f)).0

-- a whole change of biases has no number out of range
bias_right : (radar slot : ℕ) (b : Bias) (octets more : List ℕ) → IsItem Second (bias radar slot b) → octets ≡ item_octets (bias radar slot b) ++ more → HasWrongNumber octets → ⊥
bias_right radar slot b octets more fits e h =
    none_wrong radar slot b h.end fits.1 (wrong_alike h.end h.numbers (numbers_of radar slot b) h.rest more h.fit (bias_fits radar slot b fits.0 fits.1) (sym h.whole ∙ e) h.wrong)

item_begins : (h : Header) (item : Item) (more : List ℕ) → IsItem h item → IsNoItem h (item_octets item ++ more) → ⊥
item_begins First (tick time) more fits h = h.0 refl
item_begins First (datagram feed octets) more fits h = h.1 refl
item_begins First (bias radar slot b) more fits h = fits
item_begins Second (tick time) more fits (inl h) = h.0 refl
item_begins Second (datagram feed octets) more fits (inl h) = h.1 refl
item_begins Second (bias radar slot b) more fits (inl h) = h.2 refl
item_begins Second (tick time) more fits (inr h) = let w = wrong_first _ h in omega (arith, first_differs 1 3 _ w.0 _ refl w.1)
item_begins Second (datagram feed octets) more fits (inr h) = let w = wrong_first _ h in omega (arith, first_differs 2 3 _ w.0 _ refl w.1)
item_begins Second (bias radar slot b) more fits (inr h) = bias_right radar slot b _ more fits refl h

partial_some : (h : Header) (rest : List ℕ) → IsTruncatedItem h rest → 0 < length rest
partial_some First rest c = c.begun
partial_some Second rest (inl c) = c.begun
partial_some Second rest (inr c) = c.begun

widened : (rest : List ℕ) → IsTruncatedPlain rest → IsTruncated Item (IsItem Second) item_octets rest
widened rest c = record { one = c.one; fits = in_second First c.one c.fits; more = c.more; begun = c.begun; missing = c.missing; whole = c.whole }

-- a truncated change of biases begins with no whole item
bias_first : (rest : List ℕ) (item : Item) (next : List ℕ) → IsTruncatedBias rest → rest ≡ item_octets item ++ next → ⊥
bias_first rest (tick time) next c e = omega (arith, first_differs 1 3 _ _ _ refl (ap (λ t. t ++ c.more) (sym e) ∙ sym c.whole))
bias_first rest (datagram feed octets) next c e = omega (arith, first_differs 2 3 _ _ _ refl (ap (λ t. t ++ c.more) (sym e) ∙ sym c.whole))
bias_first rest (bias radar slot b) next c e = omega (arith, ap length c.whole, length-append rest c.more, ap length e, c.missing)

partial_first : (h : Header) (rest : List ℕ) (item : Item) (next : List ℕ) → IsTruncatedItem h rest → IsItem h item → rest ≡ item_octets item ++ next → ⊥
partial_first First rest item next c fits e = truncated_first (items_same First) rest item next c fits e
partial_first Second rest item next (inl c) fits e = truncated_first (items_same Second) rest item next (widened rest c) fits e
partial_first Second rest item next (inr c) fits e = bias_first rest item next c e

plain_first : (item : Item) (first : ℕ) (rest : List ℕ) → Plain item → item_octets item ≡ first ∷ rest → (first ≡ 1) ⊎ (first ≡ 2)
plain_first (tick time) first rest fits e = inl (sym (tail_same 1 first _ rest e).0)
plain_first (datagram feed octets) first rest fits e = inr (sym (tail_same 2 first _ rest e).0)
plain_first (bias radar slot b) first rest fits e = absurd fits

plain_other : (first : ℕ) (rest : List ℕ) → IsTruncatedPlain (first ∷ rest) → (first ≡ 1 → ⊥) → (first ≡ 2 → ⊥) → ⊥
plain_other first rest c one two =
    elim (plain_first c.one first (rest ++ c.more) c.fits c.whole) [
      | inl e ↦ one e
      | inr e ↦ two e
    ]

wrong_truncated : (octets : List ℕ) → HasWrongNumber octets → IsTruncatedBias octets → ⊥
wrong_truncated octets w c =
    let agrees : take w.end (bias_octets w.numbers) ++ (w.rest ++ c.more) ≡ bias_octets c.numbers ++ [] =
    sym (append_assoc (take w.end (bias_octets w.numbers)) w.rest c.more) ∙ ap (λ t. t ++ c.more) (sym w.whole) ∙ sym c.whole ∙ sym (append-nil (bias_octets c.numbers)) in
    let within : w.end ≤ length octets = omega (arith, ap length w.whole, length-append (take w.end (bias_octets w.numbers)) w.rest, wrong_length w.end w.numbers w.wrong) in
    c.right w.end within (wrong_alike w.end w.numbers c.numbers (w.rest ++ c.more) [] w.fit c.fit agrees w.wrong)

other_partial : (h : Header) (rest : List ℕ) → IsNoItem h rest → IsTruncatedItem h rest → ⊥
other_partial First [] o c = absurd o
other_partial Second [] o c = absurd o
other_partial First (first ∷ rest) o c = plain_other first rest c o.0 o.1
other_partial Second (first ∷ rest) (inl o) (inl c) = plain_other first rest c o.0 o.1
other_partial Second (first ∷ rest) (inl o) (inr c) = o.2 (sym (tail_same 3 first _ (rest ++ c.more) c.whole).0)
other_partial Second (first ∷ rest) (inr o) (inl c) =
    let three : first ≡ 3 = (tail_same first 3 rest _ (wrong_first (first ∷ rest) o).1).0 in
    plain_other first rest c (λ e. omega (arith, e, three)) (λ e. omega (arith, e, three))
other_partial Second (first ∷ rest) (inr o) (inr c) = wrong_truncated (first ∷ rest) o c

pub items_code : (h : Header) → IsCode Item (IsItem h) item_octets (IsNoItem h) (IsTruncatedItem h)
items_code h =
    record {
      some = item_some;
      same = items_same h;
      other_some = no_item h;
      goes_on = no_item_on h;
      none = item_begins h;
      partial_some = partial_some h;
      partial_first = partial_first h;
      other_partial = other_partial h;
    }

pub four_parts : (a b c d v : ℕ) (x y : List ℕ) → a ∷ b ∷ c ∷ d ∷ x ≡ 77 ∷ 82 ∷ 84 ∷ v ∷ y → (a ≡ 77) × (b ≡ 82) × (c ≡ 84) × (d ≡ v)
four_parts a b c d v x y e = (cc, cc, cc, cc)

four : (a b : ℕ) (x y : List ℕ) → 77 ∷ 82 ∷ 84 ∷ a ∷ x ≡ 77 ∷ 82 ∷ 84 ∷ b ∷ y → (a ≡ b) × (x ≡ y)
four a b x y e = (cc, cc)

pub magics_same : (g h : Header) (x y : List ℕ) → 77 ∷ 82 ∷ 84 ∷ version g ∷ x ≡ 77 ∷ 82 ∷ 84 ∷ version h ∷ y → (g ≡ h) × (x ≡ y)
magics_same First First x y e = (refl, (four 49 49 x y e).1)
magics_same First Second x y e = absurd (omega (arith, (four 49 50 x y e).0))
magics_same Second First x y e = absurd (omega (arith, (four 50 49 x y e).0))
magics_same Second Second x y e = (refl, (four 50 50 x y e).1)

pub headers_same : (g h : Header) (m n : ℕ) (x y : List ℕ) → m < 2 ^ 40 → n < 2 ^ 40 → header_octets g m ++ x ≡ header_octets h n ++ y → (g ≡ h) × (m ≡ n) × (x ≡ y)
headers_same g h m n x y hm hn e =
    let f = magics_same g h (big_endian 5 m ++ x) (big_endian 5 n ++ y) e in
    let s = five_same m n x y hm hn f.1 in
    (f.0, s.0, s.1)

pub all_in_second : (h : Header) (items : List Item) → AllByRecursion (IsItem h) items → AllByRecursion (IsItem Second) items
all_in_second h [] all = tt
all_in_second h (item ∷ items) all = (in_second h item all.0, all_in_second h items all.1)
