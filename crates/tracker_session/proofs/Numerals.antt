-- Numbers and words.
use Rattle.std.proofs.Common.{◌≡◌, ◌≢◌, ◌∙◌, ap, sym, refl, subst, inl, inr, ℕ, ◌<◌, ◌≤◌, ◌^◌, List, ◌++◌, length, get_or, take, drop, Bool, true, false, Option, Some, Result, Ok, Err, arith}
use Rattle.std.specs.Fmt.{decimal}
use Rattle.std.specs.Str.Parse.{AllDigits, ParsesUnsigned, digits_value}
use Rattle.std.proofs.lemmas.Bool.{cases_lt, lt-ltb, ltb-true}
use Rattle.std.proofs.lemmas.Str.Parse.{IsNumeralModel, numerals_by_value, tells_digits, parse_plain, not_in_digits}
use Rattle.std.proofs.lemmas.Fmt.{decimal-digits_value, decimal_digit, decimal_injective, decimal_nonempty, digits_decimal, digits_value-decimal, first_decimal, parse-decimal}
use Rattle.std.specs.Prelude.{IfSome, IsNone, IsTrue, None, nat_eq, nat_lt, not, ◌&&◌, ◌↔◌, if◌then◌else◌}
use Rattle.std.specs.Str.{bytes_eq}
use Rattle.std.proofs.lemmas.Slice.Eq.{bytes_eq-Decides}
use Rattle.std.specs.Result.{result_ok}
use Rattle.std.specs.List.{starts_with}
use Rattle.std.proofs.lemmas.List.{take_all, take-append-drop, take-append-le}
use Rattle.tracker_session.specs.Words.{IsPlain, number_in, workers_in, workers_word}

own : IsNumeralModel (AllDigits 10) (digits_value 10)
own = numerals_by_value (AllDigits 10) tells_digits

-- what a plain word is read as, tells it
pub tells : {E : Type 0} (word : List ℕ) (n : ℕ) (r : Result ℕ E) → IsPlain word → ParsesUnsigned 64 10 word r → r ≡ Ok n → word ≡ decimal n
tells {E} word n (Ok m) plain h e =
    let k : (AllDigits 10 word × (0 < length word) × (digits_value 10 word < 2 ^ 64)) × (m ≡ digits_value 10 word) = parse_plain own {E = E} 64 word (Ok m) h plain.unsigned in
    let same : m ≡ n = (cc) in
    sym (decimal-digits_value own word k.0.0 k.0.1 plain.short k.0.2) ∙ ap decimal (sym k.1 ∙ same)
tells {E} word n (Err f) plain h e = cc

pub tells_none : {E : Type 0} (word : List ℕ) (n : ℕ) (f : E) (r : Result ℕ E) → ParsesUnsigned 64 10 word r → r ≡ Err f → n < 2 ^ 64 → word ≢ decimal n
tells_none {E} word n f r h e lt is =
    let ok : r ≡ Ok n = parse-decimal 64 n word r lt lt is h in
    cc

-- a number's digits are a plain word
pub decimal_plain : (word : List ℕ) (n : ℕ) → n < 2 ^ 64 → word ≡ decimal n → IsPlain word
decimal_plain word n lt e =
    let some = decimal_nonempty n lt in
    let unsigned : get_or (decimal n) 0 0 ≢ 43 = not_in_digits own (decimal n) 43 (digits_decimal own n lt) (λ h. omega (arith, h)) 0 some in
    let short : get_or (decimal n) 0 0 ≡ 48 → length (decimal n) ≡ 1 = λ z. elim (cases_lt 0 n) [
      | inl high ↦ absurd (omega (arith, z, first_decimal n high lt))
      | inr low ↦ let zero' : n ≡ 0 = omega (arith, low) in ap (λ (m : ℕ). length (decimal m)) zero' ∙ ap length (decimal_digit 0 (omega arith))
    ] in
    record {
      unsigned = λ f. unsigned (ap (λ (w : List ℕ). get_or w 0 0) (sym e) ∙ f);
      short = λ z. ap length e ∙ short (ap (λ (w : List ℕ). get_or w 0 0) (sym e) ∙ z);
    }

pub plain_of : {b : Bool} {octets word : List ℕ} → IsTrue b ↔ IsPlain octets → octets ≡ word → b ≡ true → IsPlain word
plain_of {b} {octets} {word} h e t = subst IsPlain e (h.0 t)

pub told_plain : {b : Bool} {octets word : List ℕ} → IsTrue b ↔ IsPlain octets → octets ≡ word → IsPlain word → b ≡ true
told_plain {b} {octets} {word} h e k = h.1 (subst IsPlain (sym e) k)

same_answer : (E : Type 0) (m : ℕ) → let r : Result ℕ E = Ok m in r ≡ r
same_answer E m = refl

-- what the word is read as
pub number_told : {E : Type 0} (word : List ℕ) (r : Result ℕ E) (o : Option ℕ) → IsPlain word → ParsesUnsigned 64 10 word r → o ≡ result_ok r → IfSome o (λ n. word ≡ decimal n)
number_told {E} word (Ok m) o plain h e = subst (λ (p : Option ℕ). IfSome p (λ n. word ≡ decimal n)) (sym e) (tells {E = E} word m (Ok m) plain h (same_answer E m))
number_told {E} word (Err f) o plain h e = subst (λ (p : Option ℕ). IfSome p (λ n. word ≡ decimal n)) (sym e) tt

pub number_refused : {E : Type 0} (word : List ℕ) (r : Result ℕ E) (o : Option ℕ) → ParsesUnsigned 64 10 word r → o ≡ result_ok r → IsNone o → (n : ℕ) → n < 2 ^ 64 → word ≢ decimal n
number_refused {E} word (Ok m) o h e none n lt is =
    let clash : IsNone (Some m) = subst (λ (p : Option ℕ). IsNone p) e none in
    cc
number_refused {E} word (Err f) o h e none n lt is = tells_none word n f (Err f) h refl lt is

-- a word tells one number
pub one_number : (word : List ℕ) (m n : ℕ) → m < 2 ^ 64 → n < 2 ^ 64 → word ≡ decimal m → word ≡ decimal n → m ≡ n
one_number word m n a b e f = decimal_injective m n a b (sym e ∙ f)

-- ---- numbers in a range

all_so : (a b c : Bool) (v : ℕ) → a ≡ true → b ≡ true → c ≡ true → (if a && b && c then Some v else None) ≡ Some v
all_so a b c v e f g = rw (e, f, g) refl

not_all : (a b c : Bool) (v : ℕ) → (a ≡ true → b ≡ true → c ≡ true → ⊥) → (if a && b && c then Some v else None) ≡ None
not_all true true true v h = absurd (h refl refl refl)
not_all true true false v h = refl
not_all true false c v h = refl
not_all false b c v h = refl

not_below : (a b : ℕ) → b ≤ a → not (nat_lt a b) ≡ true
not_below a b le = by_test (nat_lt a b) refl where
  by_test : (t : Bool) → nat_lt a b ≡ t → not t ≡ true
  by_test true e = absurd (omega (arith, le, ltb-true a b e))
  by_test false e = refl

at_least : (a b : ℕ) → not (nat_lt a b) ≡ true → b ≤ a
at_least a b h = elim (cases_lt a b) [
  | inl lt ↦ absurd (let e = lt-ltb a b lt in cc)
  | inr le ↦ le
]

-- the word writes this number of the range
pub in_range : (first last n : ℕ) (word : List ℕ) → word ≡ decimal n → n < 2 ^ 64 → first ≤ n → n ≤ last → number_in first last word ≡ Some n
in_range first last n word e lt low high =
    let v : digits_value 10 word ≡ n = ap (digits_value 10) e ∙ digits_value-decimal own n lt in
    let same = (bytes_eq-Decides word (decimal (digits_value 10 word))).1 (e ∙ ap decimal (sym v)) in
    all_so (bytes_eq word (decimal (digits_value 10 word))) (not (nat_lt (digits_value 10 word) first)) (not (nat_lt last (digits_value 10 word))) (digits_value 10 word) same (not_below (digits_value 10 word) first (omega (arith, v, low))) (not_below last (digits_value 10 word) (omega (arith, v, high))) ∙ ap Some v

-- it writes one out of the range
pub out_of_range : (first last n : ℕ) (word : List ℕ) → word ≡ decimal n → n < 2 ^ 64 → (first ≤ n → n ≤ last → ⊥) → number_in first last word ≡ None
out_of_range first last n word e lt out =
    let v : digits_value 10 word ≡ n = ap (digits_value 10) e ∙ digits_value-decimal own n lt in
    not_all (bytes_eq word (decimal (digits_value 10 word))) (not (nat_lt (digits_value 10 word) first)) (not (nat_lt last (digits_value 10 word))) (digits_value 10 word)
    (λ a b c. out (omega (arith, v, at_least (digits_value 10 word) first b)) (omega (arith, v, at_least last (digits_value 10 word) c)))

-- it writes none
pub no_number : (first last : ℕ) (word : List ℕ) → last < 2 ^ 64 → ((n : ℕ) → n < 2 ^ 64 → word ≢ decimal n) → number_in first last word ≡ None
no_number first last word few none =
    let v = digits_value 10 word in
    not_all (bytes_eq word (decimal v)) (not (nat_lt v first)) (not (nat_lt last v)) v
    (λ a b c. none v (omega (arith, few, at_least last v c)) ((bytes_eq-Decides word (decimal v)).0 a))

-- ---- the word that tells the workers

front_told : (word front rest : List ℕ) → word ≡ front ++ rest → starts_with nat_eq word front ≡ true
front_told word front rest e =
    (bytes_eq-Decides front (take (length front) word)).1 (sym (ap (take (length front)) e ∙ take-append-le (length front) front rest (omega arith) ∙ take_all (length front) front (omega arith)))

front_back : (word front : List ℕ) → starts_with nat_eq word front ≡ true → word ≡ front ++ drop (length front) word
front_back word front e =
    sym (take-append-drop (length front) word) ∙ ap (λ t. t ++ drop (length front) word) (sym ((bytes_eq-Decides front (take (length front) word)).0 e))

-- one that doesn't begin so
pub tells_no_workers : (word : List ℕ) → ((rest : List ℕ) → word ≢ workers_word ++ rest) → workers_in word ≡ None
tells_no_workers word lacks = by_test (starts_with nat_eq word workers_word) refl where
  by_test : (b : Bool) → starts_with nat_eq word workers_word ≡ b → (if b then number_in 1 16 (drop (length workers_word) word) else None) ≡ None
  by_test true e = absurd (lacks (drop (length workers_word) word) (front_back word workers_word e))
  by_test false e = refl

-- one that does
pub tells_workers : (word number : List ℕ) → word ≡ workers_word ++ number → workers_in word ≡ number_in 1 16 number
tells_workers word number e = by_test (starts_with nat_eq word workers_word) (front_told word workers_word number e) where
  by_test : (b : Bool) → b ≡ true → (if b then number_in 1 16 (drop (length workers_word) word) else None) ≡ number_in 1 16 number
  by_test true t = ap (λ w. number_in 1 16 (drop (length workers_word) w)) e
  by_test false t = absurd cc
