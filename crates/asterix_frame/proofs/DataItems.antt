-- The items of a record with its time of day: found by FRN, judged, and where they lie.
use Rattle.std.proofs.Common.{◌≡◌, ◌∙◌, ap, sym, refl, subst, inl, inr, zero, suc, ℕ, ◌+◌, ◌*◌, ◌<◌, ◌≤◌, ◌==◌, Bool, true, false, List, [], ◌∷◌, ◌++◌, length, arith, eq-eqb, ne_eqb, Option, Some, None}
use Rattle.std.specs.Prelude.{if◌then◌else◌, IfSome, IsSomeAnd}
use Rattle.std.specs.List.{AllByRecursion}
use Rattle.std.specs.Option.{option_and_then}
use Rattle.std.proofs.lemmas.Bool.{cases_eq}
use Rattle.trk_base.specs.Numbers.{day}
use Rattle.asterix_frame.specs.declared.tables.Uap.{Uap}
use Rattle.asterix_frame.specs.Tables.{table_of, time_frn}
use Rattle.asterix_frame.specs.Presence.{present, present_from, presence}
use Rattle.asterix_frame.specs.Elements.{Element, numbers}
use Rattle.asterix_frame.specs.Items.{IsItem, BeginsNoItem, item_at}
use Rattle.asterix_frame.specs.DataRecords.{item, time_in, time_of, IsDataItem, BeginsNoDataItem, no_item, time_out_of_range}
use Rattle.asterix_frame.proofs.Codes.{IsCode}
use Rattle.asterix_frame.proofs.Heads.{split_same}
use Rattle.asterix_frame.proofs.ItemCodes.{item_code}

-- ---- one item

in_and_late : (o : Option ℕ) → IfSome o (λ t. t < day) → IsSomeAnd o (λ t. day ≤ t) → ⊥
in_and_late None h k = k
in_and_late (Some t) h k = omega arith

module _ (uap : Uap) (n : ℕ) where
  item_one : (p q x y : List ℕ) → IsDataItem uap n p → IsDataItem uap n q → p ++ x ≡ q ++ y → length p ≡ length q
  item_one p q x y hp hq e = (item_code (item_at (table_of uap) n)).one p q x y hp.whole hq.whole e

  item_not_none : (p x : List ℕ) (inside cause : ℕ) → IsDataItem uap n p → BeginsNoDataItem uap n (p ++ x) inside cause → ⊥
  item_not_none p x inside cause h (no_item f) = (item_code (item_at (table_of uap) n)).not_both p x inside cause h.whole f
  item_not_none p x inside cause h (time_out_of_range f i c) =
      let long = (item_code (item_at (table_of uap) n)).one p f.time x f.rest h.whole f.is_item f.begins in
      let same = split_same p f.time x f.rest long f.begins in
      in_and_late (time_in f.time) (subst (λ o. IfSome (time_in o) (λ t. t < day)) same.0 (h.in_day f.is_time)) f.out_of_range

  item_fault : (o : List ℕ) (i c i' c' : ℕ) → BeginsNoDataItem uap n o i c → BeginsNoDataItem uap n o i' c' → (i ≡ i') × (c ≡ c')
  item_fault o i c i' c' (no_item f) (no_item g) = (item_code (item_at (table_of uap) n)).one_fault o i c i' c' f g
  item_fault o i c i' c' (no_item f) (time_out_of_range g a b) = absurd ((item_code (item_at (table_of uap) n)).not_both g.time g.rest i c g.is_item (subst (λ t. BeginsNoItem (item_at (table_of uap) n) t i c) g.begins f))
  item_fault o i c i' c' (time_out_of_range f a b) (no_item g) = absurd ((item_code (item_at (table_of uap) n)).not_both f.time f.rest i' c' f.is_item (subst (λ t. BeginsNoItem (item_at (table_of uap) n) t i' c') f.begins g))
  item_fault o i c i' c' (time_out_of_range f a b) (time_out_of_range g d e) = (a ∙ sym d, b ∙ sym e)

  pub data_item_code : IsCode (λ octets. IsDataItem uap n octets) (BeginsNoDataItem uap n)
  data_item_code = record { one = item_one; not_both = item_not_none; one_fault = item_fault }

-- ---- each FRN at most once

-- they rise, from n on
abbrev pub Rise : ℕ → List ℕ → Type 0
Rise n [] = Unit {0}
Rise n (m ∷ ms) = (n ≤ m) × Rise (m + 1) ms

rise_from : (n m : ℕ) (ms : List ℕ) → n ≤ m → Rise m ms → Rise n ms
rise_from n m [] le h = tt
rise_from n m (x ∷ xs) le h = (omega (arith, le, h.0), h.1)

chosen_rise : (n : ℕ) (b : Bool) (ms : List ℕ) → Rise (suc n) ms → Rise n ((if b then n ∷ [] else []) ++ ms)
chosen_rise n true ms h = (omega arith, rise_from (n + 1) (suc n) ms (omega arith) h)
chosen_rise n false ms h = rise_from n (suc n) ms (omega arith) h

present_rise : (field : List ℕ) (n count : ℕ) → Rise n (present_from field n count)
present_rise field n zero = tt
present_rise field n (suc count) = chosen_rise n (presence field n == 1) (present_from field (suc n) count) (present_rise field (suc n) count)

rise_front : (n : ℕ) (ps : List Element) (left : List ℕ) → Rise n (numbers ps ++ left) → Rise n (numbers ps)
rise_front n [] left h = tt
rise_front n (p ∷ ps) left h = (h.0, rise_front (p.number + 1) ps left h.1)

pub items_rise : (field : List ℕ) (items : List Element) (left : List ℕ) → present field ≡ numbers items ++ left → Rise 0 (numbers items)
items_rise field items left e = rise_front 0 items left (subst (Rise 0) e (present_rise field 0 (7 * length field)))

-- ---- found by FRN

pub item_here : (frn : ℕ) (p : Element) (ps : List Element) → p.number + 1 ≡ frn → item frn (p ∷ ps) ≡ Some p.octets
item_here frn p ps e = ap (λ b. if b then Some p.octets else item frn ps) (eq-eqb (p.number + 1) frn e)

pub item_later : (frn : ℕ) (p : Element) (ps : List Element) → (p.number + 1 ≡ frn → ⊥) → item frn (p ∷ ps) ≡ item frn ps
item_later frn p ps e = ap (λ b. if b then Some p.octets else item frn ps) (ne_eqb (p.number + 1) frn e)

-- ---- judged

module _ (uap : Uap) where
  abbrev AreItems : List Element → Type 0
  AreItems = AllByRecursion (λ p. IsItem (item_at (table_of uap) p.number) p.octets)

  abbrev AreDataItems : List Element → Type 0
  AreDataItems = AllByRecursion (λ p. IsDataItem uap p.number p.octets)

  pub are_whole : (items : List Element) → AreDataItems items → AreItems items
  are_whole [] h = tt
  are_whole (p ∷ ps) h = (h.0.whole, are_whole ps h.1)

  other_item : (p : Element) → (p.number + 1 ≡ time_frn uap → ⊥) → IsItem (item_at (table_of uap) p.number) p.octets → IsDataItem uap p.number p.octets
  other_item p other h = record { whole = h; in_day = λ e. absurd (other e) }

  after : (items : List Element) → AreItems items → Rise (time_frn uap) (numbers items) → AreDataItems items
  after [] h r = tt
  after (p ∷ ps) h r = (other_item p (λ e. omega (arith, e, r.0)) h.0, after ps h.1 (rise_from (time_frn uap) (p.number + 1) (numbers ps) (omega (arith, r.0)) r.1))

  -- whole items whose time of day, if there is one, is below a day
  pub judged : (items : List Element) (n : ℕ) → AreItems items → Rise n (numbers items) → IfSome (time_of uap items) (λ t. t < day) → AreDataItems items
  judged [] n h r t = tt
  judged (p ∷ ps) n h r t =
      elim (cases_eq (p.number + 1) (time_frn uap)) [
        | inl same ↦ (record { whole = h.0; in_day = λ _. subst (λ o. IfSome (option_and_then time_in o) (λ t. t < day)) (item_here (time_frn uap) p ps same) t }, after ps h.1 (subst (λ k. Rise k (numbers ps)) same r.1))
        | inr other ↦ (other_item p other h.0, judged ps (p.number + 1) h.1 r.1 (subst (λ o. IfSome (option_and_then time_in o) (λ t. t < day)) (item_later (time_frn uap) p ps other) t))
      ]

  -- ---- what a reader asks

  -- what holds of each item holds of the one that is found
  pub item_holds : (P : ℕ → List ℕ → Type 0) (frn : ℕ) (items : List Element) (octets : List ℕ) → AllByRecursion (λ p. P p.number p.octets) items → item frn items ≡ Some octets → (n : ℕ) × (n + 1 ≡ frn) × P n octets
  item_holds P frn [] octets h e = absurd (let f : ◌≡◌ {A = Option (List ℕ)} None (Some octets) = e in cc)
  item_holds P frn (p ∷ ps) octets h e =
      elim (cases_eq (p.number + 1) frn) [
        | inl same ↦
            let f : ◌≡◌ {A = Option (List ℕ)} (Some p.octets) (Some octets) = sym (item_here frn p ps same) ∙ e in
            let is : p.octets ≡ octets = cc in
            (p.number, same, subst (λ o. P p.number o) is h.0)
        | inr other ↦ item_holds P frn ps octets h.1 (sym (item_later frn p ps other) ∙ e)
      ]

  time_at : (items : List Element) → AreDataItems items → (o : Option (List ℕ)) → item (time_frn uap) items ≡ o → IfSome (option_and_then time_in o) (λ t. t < day)
  time_at items h None e = tt
  time_at items h (Some octets) e = let found = item_holds (λ n o. IsDataItem uap n o) (time_frn uap) items octets h e in found.2.in_day found.1

  -- the time of day of a record is below a day
  pub time_in_day : (items : List Element) → AreDataItems items → IfSome (time_of uap items) (λ t. t < day)
  time_in_day items h = time_at items h (item (time_frn uap) items) refl
