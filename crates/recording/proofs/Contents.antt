-- A header and items are the contents of what begins so.
use Rattle.std.proofs.Common.{◌≡◌, ◌∙◌, ap, sym, refl, subst, inl, inr, ℕ, ◌+◌, ◌-◌, ◌<◌, ◌^◌, List, [], ◌∷◌, ◌++◌, length, get_or, drop, arith}
use Rattle.std.specs.Prelude.{Bool, Option, Some, None, Result, Ok, Err, IfErr}
use Rattle.std.specs.Result.{IsErrAnd}
use Rattle.std.specs.List.{flat_map, AllByRecursion}
use Rattle.recording.specs.declared.ending.Ending.{Ending}
use Rattle.recording.specs.declared.header.Header.{Header}
use Rattle.recording.specs.declared.header.Header.TheVariants.{Second}
use Rattle.asterix_frame.specs.Values.{big_endian}
use Rattle.recording.specs.Endings.{fault_of}
use Rattle.recording.specs.Items.{Item, IsItem, AreItems, item_octets}
use Rattle.recording.specs.Readings.{HasContents, HasHeader, magic, header_octets, recording}
use Rattle.recording.proofs.RawItems.{raw_fits}

-- an error that is passed on
pub err_so : {V E : Type 0} (r : Result V E) (e : E) (P : E → Type 0) → IsErrAnd r (λ x. x ≡ e) → P e → IfErr r P
err_so (Ok v) e P h p = tt
err_so (Err x) e P h p = subst P (sym h) p

abbrev pub first_octet : List ℕ → ℕ
first_octet octets = get_or octets 0 0

pub after_first : (octets : List ℕ) → 0 < length octets → octets ≡ first_octet octets ∷ drop 1 octets
after_first [] some = absurd (omega arith)
after_first (octet ∷ octets) some = refl

pub begins_with : (octets : List ℕ) (n : ℕ) → 0 < length octets → first_octet octets ≡ n → octets ≡ n ∷ drop 1 octets
begins_with octets n some e = after_first octets some ∙ ap (λ t. t ∷ drop 1 octets) e

pub contents_read : (octets after rest : List ℕ) (goes_on : Bool) (h : Header) (start : ℕ) (items : List Item) (ending : Ending) (offset : ℕ) (fault : Option ℕ) → octets ≡ magic h ++ after → start < 2 ^ 40 → after ≡ big_endian 5 start ++ rest
    → AreItems h rest items ending → offset ≡ length octets - length rest + length (flat_map item_octets items) → fault ≡ fault_of ending goes_on offset (length octets) → HasContents octets goes_on (Some h) start items fault
contents_read octets after rest goes_on h start items ending offset fault m fits t are at f =
    let whole : octets ≡ header_octets h start ++ rest = m ∙ ap (λ t. magic h ++ t) t in
    let place : offset ≡ length (recording h start items) = omega (arith, at, ap length whole) in
    inl (record { start_fits = fits; after = rest; whole = whole; ending = ending; items_are = are; fault_is = f ∙ ap (λ n. fault_of ending goes_on n (length octets)) place })

pub no_start_read : (octets after : List ℕ) (goes_on : Bool) (h : Header) → octets ≡ magic h ++ after → length after < 5 → HasContents octets goes_on (Some h) 0 [] (Some 4)
no_start_read octets after goes_on h m short = inr (record { few = after; short = short; whole = m; start_is = refl; items_are = refl; fault_is = refl })

-- octets without a magic are read in the raw form, whose items fit
pub raw_items_fit : (octets : List ℕ) (goes_on : Bool) (h : Option Header) (start : ℕ) (items : List Item) (fault : Option ℕ) → HasHeader None octets → HasContents octets goes_on h start items fault → AllByRecursion (IsItem Second) items
raw_items_fit octets goes_on (Some h) start items fault other (inl a) = absurd (other h _ a.whole)
raw_items_fit octets goes_on (Some h) start items fault other (inr a) = absurd (other h a.few a.whole)
raw_items_fit octets goes_on None start items fault other a = raw_fits octets goes_on start items fault a
