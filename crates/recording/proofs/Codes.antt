-- Things none of which begins another: octets are read as such in one way alone.
use Rattle.std.proofs.Common.{◌≡◌, ◌∙◌, ap, sym, refl, subst, inl, inr, ℕ, zero, suc, ◌+◌, ◌<◌, ◌≤◌, ◌⊎◌, List, [], ◌∷◌, ◌++◌, length, get_or, drop, arith, append_assoc, append-nil, length-append}
use Rattle.std.specs.List.{flat_map, AllByRecursion}
use Rattle.std.proofs.lemmas.Bool.{cases_lt}
use Rattle.std.proofs.lemmas.List.{get_or-drop, get_or_past, drop_at}
use Rattle.std.proofs.lemmas.List.Concat.{flat_map-append}
use Rattle.std.specs.Prelude.{All}
use Rattle.recording.specs.declared.ending.Ending.{Ending}
use Rattle.recording.specs.declared.ending.Ending.TheVariants.{Nothing, Other, Truncated}
use Rattle.recording.specs.Endings.{IsTruncated, EndsSo, AreWritten}

pub record IsCode (T : Type 0) (Fits : T → Type 0) (encoded : T → List ℕ) (IsOther : List ℕ → Type 0) (IsPartial : List ℕ → Type 0) : Type 0 where
  pub some : (x : T) → 0 < length (encoded x)
  pub same : (x y : T) (r t : List ℕ) → Fits x → Fits y → encoded x ++ r ≡ encoded y ++ t → (x ≡ y) × (r ≡ t)
  pub other_some : IsOther [] → ⊥
  pub goes_on : (rest more : List ℕ) → IsOther rest → IsOther (rest ++ more)
  pub none : (x : T) (more : List ℕ) → Fits x → IsOther (encoded x ++ more) → ⊥
  pub partial_some : (rest : List ℕ) → IsPartial rest → 0 < length rest
  pub partial_first : (rest : List ℕ) (x : T) (next : List ℕ) → IsPartial rest → Fits x → rest ≡ encoded x ++ next → ⊥
  pub other_partial : (rest : List ℕ) → IsOther rest → IsPartial rest → ⊥

-- a prefix of one, and not all of it, begins with no whole one
pub truncated_first : {T : Type 0} {Fits : T → Type 0} {encoded : T → List ℕ} (same : (x y : T) (r t : List ℕ) → Fits x → Fits y → encoded x ++ r ≡ encoded y ++ t → (x ≡ y) × (r ≡ t)) (rest : List ℕ) (x : T) (next : List ℕ) → IsTruncated T Fits encoded rest → Fits x → rest ≡ encoded x ++ next → ⊥
truncated_first {encoded} same rest x next h fits e =
    let both : encoded h.one ++ [] ≡ encoded x ++ (next ++ h.more) = append-nil (encoded h.one) ∙ h.whole ∙ ap (λ t. t ++ h.more) e ∙ append_assoc (encoded x) next h.more in
    let one = same h.one x [] (next ++ h.more) h.fits fits both in
    omega (arith, ap length one.1, length-append next h.more, h.missing)

-- where a reading ends none begins
pub ends_none : {T : Type 0} {Fits : T → Type 0} {encoded : T → List ℕ} {IsOther : List ℕ → Type 0} {IsPartial : List ℕ → Type 0} (code : IsCode T Fits encoded IsOther IsPartial) (ending : Ending) (rest : List ℕ) (x : T) (next : List ℕ) → EndsSo IsOther IsPartial ending rest → Fits x → rest ≡ encoded x ++ next → ⊥
ends_none {encoded} code Nothing rest x next h fits e = omega (arith, code.some x, ap length (sym h ∙ e), length-append (encoded x) next)
ends_none {IsOther} code Other rest x next h fits e = code.none x next fits (subst IsOther e h)
ends_none code Truncated rest x next h fits e = code.partial_first rest x next h fits e

some_rest : (rest : List ℕ) → rest ≡ [] → 0 < length rest → ⊥
some_rest rest e some = omega (arith, ap length e)

no_other : {T : Type 0} {Fits : T → Type 0} {encoded : T → List ℕ} {IsOther : List ℕ → Type 0} {IsPartial : List ℕ → Type 0} (code : IsCode T Fits encoded IsOther IsPartial) (rest : List ℕ) → rest ≡ [] → IsOther rest → ⊥
no_other {IsOther} code rest e o = code.other_some (subst IsOther e o)

-- it ends in one way
pub endings_same : {T : Type 0} {Fits : T → Type 0} {encoded : T → List ℕ} {IsOther : List ℕ → Type 0} {IsPartial : List ℕ → Type 0} (code : IsCode T Fits encoded IsOther IsPartial) (e f : Ending) (rest : List ℕ) → EndsSo IsOther IsPartial e rest → EndsSo IsOther IsPartial f rest → e ≡ f
endings_same code Nothing Nothing rest h k = refl
endings_same code Nothing Other rest h k = absurd (no_other code rest h k)
endings_same code Nothing Truncated rest h k = absurd (some_rest rest h (code.partial_some rest k))
endings_same code Other Nothing rest h k = absurd (no_other code rest k h)
endings_same code Other Other rest h k = refl
endings_same code Other Truncated rest h k = absurd (code.other_partial rest h k)
endings_same code Truncated Nothing rest h k = absurd (some_rest rest k (code.partial_some rest h))
endings_same code Truncated Other rest h k = absurd (code.other_partial rest k h)
endings_same code Truncated Truncated rest h k = refl

all_same : {T : Type 0} {Fits : T → Type 0} {encoded : T → List ℕ} {IsOther : List ℕ → Type 0} {IsPartial : List ℕ → Type 0} (code : IsCode T Fits encoded IsOther IsPartial) (xs ys : List T) (r t : List ℕ) (e f : Ending) → AllByRecursion Fits xs → AllByRecursion Fits ys → EndsSo IsOther IsPartial e r → EndsSo IsOther IsPartial f t → flat_map encoded xs ++ r ≡ flat_map encoded ys ++ t → (xs ≡ ys) × (r ≡ t)
all_same code [] [] r t e f hx hy ex ey h = (refl, h)
all_same {encoded} code [] (y ∷ ys) r t e f hx hy ex ey h = absurd (ends_none code e r y (flat_map encoded ys ++ t) ex hy.0 (h ∙ append_assoc (encoded y) (flat_map encoded ys) t))
all_same {encoded} code (x ∷ xs) [] r t e f hx hy ex ey h = absurd (ends_none code f t x (flat_map encoded xs ++ r) ey hx.0 (sym h ∙ append_assoc (encoded x) (flat_map encoded xs) r))
all_same {encoded} code (x ∷ xs) (y ∷ ys) r t e f hx hy ex ey h =
    let one = code.same x y (flat_map encoded xs ++ r) (flat_map encoded ys ++ t) hx.0 hy.0 (sym (append_assoc (encoded x) (flat_map encoded xs) r) ∙ h ∙ append_assoc (encoded y) (flat_map encoded ys) t) in
    let others = all_same code xs ys r t e f hx.1 hy.1 ex ey one.1 in
    ((λ i. one.0 i ∷ others.0 i), others.1)

-- the same octets are the same things, and end in the same way
pub written_same : {T : Type 0} {Fits : T → Type 0} {encoded : T → List ℕ} {IsOther : List ℕ → Type 0} {IsPartial : List ℕ → Type 0} (code : IsCode T Fits encoded IsOther IsPartial) (octets : List ℕ) (xs ys : List T) (e f : Ending) → AreWritten T Fits encoded IsOther IsPartial octets xs e → AreWritten T Fits encoded IsOther IsPartial octets ys f → (xs ≡ ys) × (e ≡ f)
written_same {T} {Fits} {encoded} {IsOther} {IsPartial} code octets xs ys e f h k =
    let all = all_same code xs ys h.rest k.rest e f h.fit k.fit h.ends k.ends (sym h.whole ∙ k.whole) in
    (all.0, endings_same code e f h.rest h.ends (subst (EndsSo IsOther IsPartial f) (sym all.1) k.ends))

-- ---- each list of octets is read

abbrev pub IsBytes : List ℕ → Type 0
IsBytes octets = (i : ℕ) → get_or octets i 0 < 256

pub bytes_of : (octets : List ℕ) → All (λ octet. octet < 256) octets → IsBytes octets
bytes_of octets all i =
    elim (cases_lt i (length octets)) [
      | inl within ↦ all i 0 within
      | inr past ↦ omega (arith, get_or_past octets i 0 past)
    ]

pub rest_bytes : (octets prefix rest : List ℕ) → IsBytes octets → octets ≡ prefix ++ rest → IsBytes rest
rest_bytes octets prefix rest bytes e i =
    let at : get_or rest i 0 ≡ get_or octets (length prefix + i) 0 = ap (λ t. get_or t i 0) (sym (drop_at prefix rest (length prefix) refl) ∙ ap (drop (length prefix)) (sym e)) ∙ get_or-drop (length prefix) octets i 0 in
    omega (arith, at, bytes (length prefix + i))

-- octets begin with one of them
pub record BeginsOne (T : Type 0) (Fits : T → Type 0) (encoded : T → List ℕ) (octets : List ℕ) : Type 0 where
  pub one : T
  pub next : List ℕ
  pub fits : Fits one
  pub whole : octets ≡ encoded one ++ next

abbrev pub Begins : (T : Type 0) → (T → Type 0) → (T → List ℕ) → (List ℕ → Type 0) → (List ℕ → Type 0) → List ℕ → Type 0
Begins T Fits encoded IsOther IsPartial octets = BeginsOne T Fits encoded octets ⊎ (IsOther octets ⊎ IsPartial octets)

-- what begins at each place
pub record Decides (T : Type 0) (Fits : T → Type 0) (encoded : T → List ℕ) (IsOther : List ℕ → Type 0) (IsPartial : List ℕ → Type 0) : Type 0 where
  pub some : (x : T) → 0 < length (encoded x)
  pub begins : (octets : List ℕ) → IsBytes octets → 0 < length octets → Begins T Fits encoded IsOther IsPartial octets

pub record WrittenSo (T : Type 0) (Fits : T → Type 0) (encoded : T → List ℕ) (IsOther : List ℕ → Type 0) (IsPartial : List ℕ → Type 0) (octets : List ℕ) : Type 0 where
  pub things : List T
  pub ending : Ending
  pub written : AreWritten T Fits encoded IsOther IsPartial octets things ending

written_none : (T : Type 0) (Fits : T → Type 0) (encoded : T → List ℕ) (IsOther : List ℕ → Type 0) (IsPartial : List ℕ → Type 0) (octets : List ℕ) (ending : Ending) → EndsSo IsOther IsPartial ending octets → WrittenSo T Fits encoded IsOther IsPartial octets
written_none T Fits encoded IsOther IsPartial octets ending ends = record { things = []; ending = ending; written = record { fit = tt; rest = octets; whole = refl; ends = ends } }

pub written_more : (T : Type 0) (Fits : T → Type 0) (encoded : T → List ℕ) (IsOther : List ℕ → Type 0) (IsPartial : List ℕ → Type 0) (octets next : List ℕ) (x : T) (xs : List T) (ending : Ending) → Fits x → octets ≡ encoded x ++ next → AreWritten T Fits encoded IsOther IsPartial next xs ending → AreWritten T Fits encoded IsOther IsPartial octets (x ∷ xs) ending
written_more T Fits encoded IsOther IsPartial octets next x xs ending fits e h =
    record { fit = (fits, h.fit); rest = h.rest; whole = e ∙ ap (λ t. encoded x ++ t) h.whole ∙ sym (append_assoc (encoded x) (flat_map encoded xs) h.rest); ends = h.ends }

written_within : {T : Type 0} {Fits : T → Type 0} {encoded : T → List ℕ} {IsOther : List ℕ → Type 0} {IsPartial : List ℕ → Type 0} (decides : Decides T Fits encoded IsOther IsPartial) (most : ℕ) (octets : List ℕ) → length octets ≤ most → IsBytes octets → WrittenSo T Fits encoded IsOther IsPartial octets
written_within {T} {Fits} {encoded} {IsOther} {IsPartial} decides most [] short bytes = written_none T Fits encoded IsOther IsPartial [] Nothing refl
written_within decides zero (b ∷ bs) short bytes = absurd (omega arith)
written_within {T} {Fits} {encoded} {IsOther} {IsPartial} decides (suc most) (b ∷ bs) short bytes =
    elim (decides.begins (b ∷ bs) bytes (omega arith)) [
      | inl one ↦ (let long : length (b ∷ bs) ≡ length (encoded one.one) + length one.next = ap length one.whole ∙ length-append (encoded one.one) one.next in
          let others = written_within decides most one.next (omega (arith, long, short, decides.some one.one)) (rest_bytes (b ∷ bs) (encoded one.one) one.next bytes one.whole) in
          record { things = one.one ∷ others.things; ending = others.ending; written = written_more T Fits encoded IsOther IsPartial (b ∷ bs) one.next one.one others.things others.ending one.fits one.whole others.written })
      | inr (inl o) ↦ written_none T Fits encoded IsOther IsPartial (b ∷ bs) Other o
      | inr (inr o) ↦ written_none T Fits encoded IsOther IsPartial (b ∷ bs) Truncated o
    ]

pub some_written : {T : Type 0} {Fits : T → Type 0} {encoded : T → List ℕ} {IsOther : List ℕ → Type 0} {IsPartial : List ℕ → Type 0} (decides : Decides T Fits encoded IsOther IsPartial) (octets : List ℕ) → IsBytes octets → WrittenSo T Fits encoded IsOther IsPartial octets
some_written decides octets bytes = written_within decides (length octets) octets (omega arith) bytes

-- ---- reading goes on

-- the whole things before what is left
pub record PrefixOf (T : Type 0) (Fits : T → Type 0) (encoded : T → List ℕ) (octets : List ℕ) (things : List T) (rest : List ℕ) : Type 0 where
  pub fit : AllByRecursion Fits things
  pub whole : octets ≡ flat_map encoded things ++ rest

pub all_push : {T : Type 0} (Fits : T → Type 0) (xs : List T) (x : T) → AllByRecursion Fits xs → Fits x → AllByRecursion Fits (xs ++ x ∷ [])
all_push Fits [] x h fits = (fits, tt)
all_push Fits (y ∷ ys) x h fits = (h.0, all_push Fits ys x h.1 fits)

pub prefix_push : {T : Type 0} {Fits : T → Type 0} {encoded : T → List ℕ} (octets rest next : List ℕ) (xs : List T) (x : T) → PrefixOf T Fits encoded octets xs rest → Fits x → rest ≡ encoded x ++ next → PrefixOf T Fits encoded octets (xs ++ x ∷ []) next
prefix_push {T} {Fits} {encoded} octets rest next xs x h fits e =
    record {
      fit = all_push Fits xs x h.fit fits;
      whole = h.whole ∙ ap (λ t. flat_map encoded xs ++ t) e ∙ sym (append_assoc (flat_map encoded xs) (encoded x) next)
          ∙ ap (λ t. t ++ next) (ap (λ t. flat_map encoded xs ++ t) (sym (append-nil (encoded x))) ∙ sym (flat_map-append encoded xs (x ∷ [])));
    }
