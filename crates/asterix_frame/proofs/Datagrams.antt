-- A datagram has exactly one reading down to its items: it is whole blocks, or has one first fault.
use Rattle.std.proofs.Common.{◌≡◌, ◌∙◌, ap, sym, refl, subst, inl, inr, ℕ, ◌+◌, ◌<◌, ◌⊎◌, List, [], ◌∷◌, ◌++◌, length, drop, arith, append_assoc, length-append}
use Rattle.std.specs.Prelude.{All}
use Rattle.std.proofs.lemmas.Bool.{cases_eq}
use Rattle.std.proofs.lemmas.List.{drop_at}
use Rattle.std.proofs.lemmas.List.Elements.{All-drop}
use Rattle.asterix_frame.specs.declared.tables.Uap.{Uap}
use Rattle.asterix_frame.specs.declared.tables.Uap.TheVariants.{Cat034, Cat048}
use Rattle.asterix_frame.specs.Tables.{category_of}
use Rattle.asterix_frame.specs.Blocks.{DataBlock, IsDataBlock, AreDataBlocks, BeginsNone, encoded, encoding}
use Rattle.asterix_frame.specs.Bodies.{IsBody, BodyFault, body_of}
use Rattle.asterix_frame.specs.Datagrams.{Content, records, other, block_of, IsReadCategory, IsContent, IsDatagram, BeginsNoContent, no_block, no_records, DatagramFault}
use Rattle.asterix_frame.proofs.Heads.{same_fault, begins_block, same_block}
use Rattle.asterix_frame.proofs.Readings as heads
use Rattle.asterix_frame.proofs.Bodies as bodies
use Rattle.asterix_frame.proofs.Sequences as sequences

abbrev octets_of : Content → List ℕ
octets_of c = encoded (block_of c)

abbrev block_with : Uap → List ℕ → DataBlock
block_with uap body = record { category = category_of uap; body = body }

fits : (c : Content) → IsContent c → IsDataBlock (block_of c)
fits (records uap rs) h = h.2
fits (other category body) h = h.2

read_same : (u v : Uap) → IsReadCategory u → IsReadCategory v → category_of u ≡ category_of v → u ≡ v
read_same u v (inl a) (inl b) e = a ∙ sym b
read_same u v (inl a) (inr b) e = absurd (let f : ◌≡◌ {A = ℕ} 34 48 = sym (ap category_of a) ∙ e ∙ ap category_of b in omega arith)
read_same u v (inr a) (inl b) e = absurd (let f : ◌≡◌ {A = ℕ} 48 34 = sym (ap category_of a) ∙ e ∙ ap category_of b in omega arith)
read_same u v (inr a) (inr b) e = a ∙ sym b

not_read : (u : Uap) (category : ℕ) → IsReadCategory u → (category ≡ 34 → ⊥) → (category ≡ 48 → ⊥) → category_of u ≡ category → ⊥
not_read u category (inl a) h k e = h (sym e ∙ ap category_of a)
not_read u category (inr a) h k e = k (sym e ∙ ap category_of a)

-- ---- octets begin one block at most, or have one fault

some : (c : Content) → IsContent c → 0 < length (octets_of c)
some c h = omega arith

same_content : (c d : Content) → IsContent c → IsContent d → block_of c ≡ block_of d → c ≡ d
same_content (records u rs) (records v qs) h k e =
    let uap = read_same u v h.0 k.0 (ap (λ b. b.category) e) in
    let body : body_of rs ≡ body_of qs = ap (λ b. b.body) e in
    let one = bodies.one_list u (body_of rs) rs qs (record { are_records = h.1; whole = refl }) (subst (λ v. IsBody v (body_of rs) qs) (sym uap) (record { are_records = k.1; whole = body })) in
    λ i. records (uap i) (one i)
same_content (records u rs) (other category body) h k e = absurd (not_read u category h.0 k.0 k.1 (ap (λ b. b.category) e))
same_content (other category body) (records u rs) h k e = absurd (not_read u category k.0 h.0 h.1 (sym (ap (λ b. b.category) e)))
same_content (other category body) (other category' body') h k e = λ i. other ((e i).category) ((e i).body)

same : (c d : Content) (r t : List ℕ) → IsContent c → IsContent d → octets_of c ++ r ≡ octets_of d ++ t → (c ≡ d) × (r ≡ t)
same c d r t h k e =
    let one = same_block (block_of c) (block_of d) r t (fits c h) (fits d k) e in
    (same_content c d h k one.0, one.1)

record BodyFaultOf : Type 0 where
  uap : Uap
  body : List ℕ
  body_offset : ℕ
  cause : ℕ
  is_read : IsReadCategory uap
  fault : BodyFault uap body body_offset cause

content_not_faulty : (c : Content) (f : BodyFaultOf) → IsContent c → block_of c ≡ block_with f.uap f.body → ⊥
content_not_faulty (records u rs) f h e =
    let uap = read_same u f.uap h.0 f.is_read (ap (λ b. b.category) e) in
    let body : f.body ≡ body_of rs = sym (ap (λ b. b.body) e) in
    bodies.not_both f.uap f.body rs f.body_offset f.cause (subst (λ v. IsBody v f.body rs) uap (record { are_records = h.1; whole = body })) f.fault
content_not_faulty (other category body) f h e = not_read f.uap category f.is_read h.0 h.1 (sym (ap (λ b. b.category) e))

not_none : (c : Content) (r : List ℕ) (inside cause : ℕ) → IsContent c → BeginsNoContent (octets_of c ++ r) inside cause → ⊥
not_none c r inside cause h (no_block none) = begins_block (block_of c) r inside cause (fits c h) none
not_none c r inside cause h (no_records f) =
    let one = same_block (block_of c) (block_with f.uap f.body) r f.rest (fits c h) f.is_block f.begins in
    content_not_faulty c (record { uap = f.uap; body = f.body; body_offset = f.body_offset; cause = cause; is_read = f.is_read; fault = f.fault }) h one.0

not_empty : (inside cause : ℕ) → BeginsNoContent [] inside cause → ⊥
not_empty inside cause (no_block none) = none
not_empty inside cause (no_records f) = omega (arith, ap length f.begins, length-append (encoded (block_with f.uap f.body)) f.rest)

one_fault : (o : List ℕ) (i c i' c' : ℕ) → BeginsNoContent o i c → BeginsNoContent o i' c' → (i ≡ i') × (c ≡ c')
one_fault o i c i' c' (no_block f) (no_block g) = same_fault o i c i' c' f g
one_fault o i c i' c' (no_block f) (no_records g) = absurd (begins_block (block_with g.uap g.body) g.rest i c g.is_block (subst (λ t. BeginsNone t i c) g.begins f))
one_fault o i c i' c' (no_records f) (no_block g) = absurd (begins_block (block_with f.uap f.body) f.rest i' c' f.is_block (subst (λ t. BeginsNone t i' c') f.begins g))
one_fault o i c i' c' (no_records f) (no_records g) =
    let one = same_block (block_with f.uap f.body) (block_with g.uap g.body) f.rest g.rest f.is_block g.is_block (sym f.begins ∙ g.begins) in
    let uap = read_same f.uap g.uap f.is_read g.is_read (ap (λ b. b.category) one.0) in
    let body : f.body ≡ g.body = ap (λ b. b.body) one.0 in
    let fault = bodies.one_fault g.uap g.body f.body_offset c g.body_offset c' (subst (λ v. BodyFault v g.body f.body_offset c) uap (subst (λ t. BodyFault f.uap t f.body_offset c) body f.fault)) g.fault in
    (f.inside_is ∙ ap (λ k. 3 + k) fault.0 ∙ sym g.inside_is, fault.1)

content_code : sequences.AreCode Content octets_of IsContent BeginsNoContent
content_code = record { some = some; same = same; not_none = not_none; not_empty = not_empty; one_fault = one_fault }

-- ---- one reading

abbrev WholeDatagram : List ℕ → List Content → Type 0
WholeDatagram = sequences.Whole Content octets_of IsContent BeginsNoContent

abbrev FaultyDatagram : List ℕ → ℕ → ℕ → Type 0
FaultyDatagram = sequences.FirstFault Content octets_of IsContent BeginsNoContent

to_whole : (d : List ℕ) (cs : List Content) → IsDatagram d cs → WholeDatagram d cs
to_whole d cs h = record { all = h.are_contents; whole = h.whole }

to_fault : (d : List ℕ) (o c : ℕ) → DatagramFault d o c → FaultyDatagram d o c
to_fault d o c f = record { prefix = f.prefix; rest = f.rest; inside = f.inside; all = f.are_contents; whole = f.whole; none = f.none; offset_is = f.offset_is }

pub one_list : (d : List ℕ) (cs cs' : List Content) → IsDatagram d cs → IsDatagram d cs' → cs ≡ cs'
one_list d cs cs' a b = sequences.one_list Content octets_of IsContent BeginsNoContent content_code d cs cs' (to_whole d cs a) (to_whole d cs' b)

pub first_fault : (d : List ℕ) (o c o' c' : ℕ) → DatagramFault d o c → DatagramFault d o' c' → (o ≡ o') × (c ≡ c')
first_fault d o c o' c' f g = sequences.one_fault Content octets_of IsContent BeginsNoContent content_code d o c o' c' (to_fault d o c f) (to_fault d o' c' g)

pub not_both : (d : List ℕ) (cs : List Content) (o c : ℕ) → IsDatagram d cs → DatagramFault d o c → ⊥
not_both d cs o c a f = sequences.not_both Content octets_of IsContent BeginsNoContent content_code d cs o c (to_whole d cs a) (to_fault d o c f)

-- ---- there is one

abbrev AreOctets : List ℕ → Type 0
AreOctets = All (λ octet. octet < 256)

-- octets begin a block, or none
record HeadCase (o : List ℕ) : Type 0 where
  head : ((b : DataBlock) × (rest : List ℕ) × IsDataBlock b × (o ≡ encoded b ++ rest)) ⊎ ((inside : ℕ) × (cause : ℕ) × BeginsNone o inside cause)

whole_head : (o : List ℕ) (bs : List DataBlock) → 0 < length o → AreDataBlocks bs → o ≡ encoding bs → HeadCase o
whole_head o [] h good e = absurd (omega (arith, h, ap length e))
whole_head o (b ∷ bs) h good e = record { head = inl (b, encoding bs, good.0, e) }

faulty_head : (o : List ℕ) (offset cause : ℕ) (prefix : List DataBlock) (rest : List ℕ) (inside : ℕ) → AreDataBlocks prefix → o ≡ encoding prefix ++ rest → BeginsNone rest inside cause → HeadCase o
faulty_head o offset cause [] rest inside good e none = record { head = inr (inside, cause, subst (λ t. BeginsNone t inside cause) (sym e) none) }
faulty_head o offset cause (b ∷ bs) rest inside good e none = record { head = inl (b, encoding bs ++ rest, good.0, e ∙ append_assoc (encoded b) (encoding bs) rest) }

head_case : (o : List ℕ) → AreOctets o → 0 < length o → HeadCase o
head_case o all h =
    elim (heads.some_reading (length o) o (omega arith) all) [
      | inl (bs, good, e) ↦ whole_head o bs h good e
      | inr (offset, cause, f) ↦ faulty_head o offset cause f.prefix f.rest f.inside f.blocks f.whole f.none
    ]

abbrev DatagramStep : List ℕ → Type 0
DatagramStep = sequences.Step Content octets_of IsContent BeginsNoContent content_code AreOctets

step_read : (uap : Uap) (o : List ℕ) (b : DataBlock) (rest : List ℕ) → IsReadCategory uap → b.category ≡ category_of uap → IsDataBlock b → o ≡ encoded b ++ rest → AreOctets rest → DatagramStep o
step_read uap o b rest is category fit e good =
    elim (bodies.some_reading uap b.body) [
      | inl (rs, w) ↦
          let body : b.body ≡ body_of rs = w.whole in
          let block : b ≡ block_of (records uap rs) = λ i. record { category = category i; body = body i } in
          record { step = inl (records uap rs, rest, (is, w.are_records, subst IsDataBlock block fit), e ∙ ap (λ b. encoded b ++ rest) block, good) }
      | inr (body_offset, cause, f) ↦
          let block : b ≡ block_with uap b.body = λ i. record { category = category i; body = b.body } in
          record {
            step = inr (
              3 + body_offset,
              cause,
              no_records (record {
                uap = uap;
                body = b.body;
                rest = rest;
                body_offset = body_offset;
                is_read = is;
                is_block = subst IsDataBlock block fit;
                begins = e ∙ ap (λ b. encoded b ++ rest) block;
                fault = f;
                inside_is = refl;
              }),
            );
          }
    ]

step : (o : List ℕ) → AreOctets o → 0 < length o → DatagramStep o
step o all h =
    elim (head_case o all h).head [
      | inr (inside, cause, none) ↦ record { step = inr (inside, cause, no_block none) }
      | inl (b, rest, fit, e) ↦
          let after : drop (length (encoded b)) o ≡ rest = ap (drop (length (encoded b))) e ∙ drop_at (encoded b) rest (length (encoded b)) refl in
          let good = subst AreOctets after (All-drop (λ octet. octet < 256) (length (encoded b)) o all) in
          elim (cases_eq b.category 34) [
            | inl is ↦ step_read Cat034 o b rest (inl refl) is fit e good
            | inr a ↦ elim (cases_eq b.category 48) [
              | inl is ↦ step_read Cat048 o b rest (inr refl) is fit e good
              | inr c ↦ record { step = inl (other b.category b.body, rest, (a, c, fit), e, good) }
            ]
          ]
    ]

pub some_reading : (d : List ℕ) → AreOctets d → ((cs : List Content) × IsDatagram d cs) ⊎ ((o : ℕ) × (c : ℕ) × DatagramFault d o c)
some_reading d all =
    elim (sequences.some_reading Content octets_of IsContent BeginsNoContent content_code AreOctets step (length d) d (omega arith) all).reading [
      | inl (cs, w) ↦ inl (cs, record { are_contents = w.all; whole = w.whole })
      | inr (o, c, f) ↦ inr (o, c, record { prefix = f.prefix; rest = f.rest; inside = f.inside; are_contents = f.all; whole = f.whole; none = f.none; offset_is = f.offset_is })
    ]
