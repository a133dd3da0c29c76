-- A datagram has exactly one reading: it is whole blocks, or has one first fault.
use Rattle.std.proofs.Common.{◌≡◌, ◌∙◌, ap, sym, inl, inr, zero, suc, ℕ, ◌+◌, ◌-◌, ◌*◌, ◌<◌, ◌≤◌, ◌⊎◌, List, [], ◌∷◌, ◌++◌, length, take, drop, arith, refl, append_assoc, append-nil, length-append, length-drop, length-take, subst}
use Rattle.std.specs.Prelude.{All}
use Rattle.std.specs.Int.{w16, to_be_bytes}
use Rattle.std.proofs.lemmas.List.{take-append-drop}
use Rattle.std.proofs.lemmas.List.Elements.{All-drop}
use Rattle.std.proofs.lemmas.Bool.{cases_lt}
use Rattle.asterix_frame.proofs.Heads.{same_fault, begins_block, same_block, two_octets}
use Rattle.asterix_frame.specs.Blocks.{DataBlock, IsDataBlock, AreDataBlocks, BeginsNone, BlockFault, encoded, encoding}

-- the end of a reading: nothing, or what begins no block
pub record Ends (r : List ℕ) : Type 0 where
  pub ends : (r ≡ []) ⊎ ((inside : ℕ) × (cause : ℕ) × BeginsNone r inside cause)

no_more : (x : DataBlock) (r t : List ℕ) → IsDataBlock x → Ends t → t ≡ encoded x ++ r → ⊥
no_more x r t hx end e =
    elim end.ends [
      | inl nil ↦ (let f : encoded x ++ r ≡ [] = sym e ∙ nil in cc)
      | inr (inside, cause, none) ↦ begins_block x r inside cause hx (subst (λ z. BeginsNone z inside cause) e none)
    ]

pub same_reading : (xs ys : List DataBlock) (r t : List ℕ) → AreDataBlocks xs → AreDataBlocks ys → Ends r → Ends t → encoding xs ++ r ≡ encoding ys ++ t → (xs ≡ ys) × (r ≡ t)
same_reading [] [] r t hx hy er et e = (refl, e)
same_reading [] (y ∷ ys) r t hx hy er et e = absurd (no_more y (encoding ys ++ t) r hy.0 er (e ∙ append_assoc (encoded y) (encoding ys) t))
same_reading (x ∷ xs) [] r t hx hy er et e = absurd (no_more x (encoding xs ++ r) t hx.0 et (sym e ∙ append_assoc (encoded x) (encoding xs) r))
same_reading (x ∷ xs) (y ∷ ys) r t hx hy er et e =
    let prefix = same_block x y (encoding xs ++ r) (encoding ys ++ t) hx.0 hy.0 (sym (append_assoc (encoded x) (encoding xs) r) ∙ e ∙ append_assoc (encoded y) (encoding ys) t) in
    let rest = same_reading xs ys r t hx.1 hy.1 er et prefix.1 in
    (λ i. prefix.0 i ∷ rest.0 i, rest.1)

pub one_list : (bs cs : List DataBlock) → AreDataBlocks bs → AreDataBlocks cs → encoding bs ≡ encoding cs → bs ≡ cs
one_list bs cs hb hc e =
    (same_reading bs cs [] [] hb hc (record { ends = inl refl }) (record { ends = inl refl }) (append-nil (encoding bs) ∙ e ∙ sym (append-nil (encoding cs)))).0

-- whole blocks have no fault
pub not_both : (bs : List DataBlock) (d : List ℕ) (offset cause : ℕ) → AreDataBlocks bs → d ≡ encoding bs → BlockFault d offset cause → ⊥
not_both bs d offset cause h e f =
    let same = same_reading bs f.prefix [] f.rest h f.blocks (record { ends = inl refl }) (record { ends = inr (f.inside, cause, f.none) }) (append-nil (encoding bs) ∙ sym e ∙ f.whole) in
    subst (λ z. BeginsNone z f.inside cause) (sym same.1) f.none

-- and a fault is the only one
pub one_fault : (d : List ℕ) (o c o' c' : ℕ) → BlockFault d o c → BlockFault d o' c' → (o ≡ o') × (c ≡ c')
one_fault d o c o' c' f g =
    let same = same_reading f.prefix g.prefix f.rest g.rest f.blocks g.blocks (record { ends = inr (f.inside, c, f.none) }) (record { ends = inr (g.inside, c', g.none) }) (sym f.whole ∙ g.whole) in
    let one = same_fault g.rest f.inside c g.inside c' (subst (λ z. BeginsNone z f.inside c) same.1 f.none) g.none in
    (f.offset_is ∙ (λ i. length (encoding (same.0 i)) + one.0 i) ∙ sym g.offset_is, one.1)

-- one more block at the prefix
abbrev Reading : List ℕ → Type 0
Reading d = ((bs : List DataBlock) × AreDataBlocks bs × (d ≡ encoding bs)) ⊎ ((offset : ℕ) × (cause : ℕ) × BlockFault d offset cause)

reading_more : (b : DataBlock) (d : List ℕ) → IsDataBlock b → Reading d → Reading (encoded b ++ d)
reading_more b d fits (inl (bs, good, e)) = inl (b ∷ bs, (fits, good), ap (λ t. encoded b ++ t) e)
reading_more b d fits (inr (offset, cause, f)) = inr (
  length (encoded b) + offset,
  cause,
  record {
    prefix = b ∷ f.prefix;
    rest = f.rest;
    inside = f.inside;
    blocks = (fits, f.blocks);
    whole = ap (λ t. encoded b ++ t) f.whole ∙ sym (append_assoc (encoded b) (encoding f.prefix) f.rest);
    none = f.none;
    offset_is = omega (arith, f.offset_is, length-append (encoded b) (encoding f.prefix));
  },
)

faulty : (d : List ℕ) (inside cause : ℕ) → BeginsNone d inside cause → Reading d
faulty d inside cause none = inr (inside, cause, record { prefix = []; rest = d; inside = inside; blocks = tt; whole = refl; none = none; offset_is = omega arith })

-- a datagram has a reading
pub some_reading : (n : ℕ) (d : List ℕ) → length d ≤ n → All (λ octet. octet < 256) d → Reading d
some_reading n [] h all = inl ([], tt, refl)
some_reading n (a ∷ []) h all = faulty (a ∷ []) 0 1 (refl, refl)
some_reading n (a ∷ b ∷ []) h all = faulty (a ∷ b ∷ []) 0 1 (refl, refl)
some_reading zero (a ∷ b ∷ c ∷ rest) h all = absurd (omega arith)
some_reading (suc n) (a ∷ b ∷ c ∷ rest) h all =
    elim (cases_lt (256 * b + c) 3) [
      | inl small ↦ faulty (a ∷ b ∷ c ∷ rest) 1 2 (refl, refl, inl small)
      | inr big ↦ elim (cases_lt (length rest + 3) (256 * b + c)) [
        | inl far ↦ faulty (a ∷ b ∷ c ∷ rest) 1 2 (refl, refl, inr far)
        | inr near ↦
            let size = 256 * b + c - 3 in
            let b-below = all 1 0 (omega arith) in
            let c-below = all 2 0 (omega arith) in
            let len : length (take size rest) + 3 ≡ 256 * b + c = omega (arith, length-take size rest) in
            let head : to_be_bytes w16 (length (take size rest) + 3) ≡ b ∷ c ∷ [] = ap (to_be_bytes w16) len ∙ two_octets b c b-below c-below in
            let next-below : All (λ octet. octet < 256) (drop size rest) = All-drop (λ octet. octet < 256) size rest (All-drop (λ octet. octet < 256) 3 (a ∷ b ∷ c ∷ rest) all) in
            let next = some_reading n (drop size rest) (omega (arith, length-drop size rest)) next-below in
            let e : encoded (record { category = a; body = take size rest }) ++ drop size rest ≡ a ∷ b ∷ c ∷ rest =
            ap (λ (t : List ℕ). a ∷ (t ++ take size rest ++ drop size rest)) head ∙ ap (λ (t : List ℕ). a ∷ b ∷ c ∷ t) (take-append-drop size rest) in
            subst Reading e (reading_more (record { category = a; body = take size rest }) (drop size rest) (omega (arith, len)) next)
      ]
    ]
