-- Of each record of category 62 it is known whether it is a track's.
use Rattle.std.proofs.Common.{◌≡◌, ◌∙◌, ap, sym, refl, subst, inl, inr, ℕ, ◌<◌, ◌^◌, ◌⊎◌, Bool, true, false, List, [], arith, append-nil, Option, Some, None, ℤ, pos, negsuc, nat_eq}
use Rattle.std.specs.Prelude.{FitsSigned, ◌||◌, is_some}
use Rattle.std.specs.Int.{w16}
use Rattle.std.specs.Option.{ForSome}
use Rattle.std.specs.Cmp.Lexicographic.{pointwise, bytes_decides}
use Rattle.std.proofs.lemmas.Bool.{cases_lt}
use Rattle.asterix_frame.specs.declared.tables.Uap.TheVariants.{Cat062}
use Rattle.asterix_frame.specs.DataRecords.{DataRecord, IsDataRecord, record_octets}
use Rattle.asterix_frame.specs.Encoding.{record_of}
use Rattle.asterix_frame.proofs.DataRecordCodes.{record_code}
use Rattle.cat062_out.specs.Tracks.{Stamp, IsStamp, TrackLine, IsTrackLine, IsPosition}
use Rattle.cat062_out.specs.TrackRecords.{IsTrack, items_of}
use Rattle.cat062_out.specs.Reading.{stamp_of, line_of}
use Rattle.cat062_out.specs.declared.error.ProfileError.{ProfileError}
use Rattle.cat062_out.specs.Profile.{written, AreWritten, IsRefusal}
use Rattle.asterix_frame.specs.declared.block.Block.{Block}
use Rattle.trk_base.specs.Numbers.{day}
use Rattle.cat062_out.proofs.Profiles.{value_record}
use Rattle.cat062_out.proofs.ProfileTotal.{Judged, some_of}
use Rattle.cat062_out.proofs.TrackReading.{stamp_back, line_back}
use Rattle.cat062_out.proofs.TrackProfile.{tracks}

-- ---- what is decided

abbrev Decided : Type 0 → Type 0
Decided P = P ⊎ (P → ⊥)

both : (P Q : Type 0) → Decided P → Decided Q → Decided (P × Q)
both P Q (inl p) (inl q) = inl (p, q)
both P Q (inl p) (inr n) = inr (λ h. n h.1)
both P Q (inr n) d = inr (λ h. n h.0)

below : (n m : ℕ) → Decided (n < m)
below n m =
    elim (cases_lt n m) [
      | inl lt ↦ inl lt
      | inr ge ↦ inr (λ lt. omega (arith, lt, ge))
    ]

where_some : {A : Type 0} (P : A → Type 0) → ((a : A) → Decided (P a)) → (o : Option A) → Decided (ForSome o P)
where_some {A} P decide None = inl (λ x e. absurd (cc))
where_some {A} P decide (Some a) =
    elim (decide a) [
      | inl p ↦ inl (λ x e. let same : a ≡ x = cc in subst P same p)
      | inr n ↦ inr (λ h. n (h a refl))
    ]

fits_16 : (z : ℤ) → Decided (FitsSigned w16 z)
fits_16 (pos n) =
    elim (cases_lt n 32768) [
      | inl lt ↦ inl (grind arith)
      | inr ge ↦ inr (λ h. grind arith)
    ]
fits_16 (negsuc n) =
    elim (cases_lt n 32768) [
      | inl lt ↦ inl (grind arith)
      | inr ge ↦ inr (λ h. grind arith)
    ]

is_position : (z : ℤ) → Decided (IsPosition z)
is_position (pos n) =
    elim (cases_lt n 8388608) [
      | inl lt ↦ inl (grind arith)
      | inr ge ↦ inr (λ h. grind arith)
    ]
is_position (negsuc n) =
    elim (cases_lt n 8388608) [
      | inl lt ↦ inl (grind arith)
      | inr ge ↦ inr (λ h. grind arith)
    ]

is_true : (b : Bool) → Decided (b ≡ true)
is_true true = inl refl
is_true false = inr (λ e. cc)

age : (o : Option ℕ) → Decided (ForSome o (λ a. a < 2 ^ 8))
age o = where_some (λ a. a < 2 ^ 8) (λ a. below a (2 ^ 8)) o

-- a stamp
stamp_decided : (s : Stamp) → Decided (IsStamp s)
stamp_decided s =
    elim (both _ _ (below s.sac (2 ^ 8)) (both _ _ (below s.sic (2 ^ 8)) (both _ _ (below s.service (2 ^ 8)) (below s.tod day)))) [
      | inl h ↦ inl (record { sac = h.0; sic = h.1.0; service = h.1.1.0; tod = h.1.1.1 })
      | inr n ↦ inr (λ h. n (h.sac, (h.sic, (h.service, h.tod))))
    ]

-- a line
line_decided : (l : TrackLine) → Decided (IsTrackLine l)
line_decided l =
    elim (both _ _ (below l.number (2 ^ 16)) (both _ _ (is_position l.x) (both _ _ (is_position l.y) (both _ _ (fits_16 l.vx) (both _ _ (fits_16 l.vy) (both _ _ (where_some (λ c. c < 4096) (λ c. below c 4096) l.code) (both _ _ (where_some (λ a. a < 2 ^ 24) (λ a. below a (2 ^ 24)) l.address) (both _ _ (where_some (λ z. FitsSigned w16 z) fits_16 l.level) (both _ _ (age l.psr) (both _ _ (age l.ssr) (both _ _ (age l.mds) (both _ _ (is_true (is_some l.psr || is_some l.ssr || is_some l.mds)) (both _ _ (below l.sx (2 ^ 16)) (below l.sy (2 ^ 16))))))))))))))) [
      | inl h ↦ inl (record { number = h.0; x = h.1.0; y = h.1.1.0; vx = h.1.1.1.0; vy = h.1.1.1.1.0; code = h.1.1.1.1.1.0; address = h.1.1.1.1.1.1.0; level = h.1.1.1.1.1.1.1.0; psr = h.1.1.1.1.1.1.1.1.0; ssr = h.1.1.1.1.1.1.1.1.1.0; mds = h.1.1.1.1.1.1.1.1.1.1.0; detected = h.1.1.1.1.1.1.1.1.1.1.1.0; sx = h.1.1.1.1.1.1.1.1.1.1.1.1.0; sy = h.1.1.1.1.1.1.1.1.1.1.1.1.1 })
      | inr n ↦ inr (λ h. n (h.number, (h.x, (h.y, (h.vx, (h.vy, (h.code, (h.address, (h.level, (h.psr, (h.ssr, (h.mds, (h.detected, (h.sx, h.sy))))))))))))))
    ]

octets_decided : (xs ys : List ℕ) → Decided (xs ≡ ys)
octets_decided xs ys = go (pointwise nat_eq xs ys) refl where
  go : (b : Bool) → pointwise nat_eq xs ys ≡ b → Decided (xs ≡ ys)
  go true e = inl ((bytes_decides xs ys).0 e)
  go false e = inr (λ same. let yes = (bytes_decides xs ys).1 same in (let no : true ≡ false = sym yes ∙ e in cc))

-- ---- a record

-- the track that it would tell, if it is a track's
abbrev told : DataRecord → Stamp × TrackLine
told r = (stamp_of r.items, line_of r.items)

-- a track of which it is the record is that one
is_told : (r : DataRecord) → IsDataRecord Cat062 r → (t : Stamp × TrackLine) → IsTrack t → written items_of t ≡ record_octets r → t ≡ told r
is_told r is t h e =
    let one = (record_code Cat062).same (record_of (items_of t)) r [] [] (value_record (Stamp × TrackLine) Cat062 IsTrack items_of tracks t h) is (append-nil _ ∙ e ∙ sym (append-nil _)) in
    let items = ap (λ x. x.items) one.0 in
    λ i. ((sym (stamp_back t.0 t.1 h.0) ∙ ap stamp_of items) i, (sym (line_back t.0 t.1 h.1) ∙ ap line_of items) i)

judge : (r : DataRecord) → IsDataRecord Cat062 r → Judged (Stamp × TrackLine) Cat062 IsTrack items_of tracks r
judge r is =
    elim (both (IsTrack (told r)) (written items_of (told r) ≡ record_octets r) (both _ _ (stamp_decided (stamp_of r.items)) (line_decided (line_of r.items))) (octets_decided (written items_of (told r)) (record_octets r))) [
      | inl h ↦ record { judged = inl (told r, h.0, h.1) }
      | inr n ↦ record {
        judged = inr (record {
          is_record = is;
          no_value = λ t h e.
              let same = is_told r is t h e in
              n (subst IsTrack same h, sym (ap (written items_of) same) ∙ e);
        });
      }
    ]

pub some_of_block : (block : Block) → ((ts : List (Stamp × TrackLine)) × AreWritten IsTrack items_of block.body.now ts) ⊎ ((e : ProfileError) × IsRefusal Cat062 IsTrack items_of block e)
some_of_block block = (some_of (Stamp × TrackLine) Cat062 IsTrack items_of tracks judge block).reading
