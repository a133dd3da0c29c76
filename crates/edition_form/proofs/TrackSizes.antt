-- A track's record is within the limit, whatever is told of the track.
use Rattle.std.proofs.Common.{◌≡◌, ◌∙◌, ap, refl, lit≤, ℕ, suc, ◌+◌, ◌≤◌, List, [], ◌∷◌, ◌++◌, length, map, arith, append-nil, Option, Some, None}
use Rattle.std.specs.List.{AllByRecursion}
use Rattle.std.proofs.lemmas.List.{length-append}
use Rattle.std.proofs.lemmas.List.Concat.{flat_map-append}
use Rattle.asterix_frame.specs.Elements.{Element, numbers, octets_of}
use Rattle.asterix_frame.specs.Values.{big_endian}
use Rattle.asterix_frame.specs.Encoding.{compound_of, end_from, field_octet, field_of, item_of, last_frn}
use Rattle.asterix_frame.specs.Packing.{record_limit}
use Rattle.cat062_out.specs.Tracks.{Stamp, TrackLine}
use Rattle.cat062_out.specs.TrackRecords.{accuracy_octets, address_octets, ages_octets, motion_items, stamp_items, status_items, track_items, track_record, two_signed, where_known}
use Rattle.cat062_out.proofs.TrackItems.{record_size}

-- ---- the last item

ends_after : (xs ys : List Element) → ((n : ℕ) → end_from n (numbers ys) ≡ 27) → (n : ℕ) → end_from n (numbers (xs ++ ys)) ≡ 27
ends_after [] ys h n = h n
ends_after (x ∷ xs) ys h n = ends_after xs ys h (suc x.number)

ends_there : (s : Stamp) (l : TrackLine) → last_frn (track_items s l) ≡ 27
unfolding track_items
ends_there s l =
    let last = item_of 27 (accuracy_octets l) ∷ [] in
    let level = where_known 17 two_signed l.level ++ last in
    let status = status_items l ++ level in
    let address = where_known 11 address_octets l.address ++ status in
    let code = where_known 9 (λ code. big_endian 2 code) l.code ++ address in
    let motion = motion_items l ++ code in
    ends_after (stamp_items s) motion
    (ends_after (motion_items l) code
    (ends_after (where_known 9 (λ code. big_endian 2 code) l.code) address
    (ends_after (where_known 11 address_octets l.address) status (ends_after (status_items l) level (ends_after (where_known 17 two_signed l.level) last (λ n. refl)))))) 0

-- ---- the octets of its items

size : List Element → ℕ
size items = length (octets_of items)

size_both : (xs ys : List Element) → size (xs ++ ys) ≡ size xs + size ys
unfolding size
size_both xs ys = ap length (flat_map-append (λ (p : Element). p.octets) xs ys) ∙ length-append (octets_of xs) (octets_of ys)

size_one : (x : Element) → size (x ∷ []) ≡ length x.octets
unfolding size
size_one x = ap length (append-nil x.octets)

known_size : {A : Type 0} (frn k : ℕ) (f : A → List ℕ) (o : Option A) → ((v : A) → length (f v) ≤ k) → size (where_known frn f o) ≤ k
unfolding size
known_size frn k f None h = omega arith
known_size frn k f (Some v) h = omega (arith, ap length (append-nil (f v)), h v)

ages_of_size : (a b c : Option ℕ) → length (compound_of (where_known 2 (λ age. age ∷ []) a ++ (where_known 3 (λ age. age ∷ []) b ++ where_known 4 (λ age. age ∷ []) c))) ≤ 4
unfolding field_of field_octet
ages_of_size None None None = lit≤ tt
ages_of_size None None (Some c) = lit≤ tt
ages_of_size None (Some b) None = lit≤ tt
ages_of_size None (Some b) (Some c) = lit≤ tt
ages_of_size (Some a) None None = lit≤ tt
ages_of_size (Some a) None (Some c) = lit≤ tt
ages_of_size (Some a) (Some b) None = lit≤ tt
ages_of_size (Some a) (Some b) (Some c) = lit≤ tt

stamp_size : (s : Stamp) → size (stamp_items s) ≡ 6
unfolding size
stamp_size s = refl

motion_size : (l : TrackLine) → size (motion_items l) ≡ 10
unfolding size
motion_size l = refl

status_size : (l : TrackLine) → size (status_items l) ≤ 10
unfolding size
status_size l = omega (arith, ap length (append-nil (ages_octets l)), ages_of_size l.psr l.ssr l.mds)

accuracy_size : (l : TrackLine) → size (item_of 27 (accuracy_octets l) ∷ []) ≡ 5
unfolding size field_of field_octet
accuracy_size l = refl

address_size : (address : ℕ) → length (address_octets address) ≤ 4
unfolding field_of field_octet
address_size address = lit≤ tt

code_size : (code : ℕ) → length (big_endian 2 code) ≤ 2
code_size code = lit≤ tt

items_size : (s : Stamp) (l : TrackLine) → size (track_items s l) ≤ 39
unfolding track_items
items_size s l =
    let last = item_of 27 (accuracy_octets l) ∷ [] in
    let level = where_known 17 two_signed l.level in
    let status = status_items l in
    let address = where_known 11 address_octets l.address in
    let code = where_known 9 (λ code. big_endian 2 code) l.code in
    let motion = motion_items l in
    omega (
      arith,
      size_both (stamp_items s) (motion ++ (code ++ (address ++ (status ++ (level ++ last))))),
      size_both motion (code ++ (address ++ (status ++ (level ++ last)))),
      size_both code (address ++ (status ++ (level ++ last))),
      size_both address (status ++ (level ++ last)),
      size_both status (level ++ last),
      size_both level last,
      stamp_size s,
      motion_size l,
      known_size 9 2 (λ code. big_endian 2 code) l.code code_size,
      known_size 11 4 address_octets l.address address_size,
      status_size l,
      known_size 17 2 two_signed l.level (λ z. lit≤ tt),
      accuracy_size l,
    )

pub within_limit : (s : Stamp) (l : TrackLine) → length (track_record s l) ≤ record_limit
unfolding track_record size
within_limit s l = omega (arith, record_size (track_items s l) (ends_there s l), items_size s l)

pub all_within : (s : Stamp) (ls : List TrackLine) → AllByRecursion (λ r. length r ≤ record_limit) (map (track_record s) ls)
all_within s [] = tt
all_within s (l ∷ ls) = (within_limit s l, all_within s ls)
