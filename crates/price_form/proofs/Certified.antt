-- A certificate that is written is read, and one that is read stands there.
use Rattle.std.proofs.Common.{◌≡◌, ℕ, ℤ, ◌+◌, ◌*◌, ◌<◌, ◌≤◌, ◌^◌, List, ◌∷◌, ◌++◌, Option, Some, length, get_or, arith, refl, sym, ◌∙◌, subst, length-append}
use Rattle.std.specs.Int.{w32, w64, to_be_bytes}
use Rattle.std.specs.Prelude.{FitsSigned}
use Rattle.std.specs.List.{flat_map, All}
use Rattle.std.specs.Option.{IfSome}
use Rattle.assignment_dual.specs.Problems.{Edge, IsProblem}
use Rattle.price_form.specs.declared.certs.Cert.{Cert}
use Rattle.price_form.specs.Certificates.{IsCert}
use Rattle.price_form.specs.Octets.{word_octets, price_octets, edge_octets, entry_octets, half_at, word_at, price_number_at, edge_numbers_at, entry_number_at}
use Rattle.price_form.specs.Encoding.{head_octets, gate_octets, proof_octets, cert_octets}
use Rattle.price_form.specs.Files.{IsInRange}
use Rattle.price_form.specs.Reading.{Stands, plots_at, tracks_at, edges_at, end_of, cert_end, cert_of, cert_read}
use Rattle.price_form.proofs.Standing.{AreOctets, stands_both, stands_first, stands_second, stands_head, stands_tail, stands_cons, half_is, word_is, price_is, edge_is, entry_is, half_stands, word_stands, price_stands, edge_stands, entry_stands, flat_length, length-many, many_is, many_stands}

words_long : (ys : List ℕ) → length (flat_map word_octets ys) ≡ length ys * 8
words_long = flat_length word_octets 8 (λ x. refl)

edges_long : (ys : List Edge) → length (flat_map edge_octets ys) ≡ length ys * 10
edges_long = flat_length edge_octets 10 (λ x. refl)

entries_long : (ys : List (Option ℕ)) → length (flat_map entry_octets ys) ≡ length ys * 4
entries_long = flat_length entry_octets 4 (λ x. refl)

prices_long : (ys : List ℤ) → length (flat_map price_octets ys) ≡ length ys * 8
prices_long = flat_length price_octets 8 (λ x. refl)

gate_long : (ps ts : List ℕ) (es : List Edge) → length (gate_octets ps ts es) ≡ length ps * 8 + length ts * 8 + 4 + length es * 10
gate_long ps ts es =
    omega (
      arith,
      length-append (flat_map word_octets ps) (flat_map word_octets ts ++ (to_be_bytes w32 (length es) ++ flat_map edge_octets es)),
      length-append (flat_map word_octets ts) (to_be_bytes w32 (length es) ++ flat_map edge_octets es),
      length-append (to_be_bytes w32 (length es)) (flat_map edge_octets es),
      words_long ps,
      words_long ts,
      edges_long es,
    )

proof_long : (xs : List (Option ℕ)) (us vs : List ℤ) → length (proof_octets xs us vs) ≡ length xs * 4 + length us * 8 + length vs * 8
proof_long xs us vs =
    omega (arith, length-append (flat_map entry_octets xs) (flat_map price_octets us ++ flat_map price_octets vs), length-append (flat_map price_octets us) (flat_map price_octets vs), entries_long xs, prices_long us, prices_long vs)

-- how long a certificate is
pub cert_long : (c : Cert) (n k m : ℕ) → length c.plots ≡ n → length c.tracks ≡ k → length c.costs.edges ≡ m → length c.pairing ≡ n → length c.u ≡ n → length c.v ≡ k → (p : ℕ) → p + length (cert_octets c) ≡ end_of n k m p
unfolding cert_octets
cert_long c n k m a b d e f g p =
    omega (
      arith,
      length-append (head_octets c.slot c.radar c.costs.plots c.costs.tracks) (gate_octets c.plots c.tracks c.costs.edges ++ proof_octets c.pairing c.u c.v),
      length-append (gate_octets c.plots c.tracks c.costs.edges) (proof_octets c.pairing c.u c.v),
      gate_long c.plots c.tracks c.costs.edges,
      proof_long c.pairing c.u c.v,
      a,
      b,
      d,
      e,
      f,
      g,
    )

-- the pieces of a certificate, each at its place
record Pieces (xs : List ℕ) (p : ℕ) (c : Cert) (n k m : ℕ) : Type 0 where
  first : get_or xs p 0 ≡ 2
  slot : Stands xs (p + 1) (to_be_bytes w64 c.slot)
  radar : get_or xs (p + 9) 0 ≡ c.radar
  plot_count : Stands xs (p + 10) (to_be_bytes w32 c.costs.plots)
  track_count : Stands xs (p + 14) (to_be_bytes w32 c.costs.tracks)
  plots : Stands xs (p + 18) (flat_map word_octets c.plots)
  tracks : Stands xs (p + 18 + n * 8) (flat_map word_octets c.tracks)
  edge_count : Stands xs (p + 18 + n * 8 + k * 8) (to_be_bytes w32 (length c.costs.edges))
  edges : Stands xs (p + 22 + n * 8 + k * 8) (flat_map edge_octets c.costs.edges)
  pairing : Stands xs (p + 22 + n * 8 + k * 8 + m * 10) (flat_map entry_octets c.pairing)
  u : Stands xs (p + 22 + n * 8 + k * 8 + m * 10 + n * 4) (flat_map price_octets c.u)
  v : Stands xs (p + 22 + n * 8 + k * 8 + m * 10 + n * 4 + n * 8) (flat_map price_octets c.v)

pieces : {xs : List ℕ} {p : ℕ} (c : Cert) (n k m : ℕ) → length c.plots ≡ n → length c.tracks ≡ k → length c.costs.edges ≡ m → length c.pairing ≡ n → length c.u ≡ n → Stands xs p (cert_octets c) → Pieces xs p c n k m
unfolding cert_octets
pieces {xs} {p} c n k m a b d e f h =
    let slot = to_be_bytes w64 c.slot in
    let nn = to_be_bytes w32 c.costs.plots in
    let kk = to_be_bytes w32 c.costs.tracks in
    let head = head_octets c.slot c.radar c.costs.plots c.costs.tracks in
    let gate = gate_octets c.plots c.tracks c.costs.edges in
    let proof = proof_octets c.pairing c.u c.v in
    let ps = flat_map word_octets c.plots in
    let ts = flat_map word_octets c.tracks in
    let mm = to_be_bytes w32 (length c.costs.edges) in
    let es = flat_map edge_octets c.costs.edges in
    let xx = flat_map entry_octets c.pairing in
    let us = flat_map price_octets c.u in
    let vs = flat_map price_octets c.v in
    let h1 = stands_first head (gate ++ proof) h in
    let h2 = stands_tail {q = p + 1} refl h1 in
    let h3 = stands_second {q = p + 9} slot (c.radar ∷ (nn ++ kk)) (omega arith) h2 in
    let h4 = stands_tail {q = p + 10} (omega arith) h3 in
    let g0 = stands_second {q = p + 18} head (gate ++ proof) refl h in
    let g1 = stands_first gate proof g0 in
    let g2 = stands_second {q = p + 18 + n * 8} ps (ts ++ (mm ++ es)) (omega (arith, words_long c.plots, a)) g1 in
    let g3 = stands_second {q = p + 18 + n * 8 + k * 8} ts (mm ++ es) (omega (arith, words_long c.tracks, b)) g2 in
    let r1 = stands_second {q = p + 22 + n * 8 + k * 8 + m * 10} gate proof (omega (arith, gate_long c.plots c.tracks c.costs.edges, a, b, d)) g0 in
    let r2 = stands_second {q = p + 22 + n * 8 + k * 8 + m * 10 + n * 4} xx (us ++ vs) (omega (arith, entries_long c.pairing, e)) r1 in
    record {
      first = stands_head h1;
      slot = stands_first slot (c.radar ∷ (nn ++ kk)) h2;
      radar = stands_head h3;
      plot_count = stands_first nn kk h4;
      track_count = stands_second {q = p + 14} nn kk (omega arith) h4;
      plots = stands_first ps (ts ++ (mm ++ es)) g1;
      tracks = stands_first ts (mm ++ es) g2;
      edge_count = stands_first mm es g3;
      edges = stands_second {q = p + 22 + n * 8 + k * 8} mm es (omega arith) g3;
      pairing = stands_first xx (us ++ vs) r1;
      u = stands_first us vs r2;
      v = stands_second {q = p + 22 + n * 8 + k * 8 + m * 10 + n * 4 + n * 8} us vs (omega (arith, prices_long c.u, f)) r2;
    }

-- the other way
from_pieces : {xs : List ℕ} {p : ℕ} (c : Cert) (n k m : ℕ) → length c.plots ≡ n → length c.tracks ≡ k → length c.costs.edges ≡ m → length c.pairing ≡ n → length c.u ≡ n → Pieces xs p c n k m → Stands xs p (cert_octets c)
unfolding cert_octets
from_pieces {xs} {p} c n k m a b d e f h =
    stands_both {q = p + 18}
    (stands_cons {q = p + 1} h.first refl (stands_both {q = p + 9} h.slot (omega arith) (stands_cons {q = p + 10} h.radar (omega arith) (stands_both {q = p + 14} h.plot_count (omega arith) h.track_count))))
    refl
    (stands_both {q = p + 22 + n * 8 + k * 8 + m * 10}
    (stands_both {q = p + 18 + n * 8} h.plots (omega (arith, words_long c.plots, a))
    (stands_both {q = p + 18 + n * 8 + k * 8} h.tracks (omega (arith, words_long c.tracks, b)) (stands_both {q = p + 22 + n * 8 + k * 8} h.edge_count (omega arith) h.edges)))
    (omega (arith, gate_long c.plots c.tracks c.costs.edges, a, b, d))
    (stands_both {q = p + 22 + n * 8 + k * 8 + m * 10 + n * 4} h.pairing (omega (arith, entries_long c.pairing, e)) (stands_both {q = p + 22 + n * 8 + k * 8 + m * 10 + n * 4 + n * 8} h.u (omega (arith, prices_long c.u, f)) h.v)))

named_below : (xs : List (Option ℕ)) (k : ℕ) → All (λ x. IfSome x (λ t. t < k)) xs → All (λ x. (t : ℕ) → x ≡ Some t → t < k) xs
named_below xs k all i d lt t e = let P : Option ℕ → Type 0 = λ x. IfSome x (λ s. s < k) in subst P e (all i d lt)

-- what is written is read
pub cert_is : {xs : List ℕ} {p : ℕ} (c : Cert) → IsCert c → IsProblem c.costs → IsInRange c → Stands xs p (cert_octets c) → (cert_read xs p ≡ c) × (cert_end xs p ≡ p + length (cert_octets c))
unfolding cert_read
cert_is {xs} {p} c f q r h =
    let n = c.costs.plots in
    let k = c.costs.tracks in
    let m = length c.costs.edges in
    let b = pieces c n k m f.plots f.tracks refl f.pairing f.u h in
    let en : plots_at xs p ≡ n = half_is r.plots b.plot_count in
    let ek : tracks_at xs p ≡ k = half_is (omega (arith, f.few_tracks)) b.track_count in
    let em : edges_at xs p ≡ m = (λ j. half_at xs (p + 18 + en j * 8 + ek j * 8)) ∙ half_is f.few_edges b.edge_count in
    let slot = word_is r.slot b.slot in
    let ps = many_is (λ a. a < 2 ^ 64) word_octets word_at 8 (λ x. refl) (λ s x small st. word_is small st) {n = n} c.plots (sym f.plots) r.plot_arrivals b.plots in
    let ts = many_is (λ a. a < 2 ^ 64) word_octets word_at 8 (λ x. refl) (λ s x small st. word_is small st) {n = k} c.tracks (sym f.tracks) r.track_arrivals b.tracks in
    let ranges : All (λ (e : Edge). (e.0 < 2 ^ 32) × (e.1 < 2 ^ 32) × (e.2 < 2 ^ 16)) c.costs.edges = λ i d lt. (omega (arith, q.plots i d lt, r.plots), omega (arith, q.tracks i d lt, f.few_tracks), omega (arith, q.costs i d lt)) in
    let es = many_is (λ (e : Edge). (e.0 < 2 ^ 32) × (e.1 < 2 ^ 32) × (e.2 < 2 ^ 16)) edge_octets edge_numbers_at 10 (λ x. refl) (λ s x small st. edge_is small.0 small.1 small.2 st) {n = m} c.costs.edges refl ranges b.edges in
    let xx = many_is (λ x. (t : ℕ) → x ≡ Some t → t < k) entry_octets entry_number_at 4 (λ x. refl) (λ s x below st. entry_is f.few_tracks below st) {n = n} c.pairing (sym f.pairing) (named_below c.pairing k f.named) b.pairing in
    let us = many_is (FitsSigned w64) price_octets price_number_at 8 (λ x. refl) (λ s x fit st. price_is fit st) {n = n} c.u (sym f.u) r.u b.u in
    let vs = many_is (FitsSigned w64) price_octets price_number_at 8 (λ x. refl) (λ s x fit st. price_is fit st) {n = k} c.v (sym f.v) r.v b.v in (
      (λ j. cert_of xs p (en j) (ek j) (em j))
          ∙ (λ j. record { slot = slot j; radar = b.radar j; plots = ps j; tracks = ts j; costs = record { plots = n; tracks = k; edges = es j }; pairing = xx j; u = us j; v = vs j }),
      (λ j. end_of (en j) (ek j) (em j) p) ∙ sym (cert_long c n k m f.plots f.tracks refl f.pairing f.u f.v p),
    )

pub small_word : (xs : List ℕ) → AreOctets xs → (p : ℕ) → word_at xs p < 2 ^ 64
small_word xs o p = omega (arith, o p, o (p + 1), o (p + 2), o (p + 3), o (p + 4), o (p + 5), o (p + 6), o (p + 7))

-- what is read stands there, where all of it is there
pub cert_stands : {xs : List ℕ} (p : ℕ) → AreOctets xs → get_or xs p 0 ≡ 2 → cert_end xs p ≤ length xs → Stands xs p (cert_octets (cert_read xs p)) × (cert_end xs p ≡ p + length (cert_octets (cert_read xs p)))
unfolding cert_read
cert_stands {xs} p o first le =
    let n = plots_at xs p in
    let k = tracks_at xs p in
    let m = edges_at xs p in
    let c = cert_of xs p n k m in
    let words = many_stands word_octets word_at 8 (λ x. refl) (λ q h. word_stands q o h) in
    let prices = many_stands price_octets price_number_at 8 (λ x. refl) (λ q h. price_stands q o h (small_word _ o q)) in
    let a = length-many word_at 8 xs (p + 18) n in
    let b = length-many word_at 8 xs (p + 18 + n * 8) k in
    let d = length-many edge_numbers_at 10 xs (p + 22 + n * 8 + k * 8) m in
    let e = length-many entry_number_at 4 xs (p + 22 + n * 8 + k * 8 + m * 10) n in
    let f = length-many price_number_at 8 xs (p + 22 + n * 8 + k * 8 + m * 10 + n * 4) n in
    let g = length-many price_number_at 8 xs (p + 22 + n * 8 + k * 8 + m * 10 + n * 4 + n * 8) k in (
      from_pieces c n k m a b d e f (record {
        first = first;
        slot = word_stands (p + 1) o (omega (arith, le));
        radar = refl;
        plot_count = half_stands (p + 10) o (omega (arith, le));
        track_count = half_stands (p + 14) o (omega (arith, le));
        plots = words (p + 18) n (omega (arith, le));
        tracks = words (p + 18 + n * 8) k (omega (arith, le));
        edge_count = subst (λ i. Stands xs (p + 18 + n * 8 + k * 8) (to_be_bytes w32 i)) (sym d) (half_stands (p + 18 + n * 8 + k * 8) o (omega (arith, le)));
        edges = many_stands edge_octets edge_numbers_at 10 (λ x. refl) (λ q h. edge_stands q o h) (p + 22 + n * 8 + k * 8) m (omega (arith, le));
        pairing = many_stands entry_octets entry_number_at 4 (λ x. refl) (λ q h. entry_stands q o h) (p + 22 + n * 8 + k * 8 + m * 10) n (omega (arith, le));
        u = prices (p + 22 + n * 8 + k * 8 + m * 10 + n * 4) n (omega (arith, le));
        v = prices (p + 22 + n * 8 + k * 8 + m * 10 + n * 4 + n * 8) k (omega (arith, le));
      }),
      sym (cert_long c n k m a b d e f g p),
    )
