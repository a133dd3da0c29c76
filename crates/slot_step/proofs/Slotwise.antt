-- The certificates of a slot, batch by batch.
use Rattle.std.proofs.Common.{◌≡◌, sym, refl, ℕ, ◌+◌, ◌<◌, List, [], ◌∷◌, ◌++◌, eqb, arith, subst, inl, inr}
use Rattle.std.specs.Prelude.{Contains}
use Rattle.std.specs.List.{AllByRecursion}
use Rattle.std.specs.List.Sorted.{IsStrictlySortedBy}
use Rattle.std.specs.declared.cmp.Ordering.{Ordering}
use Rattle.std.specs.declared.cmp.Ordering.TheVariants.{Less}
use Rattle.std.proofs.lemmas.Bool.{eqb-true, eq-eqb, cases_lt}
use Rattle.cluster_split.proofs.Ranges.{kept_in}
use Rattle.slot_step.specs.Batches.{Tracking, of_radar}
use Rattle.slot_step.specs.Slots.{Ordered, OrderLaws, AreInSlot, plot_radar, plot_slot, batch_table, radar_limit}
use Rattle.slot_step.specs.Certificates.{Certificate, IsCertificateOf, IsCertificateIn, AreCertificates, AreCertificatesOf, AreCertificatesBelow}
use Rattle.slot_step.proofs.Interleavings.{all_of, all_append, all_weaker, all_contains, in_filter, filter_passes, contains_cons, contains_first, contains_later, contains_none}

contains_left : {X : Type 0} (x : X) (xs ys : List X) → Contains xs x → Contains (xs ++ ys) x
contains_left x [] ys c = contains_none x c
contains_left x (z ∷ xs) ys c = elim (contains_cons z x xs c) [ inl e ↦ contains_first z x (xs ++ ys) e | inr d ↦ contains_later z x (xs ++ ys) (contains_left x xs ys d) ]

contains_right : {X : Type 0} (x : X) (xs ys : List X) → Contains ys x → Contains (xs ++ ys) x
contains_right x [] ys c = c
contains_right x (z ∷ xs) ys c = contains_later z x (xs ++ ys) (contains_right x xs ys c)

sorted_append : {X : Type 0} (cmp : X → X → Ordering) (xs ys : List X) → IsStrictlySortedBy cmp xs → IsStrictlySortedBy cmp ys → ((x y : X) → Contains xs x → Contains ys y → cmp x y ≡ Less) → IsStrictlySortedBy cmp (xs ++ ys)
unfolding IsStrictlySortedBy
sorted_append cmp [] ys r q f = q
sorted_append cmp (x ∷ xs) ys r q f = (
  all_append (λ y. cmp x y ≡ Less) xs ys r.0 (all_of (λ y. cmp x y ≡ Less) ys (λ y d. f x y (contains_first x x xs refl) d)),
  sorted_append cmp xs ys r.1 q (λ z y c d. f z y (contains_later x z xs c) d),
)

module _ {T P K : Type 0} (k : Tracking T P) (o : Ordered T P K) (l : OrderLaws k o) (ts : List T) (n : ℕ) (ps : List P) where
  pub none_below : AreCertificatesBelow k o ts n ps 0 []
  unfolding IsStrictlySortedBy
  none_below = record { each = tt; radars = tt; whole = λ p c lt. absurd (omega (arith, lt)); order = tt }

  first_in : (r : ℕ) (c : Certificate P K) → IsCertificateOf k o (batch_table k o ts n ps r) (of_radar (plot_radar o) r ps) c → Contains (of_radar (plot_radar o) r ps) c.first
  first_in r c h = ((h.plots_are c.first).0 (contains_first c.first c.first c.rest refl)).known

  first_radar : (r : ℕ) (c : Certificate P K) → IsCertificateOf k o (batch_table k o ts n ps r) (of_radar (plot_radar o) r ps) c → plot_radar o c.first ≡ r
  first_radar r c h = eqb-true _ _ (filter_passes (λ p. eqb (plot_radar o p) r) c.first ps (first_in r c h))

  first_known : (r : ℕ) (c : Certificate P K) → IsCertificateOf k o (batch_table k o ts n ps r) (of_radar (plot_radar o) r ps) c → Contains ps c.first
  first_known r c h = in_filter (λ p. eqb (plot_radar o p) r) c.first ps (first_in r c h)

  pub one_batch_more : (r : ℕ) (cs ds : List (Certificate P K)) → AreInSlot o n ps → AreCertificatesBelow k o ts n ps r cs → AreCertificatesOf k o (batch_table k o ts n ps r) (of_radar (plot_radar o) r ps) ds → AreCertificatesBelow k o ts n ps (r + 1) (cs ++ ds)
  one_batch_more r cs ds i h g =
      let of_batch : (d : Certificate P K) → Contains ds d → IsCertificateOf k o (batch_table k o ts n ps r) (of_radar (plot_radar o) r ps) d = λ d c. all_contains (IsCertificateOf k o (batch_table k o ts n ps r) (of_radar (plot_radar o) r ps)) d ds g.each c in
      record {
        each = all_append (IsCertificateIn k o ts n ps) cs ds h.each (all_of (IsCertificateIn k o ts n ps) ds (λ d c.
            subst (λ m. IsCertificateOf k o (batch_table k o ts n ps m) (of_radar (plot_radar o) m ps) d) (sym (first_radar r d (of_batch d c))) (of_batch d c)));
        radars = all_append (λ c. plot_radar o c.first < r + 1) cs ds (all_weaker (λ c. plot_radar o c.first < r) (λ c. plot_radar o c.first < r + 1) cs (λ c lt. omega (arith, lt)) h.radars)
            (all_of (λ c. plot_radar o c.first < r + 1) ds (λ d c. omega (arith, first_radar r d (of_batch d c))));
        whole = λ p c lt. elim (cases_lt (plot_radar o p) r) [
          | inl less ↦ let w = h.whole p c less in (w.0, contains_left w.0 cs ds w.1, w.2)
          | inr more ↦
              let e : plot_radar o p ≡ r = omega (arith, lt, more) in
              let w = g.whole p (kept_in (λ q. eqb (plot_radar o q) r) ps p c (eq-eqb (plot_radar o p) r e)) in
              (w.0, contains_right w.0 cs ds w.1, w.2)
        ];
        order = sorted_append (λ c d. o.cmp (o.key c.first) (o.key d.first)) cs ds h.order g.order (λ c d a b.
            let ic : IsCertificateIn k o ts n ps c = all_contains (IsCertificateIn k o ts n ps) c cs h.each a in
            let lt : plot_radar o c.first < r = all_contains (λ c. plot_radar o c.first < r) c cs h.radars a in
            let sc : plot_slot o c.first ≡ n = all_contains (λ p. plot_slot o p ≡ n) c.first ps i (first_known (plot_radar o c.first) c ic) in
            let sd : plot_slot o d.first ≡ n = all_contains (λ p. plot_slot o p ≡ n) d.first ps i (first_known r d (of_batch d b)) in
            let e : plot_radar o d.first ≡ r = first_radar r d (of_batch d b) in
            l.by_radar (o.key c.first) (o.key d.first) (omega (arith, sc, sd)) (omega (arith, lt, e)));
      }

  pub all_below : (cs : List (Certificate P K)) → AllByRecursion (λ p. plot_radar o p < radar_limit) ps → AreCertificatesBelow k o ts n ps radar_limit cs → AreCertificates k o ts n ps cs
  all_below cs b h = record { each = h.each; whole = λ p c. h.whole p c (all_contains (λ p. plot_radar o p < radar_limit) p ps b c); order = h.order }
