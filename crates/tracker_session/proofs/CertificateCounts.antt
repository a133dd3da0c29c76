-- The certificates of a log are so many, whatever prices prove them: those of a slot stand one for each component, in rising key of their
-- least plots, and the component of a plot has one least plot.
use Rattle.std.proofs.Common.{◌≡◌, ◌⊎◌, ◌∙◌, ap, sym, refl, subst, inl, inr, arith, ℕ, ◌+◌, List, [], ◌∷◌, ◌++◌, length, map, length-append, suc, cond, Bool, true, false}
use Rattle.std.specs.Prelude.{Contains, Option, filter, ◌==◌}
use Rattle.std.specs.Cmp.{IsTotalOrder}
use Rattle.std.specs.List.{AllByRecursion, AllZip, flat_map}
use Rattle.std.specs.List.Sorted.{IsStrictlySortedBy}
use Rattle.std.specs.Ordering.{ordering_reverse}
use Rattle.std.specs.declared.cmp.Ordering.{Ordering}
use Rattle.std.specs.declared.cmp.Ordering.TheVariants.{Less, Greater}
use Rattle.std.proofs.lemmas.Bool.{eqb-true}
use Rattle.std.proofs.lemmas.List.{length-map}
use Rattle.price_form.specs.declared.certs.Cert.{Cert}
use Rattle.late_window.specs.Folding.{OutsAt, at_slot, before}
use Rattle.slot_step.specs.Batches.{Tracking, of_radar}
use Rattle.slot_step.specs.Certificates.{AreCertificates, AreJoined, Certificate, IsCertificateIn, IsGateWalk, ShareGate, plots}
use Rattle.slot_step.specs.Slots.{OrderLaws, Ordered, plot_radar, batch_table}
use Rattle.slot_step.specs.Told.{AreTold, told}
use Rattle.slot_step.specs.Tracker.{ordered, step_tracks, tracking}
use Rattle.slot_step.specs.declared.certs.KeyedCert.{KeyedCert}
use Rattle.slot_step.proofs.Interleavings.{all_contains, contains_cons, contains_first, contains_later, contains_none}
use Rattle.slot_step.proofs.Tracker.{tracks_ordered}
use Rattle.admission_log.specs.declared.settings.Settings.{Settings}
use Rattle.admission_log.specs.Histories.{History, first, last_of, low_at}
use Rattle.admission_log.specs.Plots.{plots_of}
use Rattle.edition_form.specs.Certificates.{AreLogCertificates, open_slots}
use Rattle.edition_form.specs.Folding.{slot_of_plot}
use Rattle.plot_geometry.specs.Plots.{PlanePlot}
use Rattle.track_life.specs.declared.settings.LifeSettings.{LifeSettings}
use Rattle.track_life.specs.Tracks.{TrackState}
use Rattle.tracker_session.specs.Replay as replay
use Rattle.tracker_session.specs.Replay.{AreCertificatesAt, editions_of, end_to_end}

-- ---- rising lists with the same members

module _ {X : Type 0} (cmp : X → X → Ordering) (t : IsTotalOrder cmp) where
  never_itself : (x : X) → cmp x x ≡ Less → ⊥
  never_itself x e = let clash : Less ≡ Greater = sym e ∙ t.antisymm x x ∙ ap ordering_reverse e in cc

  never_both : (x y : X) → cmp x y ≡ Less → cmp y x ≡ Less → ⊥
  never_both x y e h = let clash : Less ≡ Greater = sym e ∙ t.antisymm x y ∙ ap ordering_reverse h in cc

  -- those of a rising list behind its first
  behind : (x y : X) (xs ys : List X) → x ≡ y → AllByRecursion (λ z. cmp x z ≡ Less) xs → ((z : X) → Contains (x ∷ xs) z → Contains (y ∷ ys) z) → (z : X) → Contains xs z → Contains ys z
  behind x y xs ys e up to z c = elim (contains_cons y z ys (to z (contains_later x z xs c))) [
    | inl same ↦ absurd (never_itself x (subst (λ (w : X). cmp x w ≡ Less) (sym (e ∙ same)) (all_contains (λ w. cmp x w ≡ Less) z xs up c)))
    | inr more ↦ more
  ]

  same_first : (x y : X) (xs ys : List X) → AllByRecursion (λ z. cmp x z ≡ Less) xs → AllByRecursion (λ z. cmp y z ≡ Less) ys → Contains (x ∷ xs) y → Contains (y ∷ ys) x → x ≡ y
  same_first x y xs ys up down c d = elim (contains_cons x y xs c) [
    | inl e ↦ e
    | inr later ↦ elim (contains_cons y x ys d) [
      | inl e ↦ sym e
      | inr earlier ↦ absurd (never_both x y (all_contains (λ w. cmp x w ≡ Less) y xs up later) (all_contains (λ w. cmp y w ≡ Less) x ys down earlier))
    ]
  ]

  same_length : (xs ys : List X) → IsStrictlySortedBy cmp xs → IsStrictlySortedBy cmp ys → ((z : X) → Contains xs z → Contains ys z) → ((z : X) → Contains ys z → Contains xs z) → length xs ≡ length ys
  unfolding IsStrictlySortedBy
  same_length [] [] up down to back = refl
  same_length [] (y ∷ ys) up down to back = contains_none y (back y (contains_first y y ys refl))
  same_length (x ∷ xs) [] up down to back = contains_none x (to x (contains_first x x xs refl))
  same_length (x ∷ xs) (y ∷ ys) up down to back =
      let e = same_first x y xs ys up.0 down.0 (back y (contains_first y y ys refl)) (to x (contains_first x x xs refl)) in
      ap suc (same_length xs ys up.1 down.1 (behind x y xs ys e up.0 to) (behind y x ys xs (sym e) down.0 back))

-- ---- components

module _ {T P : Type 0} (gate : T → P → Option ℕ) (ts : List T) (ps : List P) where
  walk_on : (p : P) (over : List P) (q r : P) → IsGateWalk gate ts ps p over q → Contains ps r → ShareGate gate ts q r → IsGateWalk gate ts ps p (over ++ r ∷ []) r
  walk_on p [] q r h known share = (known, subst (λ (x : P). ShareGate gate ts x r) (sym h) share, refl)
  walk_on p (s ∷ over) q r h known share = (h.0, h.1, walk_on s over q r h.2 known share)

  walk_back : (p : P) (over : List P) (q : P) → Contains ps p → IsGateWalk gate ts ps p over q → (back : List P) × IsGateWalk gate ts ps q back p
  walk_back p [] q known h = ([], sym h)
  walk_back p (s ∷ over) q known h =
      let rest = walk_back s over q h.0 h.2 in
      (rest.0 ++ p ∷ [], walk_on q rest.0 s p rest.1 known (record { track = h.1.track; known = h.1.known; one = h.1.other; other = h.1.one }))

  joined_back : (p q : P) → Contains ps p → AreJoined gate ts ps p q → AreJoined gate ts ps q p
  joined_back p q known h =
      let back = walk_back p h.over q known h.walk in
      record { known = known; over = back.0; walk = back.1 }

  joined_itself : (p : P) → Contains ps p → AreJoined gate ts ps p p
  joined_itself p known = record { known = known; over = []; walk = refl }

-- ---- the certificates of a slot

taken : {X : Type 0} (f : X → Bool) (y : X) (xs : List X) → Contains (filter f xs) y → Contains xs y × (f y ≡ true)
taken f y [] c = contains_none y c
taken f y (x ∷ xs) c = by_test (f x) refl (taken f y xs) c where
  by_test : (b : Bool) → f x ≡ b → (Contains (filter f xs) y → Contains xs y × (f y ≡ true)) → Contains (cond b (x ∷ filter f xs) (filter f xs)) y → Contains (x ∷ xs) y × (f y ≡ true)
  by_test true e rest h = elim (contains_cons x y (filter f xs) h) [
    | inl same ↦ (contains_first x y xs same, ap f (sym same) ∙ e)
    | inr more ↦ (contains_later x y xs (rest more).0, (rest more).1)
  ]
  by_test false e rest h = (contains_later x y xs (rest h).0, (rest h).1)

module _ {T P K : Type 0} (k : Tracking T P) (o : Ordered T P K) (laws : OrderLaws k o) (ts : List T) (n : ℕ) (ps : List P) where
  abbrev Made : Certificate P K → Type 0
  Made c = IsCertificateIn k o ts n ps c

  abbrev its_plots : P → List P
  its_plots p = of_radar (plot_radar o) (plot_radar o p) ps

  -- a certificate's first plot is one of the batch
  first_known : (c : Certificate P K) → Made c → Contains (its_plots c.first) c.first
  first_known c h = ((h.plots_are c.first).0 (contains_first c.first c.first c.rest refl)).known

  -- the first plot is the least
  first_or_above : (c : Certificate P K) (q : P) → Made c → Contains (plots c) q → (c.first ≡ q) ⊎ (o.cmp (o.key c.first) (o.key q) ≡ Less)
  unfolding IsStrictlySortedBy
  first_or_above c q h known = elim (contains_cons c.first q c.rest known) [
    | inl e ↦ inl e
    | inr more ↦ inr (all_contains (λ p. o.cmp (o.key c.first) (o.key p) ≡ Less) q c.rest h.plots_rise.0 more)
  ]

  -- of two lists of the slot's certificates a component has one in each, with the same least plot
  found : (cs ds : List (Certificate P K)) → AreCertificates k o ts n ps cs → AreCertificates k o ts n ps ds → (c : Certificate P K) → Contains cs c → (d : Certificate P K) × Contains ds d × (o.key d.first ≡ o.key c.first)
  found cs ds h g c known =
      let made = all_contains Made c cs h.each known in
      let in_batch = taken (λ p. plot_radar o p == plot_radar o c.first) c.first ps (first_known c made) in
      let d = g.whole c.first in_batch.0 in
      let its = all_contains Made d.0 ds g.each d.1 in
      let joined = (its.plots_are c.first).0 d.2 in
      let radar : plot_radar o c.first ≡ plot_radar o d.0.first = eqb-true (plot_radar o c.first) (plot_radar o d.0.first) (taken (λ p. plot_radar o p == plot_radar o d.0.first) c.first ps joined.known).1 in
      let back = joined_back k.gate (batch_table k o ts n ps (plot_radar o d.0.first)) (its_plots d.0.first) d.0.first c.first (first_known d.0 its) joined in
      let there = (made.plots_are d.0.first).1 (subst (λ (r : ℕ). AreJoined k.gate (batch_table k o ts n ps r) (of_radar (plot_radar o) r ps) c.first d.0.first) (sym radar) back) in (
        d.0,
        d.1,
        elim (first_or_above c d.0.first made there) [
          | inl e ↦ ap o.key (sym e)
          | inr above ↦ elim (first_or_above d.0 c.first its d.2) [
            | inl e ↦ ap o.key e
            | inr below ↦ absurd (never_both o.cmp laws.total (o.key c.first) (o.key d.0.first) above below)
          ]
        ],
      )

  abbrev least_keys : List (Certificate P K) → List K
  least_keys cs = map (λ c. o.key c.first) cs

  key_in : (cs : List (Certificate P K)) (z : K) → Contains (least_keys cs) z → (c : Certificate P K) × Contains cs c × (o.key c.first ≡ z)
  key_in [] z h = contains_none z h
  key_in (c ∷ cs) z h = elim (contains_cons (o.key c.first) z (least_keys cs) h) [
    | inl e ↦ (c, contains_first c c cs refl, e)
    | inr more ↦ (let r = key_in cs z more in (r.0, contains_later c r.0 cs r.1, r.2))
  ]

  key_of : (cs : List (Certificate P K)) (c : Certificate P K) → Contains cs c → Contains (least_keys cs) (o.key c.first)
  key_of [] c h = contains_none c h
  key_of (d ∷ cs) c h = elim (contains_cons d c cs h) [
    | inl e ↦ contains_first (o.key d.first) (o.key c.first) (least_keys cs) (ap (λ (x : Certificate P K). o.key x.first) e)
    | inr more ↦ contains_later (o.key d.first) (o.key c.first) (least_keys cs) (key_of cs c more)
  ]

  all_keys : (κ : K) (cs : List (Certificate P K)) → AllByRecursion (λ d. o.cmp κ (o.key d.first) ≡ Less) cs → AllByRecursion (λ z. o.cmp κ z ≡ Less) (least_keys cs)
  all_keys κ [] h = tt
  all_keys κ (c ∷ cs) h = (h.0, all_keys κ cs h.1)

  keys_rise : (cs : List (Certificate P K)) → IsStrictlySortedBy (λ c d. o.cmp (o.key c.first) (o.key d.first)) cs → IsStrictlySortedBy o.cmp (least_keys cs)
  unfolding IsStrictlySortedBy
  keys_rise [] h = tt
  keys_rise (c ∷ cs) h = (all_keys (o.key c.first) cs h.0, keys_rise cs h.1)

  moved : (cs ds : List (Certificate P K)) → AreCertificates k o ts n ps cs → AreCertificates k o ts n ps ds → (z : K) → Contains (least_keys cs) z → Contains (least_keys ds) z
  moved cs ds h g z here =
      let c = key_in cs z here in
      let d = found cs ds h g c.0 c.1 in
      subst (Contains (least_keys ds)) (d.2 ∙ c.2) (key_of ds d.0 d.1)

  slot_count : (cs ds : List (Certificate P K)) → AreCertificates k o ts n ps cs → AreCertificates k o ts n ps ds → length cs ≡ length ds
  slot_count cs ds h g =
      sym (length-map cs (λ c. o.key c.first)) ∙ same_length o.cmp laws.total (least_keys cs) (least_keys ds) (keys_rise cs h.order) (keys_rise ds g.order) (moved cs ds h g) (moved ds cs g h)
      ∙ length-map ds (λ c. o.key c.first)

-- ---- the certificates of a log

told_count : (life : LifeSettings) (ts : List TrackState) (n : ℕ) (ps : List PlanePlot) (cs ds : List KeyedCert) → AreTold life ts n ps cs → AreTold life ts n ps ds → length cs ≡ length ds
told_count life ts n ps cs ds h g =
    ap length h.all ∙ length-map h.certificates told ∙ slot_count (tracking life) (ordered life) (tracks_ordered life) ts n ps h.certificates g.certificates h.are g.are ∙ sym (length-map g.certificates told) ∙ sym (ap length g.all)

abbrev all_certs : List (List KeyedCert) → List Cert
all_certs by_slot = flat_map (map (λ k. k.cert)) by_slot

outs_count : (life : LifeSettings) (xs : List PlanePlot) (ns : List ℕ) (os us : List (List KeyedCert))
    → OutsAt (step_tracks life) slot_of_plot (AreTold life) [] xs ns os → OutsAt (step_tracks life) slot_of_plot (AreTold life) [] xs ns us → length (all_certs os) ≡ length (all_certs us)
outs_count life xs [] os us h g = ap (λ (l : List (List KeyedCert)). length (all_certs l)) (h ∙ sym g)
outs_count life xs (n ∷ ns) [] us h g = absurd h
outs_count life xs (n ∷ ns) (o ∷ os) [] h g = absurd g
outs_count life xs (n ∷ ns) (o ∷ os) (u ∷ us) h g =
    let one = told_count life (before (step_tracks life) slot_of_plot [] xs n) n (at_slot slot_of_plot n xs) o u h.0 g.0 in
    let others = outs_count life xs ns os us h.1 g.1 in
    omega (arith, length-append (map (λ k. k.cert) o) (all_certs os), length-append (map (λ k. k.cert) u) (all_certs us), length-map o (λ k. k.cert), length-map u (λ k. k.cert), one, others)

log_count : (settings : Settings) (log : History) (cs ds : List Cert) → AreLogCertificates settings log cs → AreLogCertificates settings log ds → length cs ≡ length ds
log_count settings log cs ds h g =
    ap length h.all ∙ outs_count settings.life (plots_of settings log) (open_slots (low_at settings.window (last_of log)) (plots_of settings log)) h.by_slot g.by_slot h.each g.each ∙ sym (ap length g.all)

zip_count : (settings : Settings) (log : History) (editions : List (ℕ × ℕ)) (cs ds : List (List Cert)) → AllZip (AreCertificatesAt settings log) editions cs → AllZip (AreCertificatesAt settings log) editions ds → length (end_to_end cs) ≡ length (end_to_end ds)
zip_count settings log [] [] [] h g = refl
zip_count settings log [] [] (d ∷ ds) h g = absurd g
zip_count settings log [] (c ∷ cs) ds h g = absurd h
zip_count settings log (edition ∷ editions) [] ds h g = absurd h
zip_count settings log (edition ∷ editions) (c ∷ cs) [] h g = absurd g
zip_count settings log (edition ∷ editions) (c ∷ cs) (d ∷ ds) h g =
    omega (arith, length-append c (end_to_end cs), length-append d (end_to_end ds), log_count settings (first edition.1 log) c d h.0 g.0, zip_count settings log editions cs ds h.1 g.1)

-- those of all editions of a log
pub certificates_count : (settings : Settings) (log : History) (cs ds : List Cert) → replay.AreCertificates settings log cs → replay.AreCertificates settings log ds → length cs ≡ length ds
certificates_count settings log cs ds h g = ap length h.whole ∙ zip_count settings log (editions_of log) h.pieces g.pieces h.editions g.editions ∙ sym (ap length g.whole)
