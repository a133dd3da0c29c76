-- What folds and parts are asked for, of the tracker's.
use Rattle.std.proofs.Common.{◌≡◌, ◌∙◌, sym, refl, ap, subst, ℕ, ◌+◌, ◌<◌, ◌≤◌, arith, List, [], ◌∷◌, length, Bool, true, false, inl, inr}
use Rattle.std.specs.Prelude.{◌⊎◌, ◌&&◌, ◌||◌, ◌≢◌}
use Rattle.std.specs.List.{AllByRecursion}
use Rattle.std.specs.List.Sorted.{IsStrictlySortedBy}
use Rattle.std.specs.Cmp.{IsTotalOrder}
use Rattle.std.specs.Ordering.{nat_cmp, ordering_then}
use Rattle.std.specs.declared.cmp.Ordering.{Ordering}
use Rattle.std.specs.declared.cmp.Ordering.TheVariants.{Less, Equal, Greater}
use Rattle.std.proofs.lemmas.Bool.{cond_both, cases_lt, le-ltb, ne_eqb}
use Rattle.std.proofs.lemmas.Cmp.{on_total}
use Rattle.trk_base.specs.declared.keys.Key.{Key}
use Rattle.trk_base.specs.Keys.{key_cmp}
use Rattle.trk_base.specs.KeyOrder.{key_cmp_total, key_cmp_exact}
use Rattle.plot_geometry.specs.Plots.{PlanePlot}
use Rattle.plot_geometry.specs.PlotOrder.{plot_cmp}
use Rattle.price_form.specs.Certificates.{IsCert}
use Rattle.track_life.specs.declared.settings.LifeSettings.{LifeSettings}
use Rattle.track_life.specs.Tracks.{TrackState}
use Rattle.late_window.specs.Folding.{ComesBefore, Rises, InSlot}
use Rattle.slot_step.specs.declared.certs.KeyedCert.{KeyedCert}
use Rattle.slot_step.specs.Interleavings as slots
use Rattle.slot_step.specs.Interleavings.Interleaved.{neither as both_end, first as from_one, second as from_other}
use Rattle.slot_step.specs.Slots.{radar_limit, run}
use Rattle.slot_step.specs.Slots as tables
use Rattle.slot_step.specs.Calls.{IsFromBefore, AreFromBefore}
use Rattle.slot_step.specs.Certificates.{AreCertificates}
use Rattle.slot_step.specs.Parts.{AreBeside, AreTwoParts, DontCross, merged_by, merged_certificates}
use Rattle.slot_step.specs.Parts as slot_parts
use Rattle.slot_step.specs.Told.{AreTold, told}
use Rattle.slot_step.specs.Tracker.{tracking, ordered, run_tracks}
use Rattle.slot_step.proofs.Counted.{is_before}
use Rattle.slot_step.proofs.Interleavings.{all_weaker, each_before}
use Rattle.slot_step.proofs.Slotted.{currents, after, map_sorted}
use Rattle.slot_step.proofs.Tables
use Rattle.slot_step.proofs.Certifying
use Rattle.slot_step.proofs.Tracker.{tracks_ordered}
use Rattle.span_clusters.specs.Interleavings.{Interleaved, KeysDiffer}
use Rattle.span_clusters.specs.Interleavings.Interleaved.{neither, first, second}
use Rattle.span_clusters.specs.Parts.{AreTwoInSlot, AreApart, picked_items}
use Rattle.span_clusters.proofs.Numbered.{picks_mix, picks_all_items}
use Rattle.track_parts.specs.Members.{Tracks}
use Rattle.track_parts.specs.Tracking.{slot_of_plot, key_of_plot, with_table, next, AreCertified, IsBefore, picked, merged, SharesNone, gates, by_least, both_certs}
use Rattle.track_parts.specs.Woven.{woven_is, all_merged, merged_map}

-- ---- orders

key_less : (o q : Ordering) → ordering_then o q ≡ Less → (o ≡ Equal → ⊥) → o ≡ Less
key_less Less q e n = refl
key_less Equal q e n = absurd (n refl)
key_less Greater q e n = cc

less_by_key : (p q : PlanePlot) → ComesBefore plot_cmp key_of_plot p q → key_cmp p.key q.key ≡ Less
less_by_key p q h = key_less (key_cmp p.key q.key) _ h.order (λ e. h.keys (key_cmp_exact p.key q.key e))

all_less : (p : PlanePlot) (ps : List PlanePlot) → AllByRecursion (ComesBefore plot_cmp key_of_plot p) ps → AllByRecursion (λ q. key_cmp p.key q.key ≡ Less) ps
all_less p [] h = tt
all_less p (q ∷ ps) h = (less_by_key p q h.0, all_less p ps h.1)

-- plots that rise are in rising key
pub plots_rise : (ps : List PlanePlot) → Rises plot_cmp key_of_plot ps → IsStrictlySortedBy (λ p q. key_cmp p.key q.key) ps
unfolding IsStrictlySortedBy
plots_rise [] h = tt
plots_rise (p ∷ ps) h = (all_less p ps h.0, plots_rise ps h.1)

not_greater : (o r q : Ordering) → ordering_then (ordering_then o r) q ≡ Less → o ≡ Greater → ⊥
not_greater Less r q e f = cc
not_greater Equal r q e f = cc
not_greater Greater r q e f = cc

pub in_order : (x y : PlanePlot) → plot_cmp x y ≡ Less → x.key.slot ≤ y.key.slot
in_order x y less = elim (cases_lt y.key.slot x.key.slot) [
  | inl lt ↦ absurd (not_greater (nat_cmp x.key.slot y.key.slot) _ _ less (rw (le-ltb x.key.slot y.key.slot (omega (arith, lt)), ne_eqb x.key.slot y.key.slot (λ q. omega (arith, lt, q))) refl))
  | inr le ↦ le
]

pub slot_in_key : (x y : PlanePlot) → x.key ≡ y.key → x.key.slot ≡ y.key.slot
slot_in_key x y e = ap (λ (k : Key). k.slot) e

-- ---- states before a slot

-- a table from before a slot is from before each later one
later_still : (a b : ℕ) (ts : List TrackState) → a ≤ b → AreFromBefore a ts → AreFromBefore b ts
later_still a b ts le h = record {
  rising = h.rising;
  each = all_weaker (IsFromBefore a) (IsFromBefore b) ts (λ t before. record { time = omega (arith, before.time, le); birth = omega (arith, before.birth, le) }) h.each;
}

pub stays_before : (s : Tracks) (a b : ℕ) → a ≤ b → IsBefore s a → IsBefore s b
stays_before s a b le h = later_still a b s.table le h

module _ (life : LifeSettings) (n : ℕ) (ts : List TrackState) (ps : List PlanePlot) (before : AreFromBefore n ts) (own : InSlot slot_of_plot n ps) (rise : IsStrictlySortedBy (λ p q. key_cmp p.key q.key) ps) where
  times : AllByRecursion (IsFromBefore (n + 1)) (run_tracks life ts n ps)
  unfolding run
  times = after n (run_tracks life ts n ps) (currents life n ts ps before own radar_limit)

  after_run : AreFromBefore (n + 1) (run_tracks life ts n ps)
  after_run = record { rising = (Tables.run_before (tracking life) (ordered life) (tracks_ordered life) ts n ps own rise (is_before life n ts before)).table; each = times }

pub goes_before : (s : Tracks) (n : ℕ) (ps : List PlanePlot) → InSlot slot_of_plot n ps → Rises plot_cmp key_of_plot ps → IsBefore s n → IsBefore (next s n ps) (n + 1)
goes_before s n ps own rise h = after_run s.life n s.table ps h own (plots_rise ps rise)

-- ---- tracks by their numbers

picked_all : (Q : TrackState → Type 0) (f : ℕ → Bool) (ns : List ℕ) (ts : List TrackState) → AllByRecursion Q ts → AllByRecursion Q (picked_items f ns ts)
picked_all Q f [] ts h = tt
picked_all Q f (n ∷ ns) [] h = tt
picked_all Q f (n ∷ ns) (t ∷ ts) h = cond_both (f n) (t ∷ picked_items f ns ts) (picked_items f ns ts) (AllByRecursion Q) (λ e. (h.0, picked_all Q f ns ts h.1)) (λ e. picked_all Q f ns ts h.1)

picked_rise : (life : LifeSettings) (f : ℕ → Bool) (ns : List ℕ) (ts : List TrackState) → tables.IsTable (ordered life) ts → tables.IsTable (ordered life) (picked_items f ns ts)
unfolding IsStrictlySortedBy
picked_rise life f [] ts h = tt
picked_rise life f (n ∷ ns) [] h = tt
picked_rise life f (n ∷ ns) (t ∷ ts) h =
    cond_both (f n) (t ∷ picked_items f ns ts) (picked_items f ns ts) (tables.IsTable (ordered life))
    (λ e. (picked_all (λ u. key_cmp t.birth u.birth ≡ Less) f ns ts h.0, picked_rise life f ns ts h.1))
    (λ e. picked_rise life f ns ts h.1)

pub picks_all : (s : Tracks) (ns : List ℕ) (f : ℕ → Bool) → length ns ≡ length s.table → AllByRecursion (λ k. f k ≡ true) ns → picked s ns f ≡ s
picks_all s ns f l h = ap (with_table s) (picks_all_items f ns s.table l h)

pub picks_before : (s : Tracks) (ns : List ℕ) (f : ℕ → Bool) (n : ℕ) → length ns ≡ length s.table → IsBefore s n → IsBefore (picked s ns f) n
picks_before s ns f n l h = record { rising = picked_rise s.life f ns s.table h.rising; each = picked_all (IsFromBefore n) f ns s.table h.each }

-- the two kinds of lists put together are alike
woven : {X : Type 0} (xs ys zs : List X) → Interleaved xs ys zs → slots.Interleaved xs ys zs
woven _ _ _ neither = both_end
woven _ _ _ (first x xs ys zs m) = from_one x xs ys zs (woven xs ys zs m)
woven _ _ _ (second y xs ys zs m) = from_other y xs ys zs (woven xs ys zs m)

module _ (s : Tracks) (ns : List ℕ) (f g : ℕ → Bool) (n : ℕ) (h : IsBefore s n) (d : (k : ℕ) → (f k && g k) ≡ false) where
  both_picks : slots.Interleaved (picked_items f ns s.table) (picked_items g ns s.table) (picked_items (λ k. f k || g k) ns s.table)
  both_picks = woven _ _ _ (picks_mix f g ns s.table d)

  pick_rises : (p : ℕ → Bool) → tables.IsTable (ordered s.life) (picked_items p ns s.table)
  pick_rises p = picked_rise s.life p ns s.table h.rising

  picks_share_none : AreBeside (ordered s.life) (picked_items f ns s.table) (picked_items g ns s.table)
  picks_share_none = record {
    one = pick_rises f;
    other = pick_rises g;
    births = each_before (tables.by_birth (ordered s.life)) (λ t u. t.birth ≢ u.birth) (λ t u e. (Tables.keys_differ (tracking s.life) (ordered s.life) (tracks_ordered s.life) t.birth u.birth e))
        (picked_items f ns s.table) (picked_items g ns s.table) (picked_items (λ k. f k || g k) ns s.table) both_picks (pick_rises (λ k. f k || g k));
  }

pub picks_beside : (s : Tracks) (ns : List ℕ) (f g : ℕ → Bool) (n : ℕ) → length ns ≡ length s.table → IsBefore s n → ((k : ℕ) → (f k && g k) ≡ false) → SharesNone (picked s ns f) (picked s ns g)
picks_beside s ns f g n l h d = record { life = refl; tables = picks_share_none s ns f g n h d }

pub picks_merged : (s : Tracks) (ns : List ℕ) (f g : ℕ → Bool) (n : ℕ) → length ns ≡ length s.table → IsBefore s n → ((k : ℕ) → (f k && g k) ≡ false)
    → merged (picked s ns f) (picked s ns g) ≡ picked s ns (λ k. f k || g k)
picks_merged s ns f g n l h d =
    ap (with_table s) (sym (Tables.is_merged (tracking s.life) (ordered s.life) (tracks_ordered s.life) (picked_items f ns s.table) (picked_items g ns s.table) (picked_items (λ k. f k || g k) ns s.table)
    (picks_share_none s ns f g n h d) (both_picks s ns f g n h d) (pick_rises s ns f g n h d (λ k. f k || g k))))

-- ---- merging: the order of tables is one, whatever the life

-- that two tables share no birth doesn't depend on the life
whatever_life : (l m : LifeSettings) (ts us : List TrackState) → AreBeside (ordered l) ts us → AreBeside (ordered m) ts us
whatever_life l m ts us b = record { one = b.one; other = b.other; births = b.births }

pub beside_back : (s t : Tracks) → SharesNone s t → SharesNone t s
beside_back s t b = record { life = sym b.life; tables = whatever_life s.life t.life t.table s.table (Tables.beside_back (tracking s.life) (ordered s.life) (tracks_ordered s.life) s.table t.table b.tables) }

pub beside_merged : (s t r : Tracks) → SharesNone s t → SharesNone s r → SharesNone t r → SharesNone (merged s t) r
beside_merged s t r a b c = record { life = b.life; tables = Tables.beside_merged (tracking s.life) (ordered s.life) (tracks_ordered s.life) s.table t.table r.table a.tables b.tables (whatever_life t.life s.life t.table r.table c.tables) }

pub merged_back : (s t : Tracks) → SharesNone s t → merged s t ≡ merged t s
merged_back s t b = λ i. record { life = b.life i; table = Tables.merged_back (tracking s.life) (ordered s.life) (tracks_ordered s.life) s.table t.table b.tables i }

pub merged_rest : (s t r : Tracks) → SharesNone s t → SharesNone s r → SharesNone t r → merged (merged s t) r ≡ merged s (merged t r)
merged_rest s t r a b c = ap (with_table s) (Tables.merged_rest (tracking s.life) (ordered s.life) (tracks_ordered s.life) s.table t.table r.table a.tables b.tables (whatever_life t.life s.life t.table r.table c.tables))

pub merged_before : (s t : Tracks) (n : ℕ) → SharesNone s t → IsBefore s n → IsBefore t n → IsBefore (merged s t) n
merged_before s t n b h g = record {
  rising = (Tables.merged_of (tracking s.life) (ordered s.life) (tracks_ordered s.life) s.table t.table b.tables).1;
  each = all_merged (tables.by_birth (ordered s.life)) (on_total (λ (t : TrackState). t.birth) key_cmp_total) (IsFromBefore n) s.table t.table h.each g.each;
}

pub beside_next : (s t : Tracks) (n : ℕ) (xs ys : List PlanePlot) → SharesNone s t → IsBefore s n → IsBefore t n → InSlot slot_of_plot n xs → InSlot slot_of_plot n ys
    → Rises plot_cmp key_of_plot xs → Rises plot_cmp key_of_plot ys → KeysDiffer key_of_plot xs ys → SharesNone (next s n xs) (next t n ys)
beside_next s t n xs ys b hs ht ix iy rx ry d = record {
  life = b.life;
  tables = subst (λ (l : LifeSettings). AreBeside (ordered s.life) (run_tracks s.life s.table n xs) (run_tracks l t.table n ys)) b.life
      (Tables.beside_run (tracking s.life) (ordered s.life) (tracks_ordered s.life) s.table t.table n xs ys b.tables (is_before s.life n s.table hs) (is_before s.life n t.table ht) ix iy (plots_rise xs rx) (plots_rise ys ry) d);
}

-- ---- two parts in one slot

abbrev Two : ℕ → Tracks → Tracks → List PlanePlot → List PlanePlot → List PlanePlot → Type 0
Two n s t xs ys zs = AreTwoInSlot plot_cmp key_of_plot slot_of_plot IsBefore SharesNone n s t xs ys zs

two_parts : (n : ℕ) (s t : Tracks) (xs ys zs : List PlanePlot) → Two n s t xs ys zs → AreTwoParts (ordered s.life) n s.table t.table xs ys zs
two_parts n s t xs ys zs i = record {
  plots = woven xs ys zs i.items;
  of_slot = i.of_slot;
  rising = plots_rise zs i.rising;
  beside = i.beside.tables;
  one = is_before s.life n s.table i.one;
  other = is_before s.life n t.table i.other;
}

-- what holds where both have the one life holds where the other's is equal to it
with_life : (P : LifeSettings → Type 0) (s t : Tracks) (n : ℕ) (xs ys : List PlanePlot) → s.life ≡ t.life → AreApart gates n s t xs ys
    → (DontCross (tracking s.life) (ordered s.life) n s.table t.table xs ys → P s.life) → P t.life
with_life P s t n xs ys e a f =
    subst (λ (l : LifeSettings). (slot_parts.Reaches (tracking l) (ordered l) n t.table ys xs → ⊥) → P l) e (λ back. f (record { there = a.there; back = back })) a.back

pub gates_merged : (s t : Tracks) (n : ℕ) (xs ys zs : List PlanePlot) (p : PlanePlot) → Two n s t xs ys zs → AreApart gates n s t xs ys → gates (merged s t) n zs p → gates s n xs p ⊎ gates t n ys p
gates_merged s t n xs ys zs p i a g =
    with_life (λ l. gates s n xs p ⊎ tables.IsGated (tracking l) (ordered l) t.table n ys p) s t n xs ys i.beside.life a
    (λ apart. Tables.gated_merged (tracking s.life) (ordered s.life) (tracks_ordered s.life) s.table t.table n xs ys zs p (two_parts n s t xs ys zs i) apart g)

pub next_merged : (s t : Tracks) (n : ℕ) (xs ys zs : List PlanePlot) → Two n s t xs ys zs → AreApart gates n s t xs ys → next (merged s t) n zs ≡ merged (next s n xs) (next t n ys)
next_merged s t n xs ys zs i a =
    with_life (λ l. next (merged s t) n zs ≡ merged (next s n xs) (with_table t (run_tracks l t.table n ys))) s t n xs ys i.beside.life a
    (λ apart. ap (with_table s) (Tables.run_merged (tracking s.life) (ordered s.life) (tracks_ordered s.life) s.table t.table n xs ys zs (two_parts n s t xs ys zs i) apart))

certs_total : IsTotalOrder by_least
certs_total = on_total (λ (c : KeyedCert). c.least) key_cmp_total

-- certificates that are told rise
told_rise : (life : LifeSettings) (ts : List TrackState) (n : ℕ) (ps : List PlanePlot) (certs : List KeyedCert) → AreTold life ts n ps certs → IsStrictlySortedBy by_least certs
told_rise life ts n ps certs h = subst (IsStrictlySortedBy by_least) (sym h.all) (map_sorted by_least told h.certificates h.are.order)

both_told : (l m : LifeSettings) (s t : List TrackState) (n : ℕ) (xs ys zs : List PlanePlot) (ws : List TrackState) (a b : List KeyedCert) (ha : AreTold l s n xs a) (hb : AreTold m t n ys b)
    → AreCertificates (tracking l) (ordered l) ws n zs (merged_certificates (ordered l) ha.certificates hb.certificates) → AreTold l ws n zs (both_certs a b)
both_told l m s t n xs ys zs ws a b ha hb are = record {
  certificates = merged_certificates (ordered l) ha.certificates hb.certificates;
  are = are;
  all = woven_is by_least certs_total a b (told_rise l s n xs a ha) (told_rise m t n ys b hb) ∙ (λ i. merged_by by_least (ha.all i) (hb.all i)) ∙ merged_map told by_least ha.certificates hb.certificates;
}

all_both : (Q : KeyedCert → Type 0) (life : LifeSettings) (ts us : List TrackState) (n : ℕ) (xs ys : List PlanePlot) (m : LifeSettings) (a b : List KeyedCert) → AreTold life ts n xs a → AreTold m us n ys b → AllByRecursion Q a → AllByRecursion Q b → AllByRecursion Q (both_certs a b)
all_both Q life ts us n xs ys m a b ha hb h g =
    subst (AllByRecursion Q) (sym (woven_is by_least certs_total a b (told_rise life ts n xs a ha) (told_rise m us n ys b hb))) (all_merged by_least certs_total Q a b h g)

pub out_merged : (s t : Tracks) (n : ℕ) (xs ys zs : List PlanePlot) (a b : List KeyedCert) → Two n s t xs ys zs → AreApart gates n s t xs ys → 0 < length xs → 0 < length ys
    → AreCertified s n xs a → AreCertified t n ys b → AreCertified (merged s t) n zs (both_certs a b)
out_merged s t n xs ys zs a b i apart lx ly ha hb =
    with_life (λ l. (c : AreTold l t.table n ys b) → AllByRecursion (λ k. IsCert k.cert) b → AreCertified (merged s t) n zs (both_certs a b)) s t n xs ys i.beside.life apart
    (λ d told_b whole_b. record {
      told = both_told s.life s.life s.table t.table n xs ys zs (merged s t).table a b ha.told told_b
          (Certifying.certificates_merged (tracking s.life) (ordered s.life) (tracks_ordered s.life) s.table t.table n xs ys zs ha.told.certificates told_b.certificates (two_parts n s t xs ys zs i) d ha.told.are told_b.are);
      whole = all_both (λ k. IsCert k.cert) s.life s.table t.table n xs ys s.life a b ha.told told_b ha.whole whole_b;
    }) hb.told hb.whole

pub out_alone : (s t : Tracks) (n : ℕ) (xs : List PlanePlot) (a : List KeyedCert) → Two n s t xs [] xs → AreApart gates n s t xs [] → 0 < length xs → AreCertified s n xs a → AreCertified (merged s t) n xs a
out_alone s t n xs a i apart l ha =
    with_life (λ l. AreCertified (merged s t) n xs a) s t n xs [] i.beside.life apart
    (λ d. record {
      told = record {
        certificates = ha.told.certificates;
        are = Certifying.certificates_alone (tracking s.life) (ordered s.life) (tracks_ordered s.life) s.table t.table n xs ha.told.certificates (two_parts n s t xs [] xs i) d ha.told.are;
        all = ha.told.all;
      };
      whole = ha.whole;
    })

-- ---- resting

pub next_rested : (s : Tracks) (a b : ℕ) (ps : List PlanePlot) → IsBefore s a → a < b → next (next s a []) b ps ≡ next s b ps
next_rested s a b ps h lt = ap (with_table s) (Tables.run_rested (tracking s.life) (ordered s.life) (tracks_ordered s.life) s.table a b ps (omega (arith, lt)))

pub out_rested : (s : Tracks) (a b : ℕ) (ps : List PlanePlot) (certs : List KeyedCert) → IsBefore s a → a < b → AreCertified s b ps certs → AreCertified (next s a []) b ps certs
out_rested s a b ps certs h lt c = record {
  told = record {
    certificates = c.told.certificates;
    are = Certifying.certificates_rested (tracking s.life) (ordered s.life) (tracks_ordered s.life) s.table a b ps c.told.certificates (omega (arith, lt)) c.told.are;
    all = c.told.all;
  };
  whole = c.whole;
}

pub gates_rested : (s : Tracks) (a b : ℕ) (ps : List PlanePlot) (p : PlanePlot) → IsBefore s a → a < b → gates (next s a []) b ps p → gates s b ps p
gates_rested s a b ps p h lt g = Tables.gated_rested (tracking s.life) (ordered s.life) (tracks_ordered s.life) s.table a b ps p (omega (arith, lt)) g
