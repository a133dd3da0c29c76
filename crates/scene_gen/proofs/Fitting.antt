-- Each item of a scene is one of a recording of the first form: a time of 40 bits, or a datagram that is short enough.
use Rattle.std.proofs.Common.{◌≡◌, inl, refl, sym, subst, ℕ, zero, suc, ◌+◌, ◌*◌, ◌%◌, ◌<◌, ◌≤◌, ◌^◌, List, [], ◌∷◌, ◌++◌, length, map, Bool, true, false, cond, arith, append-nil}
use Rattle.std.specs.Prelude.{⊤, Option, Some, None, option_map, filter, filter_map, flat_map, nat_lt, ◌==◌, ◌&&◌}
use Rattle.std.specs.List.{AllByRecursion, cons_option, range_with_len}
use Rattle.rand_pcg.specs.Lcg.{Lcg}
use Rattle.asterix_frame.specs.Encoding.{field_of, field_octet}
use Rattle.recording.specs.declared.ending.Ending.TheVariants.{Nothing}
use Rattle.recording.specs.declared.header.Header.TheVariants.{First}
use Rattle.recording.specs.Items.{Item, IsItem, item_octets, tick}
use Rattle.recording.specs.Readings.{IsReading}
use Rattle.scene_gen.specs.declared.fleet.Aircraft.{Aircraft}
use Rattle.scene_gen.specs.declared.radars.SceneRadar.{SceneRadar}
use Rattle.scene_gen.specs.Datagrams.{block_of, north_items, north_marker, plot, plot_items, plot_of, start}
use Rattle.scene_gen.specs.Delays.{Plot, Sent, delayed, after_delay}
use Rattle.scene_gen.specs.Draws.{after, generator_of}
use Rattle.scene_gen.specs.Fleets.{fleet_from}
use Rattle.scene_gen.specs.Radars.{radars}
use Rattle.scene_gen.specs.Scenes.{come_at, coming, items, items_at, last_tick, north_markers, plots, plots_of, scene, seen_at, tick_at}
use Rattle.scene_gen.specs.Sightings.{sees, sighting}

-- ---- of each element of a list that is made of another

abbrev Each : {X : Type 0} → (X → Type 0) → List X → Type 0
Each P xs = AllByRecursion P xs

each_append : {X : Type 0} (P : X → Type 0) (xs ys : List X) → Each P xs → Each P ys → Each P (xs ++ ys)
each_append P [] ys h k = k
each_append P (x ∷ xs) ys h k = (h.0, each_append P xs ys h.1 k)

each_map : {X Y : Type 0} (P : Y → Type 0) (f : X → Y) (xs : List X) → Each (λ x. P (f x)) xs → Each P (map f xs)
each_map P f [] h = tt
each_map P f (x ∷ xs) h = (h.0, each_map P f xs h.1)

each_filter : {X : Type 0} (P : X → Type 0) (p : X → Bool) (xs : List X) → Each P xs → Each P (filter p xs)
each_filter P p [] h = tt
each_filter P p (x ∷ xs) h = by_test (p x) (each_filter P p xs h.1) where
  by_test : (b : Bool) → Each P (filter p xs) → Each P (cond b (x ∷ filter p xs) (filter p xs))
  by_test true rest = (h.0, rest)
  by_test false rest = rest

each_flat : {X Y : Type 0} (P : Y → Type 0) (Q : X → Type 0) (f : X → List Y) → ((x : X) → Q x → Each P (f x)) → (xs : List X) → Each Q xs → Each P (flat_map f xs)
each_flat P Q f each [] h = tt
each_flat P Q f each (x ∷ xs) h = each_append P (f x) (flat_map f xs) (each x h.0) (each_flat P Q f each xs h.1)

any : {X : Type 0} (P : X → Type 0) → ((x : X) → P x) → (xs : List X) → Each P xs
any P p [] = tt
any P p (x ∷ xs) = (p x, any P p xs)

below_end : (from n end : ℕ) → from + n ≤ end → Each (λ k. k < end) (range_with_len from n)
below_end from zero end h = tt
below_end from (suc n) end h = (omega (arith, h), below_end (from + 1) n end (omega (arith, h)))

-- ---- the items

abbrev Fits : Item → Type 0
Fits = IsItem First

abbrev IsFeed : SceneRadar → Type 0
IsFeed r = r.feed < 256

are_feeds : Each IsFeed radars
are_feeds = (omega arith, (omega arith, (omega arith, tt)))

north_size : (r : SceneRadar) (time : ℕ) → length (block_of 34 (north_items r time)) ≡ 10
unfolding field_of field_octet
north_size r time = refl

plot_size : (r : SceneRadar) (a : Aircraft) (time : ℕ) (polar : ℕ × ℕ) → length (block_of 48 (plot_items r a time polar)) ≡ 22
unfolding field_of field_octet
plot_size r a time polar = refl

north_fits : (time : ℕ) (r : SceneRadar) → IsFeed r → Fits (north_marker time r)
north_fits time r feed = (feed, subst (λ (n : ℕ). n < 2 ^ 16) (sym (north_size r time)) (omega arith))

plot_fits : (r : SceneRadar) (a : Aircraft) (time : ℕ) (polar : ℕ × ℕ) → IsFeed r → Fits (plot_of r a time polar)
plot_fits r a time polar feed = (feed, subst (λ (n : ℕ). n < 2 ^ 16) (sym (plot_size r a time polar)) (omega arith))

plots_fit : (r : SceneRadar) (time : ℕ) (aircraft : List Aircraft) → IsFeed r → Each Fits (filter_map (plot r time) aircraft)
plots_fit r time [] feed = tt
plots_fit r time (a ∷ more) feed = by_sighting (sighting r time a) (plots_fit r time more feed) where
  by_sighting : (seen : Option (ℕ × ℕ)) → Each Fits (filter_map (plot r time) more) → Each Fits (cons_option (option_map (plot_of r a time) seen) (filter_map (plot r time) more))
  by_sighting None rest = rest
  by_sighting (Some polar) rest = (plot_fits r a time polar feed, rest)

seen_fit : (aircraft : List Aircraft) (time : ℕ) → Each Fits (seen_at aircraft time)
seen_fit aircraft time = each_flat Fits IsFeed (λ r. filter_map (plot r time) (filter (sees r time) aircraft)) (λ r feed. plots_fit r time (filter (sees r time) aircraft) feed) radars are_feeds

all_plots_fit : (aircraft : List Aircraft) (seconds : ℕ) → Each (λ (p : Plot). Fits p.item) (plots aircraft seconds)
all_plots_fit aircraft seconds =
    each_flat (λ (p : Plot). Fits p.item) (λ (k : ℕ). ⊤) (λ time. plots_of time (seen_at aircraft time))
    (λ time here. each_map (λ (p : Plot). Fits p.item) (λ item. record { seen = time; item = item }) (seen_at aircraft time) (seen_fit aircraft time))
    (range_with_len 0 (128 * seconds)) (any (λ (k : ℕ). ⊤) (λ k. tt) (range_with_len 0 (128 * seconds)))

delayed_fit : (late : ℕ) (g : Lcg) (ps : List Plot) → Each (λ (p : Plot). Fits p.item) ps → Each (λ (p : Sent). Fits p.item) (delayed late g ps)
unfolding delayed
delayed_fit late g [] h = tt
delayed_fit late g (p ∷ ps) h = (h.0, delayed_fit late (after_delay late g) ps h.1)

come_fit : (sent : List Sent) (time : ℕ) → Each (λ (p : Sent). Fits p.item) sent → Each Fits (come_at sent time)
come_fit sent time h = each_map Fits (λ (p : Sent). p.item) (filter (λ p. p.time == time) sent) (each_filter (λ (p : Sent). Fits p.item) (λ p. p.time == time) sent h)

radars_fit : (time : ℕ) (rs : List SceneRadar) → Each IsFeed rs → Each (λ r. Fits (north_marker time r)) rs
radars_fit time [] h = tt
radars_fit time (r ∷ rs) h = (north_fits time r h.0, radars_fit time rs h.1)

markers_fit : (seconds time : ℕ) → Each Fits (north_markers seconds time)
markers_fit seconds time = by_test (nat_lt time (128 * seconds)) where
  by_test : (b : Bool) → Each Fits (cond b (map (north_marker time) (filter (λ r. time % r.period == 0) radars)) [])
  by_test true = each_map Fits (north_marker time) (filter (λ r. time % r.period == 0) radars) (each_filter (λ r. Fits (north_marker time r)) (λ r. time % r.period == 0) radars (radars_fit time radars are_feeds))
  by_test false = tt

tick_fits : (time : ℕ) → start + time < 2 ^ 40 → Each Fits (tick_at time)
tick_fits time h = by_test (time % 128 == 0 && nat_lt 0 time) where
  by_test : (b : Bool) → Each Fits (cond b (tick (start + time) ∷ []) [])
  by_test true = (h, tt)
  by_test false = tt

time_fits : (seconds time : ℕ) → seconds < 2 ^ 16 → time < last_tick seconds + 1 → start + time < 2 ^ 40
time_fits seconds time few within = omega (arith, few, within)

here_fit : (sent : List Sent) (seconds time : ℕ) → Each (λ (p : Sent). Fits p.item) sent → start + time < 2 ^ 40 → Each Fits (items_at sent seconds time)
here_fit sent seconds time h small =
    each_append Fits (north_markers seconds time) (come_at sent time ++ tick_at time) (markers_fit seconds time)
    (each_append Fits (come_at sent time) (tick_at time) (come_fit sent time h) (tick_fits time small))

-- of up to 65,535 seconds
items_fit : (seed aircraft seconds late : ℕ) → seconds < 2 ^ 16 → Each Fits (items (coming seed aircraft seconds late) seconds)
items_fit seed aircraft seconds late few =
    let sent = coming seed aircraft seconds late in
    let fit = delayed_fit late (after (9 * aircraft) (generator_of seed)) (plots (fleet_from (generator_of seed) aircraft) seconds) (all_plots_fit (fleet_from (generator_of seed) aircraft) seconds) in
    each_flat Fits (λ (k : ℕ). k < last_tick seconds + 1) (items_at sent seconds) (λ time within. here_fit sent seconds time fit (time_fits seconds time few within))
    (range_with_len 0 (last_tick seconds + 1)) (below_end 0 (last_tick seconds + 1) (last_tick seconds + 1) (omega arith))

-- the octets are these items, and nothing else
pub is_read : (seed aircraft seconds late : ℕ) → seconds < 2 ^ 16 → IsReading (scene seed aircraft seconds late) (Some First) start (items (coming seed aircraft seconds late) seconds) None
unfolding scene
is_read seed aircraft seconds late few =
    let all = items (coming seed aircraft seconds late) seconds in
    inl (record {
      start_fits = omega arith;
      after = flat_map item_octets all;
      whole = refl;
      ending = Nothing;
      items_are = record { fit = items_fit seed aircraft seconds late few; rest = []; whole = sym (append-nil (flat_map item_octets all)); ends = refl };
      fault_is = refl;
    })
