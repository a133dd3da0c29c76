-- The items of one time more.
use Rattle.std.proofs.Common.{◌≡◌, ◌∙◌, ap, sym, ℕ, ◌+◌, List, ◌++◌}
use Rattle.std.specs.List.{flat_map, range_with_len}
use Rattle.std.proofs.lemmas.List.{append_assoc}
use Rattle.std.proofs.lemmas.List.Concat.{flat_map-append}
use Rattle.recording.specs.Items.{Item, item_octets}
use Rattle.scene_gen.specs.Delays.{Sent}
use Rattle.scene_gen.specs.Scenes.{come_at, items_at, north_markers, tick_at}
use Rattle.scene_gen.proofs.Runs.{run_more}

abbrev octets_of : List Item → List ℕ
octets_of items = flat_map item_octets items

-- three lists behind one
behind : (a n c t : List ℕ) → a ++ n ++ c ++ t ≡ a ++ (n ++ (c ++ t))
behind a n c t = append_assoc (a ++ n) c t ∙ append_assoc a n (c ++ t)

at_time : (plots : List Sent) (seconds time : ℕ) → octets_of (items_at plots seconds time) ≡ octets_of (north_markers seconds time) ++ (octets_of (come_at plots time) ++ octets_of (tick_at time))
at_time plots seconds time =
    flat_map-append item_octets (north_markers seconds time) (come_at plots time ++ tick_at time)
    ∙ ap (λ (l : List ℕ). octets_of (north_markers seconds time) ++ l) (flat_map-append item_octets (come_at plots time) (tick_at time))

pub time_more : (plots : List Sent) (seconds time : ℕ) (header : List ℕ) (come : List Item) {first marked come_octets all : List ℕ} → first ≡ header ++ octets_of (flat_map (items_at plots seconds) (range_with_len 0 time)) → marked ≡ first ++ octets_of (north_markers seconds time) → come_octets ≡ marked ++ octets_of come → come ≡ come_at plots time → all ≡ come_octets ++ octets_of (tick_at time)
    → all ≡ header ++ octets_of (flat_map (items_at plots seconds) (range_with_len 0 (time + 1)))
time_more plots seconds time header come {first} {marked} {come_octets} {all} inv north plot same ticked =
    let before : List ℕ = octets_of (flat_map (items_at plots seconds) (range_with_len 0 time)) in
    let n : List ℕ = octets_of (north_markers seconds time) in
    let c : List ℕ = octets_of (come_at plots time) in
    let t : List ℕ = octets_of (tick_at time) in
    ticked ∙ ap (λ (l : List ℕ). l ++ t) (plot ∙ ap (λ (l : List ℕ). l ++ octets_of come) (north ∙ ap (λ (l : List ℕ). l ++ n) inv) ∙ ap (λ (l : List Item). (header ++ before) ++ n ++ octets_of l) same)
    ∙ behind (header ++ before) n c t ∙ ap (λ (l : List ℕ). (header ++ before) ++ l) (sym (at_time plots seconds time))
    ∙ append_assoc header before (octets_of (items_at plots seconds time))
    ∙ ap (λ (l : List ℕ). header ++ l) (sym (flat_map-append item_octets (flat_map (items_at plots seconds) (range_with_len 0 time)) (items_at plots seconds time)) ∙ ap octets_of (sym (run_more (items_at plots seconds) time)))
