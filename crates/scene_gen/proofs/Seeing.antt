-- The plots of a time, as they are put there one by one.
use Rattle.std.proofs.Common.{◌≡◌, ◌∙◌, ap, sym, ℕ, ◌+◌, ◌<◌, List, [], ◌∷◌, ◌++◌, length, take, get_or, map, Option, Some, None, pos}
use Rattle.std.specs.Prelude.{filter_map, option_map}
use Rattle.std.specs.List.{cons_option, flat_map}
use Rattle.std.proofs.lemmas.List.{append-nil, append_assoc, map-append, take_more}
use Rattle.std.proofs.lemmas.List.Concat.{flat_map-append}
use Rattle.std.proofs.lemmas.List.Elements.{filter_map-append}
use Rattle.recording.specs.Items.{Item, item_octets}
use Rattle.scene_gen.specs.declared.fleet.Aircraft.{Aircraft}
use Rattle.scene_gen.specs.declared.radars.SceneRadar.{SceneRadar}
use Rattle.scene_gen.specs.declared.sightings.Polar.{Polar}
use Rattle.scene_gen.specs.declared.sweeps.Sweep.{Sweep}
use Rattle.scene_gen.specs.Answers.{polar_of}
use Rattle.scene_gen.specs.Datagrams.{plot, plot_of}
use Rattle.scene_gen.specs.Sightings.{sighting}
use Rattle.scene_gen.specs.Sweeps.{seen_by}

-- the octets of a plot, where there is one
abbrev pub octets_of : Option Item → List (List ℕ)
octets_of item = map item_octets (cons_option item [])

-- what stands for an element past the end of a list
abbrev pub nowhere : Aircraft
nowhere = record { x = pos 0; y = pos 0; vx = pos 0; vy = pos 0; code = 0; level = 0; address = 0; phases = [] }

one_more : (r : SceneRadar) (time : ℕ) (aircraft : List Aircraft) (i : ℕ) (d : Aircraft) → i < length aircraft → filter_map (plot r time) (take (i + 1) aircraft) ≡ filter_map (plot r time) (take i aircraft) ++ cons_option (plot r time (get_or aircraft i d)) []
one_more r time aircraft i d within =
    ap (filter_map (plot r time)) (take_more aircraft i d within) ∙ filter_map-append (plot r time) (take i aircraft) (get_or aircraft i d ∷ [])

pub seen_more : (r : SceneRadar) (time : ℕ) (aircraft : List Aircraft) (i : ℕ) (d : Aircraft) (item : Option Item) (before : List (List ℕ)) {now next : List (List ℕ)} → i < length aircraft → plot r time (get_or aircraft i d) ≡ item → now ≡ before ++ map item_octets (filter_map (plot r time) (take i aircraft)) → next ≡ now ++ octets_of item
    → next ≡ before ++ map item_octets (filter_map (plot r time) (take (i + 1) aircraft))
seen_more r time aircraft i d item before {now} {next} within is inv more =
    let first : List Item = filter_map (plot r time) (take i aircraft) in
    more ∙ ap (λ (l : List (List ℕ)). l ++ octets_of item) inv ∙ append_assoc before (map item_octets first) (octets_of item)
    ∙ ap (λ (l : List (List ℕ)). before ++ l) (sym (map-append item_octets first (cons_option item [])) ∙ ap (λ (o : Option Item). map item_octets (first ++ cons_option o [])) (sym is) ∙ ap (map item_octets) (sym (one_more r time aircraft i d within)))

-- what the answer of a sighting says of the plot
pub plot_there : (r : SceneRadar) (time : ℕ) (a : Aircraft) {o : Option Polar} {p : Polar} → option_map polar_of o ≡ sighting r time a → o ≡ Some p → plot r time a ≡ Some (plot_of r a time (polar_of p))
plot_there r time a {o} {p} is there = ap (option_map (plot_of r a time)) (sym is ∙ ap (option_map polar_of) there)

pub plot_missing : (r : SceneRadar) (time : ℕ) (a : Aircraft) {o : Option Polar} → option_map polar_of o ≡ sighting r time a → o ≡ None → plot r time a ≡ None
plot_missing r time a {o} is none = ap (option_map (plot_of r a time)) (sym is ∙ ap (option_map polar_of) none)

-- the plots of one sweep more
pub swept_more : (time : ℕ) (sweeps : List Sweep) (i : ℕ) (s : Sweep) {now next : List (List ℕ)} → i < length sweeps → s ≡ get_or sweeps i s → now ≡ map item_octets (flat_map (seen_by time) (take i sweeps)) → next ≡ now ++ map item_octets (seen_by time s) → next ≡ map item_octets (flat_map (seen_by time) (take (i + 1) sweeps))
swept_more time sweeps i s {now} {next} within read inv more =
    let first : List Item = flat_map (seen_by time) (take i sweeps) in
    let all : flat_map (seen_by time) (take (i + 1) sweeps) ≡ first ++ seen_by time s =
    ap (flat_map (seen_by time)) (take_more sweeps i s within) ∙ flat_map-append (seen_by time) (take i sweeps) (get_or sweeps i s ∷ [])
    ∙ ap (λ (l : List Item). first ++ l) (append-nil (seen_by time (get_or sweeps i s))) ∙ ap (λ (x : Sweep). first ++ seen_by time x) (sym read) in
    more ∙ ap (λ (l : List (List ℕ)). l ++ map item_octets (seen_by time s)) inv ∙ sym (map-append item_octets first (seen_by time s)) ∙ ap (map item_octets) (sym all)
