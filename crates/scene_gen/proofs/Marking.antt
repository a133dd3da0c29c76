-- North markers and ticks.
use Rattle.std.proofs.Common.{◌≡◌, ◌∙◌, ap, sym, refl, ℕ, ◌+◌, ◌*◌, ◌%◌, ◌<◌, ◌≤◌, List, [], ◌∷◌, ◌++◌, map, take, get_or, Bool, true, false, cond, pos}
use Rattle.std.specs.Prelude.{◌==◌, filter}
use Rattle.std.specs.List.{flat_map}
use Rattle.std.proofs.lemmas.Bool.{le-ltb, lt-ltb}
use Rattle.std.proofs.lemmas.List.{append-nil, append_assoc, map-append}
use Rattle.std.proofs.lemmas.List.Concat.{flat_map-append}
use Rattle.std.proofs.lemmas.List.Elements.{filter_more}
use Rattle.recording.specs.Items.{item_octets}
use Rattle.scene_gen.specs.declared.radars.SceneRadar.{SceneRadar}
use Rattle.scene_gen.specs.Datagrams.{north_marker}
use Rattle.scene_gen.specs.Radars.{radars}
use Rattle.scene_gen.specs.Scenes.{north_markers}

abbrev pub points_north : ℕ → SceneRadar → Bool
points_north time r = time % r.period == 0

-- the octets of the north markers of some radars
abbrev pub marks : ℕ → List SceneRadar → List ℕ
marks time rs = flat_map item_octets (map (north_marker time) (filter (λ r. time % r.period == 0) rs))

-- what stands for a radar past the end of the list
abbrev pub no_radar : SceneRadar
no_radar = record { feed = 0; sic = 0; x = pos 0; y = pos 0; period = 0 }

one_mark : (time : ℕ) (r : SceneRadar) (b : Bool) → flat_map item_octets (map (north_marker time) (cond b (r ∷ []) [])) ≡ cond b (item_octets (north_marker time r)) []
one_mark time r true = append-nil (item_octets (north_marker time r))
one_mark time r false = refl

pub marks_more : (time i : ℕ) (d : SceneRadar) (before : List ℕ) (b : Bool) {now next : List ℕ} → i < 3 → time % (get_or radars i d).period == 0 ≡ b → now ≡ before ++ marks time (take i radars) → next ≡ now ++ cond b (item_octets (north_marker time (get_or radars i d))) [] → next ≡ before ++ marks time (take (i + 1) radars)
marks_more time i d before b {now} {next} within is inv more =
    let r : SceneRadar = get_or radars i d in
    let first : List SceneRadar = filter (points_north time) (take i radars) in
    let all : marks time (take (i + 1) radars) ≡ marks time (take i radars) ++ cond b (item_octets (north_marker time r)) [] =
    ap (λ (l : List SceneRadar). flat_map item_octets (map (north_marker time) l)) (filter_more (points_north time) radars i d within ∙ ap (λ t. first ++ cond t (r ∷ []) []) is)
    ∙ ap (flat_map item_octets) (map-append (north_marker time) first (cond b (r ∷ []) []))
    ∙ flat_map-append item_octets (map (north_marker time) first) (map (north_marker time) (cond b (r ∷ []) []))
    ∙ ap (λ (l : List ℕ). marks time (take i radars) ++ l) (one_mark time r b) in
    more ∙ ap (λ (l : List ℕ). l ++ cond b (item_octets (north_marker time r)) []) inv ∙ append_assoc before (marks time (take i radars)) (cond b (item_octets (north_marker time r)) []) ∙ ap (λ (l : List ℕ). before ++ l) (sym all)

-- no radar is pointed any more when the scene's seconds are over
pub marks_past : (seconds time : ℕ) (octets : List ℕ) → 128 * seconds ≤ time → octets ≡ octets ++ flat_map item_octets (north_markers seconds time)
marks_past seconds time octets past =
    sym (append-nil octets) ∙ ap (λ t. octets ++ flat_map item_octets (cond t (map (north_marker time) (filter (points_north time) radars)) [])) (sym (le-ltb time (128 * seconds) past))

pub marks_all : (seconds time : ℕ) (before : List ℕ) {now : List ℕ} → time < 128 * seconds → now ≡ before ++ marks time radars → now ≡ before ++ flat_map item_octets (north_markers seconds time)
marks_all seconds time before {now} within inv =
    inv ∙ ap (λ t. before ++ flat_map item_octets (cond t (map (north_marker time) (filter (points_north time) radars)) [])) (sym (lt-ltb time (128 * seconds) within))
