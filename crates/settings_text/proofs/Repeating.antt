-- Radars with the SAC and the SIC of an earlier one.
use Rattle.std.proofs.Common.{◌≡◌, ◌∙◌, ℕ, ◌+◌, ◌<◌, List, length, get_or, take, Option, Some, None, refl, sym, subst, ap, arith}
use Rattle.std.specs.Prelude.{IsSomeAnd, slice_get}
use Rattle.std.proofs.lemmas.List.{take_more, get_or-take, length-take}
use Rattle.std.proofs.lemmas.List.Quantifiers.{all_pairs_push}
use Rattle.std.proofs.lemmas.Option.{slice_get-get_or}
use Rattle.plot_geometry.specs.declared.radars.RadarSettings.{RadarSettings}
use Rattle.admission_log.specs.Sources.{HasSource, HaveOwnSources, radar_of}
use Rattle.admission_log.proofs.Radars.{radar_found, no_radar}
use Rattle.settings_text.specs.Answers.{Repeats}

pub none_but : {X : Type 0} (o : Option X) → ((x : X) → o ≡ Some x → ⊥) → o ≡ None
none_but None not = refl
none_but (Some x) not = absurd (not x refl)

-- no earlier one
pub own_more : (radars : List RadarSettings) (i : ℕ) (radar : RadarSettings) → i < length radars → radar ≡ get_or radars i radar → HaveOwnSources (take i radars)
    → radar_of (take i radars) radar.sac radar.sic ≡ None → HaveOwnSources (take (i + 1) radars)
own_more radars i radar h is own none =
    let Differ : RadarSettings → RadarSettings → Type 0 = λ one other. ¬ HasSource one.sac one.sic other in
    let pushed = all_pairs_push Differ (take i radars) radar own (λ k d within same. no_radar (take i radars) radar.sac radar.sic none k d within (sym same.0, sym same.1)) in
    rw (take_more radars i radar h, sym is) pushed

-- an earlier one
pub repeats_at : (radars : List RadarSettings) (i : ℕ) (radar : RadarSettings) (first : ℕ) → i < length radars → radar ≡ get_or radars i radar → HaveOwnSources (take i radars)
    → radar_of (take i radars) radar.sac radar.sic ≡ Some first → first < length (take i radars) → Repeats radars i first
repeats_at radars i radar first h is own found within =
    let before : first < i = omega (arith, length-take i radars) in
    let there : slice_get (take i radars) first ≡ Some (get_or radars first radar) = slice_get-get_or (take i radars) first radar within ∙ ap Some (get_or-take i radars first radar before) in
    let same : HasSource radar.sac radar.sic (get_or radars first radar) = subst (λ o. IsSomeAnd o (HasSource radar.sac radar.sic)) there (radar_found (take i radars) radar.sac radar.sic first found) in
    record {
      earlier = before;
      one = get_or radars first radar;
      other = radar;
      one_is = slice_get-get_or radars first radar (omega arith);
      other_is = slice_get-get_or radars i radar h ∙ ap Some (sym is);
      same = (sym same.0, sym same.1);
      least = own;
    }
