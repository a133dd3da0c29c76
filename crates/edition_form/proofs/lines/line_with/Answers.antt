use Rattle.std.proofs.Common.{◌≡◌, rules, subst, sym, true}
use Rattle.std.specs.Prelude.{◌||◌, is_some}
use Rattle.track_life.specs.declared.tracks.Track.TheInside.{Inside}
use Rattle.edition_form.specs.Lines.{age}
use Rattle.edition_form.proofs.Ages.{has_age}
use Rattle.edition_form.proofs.lines.line_with.Goals as goal

-- some radar detected the track
abbrev Detected : Inside → Type 0
Detected t = (is_some t.psr || is_some t.ssr || is_some t.mds) ≡ true

pub invariant_of-result : goal.invariant_of-result
invariant_of-result c = record {
  number = search rules;
  x = search rules;
  y = search rules;
  vx = search rules;
  vy = search rules;
  code = search rules;
  address = search rules;
  level = search rules;
  psr = search rules;
  ssr = search rules;
  mds = search rules;
  detected = has_age (age c.args.time) _ _ _ _ _ _ c.age_of.ensures.value c.age_of-2.ensures.value c.age_of-3.ensures.value (subst Detected (sym c.track-inside.view_is) c.track.invariant.detected);
  sx = search rules;
  sy = search rules;
}
