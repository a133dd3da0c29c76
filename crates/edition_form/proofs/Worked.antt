-- The definitions at worked logs, whose octets were computed apart from them: one plot straight north, at 256/256 NM.
use Rattle.std.proofs.Common.{◌≡◌, refl, ap, ◌∙◌, lit≤, lit<, ℕ, ◌%◌, pos, neg_ℤ, ◌≤ℤ◌, List, [], ◌∷◌, ◌++◌, Some, None, true, false, map, arith}
use Rattle.trk_base.specs.declared.keys.Key.{Key}
use Rattle.trk_base.specs.declared.plots.RawPlot.{RawPlot}
use Rattle.trk_base.specs.Ranges.{IsCode, IsLevel, IsAddress}
use Rattle.trk_base.specs.Numbers.{isqrt}
use Rattle.plot_geometry.specs.declared.radars.RadarSettings.{RadarSettings}
use Rattle.plot_geometry.specs.Plots.{PlanePlot}
use Rattle.plot_geometry.specs.Plane.{slant_range, azimuth, height_above, ground_range, cross_range_sigma, squared_sine, axis_variance}
use Rattle.plot_geometry.specs.PlanePlots.{plane_plot}
use Rattle.plot_geometry.specs.Turns.{right_angle_halved, turns, sine_cosine}
use Rattle.fixed_imm.specs.Bounds.{bounded, weights}
use Rattle.fixed_imm.specs.Mixing.{share, mean, covariance, mixed, overall}
use Rattle.fixed_imm.specs.Prediction.{predicted_p, predicted_p11, predicted_p12, predicted_p22, predicted_motion}
use Rattle.fixed_imm.specs.Filter.{started, predicted_weights, mixed_model, mixed_axis, moved, predicted, together, combined}
use Rattle.assignment_dual.specs.Least.{first_best, least_of}
use Rattle.track_life.specs.declared.settings.LifeSettings.{LifeSettings}
use Rattle.track_life.specs.Tracks.{TrackState, begun}
use Rattle.track_life.specs.Tables.{unexpired}
use Rattle.track_life.specs.Numbers.{tried, assigned}
use Rattle.late_window.specs.Folding.{before}
use Rattle.slot_step.specs.Batches.{batch_step, table_at}
use Rattle.slot_step.specs.Slots.{run}
use Rattle.asterix_frame.specs.Packing.{packed_block}
use Rattle.asterix_frame.specs.Encoding.{field_octet, field_of}
use Rattle.cat062_out.specs.TrackRecords.{track_items, track_record}
use Rattle.status_out.specs.SensorRecords.{sensor_items, sensor_record, sensor_block}
use Rattle.status_out.specs.ServiceRecords.{service_items, service_record, service_block}
use Rattle.status_out.specs.declared.service_line.Line065.TheVariants.{Status, End}
use Rattle.admission_log.specs.declared.settings.Settings.{Settings}
use Rattle.admission_log.specs.declared.events.Event.{Event}
use Rattle.admission_log.specs.declared.events.Event.TheVariants as events
use Rattle.admission_log.specs.declared.events.Outcome.TheVariants as outcomes
use Rattle.admission_log.specs.Sources.{HaveOwnSources}
use Rattle.admission_log.specs.Histories.{History, last_of}
use Rattle.admission_log.specs.Plots.{plots_of}
use Rattle.slot_step.specs.Tracker.{step_tracks}
use Rattle.cat062_out.specs.Tracks.{TrackLine}
use Rattle.edition_form.specs.Folding.{slot_of_plot, table_of}
use Rattle.edition_form.specs.declared.lines.ShownLine.{ShownLine}
use Rattle.edition_form.specs.Radars.{services_of}
use Rattle.edition_form.specs.Pictures.{picture_of, shown_tracks}
use Rattle.edition_form.specs.Lines.{line_of, lines_of, told_lines}
use Rattle.edition_form.specs.Datagrams.{stamp, con, nogo, radars_in, shown_of, shown_at}

-- ---- a system with one radar, where one plot confirms a track

at_sea_level : (neg_ℤ (pos 500) ≤ℤ pos 0) × (pos 0 ≤ℤ pos 9000)
at_sea_level = (omega arith, omega arith)

abbrev radar : RadarSettings
radar = record {
  sac = 1;
  sic = 1;
  x = pos 0;
  y = pos 0;
  height = pos 0;
  north = 0;
  range_gain = pos 0;
  range_bias = pos 0;
  azimuth_bias = pos 0;
  time_bias = pos 0;
  range_sigma = 50;
  azimuth_sigma = 12;
  x_range = lit≤ tt;
  y_range = lit≤ tt;
  height_range = at_sea_level;
  range_gain_range = lit≤ tt;
  range_bias_range = lit≤ tt;
  azimuth_bias_range = lit≤ tt;
  time_bias_range = lit≤ tt;
  range_sigma_range = (lit≤ tt, lit≤ tt);
  azimuth_sigma_range = (lit≤ tt, lit≤ tt);
}

abbrev life : LifeSettings
life = record { hits = 1; keep_tentative = 15; keep_confirmed = 30; hits_range = (lit≤ tt, lit≤ tt); keep_tentative_range = (lit≤ tt, lit≤ tt); keep_confirmed_range = (lit≤ tt, lit≤ tt) }

one_source : HaveOwnSources (radar ∷ [])
one_source i j d a b same = absurd (omega (arith, a, b))

abbrev settings : Settings
settings = record {
  sac = 1;
  sic = 99;
  service = 1;
  window = 32;
  life = life;
  radars = radar ∷ [];
  window_range = (lit≤ tt, lit≤ tt);
  radars_range = (lit≤ tt, lit≤ tt);
  own_sources = one_source;
}

no_code : IsCode None
no_code c e = cc

no_level : IsLevel None
no_level l e = cc

no_address : IsAddress None
no_address a e = cc

-- the plot is of Mode S, half a second before the tick that closes its slot
abbrev raw : RawPlot
raw = record {
  sac = 1;
  sic = 1;
  tod = 4608010;
  rho = 256;
  theta = 0;
  kind = 5;
  spi = false;
  code = None;
  level = None;
  address = None;
  detected = (lit≤ tt, lit≤ tt);
  in_day = lit< tt;
  code_range = no_code;
  level_range = no_level;
  address_range = no_address;
}

abbrev delivery : Event
delivery = events.Deliver 0 (record { arrival = 0; radar = 0; time = 4608010; plot = raw } ∷ []) (outcomes.Admitted 0 ∷ []) 0

-- a north marker of the radar
abbrev north_marker : Event
north_marker = events.Deliver 0 [] (outcomes.Service (Some 0) ∷ []) 0

abbrev log_of : List Event → History
log_of events = record { start = 4608000; events = events }

-- the octets of an edition whose records fit in one block, or which has none
abbrev tracks_datagram : List (List ℕ) → List ℕ
tracks_datagram [] = []
tracks_datagram (r ∷ rs) = packed_block 62 (r ∷ rs)

abbrev octets : History → ℕ → ℕ → List ℕ
octets log before number =
    tracks_datagram (map (track_record (stamp settings (last_of log))) (told_lines (shown_at settings log before) (shown_of settings log)))
    ++ (sensor_block (stamp settings (last_of log)) (radars_in settings (picture_of settings log))
    ++ (service_block (Status (stamp settings (last_of log)) (nogo (radars_in settings (picture_of settings log))))
    ++ service_block (End (stamp settings (last_of log)) (number % 256))))

-- ---- the plot, and the track that it begins

abbrev key : Key
key = record { slot = 72000; radar = 0; time = 4608010; arrival = 0; in_slot = refl }

abbrev plot : PlanePlot
plot = record { key = key; x = pos 0; y = pos 118528; rx = 18496; ry = 10240000; kind = 5; spi = false; code = None; level = None; address = None }

abbrev one_plot : History
one_plot = log_of (delivery ∷ events.Tick 4608128 ∷ [])

plots_are : plots_of settings one_plot ≡ plot ∷ []
unfolding isqrt slant_range azimuth height_above ground_range cross_range_sigma squared_sine axis_variance plane_plot right_angle_halved turns sine_cosine
plots_are = refl

track : TrackState
track = record {
  birth = key;
  aim = record { x = started (pos 0) 18496; y = started (pos 118528) 10240000; time = 4608010; address = None; code = None };
  level = None;
  psr = None;
  ssr = None;
  mds = Some 4608010;
  radar = 0;
  mono = true;
  spi = false;
  plots = 1;
  confirmed = true;
  number = Some 1;
}

folded : before (step_tracks life) slot_of_plot [] (plot ∷ []) 72002 ≡ track ∷ []
unfolding before track batch_step table_at run begun tried assigned unexpired first_best least_of
folded = refl

table_is : table_of settings one_plot ≡ track ∷ []
table_is = ap (λ ps. before (step_tracks life) slot_of_plot [] ps 72002) plots_are ∙ folded

-- ---- its line

line : TrackLine
line = record {
  number = 1;
  x = pos 0;
  y = pos 3704;
  vx = pos 0;
  vy = pos 0;
  code = None;
  address = None;
  level = None;
  psr = None;
  ssr = None;
  mds = Some 3;
  mono = true;
  spi = false;
  coast = false;
  first = false;
  ended = false;
  sx = 553;
  sy = 562;
}

line_is : line_of 4608128 track ≡ line
unfolding isqrt bounded weights share mean covariance mixed overall predicted_p predicted_p11 predicted_p12 predicted_p22 predicted_motion started predicted_weights mixed_model mixed_axis moved predicted together combined line_of track line
line_is = refl

-- ---- the octets of its first edition

first_record : track_record (stamp settings 4608128) (record line { first = true }) ≡
    183 ∷ 15 ∷ 1 ∷ 4 ∷ 1 ∷ 99 ∷ 1 ∷ 70 ∷ 80 ∷ 128 ∷ 0 ∷ 0 ∷ 0 ∷ 0 ∷ 14 ∷ 120 ∷ 0 ∷ 0 ∷ 0 ∷ 0 ∷ 0 ∷ 1 ∷ 129 ∷ 33 ∷ 1 ∷ 104 ∷ 16 ∷ 3 ∷ 128 ∷ 2 ∷ 41 ∷ 2 ∷ 50 ∷ []
unfolding line field_octet field_of track_items track_record
first_record = refl

radars_are : sensor_block (stamp settings 4608128) (radars_in settings (picture_of settings one_plot)) ≡
    63 ∷ 0 ∷ 22 ∷ 255 ∷ 128 ∷ 1 ∷ 99 ∷ 1 ∷ 70 ∷ 80 ∷ 128 ∷ 1 ∷ 1 ∷ 192 ∷ 0 ∷ 0 ∷ 0 ∷ 0 ∷ 0 ∷ 0 ∷ 0 ∷ 0 ∷ []
unfolding field_octet field_of sensor_items sensor_record
radars_are = refl

status_is : service_block (Status (stamp settings 4608128) (nogo (radars_in settings (picture_of settings one_plot)))) ≡
    65 ∷ 0 ∷ 12 ∷ 244 ∷ 1 ∷ 99 ∷ 1 ∷ 1 ∷ 70 ∷ 80 ∷ 128 ∷ 64 ∷ []
unfolding field_octet field_of service_items service_record
status_is = refl

end_is : service_block (End (stamp settings 4608128) 1) ≡
    65 ∷ 0 ∷ 12 ∷ 248 ∷ 1 ∷ 99 ∷ 2 ∷ 1 ∷ 70 ∷ 80 ∷ 128 ∷ 1 ∷ []
unfolding field_octet field_of service_items service_record
end_is = refl

kept_at_first : shown_tracks life 4608128 (track ∷ []) ≡ track ∷ []
unfolding unexpired track
kept_at_first = refl

shown : ShownLine
shown = record { birth = key; line = line }

one_line : lines_of 4608128 (track ∷ []) ≡ shown ∷ []
unfolding shown track
one_line = ap (λ l. record { birth = key; line = l } ∷ []) line_is

told_first : told_lines [] (shown ∷ []) ≡ record line { first = true } ∷ []
unfolding shown line
told_first = refl

shown_is : shown_of settings one_plot ≡ shown ∷ []
shown_is =
    ap (λ tracks. lines_of 4608128 (shown_tracks life 4608128 tracks)) table_is ∙ (ap (lines_of 4608128) kept_at_first ∙ one_line)

-- ---- the next edition, half a minute later: the track has ended

abbrev half_a_minute : History
half_a_minute = log_of (delivery ∷ events.Tick 4608128 ∷ events.Tick 4611968 ∷ [])

later_plots : plots_of settings half_a_minute ≡ plot ∷ []
unfolding isqrt slant_range azimuth height_above ground_range cross_range_sigma squared_sine axis_variance plane_plot right_angle_halved turns sine_cosine
later_plots = refl

later_fold : before (step_tracks life) slot_of_plot [] (plot ∷ []) 72062 ≡ track ∷ []
unfolding before track batch_step table_at run begun tried assigned unexpired first_best least_of
later_fold = refl

expired : shown_tracks life 4611968 (track ∷ []) ≡ []
unfolding unexpired track
expired = refl

none_shown : shown_of settings half_a_minute ≡ []
none_shown = ap (λ plots. lines_of 4611968 (shown_tracks life 4611968 (before (step_tracks life) slot_of_plot [] plots 72062))) later_plots ∙ (ap (λ tracks. lines_of 4611968 (shown_tracks life 4611968 tracks)) later_fold ∙ ap (lines_of 4611968) expired)

-- against the first edition, whose cut is 2
shown_before : shown_at settings half_a_minute 2 ≡ shown ∷ []
shown_before = shown_is

told_last : told_lines (shown ∷ []) [] ≡ record line { ended = true } ∷ []
unfolding shown line
told_last = refl

-- ---- with a north marker before the plot

heard : services_of settings (log_of (north_marker ∷ delivery ∷ events.Tick 4608128 ∷ [])) ≡ Some 4608000 ∷ []
heard = refl

-- it is operational for 12 s
is_operational : con 4609536 (Some 4608000) ≡ 0
is_operational = refl

is_degraded : con 4609537 (Some 4608000) ≡ 1
is_degraded = refl
