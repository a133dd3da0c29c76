-- The biases of a radar that may change while it runs, and the radar's settings with others.
use Rattle.plot_geometry.specs.declared.biases.Bias.{Bias}
use Rattle.plot_geometry.specs.declared.radars.RadarSettings.{RadarSettings}

-- those of the settings
abbrev pub bias_of : RadarSettings → Bias
bias_of radar = record {
  gain = radar.range_gain;
  range = radar.range_bias;
  azimuth = radar.azimuth_bias;
  gain_range = radar.range_gain_range;
  range_range = radar.range_bias_range;
  azimuth_range = radar.azimuth_bias_range;
}

-- the settings with these in place of their own
abbrev pub biased : RadarSettings → Bias → RadarSettings
biased radar bias = record radar {
  range_gain = bias.gain;
  range_bias = bias.range;
  azimuth_bias = bias.azimuth;
  range_gain_range = bias.gain_range;
  range_bias_range = bias.range_range;
  azimuth_bias_range = bias.azimuth_range;
}
