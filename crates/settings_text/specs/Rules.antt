-- What a rule of the program's table says of its key, in the words of the keys' list.
use Rattle.std.specs.Prelude.{ℕ, ℤ, List, map, Option, Some, None, codes}
use Rattle.settings_text.specs.declared.keys.Name.{Name}
use Rattle.settings_text.specs.declared.keys.Name.TheVariants.{Sac, Sic, Service, Window, Hits, KeepTentative, KeepConfirmed, X, Y, Height, North, RangeGain, RangeBias, AzimuthBias, TimeBias, RangeSigma, AzimuthSigma}
use Rattle.settings_text.specs.declared.keys.KeyRule.{KeyRule}
use Rattle.settings_text.specs.Keys.{Otherwise, required, default, Key}

-- the name as it is written
abbrev pub text_of : Name → List ℕ
text_of Sac = codes "sac"
text_of Sic = codes "sic"
text_of Service = codes "service"
text_of Window = codes "window"
text_of Hits = codes "hits"
text_of KeepTentative = codes "keep_tentative"
text_of KeepConfirmed = codes "keep_confirmed"
text_of X = codes "x"
text_of Y = codes "y"
text_of Height = codes "height"
text_of North = codes "north"
text_of RangeGain = codes "range_gain"
text_of RangeBias = codes "range_bias"
text_of AzimuthBias = codes "azimuth_bias"
text_of TimeBias = codes "time_bias"
text_of RangeSigma = codes "range_sigma"
text_of AzimuthSigma = codes "azimuth_sigma"

abbrev pub otherwise_of : Option ℤ → Otherwise
otherwise_of None = required
otherwise_of (Some number) = default number

-- the key of a rule
abbrev pub key_of_rule : KeyRule → Key
key_of_rule rule = record { number = rule.number; name = text_of rule.name; least = rule.least; greatest = rule.greatest; otherwise = otherwise_of rule.default }

-- the keys of some rules
abbrev pub keys_of_rules : List KeyRule → List Key
keys_of_rules = map key_of_rule
