-- The constants of the filter. They are this project's own.
use Rattle.std.specs.Prelude.{ℕ, ◌^◌, ℤ, pos, neg_ℤ}

-- from half a second back to 60.5 seconds ahead, in 1/128 s
abbrev pub least_time_step : ℤ
least_time_step = neg_ℤ (pos 64)

abbrev pub greatest_time_step : ℤ
greatest_time_step = pos 7744

-- 1,024 m/s, in 1/1024 m/s
abbrev pub velocity_bound : ℕ
velocity_bound = 1048576

-- a standard deviation of 131,072 m, or of 8,192 m/s
abbrev pub variance_bound : ℕ
variance_bound = 2 ^ 46

-- the variance of a first velocity: a standard deviation of 300 m/s, in 1/1024 m/s
abbrev pub first_velocity_variance : ℤ
first_velocity_variance = pos 94371840000

-- the weights of a first axis, of the steady model and of the manoeuvre, in 1/65,536
abbrev pub first_weights : ℕ × ℕ
first_weights = (49152, 16384)

-- no weight is less or more, in 1/65,536
abbrev pub least_weight : ℕ
least_weight = 64

abbrev pub greatest_weight : ℕ
greatest_weight = 65472

-- The Markov chain: how likely a target goes over from one model to another at a step, in 1/65,536
abbrev pub steady_to_steady : ℕ
steady_to_steady = 62259

abbrev pub steady_to_manoeuvre : ℕ
steady_to_manoeuvre = 3277

abbrev pub manoeuvre_to_steady : ℕ
manoeuvre_to_steady = 6554

abbrev pub manoeuvre_to_manoeuvre : ℕ
manoeuvre_to_manoeuvre = 58982

-- The noise of each model: the variance that a velocity gains in 1/128 s, in (1/1024 m/s)². They are 0.25 and 64 m²/s³.
abbrev pub steady_noise : ℤ
steady_noise = pos 2048

abbrev pub manoeuvre_noise : ℤ
manoeuvre_noise = pos 524288

-- 65,536 / (2 ln 2): e² / s by it is the power of two of e^(-e² / 2s), in 1/65,536
abbrev pub exponent_scale : ℤ
exponent_scale = pos 47274

-- from this power on, in 1/65,536, a model is taken to be impossible: 31
abbrev pub impossible_exponent : ℤ
impossible_exponent = pos 2031616
