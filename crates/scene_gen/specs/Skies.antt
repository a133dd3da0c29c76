-- How far the program has come: what was seen, and what is on its way. Times are in 1/128 s since the start.
use Rattle.std.specs.Prelude.{◌≡◌, ℕ, ◌*◌, min, List, length, flat_map}
use Rattle.std.specs.List.{All, range_with_len}
use Rattle.rand_pcg.specs.Lcg.{Lcg}
use Rattle.recording.specs.Raw.{second}
use Rattle.scene_gen.specs.declared.fleet.Aircraft.{Aircraft}
use Rattle.scene_gen.specs.declared.sky.Sky.{Sky}
use Rattle.scene_gen.specs.Delays.{Plot, after_delays, delayed}
use Rattle.scene_gen.specs.OnWay.{AreOnWay}
use Rattle.scene_gen.specs.Scenes.{plots_of, seen_at}
use Rattle.scene_gen.specs.Sweeps.{AreSweeps, IsWhole}

-- the plots that were seen before a time
abbrev pub seen_before : List Aircraft → ℕ → ℕ → List Plot
seen_before aircraft seconds time = flat_map (λ t. plots_of t (seen_at aircraft t)) (range_with_len 0 (min time (second * seconds)))

-- what every call needs
pub record IsReady (s : Sky) : Type 0 where
  pub sweeps : All IsWhole s.sweeps.items
  pub count : length s.on_way ≡ 1088

-- The plots that were seen before one time are drawn, from a generator on, and those that come from another time on are on their way.
pub record IsSky (aircraft : List Aircraft) (g : Lcg) (seconds late seen from : ℕ) (s : Sky) : Type 0 where
  pub seconds_are : s.seconds ≡ seconds
  pub late_is : s.late ≡ late
  pub sweeps : AreSweeps aircraft s.sweeps.items
  pub generator : s.generator ≡ after_delays late g (seen_before aircraft seconds seen)
  pub on_way : AreOnWay (delayed late g (seen_before aircraft seconds seen)) from s.on_way
