-- The plots that the program keeps until they come: a list for each of the next 1,088 times, which is longer than any plot takes.
use Rattle.std.specs.Prelude.{◌≡◌, ◌<◌, ◌≤◌, ℕ, ◌+◌, ◌%◌, List, [], length, map, get_or}
use Rattle.std.specs.List.{All}
use Rattle.recording.specs.Items.{item_octets}
use Rattle.scene_gen.specs.Delays.{Sent}
use Rattle.scene_gen.specs.Scenes.{come_at}

pub record AreOnWay (plots : List Sent) (time : ℕ) (by_time : List (List (List ℕ))) : Type 0 where
  pub within : All (λ p. p.time < time + 1088) plots
  pub count : length by_time ≡ 1088
  pub each : (t : ℕ) → time ≤ t → t < time + 1088 → get_or by_time (t % 1088) [] ≡ map item_octets (come_at plots t)
