use Rattle.std.proofs.Common.{refl}
use Rattle.toml.specs.View.{table_view}
use Rattle.settings_text.specs.Keys.{radar_keys}
use Rattle.settings_text.proofs.Ranges.{gives_within}
use Rattle.settings_text.proofs.radars.read_radar.Goals as goal

pub radar_settings-requires : goal.radar_settings-requires
radar_settings-requires c = gives_within (table_view c.in-Some.table.now) radar_keys c.in-Ok.numbers refl c.in-Ok.ensures.ok
