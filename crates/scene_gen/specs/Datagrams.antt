-- What radars send: each datagram is one data block of one record (ASTERIX, Part 1).
use Rattle.std.specs.Prelude.{ℕ, ◌+◌, ◌%◌, List, [], ◌∷◌, ◌++◌, Option, option_map}
use Rattle.trk_base.specs.Numbers.{day}
use Rattle.asterix_frame.specs.Blocks.{encoded}
use Rattle.asterix_frame.specs.DataRecords.{record_octets}
use Rattle.asterix_frame.specs.Elements.{Element}
use Rattle.asterix_frame.specs.Encoding.{item_of, record_of}
use Rattle.asterix_frame.specs.Values.{big_endian}
use Rattle.recording.specs.Items.{Item, datagram}
use Rattle.scene_gen.specs.declared.fleet.Aircraft.{Aircraft}
use Rattle.scene_gen.specs.declared.radars.SceneRadar.{SceneRadar}
use Rattle.scene_gen.specs.Radars.{sac}
use Rattle.scene_gen.specs.Sightings.{sighting}

-- scenes start at 10:00:00, in 1/128 s
abbrev pub start : ℕ
start = 4608000

-- the time of day at a time since the start
abbrev pub tod : ℕ → ℕ
tod time = (start + time) % day

-- in three octets
abbrev pub tod_octets : ℕ → List ℕ
tod_octets time = big_endian 3 (tod time)

-- the items of a plot (Part 4): I048/010 source, /140 time of day, /020 a Mode S roll-call, /040 position, /070 code, /090 flight level, /220 address
abbrev pub plot_items : SceneRadar → Aircraft → ℕ → ℕ × ℕ → List Element
plot_items r a time polar =
    item_of 1 (sac ∷ r.sic ∷ [])
    ∷ item_of 2 (tod_octets time)
    ∷ item_of 3 (0xA0 ∷ [])
    ∷ item_of 4 (big_endian 2 polar.0 ++ big_endian 2 polar.1)
    ∷ item_of 5 (big_endian 2 a.code)
    ∷ item_of 6 (big_endian 2 a.level)
    ∷ item_of 8 (big_endian 3 a.address)
    ∷ []

-- the items of a north marker (Part 2b): I034/010 source, /000 message type 1, /030 time of day
abbrev pub north_items : SceneRadar → ℕ → List Element
north_items r time =
    item_of 1 (sac ∷ r.sic ∷ [])
    ∷ item_of 2 (1 ∷ [])
    ∷ item_of 3 (tod_octets time)
    ∷ []

-- one block of this category with one record of these items
abbrev pub block_of : ℕ → List Element → List ℕ
block_of category items = encoded (record { category = category; body = record_octets (record_of items) })

-- a plot with its measurement: a datagram of the radar's feed
abbrev pub plot_of : SceneRadar → Aircraft → ℕ → ℕ × ℕ → Item
plot_of r a time polar = datagram r.feed (block_of 48 (plot_items r a time polar))

-- the plot of an aircraft that a radar sees at a time, where there is one
abbrev pub plot : SceneRadar → ℕ → Aircraft → Option Item
plot r time a = option_map (plot_of r a time) (sighting r time a)

-- a radar's north marker
abbrev pub north_marker : ℕ → SceneRadar → Item
north_marker time r = datagram r.feed (block_of 34 (north_items r time))
