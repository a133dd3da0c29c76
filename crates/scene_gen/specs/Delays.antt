-- How long plots take to come, in 1/128 s.
use Rattle.std.specs.Prelude.{ℕ, ◌+◌, nat_lt, if◌then◌else◌, List, [], ◌∷◌}
use Rattle.rand_pcg.specs.Lcg.{Lcg}
use Rattle.recording.specs.Items.{Item}
use Rattle.scene_gen.specs.Draws.{after, drawn}

-- half a second; and up to eight more for so many of a hundred plots
unfoldable pub delay : ℕ → Lcg → ℕ
delay late g = if nat_lt (drawn 100 g) late then 64 + drawn 1024 (after 1 g) else 64

-- the generator after it: one word tells whether the plot is late, and another by how much
unfoldable pub after_delay : ℕ → Lcg → Lcg
after_delay late g = if nat_lt (drawn 100 g) late then after 2 g else after 1 g

-- a plot, and the time at which its radar saw it
pub record Plot : Type 0 where
  pub seen : ℕ
  pub item : Item

-- a plot, and the time at which it comes
pub record Sent : Type 0 where
  pub time : ℕ
  pub item : Item

-- plots, delayed one after the other
unfoldable pub delayed : ℕ → Lcg → List Plot → List Sent
delayed late g [] = []
delayed late g (p ∷ ps) = record { time = p.seen + delay late g; item = p.item } ∷ delayed late (after_delay late g) ps

-- the generator after the delays of plots
unfoldable pub after_delays : ℕ → Lcg → List Plot → Lcg
after_delays late g [] = g
after_delays late g (p ∷ ps) = after_delays late (after_delay late g) ps
