-- What a host over real files tells: its counts and bindings, and of the octets nothing.
use Rattle.std.specs.Prelude.{ℕ, List, Option, None, option_map, string_bytes}
use Rattle.io_traits.specs.Host.{HostState}
use Rattle.io_traits.specs.declared.host.Place.{Place}
use Rattle.io_traits.specs.declared.host.Place.TheVariants.{Settings, Input, Output, Prices, Screen}
use Rattle.io_traits.specs.declared.host.Way.{Way}
use Rattle.io_traits.specs.declared.file_host.port.PortState.{PortState}

abbrev pub bound_of : PortState → Option (Way × List ℕ)
bound_of port = option_map (λ binding. (binding.0, string_bytes binding.1)) port.bound

-- what the places hold, by place
abbrev pub by_place : {V : Type 0} → V → V → V → V → V → Place → V
by_place settings input output prices screen Settings = settings
by_place settings input output prices screen Input = input
by_place settings input output prices screen Output = output
by_place settings input output prices screen Prices = prices
by_place settings input output prices screen Screen = screen

abbrev pub state_of : (settings input output prices : PortState) → ℕ → HostState
state_of settings input output prices screen_faults = record {
  faults = λ p. by_place settings.faults input.faults output.faults prices.faults screen_faults p;
  bound = λ p. by_place (bound_of settings) (bound_of input) (bound_of output) (bound_of prices) None p;
  left = λ p. None;
  got = λ p. None;
}
