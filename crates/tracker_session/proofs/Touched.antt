-- What a replay touches.
use Rattle.std.proofs.Common.{refl, List, [], ◌∷◌}
use Rattle.io_traits.specs.Host.{HostState}
use Rattle.io_traits.specs.Touching.{Touches}
use Rattle.io_traits.specs.declared.host.Place.{Place}
use Rattle.io_traits.specs.declared.host.Place.TheVariants as places
use Rattle.io_traits.proofs.Touching.{Touches_refl, Touches_trans, widened}

-- Output and Prices alone were written
abbrev pub WritesBoth : HostState → HostState → Type 0
WritesBoth old new = Touches [] [] (places.Output ∷ places.Prices ∷ []) old new

pub nothing_written : (host : HostState) → WritesBoth host host
nothing_written host = Touches_refl [] [] (places.Output ∷ places.Prices ∷ []) host

pub output_written : (old new : HostState) → Touches [] [] (places.Output ∷ []) old new → WritesBoth old new
output_written old new t = widened [] [] (places.Output ∷ []) [] [] (places.Output ∷ places.Prices ∷ []) old new refl refl refl t

pub prices_written : (old new : HostState) → Touches [] [] (places.Prices ∷ []) old new → WritesBoth old new
prices_written old new t = widened [] [] (places.Prices ∷ []) [] [] (places.Output ∷ places.Prices ∷ []) old new refl refl refl t

pub then_written : (old mid new : HostState) → WritesBoth old mid → WritesBoth mid new → WritesBoth old new
then_written old mid new h k = Touches_trans [] [] (places.Output ∷ places.Prices ∷ []) old mid new h k

-- Input was bound and read, and Output and Prices were bound and written.
abbrev pub TouchesThree : HostState → HostState → Type 0
TouchesThree old new = Touches (places.Input ∷ places.Output ∷ places.Prices ∷ []) (places.Input ∷ []) (places.Output ∷ places.Prices ∷ []) old new

pub three_then : (old mid new : HostState) → TouchesThree old mid → TouchesThree mid new → TouchesThree old new
three_then old mid new h k = Touches_trans (places.Input ∷ places.Output ∷ places.Prices ∷ []) (places.Input ∷ []) (places.Output ∷ places.Prices ∷ []) old mid new h k

pub input_read : (old new : HostState) → Touches (places.Input ∷ []) (places.Input ∷ []) [] old new → TouchesThree old new
input_read old new t = widened (places.Input ∷ []) (places.Input ∷ []) [] (places.Input ∷ places.Output ∷ places.Prices ∷ []) (places.Input ∷ []) (places.Output ∷ places.Prices ∷ []) old new refl refl refl t

pub output_opened : (old new : HostState) → Touches (places.Output ∷ []) [] [] old new → TouchesThree old new
output_opened old new t = widened (places.Output ∷ []) [] [] (places.Input ∷ places.Output ∷ places.Prices ∷ []) (places.Input ∷ []) (places.Output ∷ places.Prices ∷ []) old new refl refl refl t

pub prices_opened : (old new : HostState) → Touches (places.Prices ∷ []) [] [] old new → TouchesThree old new
prices_opened old new t = widened (places.Prices ∷ []) [] [] (places.Input ∷ places.Output ∷ places.Prices ∷ []) (places.Input ∷ []) (places.Output ∷ places.Prices ∷ []) old new refl refl refl t

pub both_written : (old new : HostState) → WritesBoth old new → TouchesThree old new
both_written old new t = widened [] [] (places.Output ∷ places.Prices ∷ []) (places.Input ∷ places.Output ∷ places.Prices ∷ []) (places.Input ∷ []) (places.Output ∷ places.Prices ∷ []) old new refl refl refl t
