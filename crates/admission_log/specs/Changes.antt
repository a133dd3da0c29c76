-- When a change of a radar's biases is taken, and why not.
use Rattle.std.specs.Prelude.{◌≡◌, ⊤, ℕ, ◌<◌, ◌≤◌, length}
use Rattle.admission_log.specs.declared.settings.Settings.{Settings}
use Rattle.admission_log.specs.declared.events.BiasError.{BiasError}
use Rattle.admission_log.specs.declared.events.BiasError.TheVariants.{UnknownRadar, BeforeHorizon, NoMemory}
use Rattle.admission_log.specs.Histories.{low_at}

-- It is of a radar of the settings, and the slot from which it holds is still open after the last tick.
pub record IsOpenChange (settings : Settings) (last radar slot : ℕ) : Type 0 where
  pub known : radar < length settings.radars
  pub not_late : low_at settings.window last ≤ slot

-- It is refused so: no radar has that index; or one has, and the slot is below the first that is open.
abbrev pub IsRefusal : Settings → ℕ → ℕ → ℕ → BiasError → Type 0
IsRefusal settings last radar slot (UnknownRadar radars) = (radars ≡ length settings.radars) × (length settings.radars ≤ radar)
IsRefusal settings last radar slot (BeforeHorizon late low) = (late ≡ slot) × (low ≡ low_at settings.window last) × (slot < low_at settings.window last) × (radar < length settings.radars)
IsRefusal settings last radar slot NoMemory = ⊤
