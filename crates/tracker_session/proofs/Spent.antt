-- The steps of a line's command.
use Rattle.std.proofs.Common.{◌≡◌, inl, inr, refl, ℕ, [], ◌∷◌}
use Rattle.io_traits.specs.Host.{HostState}
use Rattle.io_traits.specs.Touching.{Touches}
use Rattle.io_traits.specs.declared.host.Place.TheVariants as places
use Rattle.tracker_session.specs.Words.{Line, replay, check, scene, exercise, other}
use Rattle.tracker_session.specs.Work.{IsSpent}
use Rattle.tracker_session.proofs.Spending.{none_spent, read_still}

-- a command that broke off before all else
pub unspent : (line : Line) (host : HostState) (old : ℕ) → IsSpent line host host old old
unspent (replay settings input output prices workers) host old = inl refl
unspent (check prices) host old = refl
unspent (scene seed aircraft seconds late output) host old = refl
unspent (exercise seed aircraft seconds late workers) host old = λ settings given log is. none_spent log old
unspent other host old = refl

-- what is told to Screen costs nothing
pub spent_still : (line : Line) (host mid last : HostState) (old new : ℕ) → Touches [] [] (places.Screen ∷ []) mid last → IsSpent line host mid old new → IsSpent line host last old new
spent_still (replay settings input output prices workers) host mid last old new t (inl same) = inl same
spent_still (replay settings input output prices workers) host mid last old new t (inr s) = inr (record {
  document = s.document;
  read = read_still places.Settings s.document [] [] (places.Screen ∷ []) host mid last s.read t refl refl refl;
  settings = s.settings;
  good = s.good;
  input = record { octets = s.input.octets; read = read_still places.Input s.input.octets [] [] (places.Screen ∷ []) host mid last s.input.read t refl refl refl; spent = s.input.spent };
})
spent_still (check prices) host mid last old new t s = s
spent_still (scene seed aircraft seconds late output) host mid last old new t s = s
spent_still (exercise seed aircraft seconds late workers) host mid last old new t s = s
spent_still other host mid last old new t s = s
