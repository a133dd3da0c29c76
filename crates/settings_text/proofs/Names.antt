-- The names of a table's keys, as its map has them.
use Rattle.std.proofs.Common.{◌≡◌, ℕ, Bool, ◌&&◌, List, [], ◌∷◌, String, Global, string_bytes, refl, ap}
use Rattle.std.specs.List.{list_all}
use Rattle.std.specs.Map.{keys_of}
use Rattle.toml.proofs.Views.{Entry}
use Rattle.toml.specs.View.{members_view}
use Rattle.settings_text.specs.Tables.{names}

pub all_names : (test : List ℕ → Bool) (entries : List Entry) → list_all (λ (name : String Global). test (string_bytes name)) (keys_of entries) ≡ list_all test (names (members_view entries))
all_names test [] = refl
all_names test (e ∷ es) = ap (λ rest. test (string_bytes e.0) && rest) (all_names test es)
