-- What a store of octets in memory stands for.
use Rattle.std.specs.Prelude.{ℕ, List, drop, take}
use Rattle.io_traits.specs.declared.mem_host.store.Store.{Store}

-- what is left to be read
abbrev pub store_left : Store → List ℕ
store_left s = drop s.taken s.left.items

-- what was written
abbrev pub store_got : Store → List ℕ
store_got s = take s.held s.got.items
