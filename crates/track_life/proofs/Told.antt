-- What is told, now or before, keeps its range.
use Rattle.std.proofs.Common.{Option, Some, None}
use Rattle.std.specs.Option.{ForSome, option_or}

pub either : {A : Type 0} (P : A → Type 0) (a b : Option A) → ForSome a P → ForSome b P → ForSome (option_or a b) P
either P None b h k = k
either P (Some x) b h k = h
