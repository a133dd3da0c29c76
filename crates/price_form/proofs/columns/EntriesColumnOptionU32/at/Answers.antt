use Rattle.std.proofs.Common.{◌∙◌, ◌<◌, ◌≤◌, ◌+◌, ◌*◌, ℕ, List, length, arith, sym, subst}
use Rattle.price_form.specs.Octets.{many_at, entry_number_at}
use Rattle.price_form.proofs.Standing.{length-many, get-many}
use Rattle.price_form.proofs.columns.EntriesColumnOptionU32.at.Goals as goal

below : (xs : List ℕ) (from count i : ℕ) → i < length (many_at entry_number_at 4 xs from count) → i < count
below xs from count i lt = subst (λ (n : ℕ). i < n) (length-many entry_number_at 4 xs from count) lt

fits : (n from count i : ℕ) → from + count * 4 ≤ n → i < count → from + i * 4 + 4 ≤ n
fits n from count i le lt = omega (arith, le, lt)

pub overflow_mul-index : goal.overflow_mul-index
overflow_mul-index c = let s = c.args.self.now in omega (arith, fits (length s.octets.now) s.from s.count c.args.index s.inside (below s.octets.now s.from s.count c.args.index c.requires))

pub overflow_add-self : goal.overflow_add-self
overflow_add-self c = let s = c.args.self.now in omega (arith, fits (length s.octets.now) s.from s.count c.args.index s.inside (below s.octets.now s.from s.count c.args.index c.requires))

pub entry_at-requires : goal.entry_at-requires
entry_at-requires c = let s = c.args.self.now in fits (length s.octets.now) s.from s.count c.args.index s.inside (below s.octets.now s.from s.count c.args.index c.requires)

pub returns : goal.returns
returns c = λ d. let s = c.args.self.now in c.entry_at.ensures ∙ sym (get-many entry_number_at 4 s.octets.now s.from s.count c.args.index d (below s.octets.now s.from s.count c.args.index c.requires))
