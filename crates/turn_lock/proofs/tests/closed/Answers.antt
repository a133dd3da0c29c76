use Rattle.std.proofs.Common.{◌≡◌, ℕ, zero, suc, ◌<◌, [], ◌∷◌, refl, sym, subst, arith, rules}
use Rattle.std.specs.List.{Any}
use Rattle.turn_lock.specs.Turns.{Token}
use Rattle.turn_lock.proofs.tests.closed.Goals as goal

two_there : {E B : Type 0} (one two : Token E B) → one.number ≡ 1 → two.number ≡ 0 → (n : ℕ) → n < 2 → Any (λ t. t.number ≡ n) (one ∷ two ∷ [])
two_there one two o t zero l = (1, two, omega arith, refl, t)
two_there one two o t (suc zero) l = (0, one, omega arith, refl, o)
two_there one two o t (suc (suc n)) l = absurd (omega arith)

pub close-requires-clause-all : goal.close-requires-clause-all
close-requires-clause-all c = let is : c.push_reserved-2.new.self.items ≡ c.args.other ∷ c.args.head ∷ [] = search rules in let seats = c.requires.seats in
    λ n l. subst (λ z. Any (λ t. t.number ≡ n) z) (sym is) (two_there c.args.other c.args.head c.requires.numbers.1 c.requires.numbers.0 n (subst (λ z. n < z) seats l))
