-- Words are one load.
use Rattle.std.proofs.Common.{◌≡◌, ◌∙◌, ap, sym, refl, ℕ, List, [], ◌∷◌, length, arith}
use Rattle.std.specs.Prelude.{codes}
use Rattle.pairing_load.specs.declared.problems.EdgeCosts.{EdgeCosts}
use Rattle.pairing_load.specs.declared.problems.EdgeCosts.TheVariants.{Random, Equal}
use Rattle.pairing_load.specs.declared.words.PairingLoad.{PairingLoad}
use Rattle.pairing_load.specs.declared.words.PriceLoad.{PriceLoad}
use Rattle.pairing_load.specs.Words.{AreWordsOfPairings, AreWordsOfPrices, costs_word}
use Rattle.pairing_load.proofs.Numerals.{one_number}

one_costs : (a b : EdgeCosts) → costs_word a ≡ costs_word b → a ≡ b
one_costs Random Random e = refl
one_costs Random Equal e = absurd (omega (arith, ap length e))
one_costs Equal Random e = absurd (omega (arith, ap length e))
one_costs Equal Equal e = refl

pub one_pairings : (words : List (List ℕ)) (a b : PairingLoad) → AreWordsOfPairings words a → AreWordsOfPairings words b → a ≡ b
one_pairings words a b h k =
    let e : codes "pairings" ∷ h.count ∷ h.size ∷ h.costs ∷ h.seed ∷ [] ≡ codes "pairings" ∷ k.count ∷ k.size ∷ k.costs ∷ k.seed ∷ [] = sym h.whole ∙ k.whole in
    let count' : h.count ≡ k.count = (cc) in
    let size' : h.size ≡ k.size = (cc) in
    let costs' : h.costs ≡ k.costs = (cc) in
    let seed' : h.seed ≡ k.seed = (cc) in
    let count : a.count ≡ b.count = one_number h.count a.count b.count (omega (arith, h.tell.count_fits)) (omega (arith, k.tell.count_fits)) h.tell.count_told (count' ∙ k.tell.count_told) in
    let size : a.size ≡ b.size = one_number h.size a.size b.size (omega (arith, h.tell.few_plots)) (omega (arith, k.tell.few_plots)) h.tell.size_told (size' ∙ k.tell.size_told) in
    let costs : a.costs ≡ b.costs = one_costs a.costs b.costs (sym h.tell.costs_told ∙ costs' ∙ k.tell.costs_told) in
    let seed : a.seed ≡ b.seed = one_number h.seed a.seed b.seed h.tell.seed_fits k.tell.seed_fits h.tell.seed_told (seed' ∙ k.tell.seed_told) in
    λ i. record { count = count i; size = size i; costs = costs i; seed = seed i }

pub one_prices : (words : List (List ℕ)) (a b : PriceLoad) (o p : List ℕ) → AreWordsOfPrices words a o → AreWordsOfPrices words b p → (a ≡ b) × (o ≡ p)
one_prices words a b o p h k =
    let e : codes "prices" ∷ h.count ∷ h.seed ∷ o ∷ [] ≡ codes "prices" ∷ k.count ∷ k.seed ∷ p ∷ [] = sym h.whole ∙ k.whole in
    let count' : h.count ≡ k.count = (cc) in
    let seed' : h.seed ≡ k.seed = (cc) in
    let output' : o ≡ p = (cc) in
    let count : a.count ≡ b.count = one_number h.count a.count b.count (omega (arith, h.tell.count_fits)) (omega (arith, k.tell.count_fits)) h.tell.count_told (count' ∙ k.tell.count_told) in
    let seed : a.seed ≡ b.seed = one_number h.seed a.seed b.seed h.tell.seed_fits k.tell.seed_fits h.tell.seed_told (seed' ∙ k.tell.seed_told) in
    ((λ i. record { count = count i; seed = seed i }), output')
