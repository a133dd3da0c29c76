-- The words of a command line that are a load.
use Rattle.std.specs.Prelude.{◌≡◌, ◌≢◌, ◌<◌, ◌≤◌, ◌⊎◌, ◌^◌, ℕ, List, [], ◌∷◌, codes, get_or, length, map, string_bytes, String}
use Rattle.std.specs.Fmt.{decimal}
use Rattle.std.specs.declared.alloc.Global.{Global}
use Rattle.pairing_load.specs.declared.problems.EdgeCosts.{EdgeCosts}
use Rattle.pairing_load.specs.declared.problems.EdgeCosts.TheVariants.{Random, Equal}
use Rattle.pairing_load.specs.declared.words.PairingLoad.{PairingLoad}
use Rattle.pairing_load.specs.declared.words.PriceLoad.{PriceLoad}

-- the octets of each word
abbrev pub texts : List (String Global) → List (List ℕ)
texts words = map (λ word. string_bytes word) words

abbrev pub costs_word : EdgeCosts → List ℕ
costs_word Random = codes "random"
costs_word Equal = codes "equal"

-- neither a sign nor a zero that more octets follow stands first
pub record IsPlain (word : List ℕ) : Type 0 where
  pub unsigned : get_or word 0 0 ≢ 43
  pub short : get_or word 0 0 ≡ 48 → length word ≡ 1

-- numbers in decimal digits, in the ranges of a load of problems
pub record TellPairings (count size costs seed : List ℕ) (load : PairingLoad) : Type 0 where
  pub count_told : count ≡ decimal load.count
  pub size_told : size ≡ decimal load.size
  pub costs_told : costs ≡ costs_word load.costs
  pub seed_told : seed ≡ decimal load.seed
  pub count_fits : load.count < 2 ^ 32
  pub some_plot : 1 ≤ load.size
  pub few_plots : load.size ≤ 1000
  pub seed_fits : load.seed < 2 ^ 64

-- .. and of a load of certificates
pub record TellPrices (count seed : List ℕ) (load : PriceLoad) : Type 0 where
  pub count_told : count ≡ decimal load.count
  pub seed_told : seed ≡ decimal load.seed
  pub count_fits : load.count < 2 ^ 32
  pub seed_fits : load.seed < 2 ^ 64

-- `pairings COUNT SIZE random|equal SEED`
pub record AreWordsOfPairings (words : List (List ℕ)) (load : PairingLoad) : Type 0 where
  pub count : List ℕ
  pub size : List ℕ
  pub costs : List ℕ
  pub seed : List ℕ
  pub whole : words ≡ codes "pairings" ∷ count ∷ size ∷ costs ∷ seed ∷ []
  pub tell : TellPairings count size costs seed load

-- `prices COUNT SEED OUTPUT`
pub record AreWordsOfPrices (words : List (List ℕ)) (load : PriceLoad) (output : List ℕ) : Type 0 where
  pub count : List ℕ
  pub seed : List ℕ
  pub whole : words ≡ codes "prices" ∷ count ∷ seed ∷ output ∷ []
  pub tell : TellPrices count seed load

-- one of the two
abbrev pub AreLoad : List (List ℕ) → Type 0
AreLoad words = ((load : PairingLoad) × AreWordsOfPairings words load) ⊎ ((load : PriceLoad) × (output : List ℕ) × AreWordsOfPrices words load output)
