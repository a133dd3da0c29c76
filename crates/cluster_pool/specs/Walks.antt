-- Runs of parts, walked side by side over the slots of the whole.
use Rattle.std.specs.Prelude.{◌≡◌, ◌≢◌, ◌⊎◌, ◌<◌, ◌≤◌, ℕ, List, [], ◌∷◌, ◌++◌, length, Option, Some, None, map}
use Rattle.std.specs.List.{AllByRecursion}
use Rattle.std.specs.Option.{option_to_list}
use Rattle.late_window.specs.Folding.{slots, states, AreOutsOf}
use Rattle.span_clusters.specs.Interleavings.{EachPair, IsJoin}
use Rattle.span_clusters.specs.Parts.{Part}

-- what is left of a part's run: the state before it, and its slots with the state and the out of each
pub record Left (S O : Type 0) : Type 0 where
  pub state : S
  pub slots : List ℕ
  pub states : List S
  pub outs : List O

abbrev pub left_states : {S O : Type 0} → List (Left S O) → List S
left_states walks = map (λ w. w.state) walks

-- the part fills the slot: its next state and out are taken
pub record Fills {S O : Type 0} (n : ℕ) (w v : Left S O) (told : Option O) : Type 0 where
  pub out : O
  pub slots : w.slots ≡ n ∷ v.slots
  pub states : w.states ≡ v.state ∷ v.states
  pub outs : w.outs ≡ out ∷ v.outs
  pub tells : told ≡ Some out

-- the part doesn't fill the slot: it rests
pub record Rests {S I O : Type 0} (next : S → ℕ → List I → S) (n : ℕ) (w v : Left S O) (told : Option O) : Type 0 where
  pub other : (ms : List ℕ) → w.slots ≢ n ∷ ms
  pub state : v.state ≡ next w.state n []
  pub slots : v.slots ≡ w.slots
  pub states : v.states ≡ w.states
  pub outs : v.outs ≡ w.outs
  pub tells : told ≡ None

-- what a part does in a slot of the whole
abbrev pub GoesOn : {S I O : Type 0} → (S → ℕ → List I → S) → ℕ → Left S O → Left S O → Option O → Type 0
GoesOn next n w v told = Fills n w v told ⊎ Rests next n w v told

-- what all parts do in it, with the outs of those that fill it
abbrev pub GoOn : {S I O : Type 0} → (S → ℕ → List I → S) → ℕ → List (Left S O) → List (Left S O) → List O → Type 0
GoOn next n [] vs outs = (vs ≡ []) × (outs ≡ [])
GoOn next n (w ∷ ws) [] outs = ⊥
GoOn {S} {I} {O} next n (w ∷ ws) (v ∷ vs) outs = (told : Option O) × (rest : List O) × GoesOn next n w v told × (outs ≡ option_to_list told ++ rest) × GoOn next n ws vs rest

-- the whole run of a part is left
pub record IsStart {S I O : Type 0} (next : S → ℕ → List I → S) (slot : I → ℕ) (is_out : S → ℕ → List I → O → Type 0) (p : Part S I) (w : Left S O) : Type 0 where
  pub state : w.state ≡ p.start
  pub filled : w.slots ≡ slots slot p.items
  pub folded : w.states ≡ states next slot p.start p.items
  pub told : AreOutsOf next slot is_out p.start p.items w.outs

-- the whole runs of all parts are left
abbrev pub AreAtStart : {S I O : Type 0} → (S → ℕ → List I → S) → (I → ℕ) → (S → ℕ → List I → O → Type 0) → List (Part S I) → List (Left S O) → Type 0
AreAtStart next slot is_out [] ws = ws ≡ []
AreAtStart next slot is_out (p ∷ parts) [] = ⊥
AreAtStart next slot is_out (p ∷ parts) (w ∷ ws) = IsStart next slot is_out p w × AreAtStart next slot is_out parts ws

-- the parts may go on over the slot, and then be merged
pub record MayMerge {S I O : Type 0} (next : S → ℕ → List I → S) (is_before : S → ℕ → Type 0) (is_beside : S → S → Type 0) (n : ℕ) (ws : List (Left S O)) : Type 0 where
  pub before : AllByRecursion (λ w. is_before w.state n) ws
  pub beside : (vs : List (Left S O)) (outs : List O) → GoOn next n ws vs outs → EachPair is_beside (left_states vs)
  pub several : (vs : List (Left S O)) (outs : List O) → GoOn next n ws vs outs → 2 ≤ length vs
  pub some : (vs : List (Left S O)) (outs : List O) → GoOn next n ws vs outs → 0 < length outs

-- the parts have gone on over the slot, and their states and outs are one
pub record IsMergedSlot {S I O : Type 0} (next : S → ℕ → List I → S) (merged : S → S → S) (both : O → O → O) (n : ℕ) (ws vs : List (Left S O)) (s : S) (o : O) : Type 0 where
  pub told : List O
  pub gone : GoOn next n ws vs told
  pub state : IsJoin merged (left_states vs) s
  pub out : IsJoin both told o
