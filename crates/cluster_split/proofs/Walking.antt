-- Being connected is an equivalence, and what is the same for plots that share a track is the same for connected plots.
use Rattle.std.proofs.Common.{◌≡◌, ℕ, List, [], ◌∷◌, refl, sym, ◌∙◌, subst}
use Rattle.cluster_split.specs.Walks.{ShareTrack, IsWalk, AreConnected}

pub itself : (edges : List (ℕ × ℕ)) (p : ℕ) → AreConnected edges p p
itself edges p = record { plots = []; walk = refl }

walked : (edges : List (ℕ × ℕ)) (p q r : ℕ) (ps : List ℕ) → IsWalk edges p ps q → AreConnected edges q r → AreConnected edges p r
walked edges p q r [] w h = subst (λ x. AreConnected edges x r) (sym w) h
walked edges p q r (s ∷ ps) w h = let k = walked edges s q r ps w.1 h in record { plots = s ∷ k.plots; walk = (w.0, k.walk) }

pub joined : {edges : List (ℕ × ℕ)} {p q r : ℕ} → AreConnected edges p q → AreConnected edges q r → AreConnected edges p r
joined {edges} {p} {q} {r} g h = walked edges p q r g.plots g.walk h

pub step : {edges : List (ℕ × ℕ)} {p q : ℕ} → ShareTrack edges p q → AreConnected edges p q
step {edges} {p} {q} h = record { plots = q ∷ []; walk = (h, refl) }

flip : {edges : List (ℕ × ℕ)} {p q : ℕ} → ShareTrack edges p q → ShareTrack edges q p
flip h = record { track = h.track; one = h.other; other = h.one }

back_along : (edges : List (ℕ × ℕ)) (p q : ℕ) (ps : List ℕ) → IsWalk edges p ps q → AreConnected edges q p
back_along edges p q [] w = subst (λ x. AreConnected edges x p) w (itself edges p)
back_along edges p q (s ∷ ps) w = joined (back_along edges s q ps w.1) (step (flip w.0))

pub back : {edges : List (ℕ × ℕ)} {p q : ℕ} → AreConnected edges p q → AreConnected edges q p
back {edges} {p} {q} h = back_along edges p q h.plots h.walk

same_walk : (edges : List (ℕ × ℕ)) (f : ℕ → ℕ) → ((p q : ℕ) → ShareTrack edges p q → f p ≡ f q) → (p q : ℕ) (ps : List ℕ) → IsWalk edges p ps q → f p ≡ f q
same_walk edges f h p q [] w = λ i. f (w i)
same_walk edges f h p q (s ∷ ps) w = h p s w.0 ∙ same_walk edges f h s q ps w.1

pub same_along : {edges : List (ℕ × ℕ)} (f : ℕ → ℕ) → ((p q : ℕ) → ShareTrack edges p q → f p ≡ f q) → {p q : ℕ} → AreConnected edges p q → f p ≡ f q
same_along {edges} f h {p} {q} c = same_walk edges f h p q c.plots c.walk

-- more edges join no less
more_walk : (a b : List (ℕ × ℕ)) → ((p q : ℕ) → ShareTrack a p q → ShareTrack b p q) → (p q : ℕ) (ps : List ℕ) → IsWalk a p ps q → AreConnected b p q
more_walk a b h p q [] w = subst (AreConnected b p) w (itself b p)
more_walk a b h p q (s ∷ ps) w = joined (step (h p s w.0)) (more_walk a b h s q ps w.1)

pub with_more : {a b : List (ℕ × ℕ)} → ((p q : ℕ) → ShareTrack a p q → ShareTrack b p q) → {p q : ℕ} → AreConnected a p q → AreConnected b p q
with_more {a} {b} h {p} {q} c = more_walk a b h p q c.plots c.walk
