-- Plots on their way: one more is sent, and those of a time come.
use Rattle.std.proofs.Common.{◌≡◌, ◌∙◌, ap, sym, refl, inl, inr, ℕ, ◌+◌, ◌%◌, ◌<◌, ◌≤◌, ◌≢◌, List, [], ◌∷◌, ◌++◌, length, map, get_or, set, replicate, Bool, true, false, cond, eqb, arith}
use Rattle.std.specs.Prelude.{filter}
use Rattle.std.specs.List.{All, AllByRecursion, flat_map}
use Rattle.std.proofs.lemmas.Bool.{cases_eq, eq-eqb, ne_eqb}
use Rattle.std.proofs.lemmas.Nat.{mod_below}
use Rattle.std.proofs.lemmas.List.{append-nil, get_or-replicate, get_or-set_other, get_or-set_same, length-replicate, length-set, map-append}
use Rattle.std.proofs.lemmas.List.Elements.{All-nil, All-push, filter-append, recursion_from_All}
use Rattle.recording.specs.Items.{Item, item_octets}
use Rattle.scene_gen.specs.Delays.{Sent}
use Rattle.scene_gen.specs.OnWay.{AreOnWay}
use Rattle.scene_gen.specs.Scenes.{come_at}

abbrev pub comes : ℕ → Sent → Bool
comes t p = eqb p.time t

abbrev pub item_of : Sent → Item
item_of p = p.item

-- two times of a window share no place
apart : (t s from : ℕ) → from ≤ t → t < from + 1088 → from ≤ s → s < from + 1088 → t ≢ s → t % 1088 ≢ s % 1088
apart t s from a b c d other = λ e. other (omega (arith, e))

single : (p : Sent) (b : Bool) → map item_of (cond b (p ∷ []) []) ≡ cond b (p.item ∷ []) []
single p true = refl
single p false = refl

-- those that come at a time, of one plot more
come_more : (plots : List Sent) (p : Sent) (t : ℕ) → come_at (plots ++ p ∷ []) t ≡ come_at plots t ++ cond (eqb p.time t) (p.item ∷ []) []
come_more plots p t =
    ap (map item_of) (filter-append (comes t) plots (p ∷ [])) ∙ map-append item_of (filter (comes t) plots) (filter (comes t) (p ∷ []))
    ∙ ap (λ (l : List Item). come_at plots t ++ l) (single p (eqb p.time t))

none_by_recursion : (plots : List Sent) (t : ℕ) → AllByRecursion (λ p. p.time < t) plots → come_at plots t ≡ []
none_by_recursion [] t all = refl
none_by_recursion (p ∷ ps) t all = ap (λ b. map item_of (cond b (p ∷ filter (comes t) ps) (filter (comes t) ps))) (ne_eqb p.time t (λ e. omega (arith, all.0, e))) ∙ none_by_recursion ps t all.1

-- none comes after all have come
pub none_come : (plots : List Sent) (t : ℕ) → All (λ p. p.time < t) plots → come_at plots t ≡ []
none_come plots t all = none_by_recursion plots t (recursion_from_All (λ (p : Sent). p.time < t) plots all)

pub none_on_way : {b : List (List (List ℕ))} → b ≡ replicate 1088 [] → AreOnWay [] 0 b
none_on_way {b} made =
    let empty : List (List ℕ) = [] in
    record {
      within = All-nil (λ (p : Sent). p.time < 0 + 1088);
      count = ap length made ∙ length-replicate 1088 empty;
      each = λ t from before. ap (λ (l : List (List (List ℕ))). get_or l (t % 1088) []) made ∙ get_or-replicate 1088 (t % 1088) empty empty (mod_below t 1088 (omega arith));
    }

pub sent_one : (plots : List Sent) (time : ℕ) (p : Sent) {b new : List (List (List ℕ))} → AreOnWay plots time b → time ≤ p.time → p.time < time + 1088 → new ≡ set b (p.time % 1088) (get_or b (p.time % 1088) [] ++ item_octets p.item ∷ []) → AreOnWay (plots ++ p ∷ []) time new
sent_one plots time p {b} {new} inv from before push =
    let k = p.time % 1088 in
    let v : List (List ℕ) = get_or b k [] ++ item_octets p.item ∷ [] in
    record {
      within = All-push (λ (q : Sent). q.time < time + 1088) plots p inv.within before;
      count = ap length push ∙ length-set b k v ∙ inv.count;
      each = λ t a z.
          let first : List Item = come_at plots t in
          elim (cases_eq t p.time) [
            | inl same ↦
                ap (λ (l : List (List (List ℕ))). get_or l (t % 1088) []) push ∙ ap (λ (n : ℕ). get_or (set b k v) (n % 1088) []) same
                ∙ get_or-set_same b k v [] (omega (arith, inv.count, mod_below p.time 1088 (omega arith)))
                ∙ ap (λ (n : ℕ). get_or b (n % 1088) [] ++ item_octets p.item ∷ []) (sym same) ∙ ap (λ (l : List (List ℕ)). l ++ item_octets p.item ∷ []) (inv.each t a z)
                ∙ sym (map-append item_octets first (p.item ∷ [])) ∙ ap (λ c. map item_octets (first ++ cond c (p.item ∷ []) [])) (sym (eq-eqb p.time t (sym same)))
                ∙ ap (map item_octets) (sym (come_more plots p t))
            | inr other ↦
                ap (λ (l : List (List (List ℕ))). get_or l (t % 1088) []) push ∙ get_or-set_other b k (t % 1088) v [] (apart t p.time time a z from before other) ∙ inv.each t a z
                ∙ ap (map item_octets) (sym (append-nil first)) ∙ ap (λ c. map item_octets (first ++ cond c (p.item ∷ []) [])) (sym (ne_eqb p.time t (λ e. other (sym e))))
                ∙ ap (map item_octets) (sym (come_more plots p t))
          ];
    }

pub taken : (plots : List Sent) (time : ℕ) {b new : List (List (List ℕ))} → AreOnWay plots time b → new ≡ set b (time % 1088) [] → AreOnWay plots (time + 1) new
taken plots time {b} {new} inv clear =
    let k = time % 1088 in
    record {
      within = λ i d lt. omega (arith, inv.within i d lt);
      count = ap length clear ∙ length-set b k [] ∙ inv.count;
      each = λ t a z.
          elim (cases_eq t (time + 1088)) [
            | inl last ↦
                let place : t % 1088 ≡ k = omega (arith, last) in
                ap (λ (l : List (List (List ℕ))). get_or l (t % 1088) []) clear ∙ ap (λ (n : ℕ). get_or (set b k []) n []) place
                ∙ get_or-set_same b k [] [] (omega (arith, inv.count, mod_below time 1088 (omega arith)))
                ∙ ap (map item_octets) (sym (ap (come_at plots) last ∙ none_come plots (time + 1088) inv.within))
            | inr other ↦
                ap (λ (l : List (List (List ℕ))). get_or l (t % 1088) []) clear
                ∙ get_or-set_other b k (t % 1088) [] [] (apart t time time (omega (arith, a)) (omega (arith, z, other)) (omega arith) (omega arith) (λ e. omega (arith, a, e)))
                ∙ inv.each t (omega (arith, a)) (omega (arith, z, other))
          ];
    }

-- the octets of items, one after the other
pub joined : (items : List Item) → flat_map (λ (octets : List ℕ). octets) (map item_octets items) ≡ flat_map item_octets items
joined [] = refl
joined (item ∷ items) = ap (λ (l : List ℕ). item_octets item ++ l) (joined items)
