-- All plots have come by the last tick.
use Rattle.std.proofs.Common.{ℕ, zero, suc, ◌+◌, ◌*◌, ◌<◌, ◌≤◌, List, [], ◌∷◌, ◌++◌, ltb, arith}
use Rattle.std.specs.List.{All, AllByRecursion}
use Rattle.std.proofs.lemmas.Bool.{cond_both}
use Rattle.std.proofs.lemmas.List.Elements.{All-from_recursion}
use Rattle.std.proofs.lemmas.Nat.{mod_below}
use Rattle.rand_pcg.specs.Lcg.{Lcg}
use Rattle.rand_pcg.specs.Pcg.{pcg32}
use Rattle.recording.specs.Items.{Item}
use Rattle.scene_gen.specs.declared.fleet.Aircraft.{Aircraft}
use Rattle.scene_gen.specs.Delays.{Plot, Sent, after_delay, delay, delayed}
use Rattle.scene_gen.specs.Draws.{after, drawn, generator_of}
use Rattle.scene_gen.specs.Fleets.{fleet_from}
use Rattle.scene_gen.specs.Scenes.{coming, plots, plots_of, seen_at}
use Rattle.scene_gen.proofs.Runs.{run}

-- no plot takes longer
delay_most : (late : ℕ) (g : Lcg) → delay late g ≤ 1087
unfolding delay drawn
delay_most late g = cond_both (ltb (drawn 100 g) late) (64 + drawn 1024 (after 1 g)) 64 (λ (n : ℕ). n ≤ 1087) (λ e. omega (arith, mod_below (pcg32 (after 1 g)).0 1024 (omega arith))) (λ e. omega arith)

joined : {X : Type 0} (P : X → Type 0) (xs ys : List X) → AllByRecursion P xs → AllByRecursion P ys → AllByRecursion P (xs ++ ys)
joined P [] ys h k = k
joined P (x ∷ xs) ys h k = (h.0, joined P xs ys h.1 k)

seen_at_time : (n time : ℕ) (items : List Item) → time < n → AllByRecursion (λ (p : Plot). p.seen < n) (plots_of time items)
seen_at_time n time [] h = tt
seen_at_time n time (x ∷ xs) h = (h, seen_at_time n time xs h)

seen_in : (aircraft : List Aircraft) (end a n : ℕ) → a + n ≤ end → AllByRecursion (λ (p : Plot). p.seen < end) (run (λ t. plots_of t (seen_at aircraft t)) a n)
seen_in aircraft end a zero h = tt
seen_in aircraft end a (suc n) h =
    joined (λ (p : Plot). p.seen < end) (plots_of a (seen_at aircraft a)) (run (λ t. plots_of t (seen_at aircraft t)) (a + 1) n) (seen_at_time end a (seen_at aircraft a) (omega (arith, h))) (seen_in aircraft end (a + 1) n (omega (arith, h)))

come_in : (late end : ℕ) (g : Lcg) (ps : List Plot) → AllByRecursion (λ (p : Plot). p.seen < end) ps → AllByRecursion (λ (s : Sent). s.time ≤ end + 1280) (delayed late g ps)
unfolding delayed
come_in late end g [] h = tt
come_in late end g (p ∷ ps) h = (omega (arith, h.0, delay_most late g), come_in late end (after_delay late g) ps h.1)

pub all_in : (seed aircraft seconds late : ℕ) → All (λ p. p.time ≤ 128 * seconds + 1280) (coming seed aircraft seconds late)
all_in seed aircraft seconds late =
    let fleet : List Aircraft = fleet_from (generator_of seed) aircraft in
    let g : Lcg = after (9 * aircraft) (generator_of seed) in
    All-from_recursion (λ (s : Sent). s.time ≤ 128 * seconds + 1280) (coming seed aircraft seconds late) (come_in late (128 * seconds) g (plots fleet seconds) (seen_in fleet (128 * seconds) 0 (128 * seconds) (omega arith)))
