use Rattle.std.proofs.Common.{◌≡◌, subst, sym, ap, ◌∙◌, List, ℕ, length, rules, map, take, drop, pos, ◌-ℤ◌, ◌*◌, ◌-◌, sum, Option, to_z, of_z, w64}
use Rattle.std.proofs.lemmas.Int.{to_z-of_z}
use Rattle.trk_base.specs.Limits.{miss_cost}
use Rattle.assignment_dual.specs.Pairings.{Row, IsLeast}
use Rattle.assignment_dual.specs.Rests.{ShowsRest}
use Rattle.assignment_dual.specs.Vertices.{IsOptimal}
use Rattle.assignment_dual.proofs.Answer.{v_of, take_rest, all_resting, answered}
use Rattle.assignment_dual.proofs.solving.answer.Goals as goal

pub first_pairing-requires-clause-resting : goal.first_pairing-requires-clause-resting
first_pairing-requires-clause-resting c =
    subst (λ (n : ℕ). IsOptimal c.args.graph.now n c.augment_all.new.prices c.augment_all.new.mates c.args.gone.now) (sym c.in_ok-augment_all.ensures.priced.count)
    (all_resting c.in_ok-augment_all.ensures.priced c.in_ok-augment_all.ensures.mates c.in_ok-augment_all.ensures.full c.requires.here)

pub returns : goal.returns
returns c =
    let l : length c.augment_all.new.prices ≡ length c.args.prices.now = c.in_ok-augment_all.ensures.priced.count in
    let r : IsOptimal c.args.graph.now (length c.args.prices.now) c.augment_all.new.prices c.augment_all.new.mates c.args.gone.now =
    all_resting c.in_ok-augment_all.ensures.priced c.in_ok-augment_all.ensures.mates c.in_ok-augment_all.ensures.full c.requires.here in
    let least : (tracks : ℕ) (rows : List Row) → ShowsRest c.args.graph.now (length c.args.prices.now) tracks c.args.gone.now 0 rows → IsLeast rows c.in_ok-pairing.pairing.items =
    subst (λ (n : ℕ). (tracks : ℕ) (rows : List Row) → ShowsRest c.args.graph.now n tracks c.args.gone.now 0 rows → IsLeast rows c.in_ok-pairing.pairing.items) l c.in_ok-pairing.ensures in
    let u : c.of-2.result ≡ map pos (take c.args.graph.now.plots c.augment_all.new.prices) = c.of-2.ensures ∙ c.in_ok-u.ensures ∙ ap (λ (o : List ℕ). map pos (take c.args.graph.now.plots o)) c.as_slice.ensures in
    let v : c.of-3.result ≡ map v_of (drop c.args.graph.now.plots c.augment_all.new.prices) = c.of-3.ensures ∙ c.in_ok-v.ensures ∙ ap (map v_of) (take_rest c.args.graph.now.plots c.as_slice-2.result.now ∙ ap (drop c.args.graph.now.plots) c.as_slice-2.ensures) in
    let w : to_z w64 (of_z w64 c.proven_cost-cost.result) ≡ pos (sum c.augment_all.new.prices) -ℤ pos (miss_cost * (length c.args.prices.now - c.args.graph.now.plots)) = to_z-of_z w64 c.proven_cost-cost.result (search rules) ∙ c.proven_cost-cost.ensures ∙ ap (λ (o : ℕ). pos (sum c.augment_all.new.prices) -ℤ pos (miss_cost * (o - c.args.graph.now.plots))) (c.len.ensures ∙ l) in
    answered c.requires.graph r c.requires.gone c.requires.here
    (subst (λ (o : List (Option ℕ)). (tracks : ℕ) (rows : List Row) → ShowsRest c.args.graph.now (length c.args.prices.now) tracks c.args.gone.now 0 rows → IsLeast rows o) (sym c.of.ensures) least)
    u v w
