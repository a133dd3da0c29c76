use Rattle.std.proofs.Common.{◌≡◌, ◌≢◌, ◌∙◌, ap, sym, ℕ, false, eqb, List, [], ◌∷◌}
use Rattle.std.specs.Prelude.{◌&&◌}
use Rattle.std.specs.List.{AllByRecursion, list_any}
use Rattle.std.proofs.lemmas.Bool.{or_parts, and_from, eq-eqb, both_ways, not-true}
use Rattle.late_window.proofs.tests.is_new.Goals as goal

none_is : (item : ℕ × ℕ) (xs : List (ℕ × ℕ)) → list_any (λ (y : ℕ × ℕ). eqb y.0 item.0 && eqb y.1 item.1) xs ≡ false → AllByRecursion (λ (y : ℕ × ℕ). y ≢ item) xs
none_is item [] h = tt
none_is item (y ∷ ys) h =
    let two = or_parts _ _ h in
    (λ e. both_ways (eqb y.0 item.0 && eqb y.1 item.1) two.0 (and_from _ _ (eq-eqb y.0 item.0 (ap (λ z. z.0) e)) (eq-eqb y.1 item.1 (ap (λ z. z.1) e))), none_is item ys two.1)

pub returns : goal.returns
returns c t = none_is c.args.item c.args.items.now (sym c.contains.ensures.value ∙ not-true c.contains.result t)
