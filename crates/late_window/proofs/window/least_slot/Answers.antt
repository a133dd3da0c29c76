use Rattle.std.proofs.Common.{◌≡◌, ◌∙◌, ◌<◌, ◌+◌, ap, sym, subst, suc, take, length, get_or, [], ◌∷◌, ◌++◌, min, arith}
use Rattle.std.proofs.lemmas.List.{take_more}
use Rattle.late_window.proofs.Inserting.{IsLeastOf, least_more}
use Rattle.late_window.proofs.window.least_slot.Goals as goal

pub loop-item-preserved : goal.loop-item-preserved
loop-item-preserved g c =
    let slot = g.F.Fold.slot_of in
    let xs = c.args.items.now in
    let i = c.loop-item.item-index in
    let x = c.item-item.result in
    let rest = c.in_ok-first.rest.now in
    let parts : xs ≡ c.in_ok-first.first.now ∷ rest = c.in_ok-first.ensures.cases.0 in
    let next : suc i ≡ i + 1 = omega arith in
    let read : x ≡ get_or xs (i + 1) x = c.item-item.is ∙ ap (λ n. get_or (c.in_ok-first.first.now ∷ rest) n x) next ∙ sym (ap (λ l. get_or l (i + 1) x) parts) in
    let within : i + 1 < length xs = omega (arith, c.loop-item-test.true, ap length parts) in
    let grown : take (i + 1) xs ++ x ∷ [] ≡ take (i + 1 + 1) xs = ap (λ y. take (i + 1) xs ++ y ∷ []) read ∙ sym (take_more xs (i + 1) x within) in
    subst (λ l. IsLeastOf slot l c.min-least.result) grown (least_more slot (take (i + 1) xs) x c.loop-item.least c.min-least.result c.loop-item.invariant (c.min-least.ensures ∙ ap (min c.loop-item.least) c.slot.ensures))
