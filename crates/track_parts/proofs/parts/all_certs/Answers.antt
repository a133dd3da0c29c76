use Rattle.std.proofs.Common.{rules, ◌≡◌, ◌∙◌, ap, sym, refl, arith, List, [], ◌∷◌, length}
use Rattle.std.specs.Prelude.{fold}
use Rattle.std.specs.Vec.Iter.{into_iter_items, into_iter_len}
use Rattle.slot_step.specs.declared.certs.KeyedCert.{KeyedCert}
use Rattle.track_parts.specs.Tracking.{both_certs}
use Rattle.track_parts.proofs.parts.all_certs.Goals as goal

nothing_left : {X : Type 0} (l : List X) → length l ≡ 0 → l ≡ []
nothing_left [] h = refl
nothing_left (x ∷ xs) h = absurd (omega (arith, h))

pub loop-out-init : goal.loop-out-init
loop-out-init c = record {
  count = let n : into_iter_len c.into_iter-out-iterator.result ≡ length (into_iter_items c.into_iter-out-iterator.result) = search rules in n;
  folded = ap (λ (l : List KeyedCert). fold both_certs l (into_iter_items c.into_iter-out-iterator.result)) c.new-certs.ensures.items;
}

pub loop-out-preserved : goal.loop-out-preserved
loop-out-preserved c =
    let at = c.loop-out in
    let out = c.in-Some.out in
    let steps : into_iter_items at.out-iterator ≡ out ∷ into_iter_items c.next.new.self = c.in-Some.ensures.steps.0 in
    record {
      count = let gone = c.in-Some.ensures.steps.1 in let was = at.invariant.count in let short = ap length steps in omega (arith, gone, was, short);
      folded =
          ap (λ (l : List KeyedCert). fold both_certs l (into_iter_items c.next.new.self)) (c.in_ok-more.ensures ∙ ap (both_certs at.certs.items) c.into_vec.ensures)
          ∙ ap (fold both_certs at.certs.items) (sym steps) ∙ at.invariant.folded;
    }

pub returns : goal.returns
returns c =
    let at = c.loop-out in
    let none : length (into_iter_items at.out-iterator) ≡ 0 = sym at.invariant.count ∙ c.in-None.ensures.steps.0 in
    ap (fold both_certs at.certs.items) (sym (nothing_left (into_iter_items at.out-iterator) none)) ∙ at.invariant.folded ∙ ap (fold both_certs []) c.into_iter-out-iterator.ensures.into_iter_gives.0
