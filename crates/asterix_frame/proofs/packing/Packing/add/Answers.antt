use Rattle.std.proofs.Common.{rules, ◌≡◌, ◌∙◌, ◌<◌, ◌≤◌, ◌+◌, ◌++◌, [], ◌∷◌, ap, sym, subst, ℕ, List, length, arith, Bool, true, false, Ok, inl, inr, if◌then◌else◌}
use Rattle.std.proofs.lemmas.Bool.{cases_lt}
use Rattle.asterix_frame.specs.Blocks.{DataBlock, encoded}
use Rattle.asterix_frame.specs.Packing.{IsPackingOf}
use Rattle.asterix_frame.proofs.Packings.{packing_grow, packing_next, last_category}
use Rattle.asterix_frame.proofs.packing.Packing.add.Goals as goal

-- a block with room took the record
took : (added : Bool) (block after : DataBlock) (r : List ℕ) → (added ≡ false → 1400 < length block.body + length r + 3) → length block.body + length r + 3 ≤ 1400 → after ≡ (if added then record block { body = block.body ++ r } else block) → after ≡ record block { body = block.body ++ r }
took true block after r full room e = e
took false block after r full room e = absurd (omega (arith, full (λ i. false)))

pub returns-then-branch : goal.returns-then-branch
returns-then-branch c = λ category records s.
    let block = c.self.inside.last in
    let packing = subst (λ p. IsPackingOf category records p) (sym c.self.view_is) s in
    let taken : c.append.result ≡ Ok true = search rules in
    let room : length block.body + length c.args.octets.now + 3 ≤ 1400 = elim (cases_lt 1400 (length block.body + length c.args.octets.now + 3)) [
      | inl over ↦ (let full : c.append.result ≡ Ok false = c.append.ensures.full.1 over in absurd cc)
      | inr within ↦ within
    ] in
    let grown : c.append.new.self ≡ record block { body = block.body ++ c.args.octets.now } = search rules in
    rw grown (packing_grow category records (record { full = c.self.inside.full; last = block }) c.args.octets.now packing (omega arith) room)

pub returns : goal.returns
returns c = λ category records s.
    let block = c.self.inside.last in
    let packing = subst (λ p. IsPackingOf category records p) (sym c.self.view_is) s in
    let over : 1400 < length block.body + length c.args.octets.now + 3 = search rules in
    let unchanged : c.append.new.self ≡ block = search rules in
    let pushed : c.push.new.self ≡ c.self.inside.full ++ c.finish.result.items ∷ [] = search rules in
    let same : c.category.result ≡ category = c.category.ensures ∙ ap (λ (b : DataBlock). b.category) unchanged ∙ last_category category records (record { full = c.self.inside.full; last = block }) packing in
    let empty : c.new-next.result ≡ record { category = category; body = [] } = c.new-next.ensures ∙ (λ i. record { category = same i; body = [] }) in
    let begun : c.append-2.new.self ≡ record { category = category; body = c.args.octets.now } =
    took c.in_ok-append-2.field-0 c.new-next.result c.append-2.new.self c.args.octets.now
    (λ no. c.append-2.ensures.full.0 (c.in_ok-append-2.was ∙ ap Ok no)) (omega (arith, ap (λ (b : DataBlock). length b.body) empty)) c.in_ok-append-2.ensures.added
    ∙ ap (λ (b : DataBlock). record b { body = b.body ++ c.args.octets.now }) empty in
    rw (pushed, begun) (packing_next category records (record { full = c.self.inside.full; last = block }) c.finish.result.items c.args.octets.now packing (omega arith) (omega arith) over (subst (λ (b : DataBlock). 0 < length b.body → c.finish.result.items ≡ encoded b) unchanged c.finish.ensures.block))
