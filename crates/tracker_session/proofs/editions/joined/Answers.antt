use Rattle.std.proofs.Common.{rules, ◌≡◌, ◌∙◌, ◌<◌, ap, sym, ◌+◌, [], ◌∷◌, ◌++◌, length, take, append-nil}
use Rattle.std.specs.List.{concat}
use Rattle.std.proofs.lemmas.List.{take_more}
use Rattle.std.proofs.lemmas.List.Folds.{concat-append}
use Rattle.tracker_session.proofs.editions.joined.Goals as goal

pub loop-datagram-preserved : goal.loop-datagram-preserved
loop-datagram-preserved c =
    let xs = c.args.datagrams.now in
    let i = c.loop-datagram.datagram-index in
    let here : i < length xs = search rules in
    let datagram = c.datagram-item.result in
    let grown : c.extend_from_slice.new.self.items ≡ c.loop-datagram.octets.items ++ datagram = search rules in
    grown ∙ ap (λ os. os ++ datagram) c.loop-datagram.invariant ∙ ap (λ os. concat (take i xs) ++ os) (sym (append-nil datagram)) ∙ sym (concat-append (take i xs) (datagram ∷ []))
    ∙ ap concat (sym (take_more xs i datagram here ∙ ap (λ x. take i xs ++ x ∷ []) (sym c.datagram-item.is)))
