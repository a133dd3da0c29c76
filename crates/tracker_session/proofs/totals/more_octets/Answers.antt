use Rattle.std.proofs.Common.{◌≡◌, ◌<◌, ◌∙◌, ap, sym, ℕ, ◌+◌, List, [], ◌∷◌, ◌++◌, length, length-append, get_or, take, append-nil, arith}
use Rattle.std.specs.List.{concat}
use Rattle.std.proofs.lemmas.List.{take_more}
use Rattle.std.proofs.lemmas.List.Folds.{concat-append}
use Rattle.tracker_session.specs.Counting.{counted}
use Rattle.tracker_session.proofs.Tallying.{counted_more}
use Rattle.tracker_session.proofs.totals.more_octets.Goals as goal

more_taken : (xs : List (List ℕ)) (i : ℕ) (x : List ℕ) → i < length xs → x ≡ get_or xs i x → length (concat (take (i + 1) xs)) ≡ length (concat (take i xs)) + length x
more_taken xs i x here is =
    let grown : concat (take (i + 1) xs) ≡ concat (take i xs) ++ x = ap concat (take_more xs i x here ∙ ap (λ y. take i xs ++ y ∷ []) (sym is)) ∙ concat-append (take i xs) (x ∷ []) ∙ ap (λ y. concat (take i xs) ++ y) (append-nil x) in
    ap length grown ∙ length-append (concat (take i xs)) x

pub loop-datagram-init : goal.loop-datagram-init
loop-datagram-init c = omega (arith, c.ranges.count.fits)

pub loop-datagram-preserved : goal.loop-datagram-preserved
loop-datagram-preserved c =
    let xs = c.args.datagrams.now in
    let i = c.loop-datagram.datagram-index in
    let x = c.datagram-item.result in
    let so_far = length (concat (take i xs)) in
    let sum : c.args.count + so_far + length x ≡ c.args.count + length (concat (take (i + 1) xs)) = omega (arith, more_taken xs i x c.loop-datagram-test.true c.datagram-item.is) in
    let before = c.loop-datagram.invariant in
    let size = c.len.ensures in
    c.more-octets.ensures ∙ (λ j. counted (before j + size j)) ∙ counted_more (c.args.count + so_far) (length x) ∙ ap counted sum
