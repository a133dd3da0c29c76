use Rattle.std.proofs.Common.{◌≡◌, arith}
use Rattle.pairing_load.proofs.Numerals.{one_number}
use Rattle.pairing_load.proofs.words.read_size.Goals as goal
use Rattle.pairing_load.proofs.words.read_size.Goals.{else-plots-ge1-via-then-plots-ge1+else-plots-le-SIZE_LIMIT, else-plots-ge1-via-else-plots-ge1}

pub returns-else-plots-ge1-clause-refused : goal.returns-else-plots-ge1-clause-refused
returns-else-plots-ge1-clause-refused c = λ _ n some few is.
    let same : c.in_ok-plots.plots ≡ n = one_number c.args.word.now c.in_ok-plots.plots n (omega (arith, c.in_ok-plots.ensures.fits)) (omega (arith, few)) c.in_ok-plots.ensures.told is in
    elim c.else-plots-ge1.branch [
      | else-plots-ge1-via-then-plots-ge1+else-plots-le-SIZE_LIMIT w ↦ omega (arith, same, few, w.if-plots-le-SIZE_LIMIT.false)
      | else-plots-ge1-via-else-plots-ge1 w ↦ omega (arith, same, some, w.if-plots-ge1.false)
    ]
