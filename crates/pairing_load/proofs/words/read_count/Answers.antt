use Rattle.std.proofs.Common.{◌≡◌, arith}
use Rattle.pairing_load.proofs.Numerals.{one_number}
use Rattle.pairing_load.proofs.words.read_count.Goals as goal

pub returns-else-number-le-MAX_COUNT-clause-refused : goal.returns-else-number-le-MAX_COUNT-clause-refused
returns-else-number-le-MAX_COUNT-clause-refused c = λ _ n lt is.
    let same : c.in_ok-number.number ≡ n = one_number c.args.word.now c.in_ok-number.number n c.in_ok-number.ensures.fits (omega (arith, lt)) c.in_ok-number.ensures.told is in
    omega (arith, same, lt, c.if-number-le-MAX_COUNT.false)
