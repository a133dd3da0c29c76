use Rattle.tracker_session.proofs.Numerals.{decimal_plain, number_refused, number_told, plain_of, told_plain}
use Rattle.tracker_session.proofs.words.read_number.Goals as goal

pub returns-then-is_plain-clause-told : goal.returns-then-is_plain-clause-told
returns-then-is_plain-clause-told c = number_told c.args.word.now c.parse.result c.ok.result (plain_of c.is_plain.ensures c.as_bytes.ensures.value c.if-is_plain.true) c.parse.ensures.value.0 c.ok.ensures.value

pub returns-then-is_plain-clause-refused : goal.returns-then-is_plain-clause-refused
returns-then-is_plain-clause-refused c = number_refused c.args.word.now c.parse.result c.ok.result c.parse.ensures.value.0 c.ok.ensures.value

pub returns-else-is_plain-clause-refused : goal.returns-else-is_plain-clause-refused
returns-else-is_plain-clause-refused c = λ _ n lt is.
    let plain = told_plain c.is_plain.ensures c.as_bytes.ensures.value (decimal_plain c.args.word.now n lt is) in
    let other = c.if-is_plain.false in
    cc
