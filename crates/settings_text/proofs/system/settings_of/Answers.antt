use Rattle.std.proofs.Common.{◌∙◌, [], ◌∷◌, sym, arith, lit<}
use Rattle.std.proofs.lemmas.Int.{ints}
use Rattle.settings_text.specs.Keys.{system_keys}
use Rattle.settings_text.proofs.Ranges.{blank, range_at, by_index}
use Rattle.settings_text.proofs.system.settings_of.Goals as goal

pub to_u8-requires : goal.to_u8-requires
to_u8-requires c =
    let range = range_at system_keys c.args.numbers.now 4 blank c.requires.within (lit< tt) in
    (omega (arith, ints), omega (arith, ints))

pub to_u8-requires-2 : goal.to_u8-requires-2
to_u8-requires-2 c =
    let range = range_at system_keys c.args.numbers.now 5 blank c.requires.within (lit< tt) in
    (omega (arith, ints), omega (arith, ints))

pub to_u8-requires-3 : goal.to_u8-requires-3
to_u8-requires-3 c =
    let range = range_at system_keys c.args.numbers.now 6 blank c.requires.within (lit< tt) in
    (omega (arith, ints), omega (arith, ints))

pub to_u8-requires-4 : goal.to_u8-requires-4
to_u8-requires-4 c =
    let range = range_at system_keys c.args.numbers.now 0 blank c.requires.within (lit< tt) in
    (omega (arith, ints), omega (arith, ints))

pub to_u8-requires-5 : goal.to_u8-requires-5
to_u8-requires-5 c =
    let range = range_at system_keys c.args.numbers.now 1 blank c.requires.within (lit< tt) in
    (omega (arith, ints), omega (arith, ints))

pub to_u8-requires-6 : goal.to_u8-requires-6
to_u8-requires-6 c =
    let range = range_at system_keys c.args.numbers.now 2 blank c.requires.within (lit< tt) in
    (omega (arith, ints), omega (arith, ints))

pub to_u8-requires-7 : goal.to_u8-requires-7
to_u8-requires-7 c =
    let range = range_at system_keys c.args.numbers.now 3 blank c.requires.within (lit< tt) in
    (omega (arith, ints), omega (arith, ints))

pub returns-clause-numbers : goal.returns-clause-numbers
returns-clause-numbers c =
    (λ i. c.to_u8-4.ensures i
    ∷ c.to_u8-5.ensures i
    ∷ c.to_u8-6.ensures i
    ∷ c.to_u8-7.ensures i
    ∷ c.to_u8.ensures i
    ∷ c.to_u8-2.ensures i
    ∷ c.to_u8-3.ensures i
    ∷ [])
    ∙ sym (by_index 7 c.args.numbers.now c.told-numbers)
