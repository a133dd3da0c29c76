use Rattle.std.proofs.Common.{◌^◌}
use Rattle.std.proofs.lemmas.Int.{unsigned_abs-mul}
use Rattle.trk_base.proofs.Sizes.{times, rounded_share, is_add}
use Rattle.fixed_imm.specs.Correction.{raised}
use Rattle.fixed_imm.proofs.Narrow.{var64, plus64, widened, narrowed, fits64}
use Rattle.fixed_imm.proofs.Fields.{by_of, positive_by}
use Rattle.fixed_imm.proofs.correcting.raised.Goals as goal

pub overflow_cast-result : goal.overflow_cast-result
overflow_cast-result c =
    let a = var64 c.args.a _ c.requires.first tt in
    let b = var64 c.args.b _ c.requires.second tt in
    let product = times (widened a tt) (widened b tt) tt in
    let s = by_of c.args.s.now.low c.args.s.now.high in
    let quotient = rounded_share (2 ^ 52) c.round.ensures product s (positive_by c.args.s.now.low) (rw (unsigned_abs-mul c.args.a c.args.b) c.requires.gain) tt in
    fits64 quotient tt

pub overflow_add-result : goal.overflow_add-result
overflow_add-result c =
    let x = var64 c.args.x _ c.requires.value tt in
    let a = var64 c.args.a _ c.requires.first tt in
    let b = var64 c.args.b _ c.requires.second tt in
    let product = times (widened a tt) (widened b tt) tt in
    let s = by_of c.args.s.now.low c.args.s.now.high in
    let quotient = rounded_share (2 ^ 52) c.round.ensures product s (positive_by c.args.s.now.low) (rw (unsigned_abs-mul c.args.a c.args.b) c.requires.gain) tt in
    fits64 (is_add x (narrowed quotient tt)) tt

pub returns : goal.returns
unfolding raised
returns c =
    let x = var64 c.args.x _ c.requires.value tt in
    let a = var64 c.args.a _ c.requires.first tt in
    let b = var64 c.args.b _ c.requires.second tt in
    let product = times (widened a tt) (widened b tt) tt in
    let s = by_of c.args.s.now.low c.args.s.now.high in
    let quotient = rounded_share (2 ^ 52) c.round.ensures product s (positive_by c.args.s.now.low) (rw (unsigned_abs-mul c.args.a c.args.b) c.requires.gain) tt in
    (plus64 x (narrowed quotient tt) tt).same
