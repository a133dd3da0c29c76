use Rattle.std.proofs.Common.{◌∙◌, lit≤}
use Rattle.trk_base.proofs.Sizes.{size}
use Rattle.fixed_imm.specs.Bounds.{bounded}
use Rattle.fixed_imm.specs.Correction.{raised, lowered, corrected}
use Rattle.fixed_imm.proofs.Narrow.{var64, through64}
use Rattle.fixed_imm.proofs.Fields.{p_of, v_of, p11_of, p12_of, p22_of, by_of}
use Rattle.fixed_imm.proofs.Gains.{gain_as_read, position_gain, velocity_gain, variance_gain, covariance_gain, velocity_variance_gain}
use Rattle.fixed_imm.proofs.correcting.corrected.Goals as goal

pub raised-requires-2-clause-first : goal.raised-requires-2-clause-first
raised-requires-2-clause-first c =
    size (p12_of _ c.requires.bounds) (lit≤ tt)

pub lowered-requires-2-clause-value : goal.lowered-requires-2-clause-value
lowered-requires-2-clause-value c =
    size (p12_of _ c.requires.bounds) (lit≤ tt)

pub lowered-requires-2-clause-second : goal.lowered-requires-2-clause-second
lowered-requires-2-clause-second c =
    size (p12_of _ c.requires.bounds) (lit≤ tt)

pub lowered-requires-3-clause-first : goal.lowered-requires-3-clause-first
lowered-requires-3-clause-first c =
    size (p12_of _ c.requires.bounds) (lit≤ tt)

pub lowered-requires-3-clause-second : goal.lowered-requires-3-clause-second
lowered-requires-3-clause-second c =
    size (p12_of _ c.requires.bounds) (lit≤ tt)

pub raised-requires-clause-gain : goal.raised-requires-clause-gain
raised-requires-clause-gain c =
    let m = c.requires.bounds in
    let e = var64 c.args.e _ c.requires.innovation tt in
    let s = by_of c.args.s.now.low c.args.s.now.high in
    gain_as_read (p11_of _ m) e s (position_gain c.args.m.now c.args.e c.args.s.now.by m c.requires.innovation c.requires.no_less)

pub raised-requires-2-clause-gain : goal.raised-requires-2-clause-gain
raised-requires-2-clause-gain c =
    let m = c.requires.bounds in
    let e = var64 c.args.e _ c.requires.innovation tt in
    let s = by_of c.args.s.now.low c.args.s.now.high in
    gain_as_read (p12_of _ m) e s (velocity_gain c.args.m.now c.args.e c.args.s.now.by m c.requires.innovation c.requires.no_less)

pub lowered-requires-clause-gain : goal.lowered-requires-clause-gain
lowered-requires-clause-gain c =
    let m = c.requires.bounds in
    let s = by_of c.args.s.now.low c.args.s.now.high in
    gain_as_read (p11_of _ m) (p11_of _ m) s (variance_gain c.args.m.now c.args.s.now.by m c.requires.no_less)

pub lowered-requires-2-clause-gain : goal.lowered-requires-2-clause-gain
lowered-requires-2-clause-gain c =
    let m = c.requires.bounds in
    let s = by_of c.args.s.now.low c.args.s.now.high in
    gain_as_read (p11_of _ m) (p12_of _ m) s (covariance_gain c.args.m.now c.args.s.now.by m c.requires.no_less)

pub lowered-requires-3-clause-gain : goal.lowered-requires-3-clause-gain
lowered-requires-3-clause-gain c =
    let m = c.requires.bounds in
    let s = by_of c.args.s.now.low c.args.s.now.high in
    gain_as_read (p12_of _ m) (p12_of _ m) s (velocity_variance_gain c.args.m.now c.args.s.now.by m c.requires.no_less)

pub returns-clause-value : goal.returns-clause-value
unfolding corrected
returns-clause-value c =
    let m = c.requires.bounds in
    let e = (var64 c.args.e _ c.requires.innovation tt).same in
    let p11 = (p11_of _ m).same in
    let p12 = (p12_of _ m).same in
    let p_is = through64 c.raised.type_inv ∙ c.raised.ensures ∙ (λ j. raised ((p_of _ m).same j) (p11 j) (e j) c.args.s.now.by) in
    let v_is = through64 c.raised-2.type_inv ∙ c.raised-2.ensures ∙ (λ j. raised ((v_of _ m).same j) (p12 j) (e j) c.args.s.now.by) in
    let p11_is = through64 c.lowered.type_inv ∙ c.lowered.ensures ∙ (λ j. lowered (p11 j) (p11 j) (p11 j) c.args.s.now.by) in
    let p12_is = through64 c.lowered-2.type_inv ∙ c.lowered-2.ensures ∙ (λ j. lowered (p12 j) (p11 j) (p12 j) c.args.s.now.by) in
    let p22_is = through64 c.lowered-3.type_inv ∙ c.lowered-3.ensures ∙ (λ j. lowered ((p22_of _ m).same j) (p12 j) (p12 j) c.args.s.now.by) in
    c.bounded.ensures.value ∙ (λ j. bounded (p_is j) (v_is j) (p11_is j) (p12_is j) (p22_is j))
