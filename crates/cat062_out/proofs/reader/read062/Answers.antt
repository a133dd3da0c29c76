use Rattle.std.proofs.Common.{◌≡◌, sym, subst, Vec, Global, ℕ}
use Rattle.cat062_out.specs.Tracks.{Stamp, TrackLine}
use Rattle.cat062_out.specs.TrackRecords.{IsTrack, items_of}
use Rattle.asterix_frame.specs.declared.tables.Uap.TheVariants.{Cat062}
use Rattle.cat062_out.proofs.TrackProfile.{tracks}
use Rattle.cat062_out.proofs.ProfilePassing.{passes_answer, passes_refusal}
use Rattle.cat062_out.proofs.ProfileReading.{SoFar, so_far_more, all_read, reads_them, not_refused}
use Rattle.cat062_out.proofs.reader.read062.Goals as goal

pub returns-in_err-track-clause-reads : goal.returns-in_err-track-clause-reads
returns-in_err-track-clause-reads c = λ vs is.
    passes_answer (Stamp × TrackLine) (Vec (Stamp × TrackLine) Global) ((Stamp × TrackLine) × ℕ) Cat062 IsTrack items_of tracks c.args.block.now c.loop-from.from c.loop-from.tracks.items c.loop-from.invariant
    c.from_residual.result c.in_err-track.field-0.0 (λ v. v.items ≡ vs) vs c.from_residual.ensures.1 c.in_err-track.ensures.none is

pub returns-in_err-track-clause-refuses : goal.returns-in_err-track-clause-refuses
returns-in_err-track-clause-refuses c = λ e is.
    passes_refusal (Stamp × TrackLine) (Vec (Stamp × TrackLine) Global) ((Stamp × TrackLine) × ℕ) Cat062 IsTrack items_of tracks c.args.block.now c.loop-from.from c.loop-from.tracks.items c.loop-from.invariant
    c.from_residual.result c.in_err-track.field-0.0 e c.from_residual.ensures.1 c.in_err-track.ensures.none is

pub loop-from-preserved : goal.loop-from-preserved
loop-from-preserved c =
    let body = c.args.block.now.body.now in
    subst (SoFar (Stamp × TrackLine) Cat062 IsTrack items_of body c.in_ok-track.next) (sym c.in_ok-push.ensures.items)
    (so_far_more (Stamp × TrackLine) Cat062 IsTrack items_of body c.loop-from.from c.in_ok-track.next c.loop-from.tracks.items c.in_ok-track.track c.loop-from.invariant c.in_ok-track.ensures.found)

pub returns-clause-reads : goal.returns-clause-reads
returns-clause-reads c = λ vs is.
    let body = c.args.block.now.body.now in
    let all = all_read (Stamp × TrackLine) Cat062 IsTrack items_of body c.loop-from.from c.loop-from.tracks.items c.loop-from.invariant c.loop-from-test.false in
    reads_them (Stamp × TrackLine) Cat062 IsTrack items_of tracks c.args.block.now (Vec (Stamp × TrackLine) Global) c.loop-from.tracks.items vs all is

pub returns-clause-refuses : goal.returns-clause-refuses
returns-clause-refuses c = λ e is.
    let body = c.args.block.now.body.now in
    let all = all_read (Stamp × TrackLine) Cat062 IsTrack items_of body c.loop-from.from c.loop-from.tracks.items c.loop-from.invariant c.loop-from-test.false in
    not_refused (Stamp × TrackLine) Cat062 IsTrack items_of tracks c.args.block.now (Vec (Stamp × TrackLine) Global) c.loop-from.tracks.items e all is
