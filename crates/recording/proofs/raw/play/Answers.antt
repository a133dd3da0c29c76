use Rattle.std.proofs.Common.{rules, ◌≡◌, ◌∙◌, ap, sym, length, arith, drop, take, ◌+◌, ◌-◌, ◌++◌}
use Rattle.std.proofs.lemmas.List.{take_at}
use Rattle.asterix_frame.specs.Blocks.{encoded}
use Rattle.asterix_frame.specs.Offsets.{data_block}
use Rattle.recording.specs.Raw.{TimedBlock}
use Rattle.recording.proofs.Played.{progress_more}
use Rattle.recording.proofs.raw.play.Goals as goal

pub loop-from-preserved : goal.loop-from-preserved
loop-from-preserved c =
    let bytes = c.args.bytes.now in
    let from = c.loop-from.from in
    let found = c.in-Ok.ensures.found in
    let block = c.in-Ok.block in
    let next = c.end-from.result in
    let b : TimedBlock = record { block = data_block block; times = c.in_ok-times.times.items } in
    let to : next ≡ from + length (encoded b.block) = omega (arith, c.end-from.ensures, found.at_is) in
    let octets : drop from bytes ≡ encoded b.block ++ drop next bytes = found.octets ∙ ap (λ n. encoded b.block ++ drop n bytes) (sym c.end-from.ensures) in
    let taken : take (next - from) (drop from bytes) ≡ encoded b.block = ap (take (next - from)) octets ∙ take_at (encoded b.block) (drop next bytes) (next - from) (omega (arith, to)) in
    record {
      within = omega (arith, c.end-from.ensures, found.within);
      in_range = c.in_ok-take.ensures.in_range;
      progress = progress_more bytes from next c.loop-from.player c.take.new.self b c.loop-from.invariant.progress found.fits c.in_ok-times.ensures.times octets to
          (λ bs h. c.in_ok-take.ensures.played bs b (search rules) (sym taken ∙ search rules) h);
    }
