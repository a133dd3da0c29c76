use Rattle.std.proofs.Common.{rules, ◌≡◌, ◌∙◌, ap, sym, Some, None, [], ◌∷◌, ◌++◌, take, ◌+◌, append-nil}
use Rattle.std.proofs.lemmas.List.{take_more}
use Rattle.asterix_frame.specs.Bodies.{elements_at}
use Rattle.asterix_frame.specs.DataRecords.{time_of}
use Rattle.recording.proofs.BlockTimes.{times_more}
use Rattle.recording.proofs.times.times_in.Goals.{in-Some+in_ok-push, in_default}
use Rattle.recording.proofs.times.times_in.Goals as goal

pub loop-spans-preserved : goal.loop-spans-preserved
loop-spans-preserved c =
    let found = c.args.found.now in
    let at = c.loop-spans.spans-index in
    let so_far = c.loop-spans.invariant.so_far in
    let times = c.loop-spans.times.items in
    let more : take (at + 1) found ≡ take at found ++ c.spans-item.result ∷ [] = search (rules, take_more) in
    elim c.match-time_of_day.branch [
      | in-Some+in_ok-push w ↦ record {
        so_far = times_more (λ s. time_of c.args.uap (elements_at c.args.body.now s.frns.items)) (take at found) (take (at + 1) found) c.spans-item.result (Some w.in-Some.time) times c.match-time_of_day.times.items more so_far
            (sym c.time_of_day.ensures ∙ w.in-Some.is)
            (ap (λ v. v.items) w.times-is ∙ w.in_ok-push.ensures.items);
      }
      | in_default w ↦ record {
        so_far = times_more (λ s. time_of c.args.uap (elements_at c.args.body.now s.frns.items)) (take at found) (take (at + 1) found) c.spans-item.result None times c.match-time_of_day.times.items more so_far
            (sym c.time_of_day.ensures ∙ w.in_default.is)
            (ap (λ v. v.items) w.times-is ∙ sym (append-nil times));
      }
    ]
