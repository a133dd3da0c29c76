use Rattle.std.proofs.Common.{rules, ◌≡◌, ◌∙◌, ap, sym, ℕ, Bool, ◌==◌, ◌+◌, List, ◌∷◌, ◌++◌, append-nil, true, false, cond, drop, get_or, Vec, Global}
use Rattle.track_life.specs.Tracks.{TrackState}
use Rattle.span_clusters.specs.Parts.{picked_items}
use Rattle.track_parts.proofs.TwoLists.{snoc_append}
use Rattle.track_parts.proofs.Picks.{next_pick_at, drop_none, picks_end}
use Rattle.track_parts.proofs.splitting.picked_tracks.Goals as goal
use Rattle.track_parts.proofs.splitting.picked_tracks.Goals.{then-numbers-index+in_ok-push, else-numbers-index}

pub loop-index-init : goal.loop-index-init
loop-index-init c =
    let f : ℕ → Bool = λ k. k == c.args.part in
    ap (λ (l : List TrackState). l ++ picked_items f (drop 0 c.args.numbers.now) (drop 0 c.args.tracks.now)) c.new-picked.ensures.items
    ∙ (λ i. picked_items f (drop_none c.args.numbers.now i) (drop_none c.args.tracks.now i))

pub loop-index-preserved : goal.loop-index-preserved
loop-index-preserved c =
    let f : ℕ → Bool = λ k. k == c.args.part in
    let k = c.loop-index.index in
    let x = c.index-tracks-index.result in
    let xs = c.loop-index.picked.items in
    let rest = picked_items f (drop (k + 1) c.args.numbers.now) (drop (k + 1) c.args.tracks.now) in
    let step : picked_items f (drop k c.args.numbers.now) (drop k c.args.tracks.now) ≡ cond (f (get_or c.args.numbers.now k 0)) (x ∷ rest) rest =
    next_pick_at f c.args.numbers.now c.args.tracks.now k 0 x c.requires c.loop-index-test.true c.index-tracks-index.is in
    elim c.if-numbers-index.branch [
      | then-numbers-index+in_ok-push w ↦
          let own : f (get_or c.args.numbers.now k 0) ≡ true = search rules in
          ap (λ (v : Vec TrackState Global). v.items ++ rest) w.picked-is ∙ ap (λ (l : List TrackState). l ++ rest) w.in_ok-push.ensures.items ∙ snoc_append xs x rest
          ∙ ap (λ (l : List TrackState). xs ++ l) (sym (step ∙ ap (λ b. cond b (x ∷ rest) rest) own)) ∙ c.loop-index.invariant
      | else-numbers-index w ↦
          let others : f (get_or c.args.numbers.now k 0) ≡ false = search rules in
          ap (λ (v : Vec TrackState Global). v.items ++ rest) w.picked-is ∙ ap (λ (l : List TrackState). xs ++ l) (sym (step ∙ ap (λ b. cond b (x ∷ rest) rest) others)) ∙ c.loop-index.invariant
    ]

pub returns : goal.returns
returns c =
    let f : ℕ → Bool = λ k. k == c.args.part in
    let xs = c.loop-index.picked.items in
    sym (append-nil xs) ∙ ap (λ (l : List TrackState). xs ++ l) (sym (picks_end f c.args.numbers.now c.args.tracks.now c.loop-index.index c.loop-index-test.false)) ∙ c.loop-index.invariant
