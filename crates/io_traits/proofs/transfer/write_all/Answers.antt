use Rattle.std.proofs.Common.{rules, ◌≡◌, ◌∙◌, ℕ, ◌-◌, List, length, take, drop, arith}
use Rattle.std.proofs.Math.Seq.{take-add}
use Rattle.std.proofs.lemmas.List.{take_all, length-drop}
use Rattle.io_traits.proofs.Known.{Appends_trans}
use Rattle.io_traits.proofs.Touching.{Touches_trans}
use Rattle.io_traits.proofs.transfer.write_all.Goals as goal

rest_of : (n : ℕ) (xs : List ℕ) → take (length xs - n) (drop n xs) ≡ drop n xs
rest_of n xs = take_all (length xs - n) (drop n xs) (omega (arith, length-drop n xs))

pub loop-written-preserved : goal.loop-written-preserved
loop-written-preserved g c =
    let inv = c.loop-written.invariant in
    let e = c.in_ok-written.ensures in
    let wrote = rw rest_of at e.appended in
    record {
      within = omega (arith, wrote.within, length-drop c.loop-written.written c.args.octets.now);
      bound = search rules;
      got_here = rw (take-add c.loop-written.written c.in_ok-written.field-0 c.args.octets.now) (Appends_trans _ _ _ _ _ inv.got_here wrote.prefix);
      faults_here = e.cause.kept ∙ inv.faults_here;
      touches = Touches_trans _ _ _ _ _ _ inv.touches e.touches;
    }
