use Rattle.std.proofs.Common.{rules, [], ◌∷◌, ◌∙◌, sym, subst, List, ℕ, arith}
use Rattle.io_traits.specs.declared.host.Place.{Place}
use Rattle.io_traits.proofs.Touching.{Touches_trans}
use Rattle.pairing_load.specs.PriceFiles.{RecordMade}
use Rattle.pairing_load.proofs.Filing.{prefix_broken, prefix_here, prefix_none, progress_more, progress_none}
use Rattle.pairing_load.proofs.price_file.write_file.Goals as goal

pub returns-in_err-put_beginning-clause-prefix : goal.returns-in_err-put_beginning-clause-prefix
returns-in_err-put_beginning-clause-prefix g c = prefix_none c.args.load.seed c.args.load.count (g.H.Host.state c.args.host.now) (g.H.Host.state c.put_beginning.new.host) c.in_err-put_beginning.ensures.prefix

pub loop-number-init : goal.loop-number-init
loop-number-init g c = record {
  bound = search rules;
  progress = progress_none c.args.load.seed c.generator_of-generator.result (g.H.Host.state c.args.host.now) (g.H.Host.state c.put_beginning.new.host) c.generator_of-generator.ensures c.in_ok-put_beginning.ensures.all;
  faults = c.in_ok-put_beginning.ensures.kept;
  others = c.put_beginning.ensures.others;
}

pub returns-in_default-clause-prefix : goal.returns-in_default-clause-prefix
returns-in_default-clause-prefix g c = prefix_here c.args.load.seed c.loop-number.number c.args.load.count (g.H.Host.state c.args.host.now) (g.H.Host.state c.loop-number.host) (omega arith) c.loop-number.invariant.progress.written

pub returns-in_err-put-clause-prefix : goal.returns-in_err-put-clause-prefix
returns-in_err-put-clause-prefix g c =
    let made : RecordMade c.loop-number.number c.loop-number.generator c.deref.result.now = subst (λ (o : List ℕ). RecordMade c.loop-number.number c.loop-number.generator o) (sym c.deref.ensures.value) c.in-Ok.ensures.is in
    prefix_broken c.args.load.seed c.loop-number.number c.args.load.count c.loop-number.generator c.deref.result.now (g.H.Host.state c.args.host.now) (g.H.Host.state c.loop-number.host) (g.H.Host.state c.put.new.host) (omega arith) c.loop-number.invariant.progress made c.in_err-put.ensures.prefix

pub loop-number-preserved : goal.loop-number-preserved
loop-number-preserved g c =
    let inv = c.loop-number.invariant in
    let made : RecordMade c.loop-number.number c.loop-number.generator c.deref.result.now = subst (λ (o : List ℕ). RecordMade c.loop-number.number c.loop-number.generator o) (sym c.deref.ensures.value) c.in-Ok.ensures.is in
    record {
      bound = search rules;
      progress = progress_more c.args.load.seed c.loop-number.number c.loop-number.generator c.next_record.new.generator c.deref.result.now (g.H.Host.state c.args.host.now) (g.H.Host.state c.loop-number.host) (g.H.Host.state c.put.new.host) inv.progress made c.in-Ok.ensures.drawn c.in_ok-put.ensures.all;
      faults = c.in_ok-put.ensures.kept ∙ inv.faults;
      others = Touches_trans [] [] (Place.Output ∷ []) _ _ _ inv.others c.put.ensures.others;
    }

pub returns-clause-prefix : goal.returns-clause-prefix
returns-clause-prefix g c = prefix_here c.args.load.seed c.loop-number.number c.args.load.count (g.H.Host.state c.args.host.now) (g.H.Host.state c.loop-number.host) (omega arith) c.loop-number.invariant.progress.written
