use Rattle.std.proofs.Common.{rules, subst, ℕ, List, inl, inr}
use Rattle.pairing_load.specs.PriceFiles.{PrefixWritten}
use Rattle.pairing_load.specs.Runs.{SolvingEnds, WritingEnds}
use Rattle.pairing_load.specs.Words.{texts}
use Rattle.pairing_load.specs.declared.words.PairingLoad.{PairingLoad}
use Rattle.pairing_load.specs.declared.words.PriceLoad.{PriceLoad}
use Rattle.pairing_load.proofs.Loads.{one_pairings, one_prices}
use Rattle.pairing_load.proofs.run.run_load.Goals as goal

pub returns-in-Some-clause-pairings : goal.returns-in-Some-clause-pairings
returns-in-Some-clause-pairings g c = λ load words.
    subst (λ (l : PairingLoad). SolvingEnds c.run_pairings.result l (g.H.Host.state c.args.host.now) (g.H.Host.state c.run_pairings.new.host)) (one_pairings (texts c.args.words.now) c.in-Some.load load c.in-Some.ensures.load words) c.run_pairings.ensures.ends

pub returns-in-Some-prices_of-clause-prices : goal.returns-in-Some-prices_of-clause-prices
returns-in-Some-prices_of-clause-prices g c = λ load output words.
    let one = one_prices (texts c.args.words.now) c.in-Some-prices_of.load load c.in-Some-prices_of.output.now output (search rules) words in
    let ends : WritingEnds c.run_prices.result c.in-Some-prices_of.load c.in-Some-prices_of.output.now (g.H.Host.state c.args.host.now) (g.H.Host.state c.run_prices.new.host) = c.run_prices.ensures.ends in
    subst (λ (o : List ℕ). WritingEnds c.run_prices.result load o (g.H.Host.state c.args.host.now) (g.H.Host.state c.run_prices.new.host)) one.1 (subst (λ (l : PriceLoad). WritingEnds c.run_prices.result l c.in-Some-prices_of.output.now (g.H.Host.state c.args.host.now) (g.H.Host.state c.run_prices.new.host)) one.0 ends)

pub returns-in-Some-prices_of-clause-prefix : goal.returns-in-Some-prices_of-clause-prefix
returns-in-Some-prices_of-clause-prefix g c = λ load output words.
    let one = one_prices (texts c.args.words.now) c.in-Some-prices_of.load load c.in-Some-prices_of.output.now output (search rules) words in
    subst (λ (l : PriceLoad). PrefixWritten l.seed l.count (g.H.Host.state c.args.host.now) (g.H.Host.state c.run_prices.new.host)) one.0 c.run_prices.ensures.prefix

pub returns-in-None-clause-pairings : goal.returns-in-None-clause-pairings
returns-in-None-clause-pairings g c = λ load words. c.pairings_of.ensures.other (search rules) load words

pub returns-in-None-clause-prices : goal.returns-in-None-clause-prices
returns-in-None-clause-prices g c = λ load output words. c.prices_of.ensures.other (search rules) load output words

pub returns-in-None-clause-prefix : goal.returns-in-None-clause-prefix
returns-in-None-clause-prefix g c = λ load output words. absurd (c.prices_of.ensures.other (search rules) load output words)

pub returns-in-None-clause-usage : goal.returns-in-None-clause-usage
returns-in-None-clause-usage g c = λ _ words. elim words [
  | inl p ↦ c.pairings_of.ensures.other (search rules) p.0 p.1
  | inr p ↦ c.prices_of.ensures.other (search rules) p.0 p.1 p.2
]
