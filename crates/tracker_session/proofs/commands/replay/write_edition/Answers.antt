use Rattle.std.proofs.Common.{subst, List, ℕ, Ok, Err}
use Rattle.std.specs.Prelude.{IfErr, Result}
use Rattle.io_traits.specs.declared.host.Place.TheVariants as places
use Rattle.session_script.specs.Steps.{PlaceWritten, WritingBroke}
use Rattle.tracker_session.specs.Editions.{EditionBroke, at_prices}
use Rattle.tracker_session.proofs.Touched.{output_written, prices_written, then_written}
use Rattle.tracker_session.proofs.commands.replay.write_edition.Goals as goal

-- the same of an error, where what is said of it gives this
if_err : {A B : Type 0} (r : Result A B) (P Q : B → Type 0) → ((b : B) → P b → Q b) → IfErr r P → IfErr r Q
if_err (Ok a) P Q f h = h
if_err (Err b) P Q f h = f b h

pub returns-clause-broke : goal.returns-clause-broke
returns-clause-broke g c =
    let state = g.H.Host.state in
    let output = c.args.octets.now.output.items in
    let prices = c.args.octets.now.prices.items in
    let old = state c.args.host.now in
    let mid = state c.write_file.new.host in
    let new = state c.write_file-2.new.host in
    let wrote = subst (λ (o : List ℕ). PlaceWritten places.Output o old mid) c.deref.ensures.value c.in_ok-write_file.ensures.written in
    let broke = subst (λ (o : List ℕ). IfErr c.write_file-2.result (λ s. WritingBroke places.Prices o s mid new)) c.deref-2.ensures.value c.write_file-2.ensures.broke in
    if_err c.write_file-2.result (λ s. WritingBroke places.Prices prices s mid new) (λ s. EditionBroke output prices s old new) (λ s b. at_prices mid wrote b) broke

pub returns-in_err-write_file-clause-touches : goal.returns-in_err-write_file-clause-touches
returns-in_err-write_file-clause-touches g c =
    let state = g.H.Host.state in
    output_written (state c.args.host.now) (state c.write_file.new.host) c.write_file.ensures.touches

pub returns-clause-touches : goal.returns-clause-touches
returns-clause-touches g c =
    let state = g.H.Host.state in
    let old = state c.args.host.now in
    let mid = state c.write_file.new.host in
    let new = state c.write_file-2.new.host in
    then_written old mid new (output_written old mid c.write_file.ensures.touches) (prices_written mid new c.write_file-2.ensures.touches)
