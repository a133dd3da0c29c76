use Rattle.std.proofs.Common.{◌∙◌, ap, subst, sym}
use Rattle.std.proofs.lemmas.List.Elements.{All-from_recursion}
use Rattle.price_form.specs.Certificates.{IsCert}
use Rattle.slot_step.specs.Calls.{plots_of}
use Rattle.slot_step.specs.Tracker.{step_tracks}
use Rattle.tracker_fold.specs.Steps.{AreCertified}
use Rattle.tracker_fold.proofs.Moving.{no_batches, some_batches, stays, moves, none_certified, certified}
use Rattle.tracker_fold.proofs.step.Prepared.step.Goals as goal
use Rattle.tracker_fold.proofs.step.Prepared.step.Goals.{then-is_empty+in_ok-unmoved, else-is_empty+in_ok-table}

pub returns-clause-next : goal.returns-clause-next
returns-clause-next c =
    let batches = c.args.self.batches in
    elim c.if-is_empty.branch [
      | then-is_empty+in_ok-unmoved w ↦ stays c.args.state.now c.args.self.radars.items c.of.result c.args.slot batches.items c.if-is_empty.table.table (no_batches batches.items _ batches.ok.0 (sym c.is_empty.ensures ∙ w.if-is_empty.true))
          c.of.ensures (ap (λ t. t.table) w.table-is ∙ w.in_ok-unmoved.ensures.table)
      | else-is_empty+in_ok-table w ↦ moves c.args.state.now c.args.self.radars.items c.of.result c.args.slot batches.items c.if-is_empty.table.table c.requires.batches.each (some_batches batches.items _ batches.ok.0 (sym c.is_empty.ensures ∙ w.if-is_empty.false))
          c.of.ensures (ap (λ t. t.table) w.table-is ∙ w.in_ok-table.ensures.table ∙ ap (λ bs. step_tracks c.args.state.now.life c.args.state.now.table c.args.slot (plots_of bs)) w.deref.ensures.value)
    ]

pub new-requires : goal.new-requires
new-requires c =
    let batches = c.args.self.batches in
    let are : AreCertified c.args.state.now c.args.slot (plots_of batches.items) c.if-is_empty.table.certs = elim c.if-is_empty.branch [
      | then-is_empty+in_ok-unmoved w ↦ none_certified c.args.state.now c.args.slot batches.items c.if-is_empty.table.certs (no_batches batches.items _ batches.ok.0 (sym c.is_empty.ensures ∙ w.if-is_empty.true)) (ap (λ t. t.certs) w.table-is ∙ w.in_ok-unmoved.ensures.certs)
      | else-is_empty+in_ok-table w ↦ certified c.args.state.now c.args.slot batches.items w.deref.result.now c.if-is_empty.table.certs w.in_ok-table.field-0.certs w.deref.ensures.value (ap (λ t. t.certs) (sym w.table-is)) w.in_ok-table.ensures.certs w.in_ok-table.ensures.whole
    ] in
    All-from_recursion (λ k. IsCert k.cert) c.if-is_empty.table.certs are.whole

pub returns-clause-certs : goal.returns-clause-certs
returns-clause-certs c =
    let batches = c.args.self.batches in
    let are : AreCertified c.args.state.now c.args.slot (plots_of batches.items) c.if-is_empty.table.certs = elim c.if-is_empty.branch [
      | then-is_empty+in_ok-unmoved w ↦ none_certified c.args.state.now c.args.slot batches.items c.if-is_empty.table.certs (no_batches batches.items _ batches.ok.0 (sym c.is_empty.ensures ∙ w.if-is_empty.true)) (ap (λ t. t.certs) w.table-is ∙ w.in_ok-unmoved.ensures.certs)
      | else-is_empty+in_ok-table w ↦ certified c.args.state.now c.args.slot batches.items w.deref.result.now c.if-is_empty.table.certs w.in_ok-table.field-0.certs w.deref.ensures.value (ap (λ t. t.certs) (sym w.table-is)) w.in_ok-table.ensures.certs w.in_ok-table.ensures.whole
    ] in
    subst (AreCertified c.args.state.now c.args.slot (plots_of batches.items)) (sym c.in_ok-priced.ensures) are
