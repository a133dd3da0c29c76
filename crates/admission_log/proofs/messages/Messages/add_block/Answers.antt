use Rattle.std.proofs.Common.{◌∙◌, ap, sym, refl, map, inl, inr, rules}
use Rattle.asterix_frame.specs.declared.tables.Uap.TheVariants.{Cat034, Cat048}
use Rattle.asterix_frame.specs.Datagrams.{records, other}
use Rattle.admission_log.specs.declared.messages.BlockMessages.TheVariants.{Services, Reports}
use Rattle.admission_log.specs.Messages.{report, service}
use Rattle.admission_log.proofs.Contents.{records_content, other_content, said_with_records, said_with_other}
use Rattle.admission_log.proofs.messages.Messages.add_block.Goals as goal

pub returns-in_ok-push-in-34-clause-read : goal.returns-in_ok-push-in-34-clause-read
returns-in_ok-push-in-34-clause-read c =
    let read = c.in_ok-services-in-34.ensures.read in
    let content = records_content Cat034 c.args.block.now read.0 (inl refl) (sym c.in-34.is) c.requires.is_block read.1 in
    let new = c.push.new.self in
    (records Cat034 read.0, content.0, content.1, said_with_records c.self.inside.blocks new c.self.inside.other c.args.self.now (Services c.of.result) (records Cat034 read.0) c.self.view_is c.in_ok-push-in-34.ensures.ok (ap (map service) (c.of.ensures ∙ read.2)) refl)

pub returns-in_ok-push-in-48-clause-read : goal.returns-in_ok-push-in-48-clause-read
returns-in_ok-push-in-48-clause-read c =
    let read = c.in_ok-reports-in-48.ensures.read in
    let content = records_content Cat048 c.args.block.now read.0 (inr refl) (sym c.in-48.is) c.requires.is_block read.1 in
    let new = c.push-in-48.new.self in
    (records Cat048 read.0, content.0, content.1, said_with_records c.self.inside.blocks new c.self.inside.other c.args.self.now (Reports c.of-in-48.result) (records Cat048 read.0) c.self.view_is c.in_ok-push-in-48.ensures.ok (ap (map report) (c.of-in-48.ensures ∙ read.2)) refl)

pub returns-in_default-clause-read : goal.returns-in_default-clause-read
returns-in_default-clause-read c =
    let block = c.args.block.now in
    let content = other_content block (λ e. search rules) (λ e. search rules) c.requires.is_block in
    (other block.cat block.body.now, content.0, content.1, said_with_other c.self.inside.blocks c.self.inside.other c.args.self.now block.cat block.body.now c.self.view_is)
