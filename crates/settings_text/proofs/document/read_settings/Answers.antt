use Rattle.std.proofs.Common.{Ok}
use Rattle.std.proofs.lemmas.Result.{IfOk-weaker}
use Rattle.toml.specs.View.{table_view}
use Rattle.settings_text.specs.Answers.{IsSettings, IsSettingsAnswer}
use Rattle.settings_text.proofs.OnlyAnswer.{agrees}
use Rattle.settings_text.proofs.Right.{told}
use Rattle.settings_text.proofs.document.read_settings.Goals as goal

pub returns-clause-ok : goal.returns-clause-ok
returns-clause-ok c =
    let document = table_view c.in_ok-document.document in
    IfOk-weaker c.read_document.result (IsSettings document) (λ settings. IsSettingsAnswer c.args.bytes.now (Ok settings)) (λ settings is. (document, c.in_ok-document.ensures.ok, is)) c.read_document.ensures.ok

pub returns-clause-fault : goal.returns-clause-fault
returns-clause-fault c = told c.args.bytes.now (table_view c.in_ok-document.document) c.in_ok-document.ensures.ok c.read_document.result c.read_document.ensures.err

pub returns-clause-exact : goal.returns-clause-exact
returns-clause-exact c answer given = agrees c.args.bytes.now c.read_document.result answer (returns-clause-ok c) (returns-clause-fault c) given
