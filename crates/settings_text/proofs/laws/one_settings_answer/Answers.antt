use Rattle.settings_text.proofs.SomeAnswer.{some_answer}
use Rattle.settings_text.proofs.OnlyAnswer.{only_answer}
use Rattle.settings_text.proofs.laws.one_settings_answer.Goals as goal

pub returns : goal.returns
returns c octets =
    let found = some_answer octets in
    record { answer = found.0; is_answer = found.1; only = λ other given. only_answer octets other found.0 given found.1 }
