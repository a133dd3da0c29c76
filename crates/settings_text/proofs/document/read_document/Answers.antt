use Rattle.std.proofs.Common.{◌≡◌, true, false, subst, refl, rules, arith}
use Rattle.toml.specs.View.{table_view}
use Rattle.settings_text.specs.Keys.{system_keys}
use Rattle.settings_text.specs.Documents.{is_known}
use Rattle.settings_text.specs.Answers.{Repeats, unknown_key, duplicate}
use Rattle.settings_text.proofs.Ranges.{gives_within}
use Rattle.settings_text.proofs.Right.{numbers_right}
use Rattle.settings_text.proofs.document.read_document.Goals as goal

pub returns-then-not-document_is_known-clause-err : goal.returns-then-not-document_is_known-clause-err
returns-then-not-document_is_known-clause-err c =
    let document = table_view c.args.document.now in
    let vec = c.in_ok-radars.radars.ok.0 in
    let right = numbers_right document c.in_ok-system.system c.in_ok-radars.radars.items c.in_ok-system.ensures.ok c.in_ok-radars.ensures.ok (omega (arith, vec, c.in_ok-radars.ensures.some.0)) (omega (arith, vec, c.in_ok-radars.ensures.some.1)) in
    let unknown : is_known document ≡ false = search rules in
    unknown_key right unknown refl

pub returns-in-Some-clause-err : goal.returns-in-Some-clause-err
returns-in-Some-clause-err c =
    let document = table_view c.args.document.now in
    let vec = c.in_ok-radars.radars.ok.0 in
    let right = numbers_right document c.in_ok-system.system c.in_ok-radars.radars.items c.in_ok-system.ensures.ok c.in_ok-radars.ensures.ok (omega (arith, vec, c.in_ok-radars.ensures.some.0)) (omega (arith, vec, c.in_ok-radars.ensures.some.1)) in
    let known : is_known document ≡ true = search rules in
    let repeats = subst (λ radars. Repeats radars c.in-Some.radar c.in-Some.first) c.deref.ensures.value c.in-Some.ensures.found in
    duplicate right known c.in-Some.radar c.in-Some.first (record { radars = c.in_ok-radars.radars.items; are_radars = c.in_ok-radars.ensures.ok; repeats = repeats }) refl

pub settings_of-requires-clause-within : goal.settings_of-requires-clause-within
settings_of-requires-clause-within c = gives_within c.in_ok-system.ensures.ok.table system_keys c.in_ok-system.system refl c.in_ok-system.ensures.ok.gives
