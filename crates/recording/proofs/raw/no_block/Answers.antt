use Rattle.std.proofs.Common.{rules, arith}
use Rattle.recording.proofs.BlockOctets.{truncated_at}
use Rattle.recording.proofs.raw.no_block.Goals as goal

pub returns-in_default : goal.returns-in_default
returns-in_default c =
    let octets = c.args.octets.now in
    truncated_at octets c.requires.0 c.requires.1 (λ i. omega (arith, c.type_inv.octets i)) c.requires.2 (λ l. search rules)

pub returns-in_default-2 : goal.returns-in_default-2
returns-in_default-2 c =
    let octets = c.args.octets.now in
    truncated_at octets c.requires.0 c.requires.1 (λ i. omega (arith, c.type_inv.octets i)) c.requires.2 (λ l. search rules)

pub returns-in_default-3 : goal.returns-in_default-3
returns-in_default-3 c =
    let octets = c.args.octets.now in
    truncated_at octets c.requires.0 c.requires.1 (λ i. omega (arith, c.type_inv.octets i)) c.requires.2 (λ l. search rules)
