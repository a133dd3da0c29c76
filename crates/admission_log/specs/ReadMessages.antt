-- What is kept of a datagram that was read: the messages of each of its blocks, and how many were passed over.
use Rattle.std.specs.Prelude.{◌+◌, ◌++◌, List, [], ◌∷◌, map}
use Rattle.std.specs.List.{flat_map}
use Rattle.asterix_frame.specs.Datagrams.{Content}
use Rattle.admission_log.specs.declared.messages.BlockMessages.{BlockMessages}
use Rattle.admission_log.specs.declared.messages.BlockMessages.TheVariants.{Services, Reports}
use Rattle.admission_log.specs.declared.messages.Messages.TheInside.{Inside}
use Rattle.admission_log.specs.Messages.{Message, report, service, messages_in, other_count, Said}

-- those of a block
abbrev pub messages_kept : BlockMessages → List Message
messages_kept (Services services) = map service services
messages_kept (Reports reports) = map report reports

abbrev pub said : Inside → Said
said m = record { messages = flat_map messages_kept m.blocks; other = m.other }

-- what a datagram says with one block more
abbrev pub with_block : Content → Said → Said
with_block content s = record { messages = s.messages ++ messages_in content; other = s.other + other_count (content ∷ []) }
