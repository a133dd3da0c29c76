-- What a datagram says: its messages, by its blocks, which are target reports and radar service messages.
use Rattle.std.specs.Prelude.{ℕ, Bool, true, false, List, [], map, count_by}
use Rattle.std.specs.List.{flat_map}
use Rattle.asterix_frame.specs.declared.tables.Uap.TheVariants.{Cat034, Cat048}
use Rattle.asterix_frame.specs.Datagrams.{Content, records, other}
use Rattle.cat034_in.specs.declared.service.Service.{Service}
use Rattle.cat034_in.specs.Services.{services_of}
use Rattle.cat048_in.specs.declared.report.Report.{Report}
use Rattle.cat048_in.specs.Reports.{reports_of}

pub data Message : Type 0 where
  report : Report → Message
  service : Service → Message

abbrev pub messages_in : Content → List Message
messages_in (records Cat034 rs) = map service (services_of rs)
messages_in (records Cat048 rs) = map report (reports_of rs)
messages_in _ = []

-- in order
abbrev pub messages_of : List Content → List Message
messages_of contents = flat_map messages_in contents

-- a block that is passed over
abbrev pub is_other : Content → Bool
is_other (other category body) = true
is_other _ = false

-- how many there are
abbrev pub other_count : List Content → ℕ
other_count contents = count_by is_other contents

-- its messages, in order, and how many of its blocks were passed over
pub record Said : Type 0 where
  pub messages : List Message
  pub other : ℕ

abbrev pub said_by : List Content → Said
said_by contents = record { messages = messages_of contents; other = other_count contents }
