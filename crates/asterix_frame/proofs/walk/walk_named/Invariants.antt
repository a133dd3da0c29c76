use Rattle.std.proofs.Common.{◌≡◌, ◌+◌, List, take, drop}
use Rattle.asterix_frame.specs.Items.{IsItem, item_at}
use Rattle.asterix_frame.specs.Elements.{Element}
use Rattle.asterix_frame.specs.Records.{knows, spans}
use Rattle.asterix_frame.proofs.Prefixes.{ReadTo}
use Rattle.asterix_frame.proofs.walk.walk_named.Given as goal

abbrev pub invariant-loop-number : goal.invariant-loop-number
invariant-loop-number l =
    let octets = drop l.from l.block.body.now in
    (items : List Element) × ReadTo (knows l.fn.table) (λ n element. IsItem (item_at l.fn.table n) element) octets (take l.fspec octets) l.number l.end items × (l.frns.items ≡ spans (l.from + l.fspec) items)
