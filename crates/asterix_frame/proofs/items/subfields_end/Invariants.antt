use Rattle.std.proofs.Common.{List, take}
use Rattle.asterix_frame.specs.Items.{IsSubfield, is_subfield, subfield_at}
use Rattle.asterix_frame.specs.Elements.{Element}
use Rattle.asterix_frame.proofs.Prefixes.{ReadTo}
use Rattle.asterix_frame.proofs.items.subfields_end.Given as goal

abbrev pub invariant-loop-number : goal.invariant-loop-number
invariant-loop-number l = (elements : List Element) × ReadTo (λ n. is_subfield (subfield_at l.fn.subfields n)) (λ n octets. IsSubfield (subfield_at l.fn.subfields n) octets) l.octets (take l.primary l.octets) l.number l.end elements
