-- What a price file has of the certificates of a slot.
use Rattle.std.specs.Prelude.{ℕ, List}
use Rattle.std.specs.List.{flat_map}
use Rattle.price_form.specs.Encoding.{cert_octets}
use Rattle.slot_step.specs.declared.certs.KeyedCert.{KeyedCert}

-- the record of each, in their order
abbrev pub told_octets : List KeyedCert → List ℕ
told_octets certs = flat_map (λ k. cert_octets k.cert) certs
