use Rattle.std.proofs.Common.{ℕ, Result, Ok, Err, ◌<◌, ◌^◌, ◌≡◌}
use Rattle.std.specs.Prelude.{FitsSigned, IfOk, IfSome, Vec}
use Rattle.std.specs.Int.{w64}
use Rattle.std.specs.List.{All}
use Rattle.std.specs.declared.alloc.Global.{Global}
use Rattle.rand_pcg.specs.Lcg.{Lcg}
use Rattle.price_form.specs.declared.certs.Cert.{Cert}
use Rattle.price_form.specs.Encoding.{cert_octets}
use Rattle.pairing_load.specs.Certificates.{IsLoadCert}
use Rattle.pairing_load.specs.PriceFiles.{RecordMade}
use Rattle.pairing_load.proofs.Certs.{cert_formed, record_made}
use Rattle.pairing_load.proofs.price_file.next_record.Goals as goal

made : {E : Type 0} (k : ℕ) (g : Lcg) (c : Cert) (r : Result (Vec ℕ Global) E) → k < 2 ^ 32 → IsLoadCert k g c → All (λ x. IfSome x (λ t. t < c.costs.tracks)) c.pairing → All (FitsSigned w64) c.u → All (FitsSigned w64) c.v → IfOk r (λ v. v.items ≡ cert_octets c) → IfOk r (λ v. RecordMade k g v.items)
made k g c (Ok v) lt h named us vs e = record_made k g c v.items lt h named us vs e
made k g c (Err f) lt h named us vs e = tt

pub write_cert-requires : goal.write_cert-requires
write_cert-requires c = cert_formed c.args.number c.args.generator.now c.in_ok-cert.cert c.in_ok-cert.ensures.is c.in_ok-cert.ensures.named

pub returns-clause-is : goal.returns-clause-is
returns-clause-is c = made c.args.number c.args.generator.now c.in_ok-cert.cert c.write_cert.result c.ranges.number.fits c.in_ok-cert.ensures.is c.in_ok-cert.ensures.named c.in_ok-cert.ensures.u_fits c.in_ok-cert.ensures.v_fits c.write_cert.ensures
