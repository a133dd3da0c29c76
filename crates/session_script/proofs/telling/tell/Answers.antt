use Rattle.std.proofs.Common.{rules, refl, inr, sym, subst, ap, List, ℕ}
use Rattle.std.specs.Prelude.{string_bytes}
use Rattle.io_traits.specs.Places.{GotPrefix, HasFailed}
use Rattle.io_traits.specs.declared.host.Place.TheVariants as places
use Rattle.session_script.specs.Scripts.{End, end_of}
use Rattle.session_script.specs.Telling.{Says}
use Rattle.session_script.specs.declared.status.Spot.TheVariants as spots
use Rattle.session_script.specs.declared.status.Status.TheVariants.{Write}
use Rattle.session_script.proofs.ToldLines.{told_after}
use Rattle.session_script.proofs.telling.tell.Goals as goal

pub returns-clause-says : goal.returns-clause-says
returns-clause-says g c =
    let state = g.H.Host.state in
    let old = state c.args.host.now in
    let mid = state c.write_all.new.host in
    let new = state c.write_all-in-Err-write_all.new.host in
    let text = string_bytes c.in-Ok.text in
    let prefix : GotPrefix places.Screen old mid c.as_bytes.result.now = search rules in
    let failed : HasFailed places.Screen old mid = search rules in
    let again = c.write_all-in-Err-write_all.ensures in
    subst (λ (e : End). Says e (Write spots.Screen) old new) (sym (ap end_of c.in-Ok.is))
    (inr (refl, told_after text old mid new c.write_all-in-Err-write_all.result (subst (λ (t : List ℕ). GotPrefix places.Screen old mid t) c.as_bytes.ensures.value prefix) failed again.touches again.all again.prefix))
