use Rattle.std.proofs.Common.{◌≡◌, ◌∙◌, ap, sym, [], ◌∷◌, if◌then◌else◌, Some}
use Rattle.std.proofs.lemmas.List.Sums.{fold-append}
use Rattle.io_traits.specs.MemHost.{got_of, left_of, octets_for, size_of}
use Rattle.io_traits.specs.Touching.{same_place}
use Rattle.io_traits.proofs.mem_host.MemHost.new.Goals as goal

pub loop-place-preserved : goal.loop-place-preserved
loop-place-preserved c =
    let inv = c.loop-place.invariant in
    let e = c.put_left.ensures in
    let place = c.in-Some.place in
    let octets = c.in-Some.octets in
    record {
      faults = λ p. e.faults p ∙ inv.faults p;
      bound = λ p. e.bound p ∙ inv.bound p;
      left = λ p.
          let was : left_of c.loop-place.host p ≡ octets_for c.loop-place.yielded p = let told = inv.left p in cc in
          ap Some (e.left p ∙ ap (λ z. if same_place place p then octets.items else z) was ∙ sym (fold-append _ _ c.loop-place.yielded ((place, octets) ∷ [])));
      got = λ p. ap Some (e.got p) ∙ inv.got p;
      size = λ p. e.size p ∙ inv.size p;
      fails = ap (λ v. v.items) e.fails ∙ inv.fails;
      calls = e.calls ∙ inv.calls;
    }

pub loop-place-2-preserved : goal.loop-place-2-preserved
loop-place-2-preserved c =
    let inv = c.loop-place-2.invariant in
    let e = c.put_room.ensures in
    let place = c.in-Some-2.place in
    let octets = c.in-Some-2.octets in
    record {
      faults = λ p. e.faults p ∙ inv.faults p;
      bound = λ p. e.bound p ∙ inv.bound p;
      left = λ p. ap Some (e.left p) ∙ inv.left p;
      got = λ p.
          let none : got_of c.loop-place-2.host p ≡ [] = let told = inv.got p in cc in
          ap Some (e.got p none);
      size = λ p.
          e.size p
          ∙ ap (λ z. if same_place place p then z else size_of c.loop-place-2.host p) c.in_ok-vec.ensures.len
          ∙ ap (λ z. if same_place place p then octets else z) (inv.size p)
          ∙ sym (fold-append _ _ c.loop-place-2.yielded ((place, octets) ∷ []));
      fails = ap (λ v. v.items) e.fails ∙ inv.fails;
      calls = e.calls ∙ inv.calls;
    }
