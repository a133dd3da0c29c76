-- What runs touched, one after the other.
use Rattle.std.proofs.Common.{◌∙◌, refl, le_refl, le_trans, List}
use Rattle.std.specs.Prelude.{IsTrue}
use Rattle.io_traits.specs.Host.{HostState}
use Rattle.io_traits.specs.Touching.{Touches}
use Rattle.io_traits.specs.declared.host.Place.{Place}
use Rattle.io_traits.proofs.Places.{all_in, outside_all}

-- nothing was touched
pub Touches_refl : (ps rs ws : List Place) (a : HostState) → Touches ps rs ws a a
Touches_refl ps rs ws a = record {
  bindings = λ p o. refl;
  left = λ p o. refl;
  got = λ p o. refl;
  faults = λ p x y z. refl;
  later = λ p. le_refl (a.faults p);
}

pub Touches_trans : (ps rs ws : List Place) (a b c : HostState) → Touches ps rs ws a b → Touches ps rs ws b c → Touches ps rs ws a c
Touches_trans ps rs ws a b c h k = record {
  bindings = λ p o. k.bindings p o ∙ h.bindings p o;
  left = λ p o. k.left p o ∙ h.left p o;
  got = λ p o. k.got p o ∙ h.got p o;
  faults = λ p x y z. k.faults p x y z ∙ h.faults p x y z;
  later = λ p. le_trans (h.later p) (k.later p);
}

-- What touched these touched no more than those. Where both lists are told, each premise is `refl`.
pub widened : (ps rs ws ps' rs' ws' : List Place) (a b : HostState) → IsTrue (all_in ps ps') → IsTrue (all_in rs rs') → IsTrue (all_in ws ws') → Touches ps rs ws a b → Touches ps' rs' ws' a b
widened ps rs ws ps' rs' ws' a b f g k h = record {
  bindings = λ p o. h.bindings p (outside_all ps ps' p f o);
  left = λ p o. h.left p (outside_all rs rs' p g o);
  got = λ p o. h.got p (outside_all ws ws' p k o);
  faults = λ p x y z. h.faults p (outside_all ps ps' p f x) (outside_all rs rs' p g y) (outside_all ws ws' p k z);
  later = h.later;
}
