-- The order of keys is total, and keys that compare alike are one.
use Rattle.std.proofs.Common.{◌≡◌, ap, subst, ℕ}
use Rattle.std.proofs.Math.Nat.{ℕ_set}
use Rattle.std.specs.Cmp.{IsTotalOrder}
use Rattle.std.specs.Ordering.{nat_cmp}
use Rattle.std.proofs.lemmas.Cmp.{on_total, then_total, nat_cmp_total}
use Rattle.std.proofs.lemmas.Map.Lookups.{CmpEqualImpliesEq, exact_pairs, exact_unsigned}
use Rattle.trk_base.specs.Numbers.{slot_of}
use Rattle.trk_base.specs.declared.keys.Key.{Key}
use Rattle.trk_base.specs.Keys.{key_cmp}

pub key_cmp_total : IsTotalOrder key_cmp
key_cmp_total =
    then_total (on_total (λ (k : Key). k.slot) nat_cmp_total)
    (then_total (on_total (λ (k : Key). k.radar) nat_cmp_total)
    (then_total (on_total (λ (k : Key). k.time) nat_cmp_total) (on_total (λ (k : Key). k.arrival) nat_cmp_total)))

made : (s r t a : ℕ) → s ≡ slot_of t → Key
made s r t a e = record { slot = s; radar = r; time = t; arrival = a; in_slot = e }

same_made : (p q : ℕ × (ℕ × (ℕ × ℕ))) (e : p.0 ≡ slot_of p.1.1.0) (f : q.0 ≡ slot_of q.1.1.0) → p ≡ q → made p.0 p.1.0 p.1.1.0 p.1.1.1 e ≡ made q.0 q.1.0 q.1.1.0 q.1.1.1 f
same_made p q e f h =
    let P : ℕ × (ℕ × (ℕ × ℕ)) → Type 0 = λ z. (g : z.0 ≡ slot_of z.1.1.0) → made p.0 p.1.0 p.1.1.0 p.1.1.1 e ≡ made z.0 z.1.0 z.1.1.0 z.1.1.1 g in
    subst P h (λ g. ap (made p.0 p.1.0 p.1.1.0 p.1.1.1) (ℕ_set p.0 (slot_of p.1.1.0) e g)) f

pub key_cmp_exact : CmpEqualImpliesEq key_cmp
unfolding made
key_cmp_exact a b h =
    same_made (a.slot, (a.radar, (a.time, a.arrival))) (b.slot, (b.radar, (b.time, b.arrival))) a.in_slot b.in_slot
    (exact_pairs nat_cmp _ exact_unsigned (exact_pairs nat_cmp _ exact_unsigned (exact_pairs nat_cmp nat_cmp exact_unsigned exact_unsigned)) (a.slot, (a.radar, (a.time, a.arrival))) (b.slot, (b.radar, (b.time, b.arrival))) h)
