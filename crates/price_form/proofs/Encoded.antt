-- A certificate's octets, put together.
use Rattle.std.proofs.Common.{◌≡◌, ℕ, ℤ, pos, ◌<◌, ◌+◌, ◌∙◌, ◌++◌, ◌∷◌, ap, sym, append_assoc, append-nil, [], List, Option, length, get_or, take}
use Rattle.std.specs.Int.{w64, cast_signed, cast_unsigned}
use Rattle.std.specs.Prelude.{FitsSigned}
use Rattle.std.specs.List.{flat_map}
use Rattle.std.proofs.lemmas.Int.{to_z-of_z}
use Rattle.std.proofs.lemmas.Grind.{flat_map-append}
use Rattle.std.proofs.lemmas.List.{take_more}
use Rattle.price_form.specs.Octets.{price_octets}
use Rattle.price_form.specs.declared.certs.Cert.{Cert}
use Rattle.assignment_dual.specs.Problems.{Edge}
use Rattle.price_form.specs.Encoding.{head_octets, gate_octets, proof_octets, cert_octets}

pub whole_cert : (c : Cert) (before : List ℕ) {first second third : List ℕ} {slot radar n k : ℕ} {ps ts : List ℕ} {es : List Edge} {xs : List (Option ℕ)} {us vs : List ℤ} → first ≡ before ++ head_octets slot radar n k → second ≡ first ++ gate_octets ps ts es → third ≡ second ++ proof_octets xs us vs
    → slot ≡ c.slot → radar ≡ c.radar → n ≡ c.costs.plots → k ≡ c.costs.tracks → ps ≡ c.plots → ts ≡ c.tracks → es ≡ c.costs.edges → xs ≡ c.pairing → us ≡ c.u → vs ≡ c.v → third ≡ before ++ cert_octets c
unfolding cert_octets
whole_cert c before {first} {second} {third} {slot} {radar} {n} {k} {ps} {ts} {es} {xs} {us} {vs} f g h a b d i j l m o p q =
    h
    ∙ (λ t. (g ∙ ap (λ zs. zs ++ gate_octets ps ts es) f) t ++ proof_octets xs us vs)
    ∙ (λ t. ((before ++ head_octets (a t) (b t) (d t) (i t)) ++ gate_octets (j t) (l t) (m t)) ++ proof_octets (o t) (p t) (q t))
    ∙ append_assoc (before ++ head_octets c.slot c.radar c.costs.plots c.costs.tracks) (gate_octets c.plots c.tracks c.costs.edges) (proof_octets c.pairing c.u c.v)
    ∙ append_assoc before (head_octets c.slot c.radar c.costs.plots c.costs.tracks) (gate_octets c.plots c.tracks c.costs.edges ++ proof_octets c.pairing c.u c.v)

-- one price more
pub price_more : (before : List ℕ) (prices : List ℤ) (i : ℕ) {now after : List ℕ} → i < length prices → FitsSigned w64 (get_or prices i (pos 0)) → now ≡ before ++ flat_map price_octets (take i prices)
    → after ≡ now ++ price_octets (cast_signed w64 (cast_unsigned w64 (get_or prices i (pos 0)))) → after ≡ before ++ flat_map price_octets (take (i + 1) prices)
price_more before prices i {now} {after} lt fit inv is =
    let x = get_or prices i (pos 0) in
    is
    ∙ (λ j. inv j ++ price_octets (to_z-of_z w64 x fit j))
    ∙ append_assoc before (flat_map price_octets (take i prices)) (price_octets x)
    ∙ ap (λ zs. before ++ (flat_map price_octets (take i prices) ++ zs)) (sym (append-nil (price_octets x)))
    ∙ ap (λ zs. before ++ zs) (sym (ap (flat_map price_octets) (take_more prices i (pos 0) lt) ∙ flat_map-append price_octets (take i prices) (x ∷ [])))
