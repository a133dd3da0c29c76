use Rattle.std.proofs.Common.{◌≡◌, ◌∙◌, ap, rules, Bool, List, [], ◌∷◌, ◌++◌, nat_eq, int_eq}
use Rattle.std.specs.Prelude.{◌&&◌}
use Rattle.std.specs.Option.{option_eq}
use mathlib.Core.Bool.{beq}
use Rattle.cat062_out.specs.Tracks.{TrackLine}
use Rattle.cat062_out.proofs.Conjunctions.{lefts_rights, rights_swapped}
use Rattle.cat062_out.proofs.line.TrackLinePartialEq.eq.Goals as goal

-- one more test
more : (r s a b : Bool) → s ≡ a → r ≡ s && b → r ≡ a && b
more r s a b e f = f ∙ ap (λ t. t && b) e

-- Fields that are always there are compared first.
abbrev motions : TrackLine → TrackLine → List Bool
motions l m = int_eq l.x m.x ∷ int_eq l.y m.y ∷ int_eq l.vx m.vx ∷ int_eq l.vy m.vy ∷ []

abbrev flags : TrackLine → TrackLine → List Bool
flags l m = beq l.mono m.mono ∷ beq l.spi m.spi ∷ beq l.coast m.coast ∷ beq l.first m.first ∷ beq l.ended m.ended ∷ nat_eq l.sx m.sx ∷ nat_eq l.sy m.sy ∷ []

abbrev known : TrackLine → TrackLine → List Bool
known l m = option_eq nat_eq l.code m.code ∷ option_eq nat_eq l.address m.address ∷ option_eq int_eq l.level m.level ∷ option_eq nat_eq l.psr m.psr ∷ option_eq nat_eq l.ssr m.ssr ∷ option_eq nat_eq l.mds m.mds ∷ []

pub returns : goal.returns
returns c =
    let l = c.args.self.now in
    let m = c.args.other.now in
    let field-0 : c.eq.result ≡ nat_eq l.number m.number = search rules in
    let field-1 : c.and_eq.result ≡ c.eq.result && int_eq l.x m.x = search rules in
    let field-2 : c.and_eq-2.result ≡ c.and_eq.result && int_eq l.y m.y = search rules in
    let field-3 : c.and_eq-3.result ≡ c.and_eq-2.result && int_eq l.vx m.vx = search rules in
    let field-4 : c.and_eq-4.result ≡ c.and_eq-3.result && int_eq l.vy m.vy = search rules in
    let field-5 : c.and_eq-5.result ≡ c.and_eq-4.result && beq l.mono m.mono = search rules in
    let field-6 : c.and_eq-6.result ≡ c.and_eq-5.result && beq l.spi m.spi = search rules in
    let field-7 : c.and_eq-7.result ≡ c.and_eq-6.result && beq l.coast m.coast = search rules in
    let field-8 : c.and_eq-8.result ≡ c.and_eq-7.result && beq l.first m.first = search rules in
    let field-9 : c.and_eq-9.result ≡ c.and_eq-8.result && beq l.ended m.ended = search rules in
    let field-10 : c.and_eq-10.result ≡ c.and_eq-9.result && nat_eq l.sx m.sx = search rules in
    let field-11 : c.and_eq-11.result ≡ c.and_eq-10.result && nat_eq l.sy m.sy = search rules in
    let field-12 : c.and_eq-12.result ≡ c.and_eq-11.result && option_eq nat_eq l.code m.code = search rules in
    let field-13 : c.and_eq-13.result ≡ c.and_eq-12.result && option_eq nat_eq l.address m.address = search rules in
    let field-14 : c.and_eq-14.result ≡ c.and_eq-13.result && option_eq int_eq l.level m.level = search rules in
    let field-15 : c.and_eq-15.result ≡ c.and_eq-14.result && option_eq nat_eq l.psr m.psr = search rules in
    let field-16 : c.and_eq-16.result ≡ c.and_eq-15.result && option_eq nat_eq l.ssr m.ssr = search rules in
    let field-17 : c.and_eq-17.result ≡ c.and_eq-16.result && option_eq nat_eq l.mds m.mds = search rules in
    more _ _ _ _ (more _ _ _ _ (more _ _ _ _ (more _ _ _ _ (more _ _ _ _ (more _ _ _ _ (more _ _ _ _ (more _ _ _ _ (more _ _ _ _ (more _ _ _ _ (more _ _ _ _ (more _ _ _ _ (more _ _ _ _ (more _ _ _ _ (more _ _ _ _ (more _ _ _ _ (more _ _ _ _ field-0 field-1) field-2) field-3) field-4) field-5) field-6) field-7) field-8) field-9) field-10) field-11) field-12) field-13) field-14) field-15) field-16) field-17
    ∙ lefts_rights (nat_eq l.number m.number) (motions l m ++ (flags l m ++ (known l m ++ [])))
    ∙ rights_swapped (nat_eq l.number m.number) (motions l m) (flags l m) (known l m) []
