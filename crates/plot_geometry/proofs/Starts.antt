-- The six uppermost bits of an angle, by a table.
use Rattle.std.proofs.Common.{◌≡◌, ◌∙◌, ap, sym, ℕ, suc, ◌+◌, ◌*◌, ◌/◌, ◌%◌, ◌^◌, ◌<◌, ◌≤◌, refl, arith, get_or, ℤ, pos, Bool, true, leb, cond, eqb, map}
use Rattle.std.specs.List.{list_all, range_with_len}
use Rattle.std.proofs.lemmas.Bool.{leb-true}
use Rattle.std.proofs.lemmas.List.Elements.{All-get_or}
use Rattle.std.proofs.lemmas.List.FromFn.{get_or-map-range_with_len}
use Rattle.std.proofs.lemmas.List.Sums.{AllPass-from_list_all}
use Rattle.trk_base.specs.Numbers.{isqrt}
use Rattle.plot_geometry.specs.Turns.{turns, turned, half_angle, right_angle_halved, sine_cosine, norm, one}
use Rattle.plot_geometry.specs.declared.turns.TheConstants.{STARTS}
use Rattle.plot_geometry.proofs.TurnLaws.{step, turns_begin}

abbrev if_set : ℕ → ℕ → ℤ × ℤ → ℤ × ℤ
if_set bit k sc = cond (eqb bit 1) (turned (half_angle k) sc) sc

abbrev begin : ℤ × ℤ
begin = (pos 0, pos one)

-- turned on by the six bits of a number, the uppermost first
abbrev begun : ℕ → ℤ × ℤ
begun n = if_set (n % 2) 10 (if_set (n / 2 % 2) 11 (if_set (n / 4 % 2) 12 (if_set (n / 8 % 2) 13 (if_set (n / 16 % 2) 14 (if_set (n / 32 % 2) 15 begin)))))

next : (k b angle : ℕ) (sc : ℤ × ℤ) → angle / 2 ^ k % 2 ≡ b → turns (suc k) angle sc ≡ turns k angle (if_set b k sc)
next k b angle sc e = step k angle sc ∙ ap (λ b'. turns k angle (if_set b' k sc)) e

pub begun_turns : (angle n : ℕ) → angle / 1024 ≡ n → turns 10 angle (begun n) ≡ sine_cosine angle
begun_turns angle n e =
    sym
    (
    next 15 (n / 32 % 2) angle _ (omega (arith, e)) ∙ next 14 (n / 16 % 2) angle _ (omega (arith, e)) ∙ next 13 (n / 8 % 2) angle _ (omega (arith, e))
    ∙ next 12 (n / 4 % 2) angle _ (omega (arith, e)) ∙ next 11 (n / 2 % 2) angle _ (omega (arith, e)) ∙ next 10 (n % 2) angle _ (omega (arith, e))
    )
    ∙ turns_begin angle

table_is : STARTS ≡ map begun (range_with_len 0 64)
unfolding right_angle_halved isqrt
table_is = refl

pub start_is : (n : ℕ) (d : ℤ × ℤ) → n < 64 → get_or STARTS n d ≡ begun n
start_is n d h = ap (λ t. get_or t n d) table_is ∙ get_or-map-range_with_len begun 0 64 n n d h (omega arith)

norm_test : list_all (λ x. leb (norm x.0 x.1) (2 ^ 80 + 6 * 2 ^ 44)) STARTS ≡ true
norm_test = refl

pub start_norm : (n : ℕ) (d : ℤ × ℤ) → n < 64 → norm (get_or STARTS n d).0 (get_or STARTS n d).1 ≤ 2 ^ 80 + 6 * 2 ^ 44
start_norm n d h =
    let p : ℤ × ℤ → Bool = λ x. leb (norm x.0 x.1) (2 ^ 80 + 6 * 2 ^ 44) in
    leb-true _ _ (All-get_or (λ x. p x ≡ true) STARTS n d h (AllPass-from_list_all p STARTS norm_test))
