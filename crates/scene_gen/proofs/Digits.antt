-- A step over the digits of an angle.
use Rattle.std.proofs.Common.{◌≡◌, ◌∙◌, ap, sym, refl, ℕ, suc, ◌+◌, ◌-◌, ◌*◌, ◌%◌, ◌^◌, ◌<◌, ◌≤◌, true, false, cond, arith, ℤ}
use Rattle.std.proofs.Math.Nat.{pow-succ'}
use Rattle.scene_gen.specs.Bearings.{bearing_from, direction, lies_on}

step : (k angle : ℕ) (x y : ℤ) → bearing_from (suc k) angle x y ≡ bearing_from k (cond (lies_on (direction (angle + 2 ^ k)) x y) (angle + 2 ^ k) angle) x y
unfolding bearing_from
step k angle x y = refl

before : (k : ℕ) → 0 < k → k ≡ suc (k - 1)
before k h = omega arith

halves : (k : ℕ) → 0 < k → 2 ^ k ≡ 2 * 2 ^ (k - 1)
halves k h = ap (λ (n : ℕ). 2 ^ n) (before k h) ∙ pow-succ' 2 (k - 1)

-- what the code adds for the digit
pub next_is : (k angle : ℕ) → 0 < k → angle + 2 ^ k ≤ 65536 → angle + 1 * 2 ^ (k - 1) % 65536 ≡ angle + 2 ^ (k - 1)
next_is k angle h room = omega (arith, halves k h)

-- the room that stays
pub room_set : (k angle : ℕ) → 0 < k → angle + 2 ^ k ≤ 65536 → angle + 1 * 2 ^ (k - 1) % 65536 + 2 ^ (k - 1) ≤ 65536
room_set k angle h room = omega (arith, halves k h)

pub room_clear : (k angle : ℕ) → 0 < k → angle + 2 ^ k ≤ 65536 → angle + 2 ^ (k - 1) ≤ 65536
room_clear k angle h room = omega (arith, halves k h)

-- a digit is set where the point lies on from there
pub digit_set : (k angle : ℕ) (x y : ℤ) {d : ℤ × ℤ} → 0 < k → d ≡ direction (angle + 2 ^ (k - 1)) → true ≡ lies_on d x y → bearing_from k angle x y ≡ bearing_from (k - 1) (angle + 2 ^ (k - 1)) x y
digit_set k angle x y {d} h is on =
    ap (λ (n : ℕ). bearing_from n angle x y) (before k h) ∙ step (k - 1) angle x y
    ∙ ap (λ t. bearing_from (k - 1) (cond t (angle + 2 ^ (k - 1)) angle) x y) (ap (λ e. lies_on e x y) (sym is) ∙ sym on)

pub digit_clear : (k angle : ℕ) (x y : ℤ) {d : ℤ × ℤ} → 0 < k → d ≡ direction (angle + 2 ^ (k - 1)) → false ≡ lies_on d x y → bearing_from k angle x y ≡ bearing_from (k - 1) angle x y
digit_clear k angle x y {d} h is on =
    ap (λ (n : ℕ). bearing_from n angle x y) (before k h) ∙ step (k - 1) angle x y
    ∙ ap (λ t. bearing_from (k - 1) (cond t (angle + 2 ^ (k - 1)) angle) x y) (ap (λ e. lies_on e x y) (sym is) ∙ sym on)

-- no digit is left
pub digits_done : (angle : ℕ) (x y : ℤ) → bearing_from 0 angle x y ≡ angle
unfolding bearing_from
digits_done angle x y = refl
