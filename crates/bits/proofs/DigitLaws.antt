-- Laws of the digits of one word: which stand above a number, trailing zeros, ones, and a digit that is set.
-- Assumes nothing.
use mathlib.Core.Path.{◌≡◌, refl, sym, ap, ◌∙◌}
use Prim.Native.Nat.{ℕ, zero, suc, ◌+◌, ◌-◌, ◌*◌, ◌/◌, ◌%◌, ◌^◌, ◌≤◌, ◌<◌, max}
use native.Mathlib.Omega.{arith}
use native.Mathlib.Nat.{div-one, mod-lt, div-eq_of_lt, one-mul, lt_of_lt_of_le, zero-lt-suc, lt_of_not-le, div_self, pow-suc}
use native.Mathlib.Numerals.{one-add, add-one}
use native.Mathlib.Decide.{dec_lt}
use lib.Count.{ones, ones_step, count_trailing_zeros, under}
use lib.Pow.{shr-shr, shr_lt, shl-shr, pow_pos, pow-lt, pow_mono, pow-add, shl_exact}
use lib.Bits.{bit_or, bit_and, and_step, and_self, and_high, or_add_and, or_shr, or_mod}
use lib.Dec.{lit<}
use Rattle.bits.specs.Set.{digit}

pub digit_lt : (n k : ℕ) → digit n k < 2
unfolding digit
digit_lt n k = mod-lt (n / 2 ^ k) (zero-lt-suc 1)

digit_zero : (n : ℕ) → digit n 0 ≡ n % 2
unfolding digit
digit_zero n = ap (λ (x : ℕ). x % 2) (div-one n)

digit_suc : (n j : ℕ) → digit n (suc j) ≡ digit (n / 2) j
unfolding digit
digit_suc n j = ap (λ (x : ℕ). x % 2) (ap (λ (x : ℕ). n / 2 ^ x) (sym (one-add j)) ∙ sym (shr-shr n 1 j))

pub digit_shr : (n k j : ℕ) → digit (n / 2 ^ k) j ≡ digit n (k + j)
unfolding digit
digit_shr n k j = ap (λ (x : ℕ). x % 2) (shr-shr n k j)

pub digit_high : (n k x : ℕ) → n < 2 ^ k → k ≤ x → digit n x ≡ 0
unfolding digit
digit_high n k x h l = ap (λ (y : ℕ). y % 2) (div-eq_of_lt (lt_of_lt_of_le h (pow_mono l)))

-- ---- trailing zeros
pub tz_zeros : (k n j : ℕ) → j < count_trailing_zeros k n → digit n j ≡ 0
unfolding count_trailing_zeros
tz_zeros zero n j h = absurd (omega arith)
tz_zeros (suc k) n j h = go (n % 2) refl j h (λ i l. tz_zeros k (n / 2) i l)
  where
    go : (d : ℕ) → n % 2 ≡ d → (j : ℕ) → j < under d (count_trailing_zeros k (n / 2)) → ((i : ℕ) → i < count_trailing_zeros k (n / 2) → digit (n / 2) i ≡ 0) → digit n j ≡ 0
    go zero e zero h ih = digit_zero n ∙ e
    go zero e (suc i) h ih = digit_suc n i ∙ ih i (omega arith)
    go (suc d) e j h ih = absurd (omega arith)

pub tz_one : (k n : ℕ) → 0 < n → n < 2 ^ k → digit n (count_trailing_zeros k n) ≡ 1
unfolding count_trailing_zeros
tz_one zero n p h = absurd (omega arith)
tz_one (suc k) n p h = go (n % 2) refl (λ q l. tz_one k (n / 2) q l)
  where
    go : (d : ℕ) → n % 2 ≡ d → (0 < n / 2 → n / 2 < 2 ^ k → digit (n / 2) (count_trailing_zeros k (n / 2)) ≡ 1) → digit n (under d (count_trailing_zeros k (n / 2))) ≡ 1
    go zero e ih = digit_suc n (count_trailing_zeros k (n / 2)) ∙ ih (omega arith) (shr_lt k 1 (rw add-one h))
    go (suc d) e ih = digit_zero n ∙ (omega arith)

-- a set digit of what is left above k stands within the word
pub within_word : (n k z : ℕ) → n < 2 ^ 64 → digit (n / 2 ^ k) z ≡ 1 → k + z < 64
within_word n k z f e = lt_of_not-le (λ (g : 64 ≤ k + z). omega (arith, digit_shr n k z, digit_high n 64 (k + z) f g))

-- ---- the lowest set digit is cleared: `x & (x - 1)`
clear_bit : (x : ℕ) → 0 < x → bit_and x (x - 1) % 2 ≡ 0
clear_bit x p = omega (arith, and_step x (x - 1))

clear_even : (x : ℕ) → 0 < x → x % 2 ≡ 0 → bit_and x (x - 1) / 2 ≡ bit_and (x / 2) (x / 2 - 1)
clear_even x p e =
    let h : (x - 1) / 2 ≡ x / 2 - 1 = omega arith in
    omega (arith, and_step x (x - 1), ap (bit_and (x / 2)) h)

clear_odd : (x d : ℕ) → x % 2 ≡ suc d → bit_and x (x - 1) / 2 ≡ x / 2
clear_odd x d e =
    let h : (x - 1) / 2 ≡ x / 2 = omega arith in
    omega (arith, and_step x (x - 1), ap (bit_and (x / 2)) h ∙ and_self (x / 2))

-- up to it no digit is left
pub clear_low : (k x j : ℕ) → 0 < x → x < 2 ^ k → j ≤ count_trailing_zeros k x → digit (bit_and x (x - 1)) j ≡ 0
unfolding count_trailing_zeros
clear_low zero x j p h l = absurd (omega arith)
clear_low (suc k) x j p h l = go (x % 2) refl j l (λ i q g m. clear_low k (x / 2) i q g m)
  where
    go : (d : ℕ) → x % 2 ≡ d → (j : ℕ) → j ≤ under d (count_trailing_zeros k (x / 2)) → ((i : ℕ) → 0 < x / 2 → x / 2 < 2 ^ k → i ≤ count_trailing_zeros k (x / 2) → digit (bit_and (x / 2) (x / 2 - 1)) i ≡ 0) → digit (bit_and x (x - 1)) j ≡ 0
    go d e zero l ih = digit_zero (bit_and x (x - 1)) ∙ clear_bit x p
    go zero e (suc i) l ih = digit_suc (bit_and x (x - 1)) i ∙ ap (λ (y : ℕ). digit y i) (clear_even x p e) ∙ ih i (omega arith) (shr_lt k 1 (rw add-one h)) (omega arith)
    go (suc d) e (suc i) l ih = absurd (omega arith)

-- and above it each is as it was
pub clear_high : (k x j : ℕ) → 0 < x → x < 2 ^ k → count_trailing_zeros k x < j → digit (bit_and x (x - 1)) j ≡ digit x j
unfolding count_trailing_zeros
clear_high zero x j p h l = absurd (omega arith)
clear_high (suc k) x j p h l = go (x % 2) refl j l (λ i q g m. clear_high k (x / 2) i q g m)
  where
    go : (d : ℕ) → x % 2 ≡ d → (j : ℕ) → under d (count_trailing_zeros k (x / 2)) < j → ((i : ℕ) → 0 < x / 2 → x / 2 < 2 ^ k → count_trailing_zeros k (x / 2) < i → digit (bit_and (x / 2) (x / 2 - 1)) i ≡ digit (x / 2) i) → digit (bit_and x (x - 1)) j ≡ digit x j
    go d e zero l ih = absurd (omega arith)
    go zero e (suc i) l ih =
        digit_suc (bit_and x (x - 1)) i ∙ ap (λ (y : ℕ). digit y i) (clear_even x p e) ∙ ih i (omega arith) (shr_lt k 1 (rw add-one h)) (omega arith) ∙ sym (digit_suc x i)
    go (suc d) e (suc i) l ih = digit_suc (bit_and x (x - 1)) i ∙ ap (λ (y : ℕ). digit y i) (clear_odd x d e) ∙ sym (digit_suc x i)

-- ---- ones
pub ones_digit : (n j : ℕ) → ones (n / 2 ^ j) ≡ digit n j + ones (n / 2 ^ (j + 1))
unfolding digit
ones_digit n j = ones_step (n / 2 ^ j) ∙ ap (λ (x : ℕ). n / 2 ^ j % 2 + ones x) (shr-shr n j 1)

-- ---- a digit is set
and_digit : (n k : ℕ) → bit_and n (2 ^ k) ≡ digit n k * 2 ^ k
unfolding digit
and_digit n k =
    let p : 2 ^ (1 + k) - 2 ^ k ≡ 2 ^ k = omega (arith, pow-add 2 1 k) in
    ap (λ (x : ℕ). bit_and n x) (sym p) ∙ and_high n 1 k

pub one_at : (k : ℕ) → k < 64 → 1 * 2 ^ k % 18446744073709551616 ≡ 2 ^ k
one_at k h = shl_exact {a = 1} 1 k 64 (lit< tt) (omega arith) ∙ one-mul (2 ^ k)

pub set_digit : (n k : ℕ) → k < 64 → bit_or n (1 * 2 ^ k % 18446744073709551616) ≡ n + (1 - digit n k) * 2 ^ k
set_digit n k h = go (digit n k) refl (digit_lt n k)
  where
    go : (d : ℕ) → digit n k ≡ d → d < 2 → bit_or n (1 * 2 ^ k % 18446744073709551616) ≡ n + (1 - d) * 2 ^ k
    go zero e l = ap (λ (x : ℕ). bit_or n x) (one_at k h) ∙ omega (arith, or_add_and n (2 ^ k), and_digit n k ∙ ap (λ (x : ℕ). x * 2 ^ k) e)
    go (suc zero) e l = ap (λ (x : ℕ). bit_or n x) (one_at k h) ∙ omega (arith, or_add_and n (2 ^ k), and_digit n k ∙ ap (λ (x : ℕ). x * 2 ^ k) e)
    go (suc (suc d)) e l = absurd (omega arith)

-- ---- the digits of a word in which one is set
or_two : (x y : ℕ) → x < 2 → y < 2 → bit_or x y ≡ max x y
or_two zero zero h l = refl
or_two zero (suc zero) h l = refl
or_two zero (suc (suc y)) h l = absurd (omega arith)
or_two (suc zero) zero h l = refl
or_two (suc zero) (suc zero) h l = refl
or_two (suc zero) (suc (suc y)) h l = absurd (omega arith)
or_two (suc (suc x)) y h l = absurd (omega arith)

digit_or : (a b j : ℕ) → digit (bit_or a b) j ≡ max (digit a j) (digit b j)
unfolding digit
digit_or a b j = ap (λ (x : ℕ). x % 2) (or_shr a b j) ∙ or_mod (a / 2 ^ j) (b / 2 ^ j) 1 ∙ or_two (a / 2 ^ j % 2) (b / 2 ^ j % 2) (digit_lt a j) (digit_lt b j)

digit_same : (k : ℕ) → digit (2 ^ k) k ≡ 1
unfolding digit
digit_same k = ap (λ (x : ℕ). x % 2) (div_self (pow_pos k))

digit_above : (k j : ℕ) → k < j → digit (2 ^ k) j ≡ 0
unfolding digit
digit_above k j h = ap (λ (x : ℕ). x % 2) (div-eq_of_lt (pow-lt h))

digit_below : (k j : ℕ) → j < k → digit (2 ^ k) j ≡ 0
unfolding digit
digit_below k j h =
    let e : k ≡ suc (k - suc j) + j = omega arith in
    let p : 2 ^ k / 2 ^ j ≡ 2 ^ suc (k - suc j) = ap (λ (x : ℕ). 2 ^ x / 2 ^ j) e ∙ ap (λ (x : ℕ). x / 2 ^ j) (pow-add 2 (suc (k - suc j)) j) ∙ shl-shr (2 ^ suc (k - suc j)) j in
    omega (arith, p, pow-suc 2 (k - suc j))

-- the digits of a word in which digit k is set
pub set_same : (n k : ℕ) → k < 64 → digit (n + (1 - digit n k) * 2 ^ k) k ≡ 1
set_same n k h = rw (← set_digit n k h, one_at k h) (digit_or n (2 ^ k) k ∙ ap (λ (x : ℕ). max (digit n k) x) (digit_same k) ∙ omega (arith, digit_lt n k))

pub set_other : (n k j : ℕ) → k < 64 → (j ≡ k → ⊥) → digit (n + (1 - digit n k) * 2 ^ k) j ≡ digit n j
set_other n k j h d = rw (← set_digit n k h, one_at k h) (digit_or n (2 ^ k) j ∙ ap (λ (x : ℕ). max (digit n j) x) (apart (dec_lt j k)) ∙ (omega arith))
  where
    apart : Dec (j < k) → digit (2 ^ k) j ≡ 0
    apart (yes l) = digit_below k j l
    apart (no g) = digit_above k j (omega arith)
