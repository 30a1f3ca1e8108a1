-- How many positions are kept: word by word, and where none is kept from n on.
-- Assumes nothing.
use mathlib.Core.Path.{◌≡◌, refl, sym, ap, ◌∙◌}
use mathlib.Core.Bool.{Bool, true, false}
use mathlib.Core.List.{List}
use Prim.Native.Nat.{ℕ, zero, suc, ◌+◌, ◌-◌, ◌*◌, ◌/◌, ◌^◌, ◌≤◌, ◌<◌}
use native.Mathlib.Omega.{arith}
use native.Mathlib.Nat.{div-one, div-eq_of_lt, zero-add}
use lib.ListN.{length, get_or}
use lib.Count.{ones}
use Rattle.bits.specs.Set.{digit, at, kept, card_in, card}
use Rattle.bits.proofs.DigitLaws.{ones_digit}
use Rattle.bits.proofs.SetLaws.{at_word, not_kept_at}

-- ---- word by word

ones_zero : ones 0 ≡ 0
unfolding ones
ones_zero = refl

card_word : (ws : List ℕ) (w g f j : ℕ) → f + j ≡ 64 → get_or ws w 0 < 2 ^ 64 → card_in ws (f + g) (w * 64 + j) ≡ ones (get_or ws w 0 / 2 ^ j) + card_in ws g (w * 64 + 64)
unfolding card_in
card_word ws w g zero j e h =
    let a : zero + g ≡ g = omega arith in
    let b : j ≡ 64 = omega arith in
    let z : get_or ws w 0 / 2 ^ 64 ≡ 0 = div-eq_of_lt h in
    rw (a, b, z, ones_zero) (sym (zero-add (card_in ws g (w * 64 + 64))))
card_word ws w g (suc f) j e h =
    let a : suc f + g ≡ suc (f + g) = omega arith in
    let b : w * 64 + j + 1 ≡ w * 64 + (j + 1) = omega arith in
    let ih : card_in ws (f + g) (w * 64 + (j + 1)) ≡ ones (get_or ws w 0 / 2 ^ (j + 1)) + card_in ws g (w * 64 + 64) = card_word ws w g f (j + 1) (omega arith) h in
    let s : ones (get_or ws w 0 / 2 ^ j) ≡ digit (get_or ws w 0) j + ones (get_or ws w 0 / 2 ^ (j + 1)) = ones_digit (get_or ws w 0) j in
    let p : at ws (w * 64 + j) ≡ digit (get_or ws w 0) j = at_word ws w j (omega arith) in
    rw (a, b) (omega arith)

-- what the words from w on have
unfoldable pub rest : List ℕ → ℕ → ℕ
rest ws w = card_in ws ((length ws - w) * 64) (w * 64)

pub rest_start : (ws : List ℕ) → rest ws 0 ≡ card ws
unfolding rest card
rest_start ws = let e : (length ws - 0) * 64 ≡ 64 * length ws = omega arith in rw e

pub rest_step : (ws : List ℕ) (w : ℕ) → w < length ws → get_or ws w 0 < 2 ^ 64 → rest ws w ≡ ones (get_or ws w 0) + rest ws (w + 1)
unfolding rest
rest_step ws w l h =
    let a : (length ws - w) * 64 ≡ 64 + (length ws - (w + 1)) * 64 = omega arith in
    let b : w * 64 ≡ w * 64 + 0 = omega arith in
    let c : (w + 1) * 64 ≡ w * 64 + 64 = omega arith in
    ap (λ (x : ℕ). card_in ws x (w * 64)) a ∙ ap (λ (x : ℕ). card_in ws (64 + (length ws - (w + 1)) * 64) x) b
    ∙ card_word ws w ((length ws - (w + 1)) * 64) 64 0 refl h
    ∙ ap (λ (x : ℕ). ones x + card_in ws ((length ws - (w + 1)) * 64) (w * 64 + 64)) (div-one (get_or ws w 0))
    ∙ ap (λ (x : ℕ). ones (get_or ws w 0) + card_in ws ((length ws - (w + 1)) * 64) x) (sym c)

pub rest_end : (ws : List ℕ) (w : ℕ) → length ws ≤ w → rest ws w ≡ 0
unfolding rest card_in
rest_end ws w h = let e : (length ws - w) * 64 ≡ 0 = omega arith in rw e

-- ---- where none is kept from n on

-- positions one after the other
card_split : (ws : List ℕ) (a b i : ℕ) → card_in ws (a + b) i ≡ card_in ws a i + card_in ws b (i + a)
unfolding card_in
card_split ws zero b i =
    let e : zero + b ≡ b = omega arith in
    let d : i + zero ≡ i = omega arith in
    rw (e, d) (omega arith)
card_split ws (suc a) b i =
    let e : suc a + b ≡ suc (a + b) = omega arith in
    let d : i + suc a ≡ i + 1 + a = omega arith in
    let r = card_split ws a b (i + 1) in
    rw (e, d) (omega arith)

-- positions that are not kept add nothing to the count
card_zero : (ws : List ℕ) (f i : ℕ) → ((j : ℕ) → i ≤ j → j < i + f → kept ws j ≡ false) → card_in ws f i ≡ 0
unfolding card_in
card_zero ws zero i h = refl
card_zero ws (suc f) i h = omega (arith, not_kept_at ws i (h i (omega arith) (omega arith)), card_zero ws f (i + 1) (λ j a b. h j (omega arith) (omega arith)))

-- so the count of all is that of the first n
pub card_first : (ws : List ℕ) (n : ℕ) → n ≤ 64 * length ws → ((j : ℕ) → kept ws j ≡ true → j < n) → card ws ≡ card_in ws n 0
unfolding card
card_first ws n h low =
    let e : n + (64 * length ws - n) ≡ 64 * length ws = omega arith in
    let s = card_split ws n (64 * length ws - n) 0 in
    ap (λ (f : ℕ). card_in ws f 0) (sym e) ∙ s ∙ (omega (arith, card_zero ws (64 * length ws - n) (0 + n) (λ j a b. not_true (kept ws j) (λ k. omega (arith, low j k)))))
  where
    not_true : (b : Bool) → (b ≡ true → ⊥) → b ≡ false
    not_true true f = absurd (f refl)
    not_true false f = refl
