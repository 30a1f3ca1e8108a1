-- The next kept position: what it is, and for a loop that goes from one to the next, that whatever is the same past a position that is not kept is the same there.
-- Assumes nothing.
use mathlib.Core.Path.{◌≡◌, refl, sym, ap, ◌∙◌}
use mathlib.Core.Bool.{Bool, true, false}
use mathlib.Core.List.{List}
use Prim.Native.Nat.{ℕ, zero, suc, ◌+◌, ◌-◌, ◌*◌, ◌/◌, ◌%◌, ◌^◌, ◌≤◌, ◌<◌}
use native.Mathlib.Nat.{le_refl, pos_of_ne-zero, lt_of_le_of_lt}
use native.Mathlib.Omega.{arith}
use lib.ListN.{length, get_or}
use lib.Count.{count_trailing_zeros}
use lib.Pow.{shr_le}
use lib.Dec.{lit<}
use Rattle.bits.specs.Set.{digit, at, kept, next, next_from, pick}
use Rattle.bits.proofs.DigitLaws.{digit_high, tz_zeros, tz_one, within_word}
use Rattle.bits.proofs.SetLaws.{at_split}

-- ---- what it is

-- whatever is the same past a position that is not kept is the same at the next one that is
next_skip : {S : Type 0} (ws : List ℕ) (F : ℕ → S) → ((j : ℕ) → kept ws j ≡ false → F j ≡ F (j + 1)) → (f i : ℕ) → F i ≡ F (next ws f i)
unfolding next
next_skip ws F s zero i = refl
next_skip {S} ws F s (suc f) i = go (kept ws i) refl (next_skip ws F s f (i + 1))
  where
    go : (b : Bool) → kept ws i ≡ b → F (i + 1) ≡ F (next ws f (i + 1)) → F i ≡ F (pick b i (next ws f (i + 1)))
    go true e ih = refl
    go false e ih = s i e ∙ ih

next_le : (ws : List ℕ) (f i : ℕ) → i ≤ next ws f i
unfolding next
next_le ws zero i = le_refl i
next_le ws (suc f) i = go (kept ws i) (next_le ws f (i + 1))
  where
    go : (b : Bool) → i + 1 ≤ next ws f (i + 1) → i ≤ pick b i (next ws f (i + 1))
    go true ih = le_refl i
    go false ih = omega arith

next_most : (ws : List ℕ) (f i : ℕ) → next ws f i ≤ i + f
unfolding next
next_most ws zero i = omega arith
next_most ws (suc f) i = go (kept ws i) (next_most ws f (i + 1))
  where
    go : (b : Bool) → next ws f (i + 1) ≤ i + 1 + f → pick b i (next ws f (i + 1)) ≤ i + suc f
    go true ih = omega arith
    go false ih = omega arith

next_kept : (ws : List ℕ) (f i : ℕ) → next ws f i < i + f → kept ws (next ws f i) ≡ true
unfolding next
next_kept ws zero i h = absurd (omega arith)
next_kept ws (suc f) i h = go (kept ws i) refl h (λ l. next_kept ws f (i + 1) l)
  where
    go : (b : Bool) → kept ws i ≡ b → pick b i (next ws f (i + 1)) < i + suc f → (next ws f (i + 1) < i + 1 + f → kept ws (next ws f (i + 1)) ≡ true) → kept ws (pick b i (next ws f (i + 1))) ≡ true
    go true e l ih = e
    go false e l ih = ih (omega arith)

-- it is not before i, and at most the number of all positions
pub from_le : (ws : List ℕ) (i j : ℕ) → j ≡ next_from ws i → i ≤ j
unfolding next_from
from_le ws i j e = rw e (next_le ws (64 * length ws - i) i)

pub from_most : (ws : List ℕ) (i j : ℕ) → i ≤ 64 * length ws → j ≡ next_from ws i → j ≤ 64 * length ws
unfolding next_from
from_most ws i j h e = rw e (omega (arith, next_most ws (64 * length ws - i) i))

-- below that number it is kept
pub from_kept : (ws : List ℕ) (i j : ℕ) → j ≡ next_from ws i → j < 64 * length ws → kept ws j ≡ true
unfolding next_from
from_kept ws i j e h =
    let l = from_le ws i j e in
    rw e (next_kept ws (64 * length ws - i) i (rw (← e) (omega arith)))

-- and whatever is the same past a position that is not kept is the same at i and there
pub from_skip : {S : Type 0} (ws : List ℕ) (F : ℕ → S) → ((j : ℕ) → kept ws j ≡ false → F j ≡ F (j + 1)) → (i j : ℕ) → j ≡ next_from ws i → F i ≡ F j
unfolding next_from
from_skip ws F s i j e = next_skip ws F s (64 * length ws - i) i ∙ ap F (sym e)

-- ---- how it is found: what is left of a word from i on is 0, or its trailing zeros tell

skip : (ws : List ℕ) (d f i : ℕ) → d ≤ f → ((j : ℕ) → j < d → at ws (i + j) ≡ 0) → next ws f i ≡ next ws (f - d) (i + d)
unfolding next kept
skip ws zero f i h z =
    let a : f - 0 ≡ f = omega arith in
    let b : i + 0 ≡ i = omega arith in
    rw (a, b)
skip ws (suc d) zero i h z = absurd (omega arith)
skip ws (suc d) (suc f) i h z =
    let a : i + 0 ≡ i = omega arith in
    let o : at ws i ≡ 0 = rw a at (z 0 (omega arith)) in
    let b : suc f - suc d ≡ f - d = omega arith in
    let c : i + suc d ≡ i + 1 + d = omega arith in
    rw (o, b, c) (skip ws d f (i + 1) (omega arith) (λ j l. let e : i + 1 + j ≡ i + suc j = omega arith in rw e (z (suc j) (omega arith))))

found : (ws : List ℕ) (f i : ℕ) → 0 < f → at ws i ≡ 1 → next ws f i ≡ i
unfolding next kept
found ws zero i h e = absurd (omega arith)
found ws (suc f) i h e = rw e

module _ (ws : List ℕ) (i : ℕ) where
  pub from_miss : i < 64 * length ws → get_or ws (i / 64) 0 / 2 ^ (i % 64) ≡ 0 → next_from ws ((i / 64 + 1) * 64) ≡ next_from ws i
  unfolding next_from
  from_miss l z =
      let a : 64 * length ws - i - (64 - i % 64) ≡ 64 * length ws - (i / 64 + 1) * 64 = omega arith in
      let b : i + (64 - i % 64) ≡ (i / 64 + 1) * 64 = omega arith in
      sym (skip ws (64 - i % 64) (64 * length ws - i) i (omega arith) (λ j h. at_split ws i j (omega arith) ∙ ap (λ (x : ℕ). digit x j) z ∙ digit_high 0 0 j (lit< tt) (omega arith)) ∙ (rw (a, b)))

  pub from_hit : i < 64 * length ws → get_or ws (i / 64) 0 < 2 ^ 64 → (get_or ws (i / 64) 0 / 2 ^ (i % 64) ≡ 0 → ⊥) → i + count_trailing_zeros 64 (get_or ws (i / 64) 0 / 2 ^ (i % 64)) ≡ next_from ws i
  unfolding next_from
  from_hit l f n =
      let rest : ℕ = get_or ws (i / 64) 0 / 2 ^ (i % 64) in
      let z : ℕ = count_trailing_zeros 64 rest in
      let one : digit rest z ≡ 1 = tz_one 64 rest (pos_of_ne-zero n) (lt_of_le_of_lt (shr_le (get_or ws (i / 64) 0) (i % 64)) f) in
      let within : i % 64 + z < 64 = within_word (get_or ws (i / 64) 0) (i % 64) z f one in
      sym (skip ws z (64 * length ws - i) i (omega arith) (λ j h. at_split ws i j (omega arith) ∙ tz_zeros 64 rest j h)
      ∙ found ws (64 * length ws - i - z) (i + z) (omega arith) (at_split ws i z within ∙ one))

  pub from_none : 64 * length ws ≤ i → i ≡ next_from ws i
  unfolding next_from next
  from_none h = let e : 64 * length ws - i ≡ 0 = omega arith in ap (λ (f : ℕ). next ws f i) (sym e)
