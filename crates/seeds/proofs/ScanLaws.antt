-- Words that are 0: no position of theirs is kept, so that the next kept one from their first position on is the next from past them on.
-- Assumes nothing.
use mathlib.Core.Path.{◌≡◌, refl, sym, ap, subst, ◌∙◌}
use mathlib.Core.Bool.{Bool, true, false, not, ◌&&◌, true≢false}
use mathlib.Core.List.{List}
use Prim.Native.Nat.{ℕ, zero, suc, ◌+◌, ◌*◌, ◌/◌, ◌%◌, ◌^◌, ◌≤◌, ◌<◌}
use native.Mathlib.Omega.{arith}
use native.Mathlib.Decide.{ℕ_discrete}
use lib.ListN.{length, get_or}
use lib.Pow.{shr_le}
use lib.Dec.{eqb}
use borrow.Author.Tests.{eqb-true}
use Rattle.bits.specs.Set.{next_from}
use Rattle.bits.proofs.NextLaws.{from_miss}
use Rattle.seeds.specs.Scan.{Blank}

-- one word
skip_word : (ws : List ℕ) (w : ℕ) → w < length ws → get_or ws w 0 ≡ 0 → next_from ws (64 * (w + 1)) ≡ next_from ws (64 * w)
skip_word ws w h z =
    let a : 64 * w / 64 ≡ w = omega arith in
    let b : (w + 1) * 64 ≡ 64 * (w + 1) = omega arith in
    rw (a, b) at (from_miss ws (64 * w) (omega arith) (zero_word (64 * w / 64) (64 * w % 64) (ap (λ (x : ℕ). get_or ws x 0) a ∙ z)))
  where
    zero_word : (x r : ℕ) → get_or ws x 0 ≡ 0 → get_or ws x 0 / 2 ^ r ≡ 0
    zero_word x r e = let h : get_or ws x 0 / 2 ^ r ≤ get_or ws x 0 = shr_le (get_or ws x 0) r in omega arith

-- so many words
pub skip_words : (ws : List ℕ) (w d : ℕ) → w + d ≤ length ws → Blank ws w d → next_from ws (64 * (w + d)) ≡ next_from ws (64 * w)
skip_words ws w zero h b = ap (λ (x : ℕ). next_from ws (64 * x)) (let e : w + 0 ≡ w = omega arith in e)
skip_words ws w (suc d) h b =
    let e : w + suc d ≡ w + d + 1 = omega arith in
    ap (λ (x : ℕ). next_from ws (64 * x)) e
    ∙ skip_word ws (w + d) (omega arith) (b.at d (omega arith))
    ∙ skip_words ws w d (omega arith) (record { at = λ k l. b.at k (omega arith) })

pub blank_none : (ws : List ℕ) (w : ℕ) → Blank ws w 0
blank_none ws w = record { at = λ k h. absurd (omega arith) }

pub blank_more : (ws : List ℕ) (w k : ℕ) → Blank ws w k → get_or ws (w + k) 0 ≡ 0 → Blank ws w (k + 1)
blank_more ws w k b z = record { at = λ i h. go i h (ℕ_discrete i k) }
  where
    go : (i : ℕ) → i < k + 1 → Dec (i ≡ k) → get_or ws (w + i) 0 ≡ 0
    go i h (yes e) = ap (λ (x : ℕ). get_or ws (w + x) 0) e ∙ z
    go i h (no e) = b.at i (omega arith)

-- the rest of one word, and then so many
pub skip_rest : (ws : List ℕ) (i w r : ℕ) → w ≡ i / 64 → w < length ws → get_or ws w 0 / 2 ^ (i % 64) ≡ 0 → next_from ws (64 * r) ≡ next_from ws (64 * (w + 1)) → next_from ws (64 * r) ≡ next_from ws i
skip_rest ws i w r e h z f =
    let b : (i / 64 + 1) * 64 ≡ 64 * (w + 1) = omega arith in
    f ∙ ap (next_from ws) (sym b) ∙ from_miss ws i (omega arith) (ap (λ (x : ℕ). get_or ws x 0 / 2 ^ (i % 64)) (sym e) ∙ z)

-- a turn of the loop that tests them
pub blank_turn : (ws : List ℕ) (w k : ℕ) (t : Bool) → (t ≡ true → Blank ws w k) → (t && eqb (get_or ws (w + k) 0) 0) ≡ true → Blank ws w (k + 1)
blank_turn ws w k true f e = blank_more ws w k (f refl) (eqb-true (get_or ws (w + k) 0) 0 e)
blank_turn ws w k false f e = absurd (true≢false (sym e))

pub blank_all : (ws : List ℕ) (w k : ℕ) (t : Bool) → k ≡ 16 → (t ≡ true → Blank ws w k) → t ≡ true → Blank ws w 16
blank_all ws w k t e f h = subst (Blank ws w) e (f h)

pub not_no : (t : Bool) → not t ≡ false → t ≡ true
not_no true e = refl
not_no false e = absurd (true≢false e)
