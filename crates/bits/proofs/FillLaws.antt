-- The loop that keeps the first positions one after the other.
-- Assumes nothing.
use mathlib.Core.Path.{◌≡◌, refl, sym, ap, ◌∙◌}
use mathlib.Core.Bool.{Bool, true, false}
use mathlib.Core.List.{List}
use Prim.Native.Nat.{ℕ, ◌+◌, ◌*◌, ◌≤◌, ◌<◌}
use native.Mathlib.Omega.{arith}
use native.Mathlib.Decide.{ℕ_discrete}
use lib.Dec.{ltb}
use lib.ListN.{length}
use borrow.Author.Tests.{lt-ltb, le-ltb, ltb-true, ltb-false}
use Rattle.bits.specs.Set.{kept, with, none}
use Rattle.bits.proofs.SetLaws.{with_length, kept_same, kept_other, none_length, none_kept}

-- of words like us, with room for n positions, just the first i are kept
pub record Filled (us : List ℕ) (n : ℕ) (ws : List ℕ) (i : ℕ) : Type 0 where
  pub long : length ws ≡ length us
  pub fits : n ≤ 64 * length us
  pub most : i ≤ n
  pub first : (j : ℕ) → kept ws j ≡ ltb j i

pub fill_start : (us : List ℕ) (n : ℕ) (ws : List ℕ) → n ≤ 64 * length us → ws ≡ none (length us) → Filled us n ws 0
fill_start us n ws h e =
    record {
      long = ap length e ∙ none_length (length us);
      fits = h;
      most = omega arith;
      first = λ j. ap (λ (x : List ℕ). kept x j) e ∙ none_kept (length us) j ∙ sym (le-ltb j 0 (omega arith));
    }

pub fill_room : (us : List ℕ) (n : ℕ) (ws : List ℕ) (i : ℕ) → i < n → Filled us n ws i → i < 64 * length ws
fill_room us n ws i h f = omega (arith, f.long, f.fits)

pub fill_step : (us : List ℕ) (n : ℕ) (ws vs : List ℕ) (i : ℕ) → i < n → Filled us n ws i → vs ≡ with ws i → Filled us n vs (i + 1)
fill_step us n ws vs i h f e =
    record {
      long = ap length e ∙ with_length ws i ∙ f.long;
      fits = f.fits;
      most = omega arith;
      first = λ j. ap (λ (x : List ℕ). kept x j) e ∙ go j (ℕ_discrete j i);
    }
  where
    room : i < 64 * length ws
    room = fill_room us n ws i h f

    next : (j : ℕ) → (j ≡ i → ⊥) → ltb j i ≡ ltb j (i + 1)
    next j d = by (ltb j i) refl
      where
        by : (t : Bool) → ltb j i ≡ t → ltb j i ≡ ltb j (i + 1)
        by true x = x ∙ sym (lt-ltb j (i + 1) (omega (arith, ltb-true j i x)))
        by false x = x ∙ sym (le-ltb j (i + 1) (omega (arith, ltb-false j i x)))

    go : (j : ℕ) → Dec (j ≡ i) → kept (with ws i) j ≡ ltb j (i + 1)
    go j (yes x) = rw x (kept_same ws i room ∙ sym (lt-ltb i (i + 1) (omega arith)))
    go j (no d) = kept_other ws i j room d ∙ f.first j ∙ next j d

pub fill_end : (us : List ℕ) (n : ℕ) (ws : List ℕ) (i : ℕ) → n ≤ i → Filled us n ws i → (j : ℕ) → kept ws j ≡ ltb j n
fill_end us n ws i h f j = let e : i ≡ n = omega (arith, f.most) in f.first j ∙ ap (ltb j) e
