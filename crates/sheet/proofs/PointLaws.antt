-- The test of a point with the id of the one before in hand is the document's.
-- Assumes nothing.
use mathlib.Core.Path.{◌≡◌, refl, ap, ◌∙◌}
use mathlib.Core.Bool.{Bool, true, ◌&&◌}
use mathlib.Core.List.{List}
use Prim.Native.Nat.{ℕ, zero, suc, ◌+◌, ◌-◌}
use native.Mathlib.Numerals.{add-one}
use native.Mathlib.Omega.{arith}
use lib.IntN.{ℤ, pos, negsuc}
use borrow.Author.Tests.{lt-ltb, ne_eqb}
use Rattle.words.specs.Word.{within, before}
use Rattle.words.specs.Range.{id_word, coord_word}
use Rattle.sheet.specs.declared.Limits.{Limits}
use Rattle.sheet.specs.Points.{id_at, x_at, y_at, fields_ok, rises_ok, point_ok, id_before, point_is}

-- an id is above 0
above_none : (z : ℤ) (b c : Bool) → (id_word z && b && c && before (pos 0) z) ≡ (id_word z && b && c && true)
unfolding id_word within before
above_none (pos zero) b c = refl
above_none (pos (suc k)) b c = ap (λ (t : Bool). id_word (pos (suc k)) && b && c && t) (lt-ltb 0 (suc k) (omega arith))
above_none (negsuc k) b c = refl

rises_more : (w : List ℤ) (i k : ℕ) → k ≡ suc i → before (id_at w i) (id_at w k) ≡ rises_ok w k
unfolding rises_ok
rises_more w i k e =
    let f : i ≡ k - 1 = omega arith in
    rw (ne_eqb k 0 (λ z. omega arith)) (ap (λ (h : ℕ). before (id_at w h) (id_at w k)) f)

pub point_is_lem : (lim : Limits) (w : List ℤ) (i : ℕ) → point_is lim (id_before w i) (id_at w i) (x_at w i) (y_at w i) ≡ point_ok lim w i
unfolding point_is id_before point_ok fields_ok rises_ok
point_is_lem lim w zero = above_none (id_at w 0) (coord_word lim.coordinate (x_at w 0)) (coord_word lim.coordinate (y_at w 0))
point_is_lem lim w (suc i) = ap (λ (t : Bool). fields_ok lim w (suc i) && t) (rises_more w i (suc i) refl)

-- the test made of the words read
pub point_found : (lim : Limits) (w : List ℤ) (i : ℕ) {r : Bool} {last id x y : ℤ} → r ≡ point_is lim last id x y → last ≡ id_before w i → id ≡ id_at w i → x ≡ x_at w i → y ≡ y_at w i → r ≡ point_ok lim w i
point_found lim w i f e₀ e₁ e₂ e₃ = f ∙ rw (e₀, e₁, e₂, e₃) (point_is_lem lim w i)

-- the id kept for the next point
pub id_next : (w : List ℤ) (i : ℕ) → id_at w i ≡ id_before w (i + 1)
unfolding id_before
id_next w i = rw add-one
