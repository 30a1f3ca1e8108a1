-- The words that a reader takes for a count, where the test that they passed is in hand: none of them is negative.
-- Assumes nothing.
use mathlib.Core.Path.{◌≡◌, refl, sym, subst}
use mathlib.Core.Bool.{true, ◌&&◌, true≢false}
use mathlib.Core.List.{List}
use Prim.Native.Nat.{ℕ, ◌<◌}
use native.Mathlib.Omega.{arith}
use lib.Dec.{ltb, le→leb}
use lib.IntN.{ℤ, pos, negsuc, nat_abs}
use lib.Signed.{◌≤ℤ◌}
use Rattle.integers.proofs.Bools.{and_left, and_right}
use Rattle.words.specs.Word.{within, eq_z, is_below, num}
use Rattle.words.proofs.AllLaws.{all_at}
use Rattle.words.proofs.Signs.{is_word}
use Rattle.words.proofs.RangeLaws.{id_is}
use Rattle.sheet.specs.declared.Due.{Due}
use Rattle.sheet.specs.Points.{id_at}
use Rattle.sheet.specs.Order.{order_word, rank_word, rank_of, place_ok, order_ok}
use Rattle.sheet.specs.Nodes.{level_word, first_word, count_word, due_of, run_ok, node_ok, table_ok}
use Rattle.sheet.specs.Open.{Opens}
use Rattle.sheet.proofs.NodeLaws.{rule_run}
use Rattle.sheet.proofs.PointsLaws.{id_word_at}

-- the count that a word gives, once the word is cast
pub count_is : (z : ℤ) → pos 0 ≤ℤ z → nat_abs z ≡ num z
unfolding num
count_is (pos k) h = refl
count_is (negsuc k) h = absurd h.le

nat_of : (z : ℤ) (k : ℕ) → z ≡ pos k → pos 0 ≤ℤ z
nat_of z k e = subst (λ (y : ℤ). pos 0 ≤ℤ y) (sym e) (record { le = le→leb 0 k (omega arith) })

nat_below : (n : ℕ) (z : ℤ) → is_below n z ≡ true → pos 0 ≤ℤ z
unfolding is_below
nat_below n (pos k) e = record { le = le→leb 0 k (omega arith) }
nat_below n (negsuc k) e = absurd (true≢false (sym e))

nat_within : (z : ℤ) → within (pos 1) (pos 16) z ≡ true → pos 0 ≤ℤ z
unfolding within
nat_within (pos k) e = record { le = le→leb 0 k (omega arith) }
nat_within (negsuc k) e = absurd (true≢false (sym e))

module _ {w : List ℤ} {n m : ℕ} (o : Opens w n m) where
  pub id_nat : (i : ℕ) → i < n → pos 0 ≤ℤ id_at w i
  id_nat i h = nat_of (id_at w i) (num (id_at w i)) (id_is (id_at w i) (id_word_at o i h))

module _ (w : List ℤ) (n : ℕ) (ok : order_ok w n ≡ true) where
  pub order_nat : (k : ℕ) → k < n → pos 0 ≤ℤ order_word w n k
  unfolding order_ok place_ok
  order_nat k h =
      let a = is_below n (order_word w n k) in
      let b = is_below n (rank_word w n k) in
      nat_below n (order_word w n k) (and_left a b (and_left (a && b) (eq_z (order_word w n (rank_of w n k)) (pos k)) (all_at (place_ok w n) n ok k h)))

  pub rank_nat : (k : ℕ) → k < n → pos 0 ≤ℤ rank_word w n k
  unfolding order_ok place_ok
  rank_nat k h =
      let a = is_below n (order_word w n k) in
      let b = is_below n (rank_word w n k) in
      nat_below n (rank_word w n k) (and_right a b (and_left (a && b) (eq_z (order_word w n (rank_of w n k)) (pos k)) (all_at (place_ok w n) n ok k h)))

-- of a node whose run is right
pub run_nat : (w : List ℤ) (n : ℕ) (d : Due) (j : ℕ) → run_ok w n d j ≡ true → (pos 0 ≤ℤ level_word w n j) × (pos 0 ≤ℤ first_word w n j) × (pos 0 ≤ℤ count_word w n j)
unfolding run_ok
run_nat w n d j e =
    let t = ltb d.level 8 in
    let a = eq_z (level_word w n j) (pos d.level) in
    let b = eq_z (first_word w n j) (pos d.next) in
    let k = within (pos 1) (pos 16) (count_word w n j) in
    let e₁ = and_left (t && a && b) k e in (
      nat_of _ _ (is_word (level_word w n j) d.level (and_right t a (and_left (t && a) b e₁))),
      nat_of _ _ (is_word (first_word w n j) d.next (and_right (t && a) b e₁)),
      nat_within (count_word w n j) (and_right (t && a && b) k e),
    )

module _ (w : List ℤ) (n m : ℕ) (ok : table_ok w n m ≡ true) where
  node_nat : (j : ℕ) → j < m → (pos 0 ≤ℤ level_word w n j) × (pos 0 ≤ℤ first_word w n j) × (pos 0 ≤ℤ count_word w n j)
  unfolding table_ok node_ok
  node_nat j h = run_nat w n (due_of w n j) j (rule_run w n m (due_of w n j) j (all_at (node_ok w n m) m ok j h))

  pub level_nat : (j : ℕ) → j < m → pos 0 ≤ℤ level_word w n j
  level_nat j h = (node_nat j h).0

  pub first_nat : (j : ℕ) → j < m → pos 0 ≤ℤ first_word w n j
  first_nat j h = (node_nat j h).1

  pub count_nat : (j : ℕ) → j < m → pos 0 ≤ℤ count_word w n j
  count_nat j h = (node_nat j h).2
