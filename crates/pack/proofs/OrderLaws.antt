-- Laws of the order list: a list that passes refusal 6's test holds each position once, and the test that the packer makes, place by place with what was
-- seen before, is that test.
-- Assumes nothing.
use mathlib.Core.Path.{◌≡◌, refl, sym, ap, ◌∙◌}
use mathlib.Core.Bool.{Bool, true, false, true≢false}
use mathlib.Core.Logic.{⊎_elim}
use mathlib.Core.List.{List}
use Prim.Native.Nat.{ℕ, zero, suc, ◌+◌, ◌<◌, ◌≤◌}
use native.Mathlib.Nat.{le_antisymm, eq-or-lt_of_le}
use native.Mathlib.Numerals.{add-one}
use native.Mathlib.Omega.{arith}
use lib.Dec.{ltb, eqb, le→leb}
use lib.IntN.{ℤ, pos, negsuc}
use lib.Signed.{◌≤ℤ◌}
use borrow.Author.Tests.{lt-ltb, le-ltb, ltb-true, ltb-false, eq-eqb, ne_eqb}
use Rattle.integers.proofs.Bools.{and_left, and_right, and_both, decide, clash, test_iff}
use Rattle.words.specs.Word.{at, num, eq_z, is_below}
use Rattle.words.specs.All.{first_b}
use Rattle.words.proofs.Signs.{is_num, below_num}
use Rattle.words.proofs.AllLaws.{all_at, all_make, first_le, first_hit, first_stop}
use Rattle.sheet.proofs.Permute.{inverse}
use Rattle.pack.specs.Order.{place_in, list_ok, order_list_ok}

-- ---- the first place

-- what is found among the first k stays found among more
first_stay : (p : ℕ → Bool) (k n : ℕ) → k ≤ n → first_b k p < k → first_b n p ≡ first_b k p
unfolding first_b
first_stay p k zero h g = absurd (omega arith)
first_stay p k (suc n) h g =
    ⊎_elim
    (λ (e : k ≡ suc n). ap (λ (i : ℕ). first_b i p) (sym e))
    (λ (l : k < suc n).
    let i = first_stay p k n (omega arith) g in
    rw (lt-ltb (first_b n p) n (omega arith)) i)
    (eq-or-lt_of_le h)

pub pack_place_is : (o : List ℤ) (i n : ℕ) → place_in o i n < n → eq_z (at o (place_in o i n)) (pos i) ≡ true
unfolding place_in
pack_place_is o i n h = first_hit (λ p. eq_z (at o p) (pos i)) n h

pub place_hit : (o : List ℤ) (i n : ℕ) → place_in o i n < n → num (at o (place_in o i n)) ≡ i
place_hit o i n h = is_num _ i (pack_place_is o i n h)

-- a word that is 0 to n-1 is a position by its number
below_is : (n i : ℕ) (z : ℤ) → is_below n z ≡ true → eq_z z (pos i) ≡ eqb (num z) i
unfolding is_below eq_z num
below_is n i (pos k) e = refl
below_is n i (negsuc k) e = absurd (true≢false (sym e))

-- and is not negative
below_nat : (n : ℕ) (z : ℤ) → is_below n z ≡ true → pos 0 ≤ℤ z
unfolding is_below
below_nat n (pos k) e = record { le = le→leb 0 k (omega arith) }
below_nat n (negsuc k) e = absurd (true≢false (sym e))

-- position i is not among the first k, and stands at place k
pub place_new : (o : List ℤ) (i k n : ℕ) → ltb (place_in o i k) k ≡ false → is_below n (at o k) ≡ true → num (at o k) ≡ i → k < n → place_in o i n ≡ k
unfolding place_in
place_new o i k n e b h g =
    let p : ℕ → Bool = λ q. eq_z (at o q) (pos i) in
    let x = ltb-false (first_b k p) k e in
    sym (first_stop p k n (le_antisymm (first_le p k) x) (below_is n i (at o k) b ∙ eq-eqb (num (at o k)) i h) g)

-- position i is among the first k
pub place_old : (o : List ℤ) (i k n : ℕ) → ltb (place_in o i k) k ≡ true → k ≤ n → place_in o i n < k
unfolding place_in
place_old o i k n e g =
    let p : ℕ → Bool = λ q. eq_z (at o q) (pos i) in
    let x = ltb-true (first_b k p) k e in
    let y = first_stay p k n g x in omega arith

-- what is among the first k + 1
pub stands_none : (o : List ℤ) (i : ℕ) → ltb (place_in o i 0) 0 ≡ false
unfolding place_in first_b
stands_none o i = refl

pub stands_here : (o : List ℤ) (i k n : ℕ) → is_below n (at o k) ≡ true → num (at o k) ≡ i → ltb (place_in o i (k + 1)) (k + 1) ≡ true
unfolding place_in first_b
stands_here o i k n b h =
    let p : ℕ → Bool = λ q. eq_z (at o q) (pos i) in
    let y : p k ≡ true = below_is n i (at o k) b ∙ eq-eqb (num (at o k)) i h in
    ⊎_elim
    (λ (e : ltb (first_b k p) k ≡ true). rw (add-one, e) (lt-ltb (first_b k p) (suc k) (omega (arith, ltb-true (first_b k p) k e))))
    (λ (e : ltb (first_b k p) k ≡ false). rw (add-one, e, y) (lt-ltb k (suc k) (omega arith)))
    (decide (ltb (first_b k p) k))

pub stands_else : (o : List ℤ) (i k n : ℕ) → is_below n (at o k) ≡ true → (num (at o k) ≡ i → ⊥) → ltb (place_in o i (k + 1)) (k + 1) ≡ ltb (place_in o i k) k
unfolding place_in first_b
stands_else o i k n b h =
    let p : ℕ → Bool = λ q. eq_z (at o q) (pos i) in
    let y : p k ≡ false = below_is n i (at o k) b ∙ ne_eqb (num (at o k)) i h in
    ⊎_elim
    (λ (e : ltb (first_b k p) k ≡ true). rw (add-one, e) (lt-ltb (first_b k p) (suc k) (omega (arith, ltb-true (first_b k p) k e))))
    (λ (e : ltb (first_b k p) k ≡ false). rw (add-one, e, y) (le-ltb (suc k) (suc k) (omega arith)))
    (decide (ltb (first_b k p) k))

-- ---- a list that passes

module _ (o : List ℤ) (n : ℕ) (ok : order_list_ok o n ≡ true) where
  pub list_word : (k : ℕ) → k < n → is_below n (at o k) ≡ true
  unfolding order_list_ok list_ok
  list_word k h = and_left (is_below n (at o k)) (ltb (place_in o k n) n) (all_at (list_ok o n) n ok k h)

  pub list_nat : (k : ℕ) → k < n → pos 0 ≤ℤ at o k
  list_nat k h = below_nat n (at o k) (list_word k h)

  pub list_below : (k : ℕ) → k < n → num (at o k) < n
  list_below k h = below_num n (at o k) (list_word k h)

  pub list_place : (i : ℕ) → i < n → place_in o i n < n
  unfolding order_list_ok list_ok
  list_place i h = ltb-true (place_in o i n) n (and_right (is_below n (at o i)) (ltb (place_in o i n) n) (all_at (list_ok o n) n ok i h))

  -- the place of the position at place k is k: no other place has it, since the places are no more than the positions
  pub list_back : (k : ℕ) → k < n → place_in o (num (at o k)) n ≡ k
  list_back k h = (inverse n (λ i. place_in o i n) (λ i. num (at o i)) list_place (λ i g. place_hit o i n (list_place i g)) k h).1

-- words that are 0 to n-1 and stand each at the first place of its position pass: none is left out, since the positions are no more than the places
pub list_make : (o : List ℤ) (n : ℕ) → ((k : ℕ) → k < n → is_below n (at o k) ≡ true) → ((k : ℕ) → k < n → place_in o (num (at o k)) n ≡ k) → order_list_ok o n ≡ true
unfolding order_list_ok list_ok
list_make o n f g =
    all_make (list_ok o n) n
    (λ i h. and_both (is_below n (at o i)) (ltb (place_in o i n) n) (f i h) (lt-ltb (place_in o i n) n (inverse n (λ k. num (at o k)) (λ k. place_in o k n) (λ k l. below_num n (at o k) (f k l)) g i h).0))

-- a word that is not 0 to n-1, or has a position that stood before, does not
pub list_range : (o : List ℤ) (n k : ℕ) → k < n → is_below n (at o k) ≡ false → false ≡ order_list_ok o n
list_range o n k h e = test_iff _ _ (λ x. absurd (true≢false (sym x))) (λ x. clash (list_word o n x k h) e)

pub list_twice : (o : List ℤ) (n k : ℕ) → k < n → ltb (place_in o (num (at o k)) k) k ≡ true → false ≡ order_list_ok o n
list_twice o n k h e =
    test_iff _ _ (λ x. absurd (true≢false (sym x)))
    (λ x. absurd (no (list_back o n x k h) (place_old o (num (at o k)) k n e (omega arith))))
  where
    no : place_in o (num (at o k)) n ≡ k → place_in o (num (at o k)) n < k → ⊥
    no a b = omega arith
