-- The loop over the order list that marks each position it meets: what is known after k places, one place more, and the end.
-- Assumes nothing.
use mathlib.Core.Path.{◌≡◌, refl, sym, subst, ◌∙◌}
use mathlib.Core.Bool.{Bool, true, false}
use mathlib.Core.Logic.{⊎_elim}
use mathlib.Core.List.{List}
use Prim.Native.Nat.{ℕ, ◌+◌, ◌<◌, ◌≤◌}
use native.Mathlib.Omega.{arith}
use lib.Dec.{ltb}
use lib.IntN.{ℤ, pos}
use lib.ListN.{length, take, get_or, set, length-set}
use lib.Seq.{get_or-set_same, get_or-set_other, length-take-le}
use Rattle.std.proofs.lemmas.List.{get_or-take}
use Rattle.words.specs.Word.{at, num, is_below}
use Rattle.words.proofs.Signs.{below_num}
use Rattle.words.proofs.AllLaws.{below_suc}
use Rattle.sheet.proofs.Permute.{same?}
use Rattle.pack.specs.Order.{place_in, order_list_ok}
use Rattle.pack.proofs.OrderLaws.{place_new, stands_none, stands_here, stands_else, list_make, list_twice}

-- the places of the first n words
pub in_front : (o : List ℤ) (n k : ℕ) → n ≤ length o → k < length (take n o) → k < n
in_front o n k l h = omega (arith, length-take-le n o l)

pub past_front : (o : List ℤ) (n k : ℕ) → n ≤ length o → length (take n o) ≤ k → n ≤ k
past_front o n k l h = omega (arith, length-take-le n o l)

pub front_word : (o : List ℤ) (n k : ℕ) → k < n → at (take n o) k ≡ at o k
front_word o n k h = get_or-take n o k (pos 0) h

-- after k places of n: each is in range and the first of its position, and what is marked stands among them
pub record Seen (o : List ℤ) (n size : ℕ) (seen : List Bool) (k : ℕ) : Type 0 where
  pub passed : k ≤ n
  pub size_is : length seen ≡ size
  pub room : n ≤ size
  pub ranged : (j : ℕ) → j < k → is_below n (at o j) ≡ true
  pub once : (j : ℕ) → j < k → place_in o (num (at o j)) n ≡ j
  pub marks : (i : ℕ) → i < n → get_or seen i false ≡ ltb (place_in o i k) k

pub seen_start : (o : List ℤ) (n : ℕ) (seen : List Bool) → n ≤ length seen → ((i : ℕ) → i < n → get_or seen i false ≡ false) → Seen o n (length seen) seen 0
seen_start o n seen h f =
    record {
      passed = omega arith;
      size_is = refl;
      room = h;
      ranged = λ j g. absurd (omega arith);
      once = λ j g. absurd (omega arith);
      marks = λ i g. f i g ∙ sym (stands_none o i);
    }

module _ (o : List ℤ) (n size : ℕ) (seen : List Bool) (k : ℕ) (s : Seen o n size seen k) where
  -- a place whose word is in range, and not marked
  pub seen_more : k < n → is_below n (at o k) ≡ true → get_or seen (num (at o k)) false ≡ false → Seen o n size (set seen (num (at o k)) true) (k + 1)
  seen_more h b u =
      let l = below_num n (at o k) b in
      record {
        passed = omega arith;
        size_is = length-set seen (num (at o k)) true ∙ s.size_is;
        room = s.room;
        ranged = λ j g. ⊎_elim (λ (e : j ≡ k). subst (λ (i : ℕ). is_below n (at o i) ≡ true) (sym e) b) (λ (g : j < k). s.ranged j g) (below_suc j k (omega arith));
        once = λ j g. ⊎_elim
            (λ (e : j ≡ k).
            subst (λ (i : ℕ). place_in o (num (at o i)) n ≡ i) (sym e)
            (place_new o (num (at o k)) k n (sym (s.marks (num (at o k)) l) ∙ u) b refl h))
            (λ (g : j < k). s.once j g)
            (below_suc j k (omega arith));
        marks = λ i g. ⊎_elim
            (λ (e : i ≡ num (at o k)).
            subst (λ (y : ℕ). get_or (set seen (num (at o k)) true) y false ≡ ltb (place_in o y (k + 1)) (k + 1)) (sym e)
            (get_or-set_same seen (num (at o k)) true false (omega (arith, s.size_is, s.room)) ∙ sym (stands_here o (num (at o k)) k n b refl)))
            (λ (e : i ≡ num (at o k) → ⊥).
            get_or-set_other seen (num (at o k)) i true false e ∙ s.marks i g ∙ sym (stands_else o i k n b (λ z. e (sym z))))
            (same? i (num (at o k)));
      }

  -- a place whose position is marked
  pub seen_twice : k < n → is_below n (at o k) ≡ true → get_or seen (num (at o k)) false ≡ true → false ≡ order_list_ok o n
  seen_twice h b u = list_twice o n k h (sym (s.marks (num (at o k)) (below_num n (at o k) b)) ∙ u)

  -- every place is passed
  pub seen_done : n ≤ k → true ≡ order_list_ok o n
  seen_done h = sym (list_make o n (λ j g. s.ranged j (omega arith)) (λ j g. s.once j (omega arith)))

-- a position in range has a mark
pub in_room : {o : List ℤ} {n size : ℕ} {seen : List Bool} {k i : ℕ} (z : ℤ) → Seen o n size seen k → is_below n z ≡ true → i ≡ num z → i < length seen
in_room {o} {n} {size} {seen} {k} {i} z s b e = omega (arith, s.size_is, s.room, below_num n z b)
