-- The first number that applies, and the answer by its number.
--     none_applies, one_applies      the two laws of `first`: it is 0 exactly if every number of the list is; else it is one of them, and all before it are 0
--     first_passes, first_stops, first_last      the head of the list is 0, or is not, or is the last: what a function finds at each of its returns
--     first_skips, first_front       a number that the head is not is a later one's; a list that starts with another
--     given_no, given_yes            the number of one test; given_failed, given_held: what its being 0 says of the test
--     answer_given, answer_refused, answer_number      the answer by its number, and the number of the answer
-- Assumes nothing.
use mathlib.Core.Path.{◌≡◌, refl, ap, ◌∙◌}
use mathlib.Core.Bool.{Bool, true, false, not}
use mathlib.Core.Logic.{◌↔◌}
use mathlib.Core.List.{List, [], ◌∷◌, ◌++◌}
use Prim.Native.Nat.{ℕ, zero, suc, ◌<◌}
use native.Mathlib.Omega.{arith}
use lib.ListN.{length, get_or}
use Rattle.words.specs.First.{given, first, answer}

-- ---- the first number

pub first_passes : (k : ℕ) (l : List ℕ) → k ≡ 0 → first (k ∷ l) ≡ first l
unfolding first
first_passes k l e = ap (λ (m : ℕ). first (m ∷ l)) e

pub first_stops : (k : ℕ) (l : List ℕ) → (k ≡ 0 → ⊥) → first (k ∷ l) ≡ k
unfolding first
first_stops zero l ne = absurd (ne refl)
first_stops (suc k) l ne = refl

pub first_last : (k : ℕ) → first (k ∷ []) ≡ k
unfolding first
first_last zero = refl
first_last (suc k) = refl

-- a number that the head is not is a later one's, and the head is 0
pub first_skips : (k : ℕ) (l : List ℕ) (x : ℕ) → (k ≡ x → k ≡ 0) → first (k ∷ l) ≡ x → (k ≡ 0) × (first l ≡ x)
unfolding first
first_skips zero l x h e = (refl, e)
first_skips (suc k) l x h e = absurd (omega (arith, h e))

-- a list that starts with another: its first number, and where that is 0 the first of the rest
pub first_front : (a b : List ℕ) → first (a ++ b) ≡ first (first a ∷ b)
unfolding first
first_front [] b = refl
first_front (zero ∷ a) b = first_front a b
first_front (suc k ∷ a) b = refl

each_zero : (l : List ℕ) → first l ≡ 0 → (i : ℕ) → get_or l i 0 ≡ 0
each_zero [] e i = refl
each_zero (k ∷ l) e zero = (first_skips k l 0 (λ z. z) e).0
each_zero (k ∷ l) e (suc i) = each_zero l (first_skips k l 0 (λ z. z) e).1 i

all_zero : (l : List ℕ) → ((i : ℕ) → get_or l i 0 ≡ 0) → first l ≡ 0
all_zero [] z = unfold first in refl
all_zero (k ∷ l) z = first_passes k l (z 0) ∙ all_zero l (λ i. z (suc i))

-- 0 exactly if every number of the list is
pub none_applies : (l : List ℕ) → (first l ≡ 0) ↔ ((i : ℕ) → get_or l i 0 ≡ 0)
none_applies l = (each_zero l, all_zero l)

-- else it is the number at some place, and all before it are 0
pub record Applies (l : List ℕ) : Type 0 where
  pub place : ℕ
  pub within : place < length l
  pub number : first l ≡ get_or l place 0
  pub before : (i : ℕ) → i < place → get_or l i 0 ≡ 0

pub one_applies : (l : List ℕ) → (first l ≡ 0 → ⊥) → Applies l
unfolding first
one_applies [] ne = absurd (ne refl)
one_applies (zero ∷ l) ne =
    let a = one_applies l ne in
    record { place = suc a.place; within = omega (arith, a.within); number = a.number; before = earlier a }
  where
    earlier : (a : Applies l) (i : ℕ) → i < suc a.place → get_or (zero ∷ l) i 0 ≡ 0
    earlier a zero h = refl
    earlier a (suc i) h = a.before i (omega arith)
one_applies (suc k ∷ l) ne = record { place = 0; within = omega arith; number = refl; before = λ i h. absurd (omega arith) }

-- ---- the number of one test

pub given_no : {t : Bool} (k : ℕ) → t ≡ false → given t k ≡ 0
unfolding given
given_no k e = rw e

pub given_yes : {t : Bool} (k : ℕ) → t ≡ true → given t k ≡ k
unfolding given
given_yes k e = rw e

-- where its number does not come out, the test failed
pub given_failed : {t : Bool} (k : ℕ) → given t (suc k) ≡ 0 → t ≡ false
unfolding given
given_failed {t = true} k e = absurd (omega arith)
given_failed {t = false} k e = refl

-- a test that must hold held
pub given_held : {t : Bool} (k : ℕ) → given (not t) (suc k) ≡ 0 → t ≡ true
unfolding given
given_held {t = true} k e = refl
given_held {t = false} k e = absurd (omega arith)

-- it is its number or 0
pub given_other : (t : Bool) (k x : ℕ) → (k ≡ x → ⊥) → given t k ≡ x → given t k ≡ 0
unfolding given
given_other true k x ne e = absurd (ne e)
given_other false k x ne e = refl

-- ---- the answer by its number

module _ {A : Type 0} (a : A) (refusal : ℕ → A) where
  pub answer_given : (n : ℕ) → n ≡ 0 → answer n a refusal ≡ a
  unfolding answer
  answer_given n e = ap (λ (k : ℕ). answer k a refusal) e

  pub answer_refused : (n k : ℕ) → n ≡ k → (k ≡ 0 → ⊥) → answer n a refusal ≡ refusal k
  answer_refused n k e ne = ap (λ (m : ℕ). answer m a refusal) e ∙ any k ne
    where
      any : (k : ℕ) → (k ≡ 0 → ⊥) → answer k a refusal ≡ refusal k
      any zero ne = absurd (ne refl)
      any (suc k) ne = unfold answer in refl

  -- what the number of an answer and of each refusal is, that of the call's is its number
  pub answer_number : (number : A → ℕ) → number a ≡ 0 → ((k : ℕ) → number (refusal k) ≡ k) → (n : ℕ) → number (answer n a refusal) ≡ n
  unfolding answer
  answer_number number z s zero = z
  answer_number number z s (suc k) = s (suc k)
