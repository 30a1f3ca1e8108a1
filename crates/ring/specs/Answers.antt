-- What the calls answer. "Every refusal gives only its number [..]. An array or number in a refused answer is all zero."
use Rattle.std.specs.Prelude.{◌≡◌, Bool, false, List, ℕ, ℤ, length, Result, Ok, Err}
use Rattle.words.specs.Word.{num}
use Rattle.plane.specs.Profile.{profile_of}
use Rattle.words.specs.First.{answer}
use Rattle.sheet.specs.Layout.{points, nodes}
use Rattle.sheet.specs.Points.{id_at, x_at, y_at}
use Rattle.sheet.specs.Open.{sheet_no}
use Rattle.ring.specs.Lent.{need, kept_by}
use Rattle.ring.specs.Numbers.{sheets_no, point_no, filter_no, ring_no}
use Rattle.sheet.specs.Places.{spot_of}
use Rattle.bits.specs.Set.{card}
use Rattle.walk.specs.FilterWalk.{Kept, filter_kept}
use Rattle.walk.specs.RingWalk.{clear, pair_walk_by}
use Rattle.ring.specs.declared.Head.{Head}
use Rattle.ring.specs.declared.Asset.{Asset}
use Rattle.ring.specs.declared.Filtered.{Filtered}
use Rattle.walk.specs.declared.Answer.{Answer}

-- of words: 0 with the length and the counts, or the number with zeros [N2, N4]
unfoldable pub head_of : List ℤ → Head
head_of w =
    answer (sheet_no w) (record { number = 0; len = length w; n = points w; m = nodes w }) (λ k. record { number = k; len = 0; n = 0; m = 0 })

-- what a check of two sheets finds, P first: 0 and the counts of both, or the number of refusal and zeros
pub record Heads : Type 0 where
  pub number : ℕ
  pub np : ℕ
  pub mp : ℕ
  pub nq : ℕ
  pub mq : ℕ

-- both open, with these counts
abbrev pub heads_opened : ℕ → ℕ → ℕ → ℕ → Heads
heads_opened np mp nq mq = record { number = 0; np = np; mp = mp; nq = nq; mq = mq }

-- one is refused, by this number
abbrev pub heads_shut : ℕ → Heads
heads_shut k = record { number = k; np = 0; mp = 0; nq = 0; mq = 0 }

-- two sheets have the words P and Q
pub record Both (p q P Q : List ℤ) : Type 0 where
  pub p_is : p ≡ P
  pub q_is : q ≡ Q

-- of two sheets: 0 with the counts of both, or the number with zeros
unfoldable pub heads_of : List ℤ → List ℤ → Heads
heads_of P Q =
    answer (sheets_no P Q) (record { number = 0; np = points P; mp = nodes P; nq = points Q; mq = nodes Q })
    (λ k. record { number = k; np = 0; mp = 0; nq = 0; mq = 0 })

-- the record at a position
unfoldable pub asset_of : List ℤ → ℕ → Asset
asset_of w i = record { id = num (id_at w i); x = x_at w i; y = y_at w i }

-- the point reader's answer: the number of each case [F10]
abbrev pub pointed_no : Result Asset ℕ → ℕ
pointed_no (Ok a) = 0
pointed_no (Err k) = k

-- [N2]
unfoldable pub pointed : List ℤ → ℕ → Result Asset ℕ
pointed w i = answer (point_no w i) (Ok (asset_of w i)) Err

-- the filter walk's answer beside its kept set: "the number of bits set and the nodes opened" [W6]
unfoldable pub filtered_to : Kept → Filtered
filtered_to k = record { number = 0; count = card k.bits; opened = k.opened }

-- refused, the number and zeros [N4]
unfoldable pub unfiltered : ℕ → Filtered
unfiltered k = record { number = k; count = 0; opened = 0 }

-- what the walk for position j of Q over P keeps, on as many words as the points need
abbrev pub kept_for : List ℤ → List ℤ → ℕ → Kept
kept_for P Q j = filter_kept (need P) P (spot_of Q j)

-- the answer for so many lent words [W6, N2, N20]
unfoldable pub filtered : List ℤ → List ℤ → ℕ → ℕ → Filtered
filtered P Q j len = answer (filter_no P Q j len) (filtered_to (kept_for P Q j)) unfiltered

-- the lent words after it: "a filter walk leaves its kept set there" [Y9]
unfoldable pub filtered_bits : List ℤ → List ℤ → ℕ → List ℕ → List ℕ
filtered_bits P Q j ws = kept_by (filter_no P Q j (length ws)) (kept_for P Q j).bits ws

-- the ring walk's answer: the number of each case, and whether it says that the pair is clear: a refused walk never does [F10]
abbrev pub walked_no : Result Answer ℕ → ℕ
walked_no (Ok a) = 0
walked_no (Err k) = k

-- [F10]
abbrev pub walked_clear : Result Answer ℕ → Bool
walked_clear (Ok a) = clear a.hit
walked_clear (Err k) = false

-- q is position j of Q, p is position i of P, of a profile [W17, W18, N2, N20]
unfoldable pub walked : List ℤ → List ℤ → ℕ → ℕ → Bool → Result Answer ℕ
walked P Q j i g = answer (ring_no P Q j i g) (Ok (pair_walk_by (profile_of g) P Q j i)) Err
