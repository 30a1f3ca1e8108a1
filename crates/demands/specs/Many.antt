-- Many pairs at once: the list to a size, in terms of the list of the terms, and calls that follow each other.
use Rattle.std.specs.Prelude.{◌≡◌, Bool, true, cond, ℕ, suc, ◌≤◌, leb, ℤ, length, take}
use mathlib.Core.List.{List, [], ◌∷◌, ◌++◌, Memᴰ}
use Rattle.words.specs.Range.{last_id}
use Rattle.sheet.specs.Places.{points_of}
use Rattle.list.specs.declared.Key.{Key}
use Rattle.list.specs.declared.Pair.{Pair}
use Rattle.list.specs.declared.Terms.{Terms}
use Rattle.list.specs.Pairs.{key_of, follows, chamber_pairs, last_or}
use Rattle.list.specs.Pages.{last_threshold}
use Rattle.list.specs.Terms.{list_for}
use Rattle.ring.specs.Lent.{need}
use Rattle.many.specs.declared.Many.{Many}
use Rattle.many.specs.Many.{last_largest}
use Rattle.demands.specs.Promises.{ManyAnswers}

-- the pairs of a list "whose size is at most `largest`" [MP1]
unfoldable pub at_most : ℕ → List Pair → List Pair
at_most big [] = []
at_most big (v ∷ l) = cond (leb v.size big) (v ∷ at_most big l) (at_most big l)

-- the same terms, of all chambers, however many pairs they have [MP1]
abbrev pub any_number : Terms → Terms
any_number a = record { threshold = 0; contractor = a.contractor; own = a.own; grid = a.grid }

-- a key with ids 0 to 2,000,000,000, a t 0 to 60,000, and a largest size to 8,000,000,000,000,000,000
pub record InRange (key : Key) (t big : ℕ) : Type 0 where
  pub q_in : key.q ≤ last_id
  pub p_in : key.p ≤ last_id
  pub fair : t ≤ last_threshold
  pub fits : big ≤ last_largest

-- "of the list of these terms (t, contractor, profile) those pairs strictly after the key whose size is at most `largest` ([..] with t above 0 the chambers that have at least t such pairs, whatever the key)": what is
-- asked of a pair, of the points of two sheets, by the owner bytes o
pub record Belongs (a : Terms) (o : List ℕ) (P Q : List ℤ) (big : ℕ) (key : Key) (v : Pair) : Type 0 where
  pub listed : Memᴰ v (list_for (any_number a) o (points_of P) (points_of Q))
  pub small : v.size ≤ big
  pub many : a.threshold ≤ length (chamber_pairs v.q (at_most big (list_for (any_number a) o (points_of P) (points_of Q))))
  pub late : follows key (key_of v) ≡ true

-- So many calls for the pairs of a list that follow each other, from a key on: each is lent at least one slot and as many words as are needed, and the key of each next one is that of the last pair that was
-- stored, or is not moved where none was. With them the pairs that they stored, put together, and whether the last of them said that more follow. [MP7]
pub data Follow (a : Terms) (o : List ℕ) (P Q : List ℤ) (big : ℕ) : ℕ → Key → List Pair → Bool → Type 0 where
  calls : (key : Key) (slots : List Pair) (w : List ℕ) (r : Many) (slots' : List Pair) (w' : List ℕ) → 1 ≤ length slots → need P ≤ length w → ManyAnswers a o P Q key big slots w r slots' w'
      → Follow a o P Q big 1 key (take r.count slots') r.more
  again : {n : ℕ} {l : List Pair} {more : Bool} (key : Key) (slots : List Pair) (w : List ℕ) (r : Many) (slots' : List Pair) (w' : List ℕ) → 1 ≤ length slots → need P ≤ length w → ManyAnswers a o P Q key big slots w r slots' w'
      → Follow a o P Q big n (last_or key (take r.count slots')) l more → Follow a o P Q big (suc n) key (take r.count slots' ++ l) more
