-- "Beside the page stands its count of nodes opened: each q in id order from the lowest id not below the key's is filtered once, its kept
-- partners after the key are ring-walked in id order, and the work stops at the first pair beyond the size, or after the last q."
-- The count is said here of the walks that are done, one after the other; no page is made.
use Rattle.std.specs.Prelude.{Bool, false, cond, not, ◌&&◌, List, [], ◌∷◌, ◌++◌, ℕ, zero, suc, ◌+◌, ◌-◌, ltb}
use Rattle.words.specs.All.{first_b}
use Rattle.list.specs.declared.Key.{Key}
use Rattle.list.specs.Pairs.{key_of, follows}
use Rattle.join.specs.Walks.{Walks}

-- a walk that is done: the nodes that it opens, and whether it finds a ring pair
pub record DoneWalk : Type 0 where
  pub opened : ℕ
  pub finds : Bool

-- of nq chambers with these ids, the first whose id is not below the key's, or nq [P9]
unfoldable pub first_from : (ℕ → ℕ) → Key → ℕ → ℕ
first_from qid key nq = first_b nq (λ j. not (ltb (qid j) key.q))

module _ (w : Walks) (key : Key) where
  -- "its kept partners after the key are ring-walked in id order": for the q at j, of the k positions of P from i on [P10]
  unfoldable pub ring_steps : ℕ → ℕ → ℕ → List DoneWalk
  ring_steps j zero i = []
  ring_steps j (suc k) i =
      cond (w.kept j i && follows key (key_of (w.pair j i)))
      (record { opened = w.clear_opened j i; finds = w.clear j i } ∷ ring_steps j k (i + 1))
      (ring_steps j k (i + 1))

  -- "each q .. is filtered once", and its partners follow: the k positions of Q from j on, with n positions of P [P9]
  unfoldable pub steps : ℕ → ℕ → ℕ → List DoneWalk
  steps n zero j = []
  steps n (suc k) j = record { opened = w.kept_opened j; finds = false } ∷ (ring_steps j n 0 ++ steps n k (j + 1))

-- the nodes opened, until a pair beyond the next `size` ones is found [P11]
unfoldable pub spent_on : ℕ → List DoneWalk → ℕ
spent_on size [] = 0
spent_on zero (s ∷ l) = s.opened + cond s.finds 0 (spent_on zero l)
spent_on (suc size) (s ∷ l) = s.opened + cond s.finds (spent_on size l) (spent_on (suc size) l)

-- the page's count of nodes opened, for np pump houses and nq chambers [P8, P11, P12, J4, V6, F6]
unfoldable pub page_opened : Walks → Key → ℕ → ℕ → ℕ → ℕ
page_opened w key size np nq = spent_on size (steps w key np (nq - first_from w.qid key nq) (first_from w.qid key nq))
