-- What the functions of this crate hand to each other: a run on the lent words. No promise of an open call cites this.
use Rattle.std.specs.Prelude.{◌≡◌, List, ℕ, ◌≤◌, ◌<◌, ℤ, length, take, drop}
use Rattle.words.specs.First.{answer}
use Rattle.sheet.specs.Layout.{points, nodes}
use Rattle.sheet.specs.Nodes.{level_of}
use Rattle.sheet.specs.Open.{Opens}
use Rattle.list.specs.declared.Pair.{Pair}
use Rattle.leaf.specs.LeafRun.{leaf_list, leaf_opened, RunSet, left_from}
use Rattle.leaf.specs.Room.{Sets}
use Rattle.ring.specs.Lent.{need}
use Rattle.runs.specs.declared.Run.{Run}
use Rattle.runs.specs.Run.{room_no, run_need, run_refused}

-- what the maker of a run is handed beside two sheets that open, P of np points and Q of nq points and mq nodes: a leaf of Q, and just the words that the run needs, so many for each chamber
pub record Handed (Q : List ℤ) (np nq mq v words : ℕ) (b : List ℕ) : Type 0 where
  pub here : v < mq
  pub level : level_of Q nq v ≡ 0
  pub sets : Sets b words np
  pub few : words ≤ 938

-- the run with so many words for each chamber
unfoldable pub run_on : ℕ → List ℤ → List ℤ → ℕ → Run
run_on words P Q v = record { number = 0; count = length (leaf_list P Q v); opened = leaf_opened words P Q v }

-- what it answers for so many slots, where its words ws are b at its exit: with 0 the run stands on them, with any other number they are as they were
pub record MadeOn (P Q : List ℤ) (v words len : ℕ) (r : Run) (ws b : List ℕ) : Type 0 where
  pub answers : r ≡ answer (room_no (leaf_list P Q v) len) (run_on words P Q v) run_refused
  pub set : r.number ≡ 0 → RunSet P Q v words b
  pub stands : (r.number ≡ 0 → ⊥) → b ≡ ws

-- the pairs of a run from bit x on, read from the first of all lent words
unfoldable pub run_left : List ℤ → List ℤ → ℕ → List ℕ → ℕ → List Pair
run_left P Q v b x = left_from P Q v (need P) (take (run_need P) b) x

-- what the writer of the pairs goes by: a leaf of two sheets that open, and lent words of which the first keep exactly its ring pairs
pub record Ready (P Q : List ℤ) (v : ℕ) (b : List ℕ) : Type 0 where
  pub p_opens : Opens P (points P) (nodes P)
  pub q_opens : Opens Q (points Q) (nodes Q)
  pub here : v < nodes Q
  pub level : level_of Q (points Q) v ≡ 0
  pub lent : run_need P ≤ length b
  pub run : RunSet P Q v (need P) (take (run_need P) b)
  pub all : run_left P Q v b 0 ≡ leaf_list P Q v

-- all lent words ws are b after the work, by the number of its answer: with 0 the run stands on the first and those past them are as they were,
-- with any other all are
pub record Worked (P Q : List ℤ) (v number : ℕ) (ws b : List ℕ) : Type 0 where
  pub ready : number ≡ 0 → Ready P Q v b
  pub past : drop (run_need P) b ≡ drop (run_need P) ws
  pub stands : (number ≡ 0 → ⊥) → b ≡ ws
