-- The calls that are lent words for kept sets, each with what it answered: what they leave there is one rule, and is said of them all in one.
-- "a filter walk leaves its kept set there, any other call zeros, and none touches words past them". (Calls through views: proofs/Alike. Over C: proofs/OverC.)
use Rattle.std.specs.Prelude.{Bool, List, ℕ, ℤ}
use Rattle.list.specs.declared.Key.{Key}
use Rattle.list.specs.declared.Pair.{Pair}
use Rattle.list.specs.declared.Request.{Request}
use Rattle.ring.specs.Lent.{need}
use Rattle.ring.specs.Answers.{kept_for}
use Rattle.ring.specs.declared.Filtered.{Filtered}
use Rattle.ring.specs.declared.Paged.{Paged}
use Rattle.ring.specs.declared.Partnered.{Partnered}
use Rattle.shortest.specs.declared.Shortlist.{Shortlist}
use Rattle.nearest.specs.Nearest.{near_kept_for}
use Rattle.runs.specs.declared.Run.{Run}
use Rattle.runs.specs.declared.RunArray.{RunArray}
use Rattle.runs.specs.Run.{run_need}
use Rattle.many.specs.declared.Which.{Which}
use Rattle.many.specs.declared.Wanted.{Wanted}
use Rattle.many.specs.declared.Counted.{Counted}
use Rattle.many.specs.declared.Many.{Many}
use Rattle.ranked.specs.declared.Question.{Question}
use Rattle.ranked.specs.declared.Busy.{Busy}
use Rattle.ranked.specs.declared.Urgent.{Urgent}
use Rattle.demands.specs.Promises.{FilterAnswers, PageAnswers, OwnAnswers, PartnersAnswers, ShortAnswers, NearFilterAnswers, RunAnswers, RunArrayAnswers, PairsAnswers, OwnPairsAnswers, CountAnswers, OwnCountAnswers, BusyAnswers, PumpAnswers, UrgentAnswers}

-- An answer of a filter walk over P: the set that it keeps, by its definition, the number of the answer, the words lent and those at its exit.
pub data Filters : List ℤ → List ℕ → ℕ → List ℕ → List ℕ → Type 0 where
  filters_walk : (P Q : List ℤ) (j : ℕ) (w : List ℕ) (r : Filtered) (w' : List ℕ) → FilterAnswers P Q j w r w' → Filters P (kept_for P Q j).bits r.number w w'
  filters_near : (P Q : List ℤ) (id : ℕ) (ws w : List ℕ) (r : Filtered) (ws' w' : List ℕ) → NearFilterAnswers P Q id ws w r ws' w' → Filters P (near_kept_for P Q id).bits r.number w w'

-- An answer of any other call that is lent words: how many it needs, the number of the answer, the words lent and those at its exit. [MP12]
pub data Works : ℕ → ℕ → List ℕ → List ℕ → Type 0 where
  works_page : (P Q : List ℤ) (o : List ℕ) (ask : Request) (w : List ℕ) (r : Paged) (w' : List ℕ) → PageAnswers P Q o ask w r w' → Works (need P) r.number w w'
  works_own : (S : List ℤ) (key : Key) (size : ℕ) (g : Bool) (w : List ℕ) (r : Paged) (w' : List ℕ) → OwnAnswers S key size g w r w' → Works (need S) r.number w w'
  works_partners : (P Q : List ℤ) (id t : ℕ) (w : List ℕ) (r : Partnered) (w' : List ℕ) → PartnersAnswers P Q id t w r w' → Works (need P) r.number w w'
  works_short : (P Q : List ℤ) (k : ℕ) (w : List ℕ) (r : Shortlist) (w' : List ℕ) → ShortAnswers P Q k w r w' → Works (need P) r.number w w'
  works_run : (P Q : List ℤ) (v : ℕ) (slots : List Pair) (w : List ℕ) (r : Run) (slots' : List Pair) (w' : List ℕ) → RunAnswers P Q v slots w r slots' w' → Works (run_need P) r.number w w'
  works_array : (P Q : List ℤ) (v : ℕ) (slots : List Pair) (len : ℕ) (w : List ℕ) (r : RunArray) (w' : List ℕ) → RunArrayAnswers P Q v slots len w r w' → Works (run_need P) r.run.number w w'
  works_pairs : (P Q : List ℤ) (o : List ℕ) (ask : Wanted) (slots : List Pair) (w : List ℕ) (r : Many) (slots' : List Pair) (w' : List ℕ) → PairsAnswers P Q o ask slots w r slots' w' → Works (need P) r.number w w'
  works_own_pairs : (S : List ℤ) (key : Key) (big : ℕ) (g : Bool) (slots : List Pair) (w : List ℕ) (r : Many) (slots' : List Pair) (w' : List ℕ) → OwnPairsAnswers S key big g slots w r slots' w' → Works (need S) r.number w w'
  works_count : (P Q : List ℤ) (o : List ℕ) (which : Which) (w : List ℕ) (r : Counted) (w' : List ℕ) → CountAnswers P Q o which w r w' → Works (need P) r.number w w'
  works_own_count : (S : List ℤ) (big : ℕ) (g : Bool) (w : List ℕ) (r : Counted) (w' : List ℕ) → OwnCountAnswers S big g w r w' → Works (need S) r.number w w'
  works_busy : (P Q : List ℤ) (o : List ℕ) (ask : Question) (w : List ℕ) (r : Busy) (w' : List ℕ) → BusyAnswers P Q o ask w r w' → Works (need P) r.number w w'
  works_pumps : (P Q : List ℤ) (k big : ℕ) (g : Bool) (w : List ℕ) (r : Busy) (w' : List ℕ) → PumpAnswers P Q k big g w r w' → Works (need Q) r.number w w'
  works_urgent : (P Q : List ℤ) (o ps qs : List ℕ) (ask : Question) (w : List ℕ) (r : Urgent) (w' : List ℕ) → UrgentAnswers P Q o ps qs ask w r w' → Works (need P) r.number w w'

-- Any of these: how many words it needs, the number of the answer, the words lent and those at its exit.
pub data Lends : ℕ → ℕ → List ℕ → List ℕ → Type 0 where
  lends_filter : {P : List ℤ} {set : List ℕ} {k : ℕ} {w w' : List ℕ} → Filters P set k w w' → Lends (need P) k w w'
  lends_work : {n k : ℕ} {w w' : List ℕ} → Works n k w w' → Lends n k w w'
