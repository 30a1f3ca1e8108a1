-- The work of `pairs`, a pair at a time: what its functions hand to each other. No promise of an open call cites this.
use Rattle.std.specs.Prelude.{◌≡◌, Bool, true, false, List, [], ◌∷◌, ℕ, ◌+◌, ◌≤◌, ◌<◌, ℤ, length, take, drop}
use Rattle.sheet.specs.Open.{Opens}
use Rattle.sheet.specs.Places.{points_of}
use Rattle.bits.specs.Set.{words_for}
use Rattle.list.specs.declared.Pair.{Pair}
use Rattle.list.specs.RingList.{pair_by}
use Rattle.list.specs.declared.Key.{Key}
use Rattle.list.specs.Terms.{profile_for, alone_by}
use Rattle.join.specs.Sheets.{Alone}
use Rattle.many.specs.declared.step.Task.{Task}
use Rattle.many.specs.declared.step.Step.{Step}
use Rattle.list.specs.Pairs.{after}
use Rattle.ring.specs.Lent.{need}
use Rattle.many.specs.declared.Wanted.{Wanted}
use Rattle.chamber.specs.Sized.{listed_to, list_to}
use Rattle.many.specs.Many.{pairs_no, wanted_terms, own_pairs_no}
use Rattle.many.specs.Cursor.{left_to, Holding}

-- the rule and the pairs of a task, and what is left of its list
abbrev pub rule_of : List ℤ → List ℤ → List ℕ → Task → ℕ → ℕ → Bool
rule_of P Q o t = listed_to t.largest t.terms o (points_of P) (points_of Q)

abbrev pub pair_of : List ℤ → List ℤ → Task → ℕ → ℕ → Pair
pair_of P Q t = pair_by (profile_for t.terms) (points_of P) (points_of Q)

abbrev pub left_of : List ℤ → List ℤ → List ℕ → Task → ℕ → ℕ → ℕ → List Pair
left_of P Q o t at i next = left_to (rule_of P Q o t) (pair_of P Q t) t.key t.hp.n t.hq.n at i next

-- its sheets open, and so many words are lent as it needs
pub record Able (P Q : List ℤ) (t : Task) (len : ℕ) : Type 0 where
  pub p_opens : Opens P t.hp.n t.hp.m
  pub q_opens : Opens Q t.hq.n t.hq.m
  pub alone : Alone t.terms P Q
  pub needed : t.words ≡ words_for t.hp.n
  pub lent : t.words ≤ len

-- a step stands on the words
pub record Stand (P Q : List ℤ) (o : List ℕ) (b : List ℕ) (s : Step) : Type 0 where
  pub able : Able P Q s.task (length b)
  pub held : Holding (rule_of P Q o s.task) s.task.hp.n s.task.hq.n (take s.task.words b) s.at s.i s.next

-- what a step says of what is left: a pair is to be stored and it is the first; or none is, since there is none, or no slot
pub record Ahead (P Q : List ℤ) (o : List ℕ) (len : ℕ) (s : Step) : Type 0 where
  pub most : s.to ≤ s.count + 1
  pub room : s.count < s.to → s.count < len
  pub place : s.count < s.to → s.i < s.task.hp.n
  pub first : s.count < s.to → left_of P Q o s.task s.at s.i s.next ≡ s.pair ∷ left_of P Q o s.task s.at (s.i + 1) s.next
  pub ends : s.to ≤ s.count → s.more ≡ false → left_of P Q o s.task s.at s.i s.next ≡ []
  pub full : s.to ≤ s.count → s.more ≡ true → (len ≤ s.count) × (left_of P Q o s.task s.at s.i s.next ≡ [] → ⊥)

-- a task is begun on the words ws, which are b then: the step stands before its whole list
pub record Started (P Q : List ℤ) (o : List ℕ) (len : ℕ) (ws b : List ℕ) (t : Task) (s : Step) : Type 0 where
  pub task_is : s.task ≡ t
  pub none_yet : s.count ≡ 0
  pub stands : Stand P Q o b s
  pub ahead : Ahead P Q o len s
  pub all : left_of P Q o t s.at s.i s.next ≡ after t.key (list_to t.largest t.terms o (points_of P) (points_of Q))
  pub past : drop t.words b ≡ drop t.words ws

-- the task of what is wanted of two sheets, where it is not refused
pub record Begun (P Q : List ℤ) (o : List ℕ) (a : Wanted) (len : ℕ) (ws b : List ℕ) (s : Step) : Type 0 where
  pub started : Started P Q o len ws b s.task s
  pub served : pairs_no P Q o a (length ws) ≡ 0
  pub words_are : s.task.words ≡ need P
  pub key_is : s.task.key ≡ a.key
  pub largest_is : s.task.largest ≡ a.largest
  pub terms_are : s.task.terms ≡ wanted_terms a

-- and of a self join
pub record OwnBegun (S : List ℤ) (key : Key) (big : ℕ) (g : Bool) (len : ℕ) (ws b : List ℕ) (s : Step) : Type 0 where
  pub started : Started S S [] len ws b s.task s
  pub served : own_pairs_no S key big g (length ws) ≡ 0
  pub words_are : s.task.words ≡ need S
  pub key_is : s.task.key ≡ key
  pub largest_is : s.task.largest ≡ big
  pub terms_are : s.task.terms ≡ alone_by g
