-- What `leaf_run` writes: the pairs of a list stored one by one from the first slot on, and what the answer says of the list and the slots.
--     written      the slots after so many stores
--     next_some, next_is       where a list is read from left to right: there is a next pair, and it is the one at that place
--     run_fits     a run that is given has a slot for each pair
--     run_stored, run_slots_lem    a pair that is stored is of the list, and has a slot; after the last store the slots are what the definition says
--     run_words    and the lent words, when the first of them are set to 0
-- Assumes nothing.
use mathlib.Core.Path.{◌≡◌, refl, sym, ap, subst, ◌∙◌}
use mathlib.Core.Bool.{Bool, true, false}
use mathlib.Core.List.{List, [], ◌∷◌, ◌++◌}
use Prim.Native.Nat.{ℕ, zero, suc, ◌+◌, ◌≤◌, ◌<◌}
use native.Mathlib.Omega.{arith}
use native.Mathlib.Nat.{zero-add, le_refl, not-suc-le-zero}
use lib.Dec.{eqb}
use lib.IntN.{ℤ}
use lib.ListN.{length, set, get_or, drop, replicate, length-set}
use lib.Seq.{paste, paste-zero, paste-suc, take-length, drop-cons}
use borrow.Author.Tests.{eqb-true, eqb-false, ltb-false}
use Rattle.list.specs.declared.Pair.{Pair}
use Rattle.list.specs.Pairs.{none}
use Rattle.leaf.specs.LeafRun.{leaf_list}
use Rattle.words.proofs.FirstLaws.{none_applies, given_failed, answer_given, answer_refused}
use Rattle.bits.specs.Set.{wiped}
use Rattle.ring.specs.Lent.{wiped_by}
use Rattle.ring.proofs.LentLaws.{wiped_refused, wiped_given}
use Rattle.runs.specs.declared.Run.{Run}
use Rattle.runs.specs.Run.{room_no, run_need, run_no, run_given, run_refused, run_answer, run_slots, run_bits}
use Rattle.runs.specs.Ready.{Worked}
use Rattle.runs.proofs.Once.{run_call_no}

-- ---- one store after the other

-- the slots s after the first k pairs of l are stored
abbrev pub written : List Pair → List Pair → ℕ → List Pair
written s l zero = s
written s l (suc k) = set (written s l k) k (get_or l k none)

pub written_long : (s l : List Pair) (k : ℕ) → length (written s l k) ≡ length s
written_long s l zero = refl
written_long s l (suc k) = length-set (written s l k) k (get_or l k none) ∙ written_long s l k

written_pasted : (s l : List Pair) (n : ℕ) → n ≤ length l → n ≤ length s → written s l n ≡ paste s 0 l n
written_pasted s l zero a b = sym (paste-zero s 0 l)
written_pasted s l (suc k) a b =
    ap (λ (t : List Pair). set t k (get_or l k none)) (written_pasted s l k (omega arith) (omega arith)) ∙ ap (λ (m : ℕ). set (paste s 0 l k) m (get_or l k none)) (sym (zero-add k))
    ∙ paste-suc s 0 l k none (omega arith) a

written_all : (s l : List Pair) → length l ≤ length s → written s l (length l) ≡ l ++ drop (length l) s
written_all s l h =
    written_pasted s l (length l) (le_refl (length l)) h ∙ ap (λ (t : List Pair). t ++ drop (0 + length l) s) (take-length l) ∙ ap (λ (m : ℕ). l ++ drop m s) (zero-add (length l))

-- ---- a list read from left to right

pub next_some : (l t : List Pair) (k : ℕ) → t ≡ drop k l → k < length l → t ≡ [] → ⊥
next_some l t k e h z = cons_none (sym (drop-cons l k none h) ∙ sym e ∙ z)
  where
    cons_none : {v : Pair} {u : List Pair} → v ∷ u ≡ [] → ⊥
    cons_none e = absurd (not-suc-le-zero (subst (λ (x : List Pair). 1 ≤ length x) e (omega arith)))

pub next_is : (l t u : List Pair) (v : Pair) (k : ℕ) → t ≡ drop k l → t ≡ v ∷ u → k < length l → (v ≡ get_or l k none) × (u ≡ drop (suc k) l)
next_is l t u v k e f h = (ap (λ (x : List Pair). get_or x 0 none) same, ap (λ (x : List Pair). drop 1 x) same)
  where
    same : v ∷ u ≡ get_or l k none ∷ drop (suc k) l
    same = sym f ∙ e ∙ drop-cons l k none h

-- ---- what the answer says

-- a run that is given has a slot for each pair
pub run_fits : (P Q : List ℤ) (v len bits : ℕ) → run_no P Q v len bits ≡ 0 → length (leaf_list P Q v) ≤ len
unfolding run_no room_no
run_fits P Q v len bits z = let n = length (leaf_list P Q v) in ltb-false len n (given_failed _ ((none_applies _).0 z 4))

module _ (P Q : List ℤ) (v : ℕ) (s : List Pair) (ws : List ℕ) (r : Run) (e : r ≡ run_answer P Q v (length s) (length ws)) where
  abbrev no : ℕ
  no = run_no P Q v (length s) (length ws)

  -- a pair that is stored is of the list, and has a slot
  pub run_stored : (k : ℕ) → k < r.count → (r.number ≡ 0) × (k < length (leaf_list P Q v)) × (k < length s)
  unfolding run_answer run_given run_refused
  run_stored k h = go (eqb no 0) refl
    where
      go : (t : Bool) → eqb no 0 ≡ t → (r.number ≡ 0) × (k < length (leaf_list P Q v)) × (k < length s)
      go true t =
          let z = eqb-true no 0 t in
          let f : r ≡ run_given P Q v = e ∙ answer_given _ run_refused _ z in
          let i : k < length (leaf_list P Q v) = subst (λ (w : Run). k < w.count) f h in
          (ap (λ (w : Run). w.number) f, i, omega (arith, run_fits P Q v (length s) (length ws) z))
      go false t =
          let f = e ∙ answer_refused _ run_refused _ _ refl (eqb-false no 0 t) in
          absurd (not-suc-le-zero (subst (λ (w : Run). k < w.count) f h))

  -- after the last store the slots are what the definition says
  pub run_slots_lem : written s (leaf_list P Q v) r.count ≡ run_slots P Q v s (length ws)
  unfolding run_answer run_given run_refused run_slots
  run_slots_lem = go (eqb no 0) refl
    where
      go : (t : Bool) → eqb no 0 ≡ t → written s (leaf_list P Q v) r.count ≡ run_slots P Q v s (length ws)
      go true t =
          let z = eqb-true no 0 t in
          ap (λ (w : Run). written s (leaf_list P Q v) w.count) (e ∙ answer_given _ run_refused _ z)
          ∙ written_all s (leaf_list P Q v) (run_fits P Q v (length s) (length ws) z)
          ∙ sym (answer_given _ (λ k. s) _ z)
      go false t =
          let ne = eqb-false no 0 t in
          ap (λ (w : Run). written s (leaf_list P Q v) w.count) (e ∙ answer_refused _ run_refused _ _ refl ne) ∙ sym (answer_refused _ (λ k. s) _ _ refl ne)

  -- and so are the lent words, when the first of them are set to 0
  pub run_words : (b : List ℕ) → Worked P Q v r.number ws b → wiped_by r.number (run_need P) b ≡ run_bits P Q v (length s) ws
  unfolding run_bits wiped
  run_words b w = go (eqb no 0) refl
    where
      number_is : r.number ≡ no
      number_is = ap (λ (x : Run). x.number) e ∙ run_call_no P Q v (length s) (length ws)

      go : (t : Bool) → eqb no 0 ≡ t → wiped_by r.number (run_need P) b ≡ wiped_by no (run_need P) ws
      go true t =
          let z = eqb-true no 0 t in
          sym (wiped_given b (run_need P) r.number (number_is ∙ z)) ∙ ap (λ (l : List ℕ). replicate (run_need P) 0 ++ l) w.past ∙ wiped_given ws (run_need P) no z
      go false t =
          let ne = eqb-false no 0 t in
          let nr : r.number ≡ 0 → ⊥ = λ z. ne (sym number_is ∙ z) in
          sym (wiped_refused b (run_need P) r.number r.number refl nr) ∙ w.stands nr ∙ wiped_refused ws (run_need P) no no refl ne
