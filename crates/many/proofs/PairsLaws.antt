-- What `pairs` stores and answers: the course of its work, from the first step to the last.
-- Assumes nothing.
use mathlib.Core.Path.{◌≡◌, refl, sym, ap, subst, ◌∙◌}
use mathlib.Core.Bool.{Bool, true, false, not}
use mathlib.Core.Logic.{⊎_elim}
use mathlib.Core.List.{List, [], ◌∷◌, ◌++◌}
use Prim.Native.Nat.{ℕ, zero, suc, ◌+◌, ◌≤◌, ◌<◌}
use native.Mathlib.Omega.{arith}
use native.Mathlib.Nat.{zero-add}
use lib.Dec.{ltb}
use lib.IntN.{ℤ}
use lib.ListN.{length, take, drop, set, get_or, replicate, length-set, length-drop, length-take}
use lib.Seq.{paste, paste-zero, paste-suc, drop-cons}
use borrow.Author.Tests.{lt-ltb, le-ltb, ltb-true, ltb-false}
use Rattle.integers.proofs.Bools.{decide}
use Rattle.words.specs.First.{answer}
use Rattle.words.proofs.FirstLaws.{answer_given, answer_refused}
use Rattle.sheet.specs.Places.{points_of}
use Rattle.bits.specs.Set.{wiped}
use Rattle.list.specs.declared.Pair.{Pair}
use Rattle.list.specs.declared.Key.{Key}
use Rattle.list.specs.declared.Terms.{Terms}
use Rattle.list.specs.Pairs.{none, after, is_none}
use Rattle.list.proofs.PageLaws.{none_drop}
use Rattle.ring.specs.Lent.{need, wiped_by}
use Rattle.ring.proofs.LentLaws.{wiped_refused, wiped_given}
use Rattle.many.specs.declared.Wanted.{Wanted}
use Rattle.many.specs.declared.Many.{Many}
use Rattle.many.specs.declared.step.Task.{Task}
use Rattle.many.specs.declared.step.Step.{Step}
use Rattle.chamber.specs.Sized.{list_to}
use Rattle.many.specs.Many.{pairs_no, pairs_list, many_given, many_refused, stored, pairs_answer, pairs_slots, pairs_bits, own_pairs_no, own_list, own_pairs_answer, own_pairs_slots, own_pairs_bits}
use Rattle.many.specs.Step.{left_of, Stand, Ahead, Started, Begun, OwnBegun}

-- ---- the slots after k stores of a list

abbrev pub put : List Pair → List Pair → ℕ → List Pair
put s l zero = s
put s l (suc k) = set (put s l k) k (get_or l k none)

pub put_long : (s l : List Pair) (k : ℕ) → length (put s l k) ≡ length s
put_long s l zero = refl
put_long s l (suc k) = length-set (put s l k) k (get_or l k none) ∙ put_long s l k

put_pasted : (s l : List Pair) (n : ℕ) → n ≤ length l → n ≤ length s → put s l n ≡ paste s 0 l n
put_pasted s l zero a b = sym (paste-zero s 0 l)
put_pasted s l (suc k) a b =
    ap (λ (t : List Pair). set t k (get_or l k none)) (put_pasted s l k (omega arith) (omega arith)) ∙ ap (λ (m : ℕ). set (paste s 0 l k) m (get_or l k none)) (sym (zero-add k))
    ∙ paste-suc s 0 l k none (omega arith) a

put_is : (s l : List Pair) (n : ℕ) → n ≤ length l → n ≤ length s → put s l n ≡ take n l ++ drop n s
put_is s l n a b = put_pasted s l n a b ∙ ap (λ (m : ℕ). take n l ++ drop m s) (zero-add n)

-- ---- the course

nothing_left : (l : List Pair) (k : ℕ) → drop k l ≡ [] → length l ≤ k
nothing_left l k e = omega (arith, length-drop k l, ap length e)

some_left : (l : List Pair) (k : ℕ) → (drop k l ≡ [] → ⊥) → k < length l
some_left l k ne = ⊎_elim (λ (t : ltb k (length l) ≡ true). ltb-true k (length l) t) (λ (t : ltb k (length l) ≡ false). absurd (ne (short (drop k l) (omega (arith, length-drop k l, ltb-false k (length l) t))))) (decide (ltb k (length l)))
  where
    short : (x : List Pair) → length x ≤ 0 → x ≡ []
    short [] h = refl
    short (v ∷ x) h = absurd (omega arith)

module _ (no nd : ℕ) (all : List Pair) (len : ℕ) (ws : List ℕ) where
  -- what is answered: by the number, the slots ys and the words with it
  abbrev Told : List Pair → Many → List Pair → List ℕ → Type 0
  Told ys r ys' b' = (r ≡ answer no (many_given len all) many_refused) × (ys' ≡ answer no (stored ys all) (λ k. ys)) × (b' ≡ wiped_by no nd ws)

  -- refused, with the slots and the words as they were
  pub course_refused : (ys : List Pair) (k : ℕ) → k ≡ no → (k ≡ 0 → ⊥) → (r : Many) → r ≡ many_refused k → (b : List ℕ) → b ≡ ws → Told ys r ys b
  course_refused ys k e ne r f b same = (
    f ∙ sym (answer_refused (many_given len all) many_refused no k (sym e) ne),
    sym (answer_refused (stored ys all) (λ j. ys) no k (sym e) ne),
    same ∙ wiped_refused ws nd no k (sym e) ne,
  )

-- of a task that is not refused, for which so many words are needed, and of which this is the list
module _ (P Q : List ℤ) (o : List ℕ) (no nd : ℕ) (all : List Pair) (len : ℕ) (ws : List ℕ) where
  pub record Course (b : List ℕ) (s : Step) : Type 0 where
    pub served : no ≡ 0
    pub words_are : s.task.words ≡ nd
    pub stands : Stand P Q o b s
    pub ahead : Ahead P Q o len s
    pub left : left_of P Q o s.task s.at s.i s.next ≡ drop s.count all
    pub past : drop s.task.words b ≡ drop s.task.words ws
    pub few : s.count ≤ len
    pub some : s.count ≤ length all

  pub course_begun : (b : List ℕ) (s : Step) → Started P Q o len ws b s.task s → no ≡ 0 → s.task.words ≡ nd
      → after s.task.key (list_to s.task.largest s.task.terms o (points_of P) (points_of Q)) ≡ all → Course b s
  course_begun b s t n w e =
      record {
        served = n;
        words_are = w;
        stands = t.stands;
        ahead = t.ahead;
        left = t.all ∙ e ∙ ap (λ (k : ℕ). drop k all) (sym t.none_yet);
        past = t.past;
        few = omega (arith, t.none_yet);
        some = omega (arith, t.none_yet);
      }

  module _ (b : List ℕ) (s : Step) (c : Course b s) (less : s.count < s.to) where
    -- there is a slot for it
    pub slot : s.count < len
    slot = c.ahead.room less

    one : drop s.count all ≡ s.pair ∷ left_of P Q o s.task s.at (s.i + 1) s.next
    one = sym c.left ∙ c.ahead.first less

    listed : s.count < length all
    listed = some_left all s.count (λ (z : drop s.count all ≡ []). not_cons (sym one ∙ z))
      where
        not_cons : {v : Pair} {l : List Pair} → v ∷ l ≡ [] → ⊥
        not_cons e = absurd (omega (arith, ap length e))

    -- it is the next of the list
    pub is_next : s.pair ≡ get_or all s.count none
    is_next = ap (λ (x : List Pair). get_or x 0 none) (sym one ∙ drop-cons all s.count none listed)

    pub course_next : (b' : List ℕ) (r : Step) → Stand P Q o b' r → Ahead P Q o len r → r.task ≡ s.task → r.count ≡ s.count + 1
        → left_of P Q o s.task s.at s.i s.next ≡ s.pair ∷ left_of P Q o r.task r.at r.i r.next → drop s.task.words b' ≡ drop s.task.words b → Course b' r
    course_next b' r st ah et ec el ep =
        let up : s.count + 1 ≡ suc s.count = omega arith in
        record {
          served = c.served;
          words_are = ap (λ (t : Task). t.words) et ∙ c.words_are;
          stands = st;
          ahead = ah;
          left =
              ap (λ (x : List Pair). drop 1 x) (sym el ∙ c.left ∙ drop-cons all s.count none listed)
              ∙ ap (λ (k : ℕ). drop k all) (sym (ec ∙ up));
          past = ap (λ (t : Task). drop t.words b') et ∙ ep ∙ c.past ∙ ap (λ (t : Task). drop t.words ws) (sym et);
          few = omega (arith, ec, slot);
          some = omega (arith, ec, listed);
        }

  -- ---- the end

  module _ (ys : List Pair) (is : length ys ≡ len) (b : List ℕ) (s : Step) (c : Course b s) (over : s.to ≤ s.count) where
    -- how many were stored, and whether more follow
    told : (m : Bool) → s.more ≡ m → (s.count ≡ length (take len all)) × (m ≡ not (is_none (drop len all)))
    told true e =
        let h = c.ahead.full over e in
        let k : s.count ≡ len = omega (arith, h.0, c.few) in
        let l : len < length all = subst (λ (x : ℕ). x < length all) k (some_left all s.count (λ (y : drop s.count all ≡ []). h.1 (c.left ∙ y))) in
        (omega (arith, length-take len all, k), sym (ap not (none_drop len all) ∙ ap (λ (t : Bool). not (not t)) (lt-ltb len (length all) l)))
    told false e =
        let l : length all ≤ s.count = nothing_left all s.count (sym c.left ∙ c.ahead.ends over e) in
        let k : s.count ≡ length all = omega (arith, c.some) in
        (omega (arith, length-take len all, c.few), sym (ap not (none_drop len all) ∙ ap (λ (t : Bool). not (not t)) (le-ltb len (length all) (omega (arith, c.few)))))

    given_answer : record { number = 0; count = s.count; more = s.more } ≡ answer no (many_given len all) many_refused
    unfolding many_given
    given_answer =
        let t = told s.more refl in
        (λ i. record { number = 0; count = t.0 i; more = t.1 i }) ∙ sym (answer_given (many_given len all) many_refused no c.served)

    given_slots : put ys all s.count ≡ answer no (stored ys all) (λ k. ys)
    unfolding stored
    given_slots =
        let t = (told s.more refl).0 in
        let k : s.count ≡ length (take (length ys) all) = t ∙ ap (λ (x : ℕ). length (take x all)) (sym is) in
        put_is ys all s.count c.some (omega (arith, c.few, is))
        ∙ ap (λ (x : List Pair). x ++ drop s.count ys) (taken s.count (length ys) all k)
        ∙ ap (λ (x : ℕ). take (length ys) all ++ drop x ys) k
        ∙ sym (answer_given (take (length ys) all ++ drop (length (take (length ys) all)) ys) (λ j. ys) no c.served)
      where
        taken : (k n : ℕ) (l : List Pair) → k ≡ length (take n l) → take k l ≡ take n l
        taken k n l e = ap (λ (x : ℕ). take x l) e ∙ again n l
          where
            again : (n : ℕ) (l : List Pair) → take (length (take n l)) l ≡ take n l
            again zero l = refl
            again (suc n) [] = refl
            again (suc n) (v ∷ l) = ap (λ (x : List Pair). v ∷ x) (again n l)

    given_bits : wiped s.task.words b ≡ wiped_by no nd ws
    unfolding wiped
    given_bits =
        ap (λ (x : List ℕ). replicate s.task.words 0 ++ x) c.past
        ∙ ap (λ (n : ℕ). wiped n ws) c.words_are ∙ wiped_given ws nd no c.served

    pub course_end : (r : Many) → r ≡ record { number = 0; count = s.count; more = s.more } → (b' : List ℕ) → b' ≡ wiped s.task.words b → Told no nd all len ws ys r (put ys all s.count) b'
    course_end r e b' f = (e ∙ given_answer, given_slots, f ∙ given_bits)

-- ---- of two sheets, and of a self join

pub begun_course : (P Q : List ℤ) (o : List ℕ) (a : Wanted) (len : ℕ) (ws b : List ℕ) (s : Step) → Begun P Q o a len ws b s → Course P Q o (pairs_no P Q o a (length ws)) (need P) (pairs_list P Q o a) len ws b s
unfolding pairs_list
begun_course P Q o a len ws b s g =
    course_begun P Q o (pairs_no P Q o a (length ws)) (need P) (pairs_list P Q o a) len ws b s g.started g.served g.words_are
    (ap (λ (k : Key). after k (list_to s.task.largest s.task.terms o (points_of P) (points_of Q))) g.key_is
    ∙ ap (λ (m : ℕ). after a.key (list_to m s.task.terms o (points_of P) (points_of Q))) g.largest_is
    ∙ ap (λ (m : Terms). after a.key (list_to a.largest m o (points_of P) (points_of Q))) g.terms_are)

pub pairs_told : (P Q : List ℤ) (o : List ℕ) (a : Wanted) (ys l : List Pair) (ws : List ℕ) (r : Many) (b : List ℕ) → (r ≡ answer (pairs_no P Q o a (length ws)) (many_given (length ys) (pairs_list P Q o a)) many_refused) × (l ≡ answer (pairs_no P Q o a (length ws)) (stored ys (pairs_list P Q o a)) (λ k. ys)) × (b ≡ wiped_by (pairs_no P Q o a (length ws)) (need P) ws)
    → (r ≡ pairs_answer P Q o a (length ys) (length ws)) × (l ≡ pairs_slots P Q o a ys (length ws)) × (b ≡ pairs_bits P Q o a ws)
unfolding pairs_answer pairs_slots pairs_bits
pairs_told P Q o a ys l ws r b t = t

pub own_course : (S : List ℤ) (key : Key) (big : ℕ) (g : Bool) (len : ℕ) (ws b : List ℕ) (s : Step) → OwnBegun S key big g len ws b s → Course S S [] (own_pairs_no S key big g (length ws)) (need S) (own_list S key big g) len ws b s
unfolding own_list
own_course S key big g len ws b s h =
    course_begun S S [] (own_pairs_no S key big g (length ws)) (need S) (own_list S key big g) len ws b s h.started h.served h.words_are
    (ap (λ (k : Key). after k (list_to s.task.largest s.task.terms [] (points_of S) (points_of S))) h.key_is
    ∙ ap (λ (m : ℕ). after key (list_to m s.task.terms [] (points_of S) (points_of S))) h.largest_is
    ∙ ap (λ (m : Terms). after key (list_to big m [] (points_of S) (points_of S))) h.terms_are)

pub own_told : (S : List ℤ) (key : Key) (big : ℕ) (g : Bool) (ys l : List Pair) (ws : List ℕ) (r : Many) (b : List ℕ) → (r ≡ answer (own_pairs_no S key big g (length ws)) (many_given (length ys) (own_list S key big g)) many_refused) × (l ≡ answer (own_pairs_no S key big g (length ws)) (stored ys (own_list S key big g)) (λ k. ys)) × (b ≡ wiped_by (own_pairs_no S key big g (length ws)) (need S) ws)
    → (r ≡ own_pairs_answer S key big g (length ys) (length ws)) × (l ≡ own_pairs_slots S key big g ys (length ws)) × (b ≡ own_pairs_bits S key big g ws)
unfolding own_pairs_answer own_pairs_slots own_pairs_bits
own_told S key big g ys l ws r b t = t
