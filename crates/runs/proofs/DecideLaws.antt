-- What `decide` answers, number by number, what the maker of a run answers and leaves, and what is handed on.
--     leaf_past, leaf_inner, leaf_here     the number of the leaf, as it is read
--     run_passes, run_lacks    with two sheets that open and a leaf of Q: with enough words the room for the pairs decides, else the number is 24
--     refused_is       an answer that is refused by the call's number
--     number_sheets, number_leaf, number_short    that number, at each return of the code
--     made_asked       what the maker of a run asks: the sheets open, the leaf is there, and the words are enough
--     made_is          from what the maker answered: the answer, and that the run can be read from the first of the lent words
--     put_back, made_room, made_fits       the maker: words that are put back from their copy; its answer where the pairs outnumber the slots, and else
--     next_asked, next_left    what the reader of a run asks, and what it says of the lent words
--     wipe_fits, run_wiped     the words that are set to 0 at the end
-- Assumes nothing.
use mathlib.Core.Path.{◌≡◌, refl, sym, ap, subst, ◌∙◌}
use mathlib.Core.Bool.{Bool, true, false, cond, not, ◌&&◌}
use mathlib.Core.List.{List, [], ◌∷◌, ◌++◌}
use Prim.Native.Nat.{ℕ, ◌*◌, ◌≤◌, ◌<◌}
use native.Mathlib.Omega.{arith}
use lib.Dec.{eqb, ltb}
use lib.IntN.{ℤ}
use lib.ListN.{length, take, drop, take-append-drop, length-append}
use lib.Seq.{length-take-le, take_at, drop_at, drop-length}
use borrow.Author.Tests.{eq-eqb, ne_eqb, lt-ltb, le-ltb, ltb-true, eqb-true}
use Rattle.integers.proofs.Bools.{and_left, and_right}
use Rattle.words.specs.First.{given, answer}
use Rattle.words.proofs.FirstLaws.{first_passes, first_stops, first_last, given_held, given_no, given_yes, answer_given, answer_refused}
use Rattle.bits.specs.Set.{words_for, none, wiped}
use Rattle.bits.proofs.LentLaws.{words_enough, words_few, part_long, part_wiped}
use Rattle.sheet.specs.Layout.{points, nodes}
use Rattle.sheet.specs.Nodes.{level_of}
use Rattle.sheet.specs.Open.{Opens}
use Rattle.sheet.proofs.SheetLaws.{sheet_facts}
use Rattle.list.specs.declared.Pair.{Pair}
use Rattle.leaf.specs.LeafRun.{leaf_list, leaf_opened, RunSet, left_from}
use Rattle.leaf.specs.Room.{Sets}
use Rattle.leaf.proofs.RunCode.{run_left_lem}
use Rattle.ring.specs.Numbers.{sheets_no}
use Rattle.ring.specs.Lent.{need, bits_no, wiped_by}
use Rattle.ring.specs.Answers.{Heads, heads_of}
use Rattle.ring.proofs.LentLaws.{bits_short, bits_enough, wiped_given}
use Rattle.ring.proofs.HeadLaws.{both_open, HeadedBoth, headed_both, sheets_open, sheets_stop, sheets_pass}
use Rattle.runs.specs.declared.Run.{Run}
use Rattle.runs.specs.Run.{leaf_no, room_no, run_need, run_no, run_given, run_refused, run_answer}
use Rattle.runs.specs.Ready.{Handed, run_on, MadeOn, run_left, Ready, Worked}

-- ---- the leaf

pub leaf_past : (Q : List ℤ) (m v : ℕ) → nodes Q ≡ m → m ≤ v → 19 ≡ leaf_no Q v
unfolding leaf_no given
leaf_past Q m v e h = rw (e, le-ltb v m h)

-- the level that was read is the leaf's
module _ (Q : List ℤ) (v : ℕ) {n m : ℕ} (o : Opens Q n m) {l : ℕ} (e : l ≡ level_of Q n v) where
  level : l ≡ level_of Q (points Q) v
  level = e ∙ ap (λ (k : ℕ). level_of Q k v) (sym o.n_is)

  pub leaf_inner : (l ≡ 0 → ⊥) → 19 ≡ leaf_no Q v
  unfolding leaf_no given
  leaf_inner ne = rw (ne_eqb (level_of Q (points Q) v) 0 (λ z. ne (level ∙ z))) (go (ltb v (nodes Q)))
    where
      go : (t : Bool) → ◌≡◌ {A = ℕ} 19 (cond (not (t && false)) 19 0)
      go true = refl
      go false = refl

  pub leaf_here : v < m → l ≡ 0 → 0 ≡ leaf_no Q v
  unfolding leaf_no given
  leaf_here h z = rw (lt-ltb v (nodes Q) (subst (λ (k : ℕ). v < k) (sym o.m_is) h), eq-eqb (level_of Q (points Q) v) 0 (sym level ∙ z))

pub leaf_is : (Q : List ℤ) (v : ℕ) → leaf_no Q v ≡ 0 → (v < nodes Q) × (level_of Q (points Q) v ≡ 0)
unfolding leaf_no
leaf_is Q v e =
    let a = ltb v (nodes Q) in
    let b = eqb (level_of Q (points Q) v) 0 in
    let f = given_held _ e in
    (ltb-true v (nodes Q) (and_left a b f), eqb-true (level_of Q (points Q) v) 0 (and_right a b f))

-- ---- the number

-- with two sheets that open, a leaf of Q and enough words, the room for the pairs decides
pub run_passes : (P Q : List ℤ) (v len bits : ℕ) → sheets_no P Q ≡ 0 → leaf_no Q v ≡ 0 → run_need P ≤ bits → run_no P Q v len bits ≡ room_no (leaf_list P Q v) len
unfolding run_no
run_passes P Q v len bits s l h =
    sheets_open P Q _ s ∙ first_passes (leaf_no Q v) _ l ∙ first_passes (bits_no (run_need P) bits) _ (bits_enough (run_need P) bits h) ∙ first_last _

-- with fewer words it is 24
pub run_lacks : (P Q : List ℤ) (v len bits : ℕ) → sheets_no P Q ≡ 0 → leaf_no Q v ≡ 0 → bits < run_need P → run_no P Q v len bits ≡ 24
unfolding run_no
run_lacks P Q v len bits s l h =
    let short = bits_short (run_need P) bits h in
    sheets_open P Q _ s ∙ first_passes (leaf_no Q v) _ l ∙ first_stops (bits_no (run_need P) bits) _ (λ z. omega (arith, z, short)) ∙ short

pub refused_is : (P Q : List ℤ) (v len : ℕ) (ws : List ℕ) (r : Run) (k : ℕ) → run_no P Q v len (length ws) ≡ k → (k ≡ 0 → ⊥) → r ≡ run_refused k
    → (r ≡ run_answer P Q v len (length ws)) × Worked P Q v r.number ws ws
unfolding run_answer run_refused
refused_is P Q v len ws r k n ne x = (
  x ∙ sym (answer_refused _ run_refused _ k n ne),
  record { ready = λ z. absurd (ne (sym (ap (λ (w : Run). w.number) x) ∙ z)); past = refl; stands = λ _. refl },
)

module _ (P Q : List ℤ) (v len bits : ℕ) (h : Heads) (e : h ≡ heads_of P Q) where
  pub number_sheets : (h.number ≡ 0 → ⊥) → run_no P Q v len bits ≡ h.number
  unfolding run_no
  number_sheets ne = sheets_stop P Q h _ e ne

  pub number_leaf : h.number ≡ 0 → (k : ℕ) → k ≡ leaf_no Q v → (k ≡ 0 → ⊥) → run_no P Q v len bits ≡ k
  unfolding run_no
  number_leaf z k g ne = sheets_pass P Q h _ e z ∙ first_stops (leaf_no Q v) _ (λ x. ne (g ∙ x)) ∙ sym g

-- ---- the words that a run needs

-- as many words as were counted for the points that were read
module _ (P : List ℤ) (n words : ℕ) (n_is : n ≡ points P) (words-is : words ≡ words_for n) where
  counted_is : words ≡ need P
  counted_is = words-is ∙ ap words_for n_is

  all_is : 16 * words ≡ run_need P
  all_is = ap (λ (k : ℕ). 16 * k) counted_is

-- where two sheets open and the leaf is there
module _ (P Q : List ℤ) (v : ℕ) (h : Heads) (e : h ≡ heads_of P Q) (z : h.number ≡ 0) (k : ℕ) (g : k ≡ leaf_no Q v) (x : k ≡ 0) (words : ℕ) (words-is : words ≡ words_for h.np) where
  found : HeadedBoth P Q h
  found = headed_both P Q h e z

  opened : sheets_no P Q ≡ 0
  opened = found.opens

  there : leaf_no Q v ≡ 0
  there = sym g ∙ x

  here : (v < nodes Q) × (level_of Q (points Q) v ≡ 0)
  here = leaf_is Q v there

  every : 16 * words ≡ run_need P
  every = all_is P h.np words found.np_is words-is

  pub few_words : words ≤ 938
  few_words = omega (arith, words-is, words_few h.np, found.p_facts.n_le)

  module _ (len : ℕ) (ws : List ℕ) where
    pub number_short : length ws < 16 * words → run_no P Q v len (length ws) ≡ 24
    number_short h = run_lacks P Q v len (length ws) opened there (subst (λ (n : ℕ). length ws < n) every h)

    module _ (fits : 16 * words ≤ length ws) where
      lent_all : run_need P ≤ length ws
      lent_all = subst (λ (n : ℕ). n ≤ length ws) every fits

      pub made_asked : Handed Q h.np h.nq h.mq v words (take (16 * words) ws)
      made_asked =
          let enough : h.np ≤ 64 * words = omega (arith, words-is, words_enough h.np) in
          record {
            here = subst (λ (m : ℕ). v < m) found.q_facts.m_is here.0;
            level = ap (λ (n : ℕ). level_of Q n v) found.nq_is ∙ here.1;
            sets = record { long = part_long ws (16 * words) fits; enough = enough; small = omega (arith, few_words) };
            few = few_words;
          }

      -- what the maker answered is the answer, and what it left is the run on the first of the lent words
      module _ (r : Run) (last : List ℕ) (long : length last ≡ length (take (16 * words) ws)) (m : MadeOn P Q v words len r (take (16 * words) ws) last) where
        as_many : words ≡ need P
        as_many = counted_is P h.np words found.np_is words-is

        exactly : length last ≡ 16 * words
        exactly = long ∙ part_long ws (16 * words) fits

        abbrev now : List ℕ
        now = last ++ drop (16 * words) ws

        first_part : take (run_need P) now ≡ last
        first_part = ap (λ (n : ℕ). take n now) (sym every) ∙ take_at last (drop (16 * words) ws) (16 * words) exactly

        past_part : drop (run_need P) now ≡ drop (run_need P) ws
        past_part = ap (λ (n : ℕ). drop n now) (sym every) ∙ drop_at last (drop (16 * words) ws) (16 * words) exactly ∙ ap (λ (n : ℕ). drop n ws) every

        is_ready : r.number ≡ 0 → Ready P Q v now
        unfolding run_left
        is_ready t =
            let set : RunSet P Q v (need P) (take (run_need P) now) = subst (RunSet P Q v (need P)) (sym first_part) (subst (λ (n : ℕ). RunSet P Q v n last) as_many (m.set t)) in
            let p_opens = sheet_facts P (both_open P Q opened).0 in
            let q_opens = sheet_facts Q (both_open P Q opened).1 in
            record {
              p_opens = p_opens;
              q_opens = q_opens;
              here = here.0;
              level = here.1;
              lent = omega (arith, every, exactly, length-append last (drop (16 * words) ws));
              run = set;
              all = run_left_lem (need P) P Q p_opens q_opens (words_enough (points P)) v here.0 here.1 (take (run_need P) now) set;
            }

        pub made_is : (r ≡ run_answer P Q v len (length ws)) × Worked P Q v r.number ws (last ++ drop (16 * words) ws)
        unfolding run_answer run_given run_on
        made_is = (
          m.answers
              ∙ ap (λ (n : ℕ). answer (room_no (leaf_list P Q v) len) (run_on n P Q v) run_refused) as_many
              ∙ ap (λ (n : ℕ). answer n (run_on (need P) P Q v) run_refused) (sym (run_passes P Q v len (length ws) opened there lent_all)),
          record {
            ready = is_ready;
            past = past_part;
            stands = λ ne. ap (λ (t : List ℕ). t ++ drop (16 * words) ws) (m.stands ne) ∙ take-append-drop (16 * words) ws;
          },
        )

-- ---- made

-- the copy: of all k words, in room that may be longer
module _ (ws room saved : List ℕ) (k : ℕ) (all : k ≡ length ws) (fits : length ws ≤ length room) (copied : saved ≡ take k ws ++ drop k room) where
  -- words that were worked on are as they were when they are put back from their copy
  pub put_back : (new : List ℕ) → length new ≡ length ws → take k saved ++ drop k new ≡ ws
  put_back new long =
      let front : take k saved ≡ take k ws = ap (take k) copied ∙ take_at (take k ws) (drop k room) k (length-take-le k ws (omega arith)) in
      ap (λ (t : List ℕ). t ++ drop k new) front ∙ ap (λ (t : List ℕ). take k ws ++ t) (gone new (all ∙ sym long) ∙ sym (gone ws all)) ∙ take-append-drop k ws
    where
      gone : (l : List ℕ) → k ≡ length l → drop k l ≡ []
      gone l e = ap (λ (n : ℕ). drop n l) e ∙ drop-length l

module _ (P Q : List ℤ) (v words len : ℕ) (ws : List ℕ) (count : ℕ) (count_is : count ≡ length (leaf_list P Q v)) where
  -- the pairs outnumber the slots: 16, and the words are back
  pub made_room : len < count → (r : Run) → r ≡ run_refused 16 → (b : List ℕ) → b ≡ ws → MadeOn P Q v words len r ws b
  unfolding room_no run_refused
  made_room h r r-is b back =
      let no : room_no (leaf_list P Q v) len ≡ 16 = given_yes 16 (lt-ltb len (length (leaf_list P Q v)) (subst (λ (c : ℕ). len < c) count_is h)) in
      record {
        answers = r-is ∙ sym (answer_refused _ run_refused _ 16 no (λ z. omega arith));
        set = λ z. absurd (omega (arith, z, ap (λ (w : Run). w.number) r-is));
        stands = λ _. back;
      }

  -- else the run is given, and stands on the words
  pub made_fits : count ≤ len → (opened : ℕ) → opened ≡ leaf_opened words P Q v → (b : List ℕ) → RunSet P Q v words b
      → MadeOn P Q v words len (record { number = 0; count = count; opened = opened }) ws b
  unfolding room_no run_on
  made_fits h opened opened-is b set =
      let no : room_no (leaf_list P Q v) len ≡ 0 = given_no 16 (le-ltb len (length (leaf_list P Q v)) (subst (λ (c : ℕ). c ≤ len) count_is h)) in
      record {
        answers = (λ t. record { number = 0; count = count_is t; opened = opened-is t }) ∙ sym (answer_given _ run_refused _ no);
        set = λ _. set;
        stands = λ ne. absurd (ne refl);
      }

-- ---- read

module _ (P Q : List ℤ) (v : ℕ) (b : List ℕ) (at : ℕ) (np words : ℕ) (np_is : np ≡ points P) (words-is : words ≡ words_for np) where
  as_many_as : words ≡ need P
  as_many_as = counted_is P np words np_is words-is

  same_left : (x : ℕ) → left_from P Q v words (take (16 * words) b) x ≡ run_left P Q v b x
  unfolding run_left
  same_left x = ap (λ (k : ℕ). left_from P Q v k (take (16 * k) b) x) as_many_as

  pub next_asked : Ready P Q v b → (mp nq mq : ℕ) → mp ≡ nodes P → nq ≡ points Q → mq ≡ nodes Q → (run_left P Q v b at ≡ [] → ⊥)
      → Opens P np mp × Opens Q nq mq × (v < mq) × (level_of Q nq v ≡ 0) × Sets (take (16 * words) b) words np × RunSet P Q v words (take (16 * words) b)
      × (left_from P Q v words (take (16 * words) b) at ≡ [] → ⊥)
  next_asked o mp nq mq mp-is nq_is mq-is more =
      let p : Opens P np mp = rw (np_is, mp-is) o.p_opens in
      let q : Opens Q nq mq = rw (nq_is, mq-is) o.q_opens in
      let l : level_of Q nq v ≡ 0 = ap (λ (n : ℕ). level_of Q n v) nq_is ∙ o.level in
      let set : RunSet P Q v words (take (16 * words) b) = subst (λ (k : ℕ). RunSet P Q v k (take (16 * k) b)) (sym as_many_as) o.run in
      let enough : np ≤ 64 * words = omega (arith, words-is, words_enough np) in
      let small : words ≤ 1000 = omega (arith, words-is, words_few np, p.n_le) in
      (p, q, subst (λ (m : ℕ). v < m) (sym mq-is) o.here, l, record { long = set.long; enough = enough; small = small }, set, λ e. more (sym (same_left at) ∙ e))

  pub next_left : (x : Pair) (y : ℕ) → left_from P Q v words (take (16 * words) b) at ≡ x ∷ left_from P Q v words (take (16 * words) b) y → run_left P Q v b at ≡ x ∷ run_left P Q v b y
  next_left x y e = sym (same_left at) ∙ e ∙ ap (λ (l : List Pair). x ∷ l) (same_left y)

-- ---- wiped

-- the first of the lent words are set to 0
module _ (P : List ℤ) (ws : List ℕ) (np words : ℕ) (np_is : np ≡ points P) (words-is : words ≡ words_for np) (fits : run_need P ≤ length ws) where
  pub wipe_fits : 16 * words ≤ length ws
  wipe_fits = subst (λ (n : ℕ). n ≤ length ws) (sym (all_is P np words np_is words-is)) fits

  pub run_wiped : (zeros : List ℕ) → zeros ≡ none (length (take (16 * words) ws)) → (number : ℕ) → number ≡ 0 → zeros ++ drop (16 * words) ws ≡ wiped_by number (run_need P) ws
  run_wiped zeros e number z =
      part_wiped ws zeros (16 * words) wipe_fits e ∙ ap (λ (n : ℕ). wiped n ws) (all_is P np words np_is words-is) ∙ wiped_given ws (run_need P) number z
