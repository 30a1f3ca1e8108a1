-- The work of `pairs`, a pair at a time: what a step leaves, and that its whole list is what is asked for.
-- Assumes nothing.
use mathlib.Core.Path.{◌≡◌, refl, sym, ap, subst, ◌∙◌}
use mathlib.Core.Bool.{Bool, true, false, cond, ◌&&◌}
use mathlib.Core.List.{List, [], ◌∷◌, ◌++◌}
use Prim.Native.Nat.{ℕ, zero, suc, ◌+◌, ◌-◌, ◌≤◌, ◌<◌}
use native.Mathlib.Omega.{arith}
use native.Mathlib.Nat.{not-suc-le-zero}
use lib.IntN.{ℤ}
use lib.ListN.{length, take, drop, length-append, length-drop}
use lib.Seq.{take-append_seam, drop-append_seam}
use borrow.Author.Tests.{le-ltb, ne_eqb}
use Rattle.integers.proofs.Bools.{clash}
use Rattle.plane.specs.Point.{Point, id_at}
use Rattle.plane.specs.Profile.{Profile}
use Rattle.sheet.specs.Places.{points_of}
use Rattle.bits.proofs.LentLaws.{part_long}
use Rattle.list.specs.declared.Key.{Key}
use Rattle.list.specs.declared.Pair.{Pair}
use Rattle.list.specs.Pairs.{key_of, follows, after}
use Rattle.list.specs.Rows.{row, rows, list_by}
use Rattle.list.specs.RingList.{pair_by}
use Rattle.list.specs.Terms.{profile_for}
use Rattle.list.proofs.Order.{after_append}
use Rattle.many.specs.declared.step.Task.{Task}
use Rattle.many.specs.declared.step.Step.{Step}
use Rattle.many.specs.Cursor.{late_to, Early, rest_to, left_to, Holding, Advanced}
use Rattle.many.specs.Step.{rule_of, pair_of, left_of, Able, Stand, Ahead, Started}
use Rattle.chamber.proofs.KeepLaws.{rest_yes, chamber_rest_end}
use Rattle.chamber.proofs.ListedLaws.{row_empty, rows_next, list_of_sheets}

-- ---- the pair at hand is the first of what is left

pub left_cons : (rule : ℕ → ℕ → Bool) (pair : ℕ → ℕ → Pair) (key : Key) (n nq at i next : ℕ) → i < n → late_to rule pair key at i ≡ true → left_to rule pair key n nq at i next ≡ pair at i ∷ left_to rule pair key n nq at (i + 1) next
unfolding left_to rest_to
left_cons rule pair key n nq at i next h e = ap (λ (x : List Pair). x ++ rows (late_to rule pair key) pair n (nq - next) next) (rest_yes (late_to rule pair key) pair at n i h e)

pub cons_some : (v : Pair) (l m : List Pair) → m ≡ v ∷ l → m ≡ [] → ⊥
cons_some v l m e z = not-suc-le-zero (subst (λ (x : List Pair). 1 ≤ length x) (sym e ∙ z) (omega arith))

-- ---- the list after a key

module _ (rule : ℕ → ℕ → Bool) (pair : ℕ → ℕ → Pair) (key : Key) where
  after_row : (j k i : ℕ) → after key (row rule pair j k i) ≡ row (late_to rule pair key) pair j k i
  unfolding row after late_to
  after_row j zero i = refl
  after_row j (suc k) i = go (rule j i) (pair j i) (row rule pair j k (i + 1)) (row (late_to rule pair key) pair j k (i + 1)) (after_row j k (i + 1))
    where
      go : (a : Bool) (v : Pair) (l m : List Pair) → after key l ≡ m → after key (cond a (v ∷ l) l) ≡ cond (a && follows key (key_of v)) (v ∷ m) m
      go true v l m e = ap (λ (x : List Pair). cond (follows key (key_of v)) (v ∷ x) x) e
      go false v l m e = e

  pub after_rows : (n k j : ℕ) → after key (rows rule pair n k j) ≡ rows (late_to rule pair key) pair n k j
  unfolding rows after
  after_rows n zero j = refl
  after_rows n (suc k) j =
      after_append key (row rule pair j n 0) (rows rule pair n k (j + 1))
      ∙ ap (λ (x : List Pair). x ++ after key (rows rule pair n k (j + 1))) (after_row j n 0)
      ∙ ap (λ (x : List Pair). row (late_to rule pair key) pair j n 0 ++ x) (after_rows n k (j + 1))

-- chambers before the key add nothing
module _ (rule : ℕ → ℕ → Bool) (φ : Profile) (P Q : List Point) (key : Key) (n nq : ℕ) where
  abbrev late : ℕ → ℕ → Bool
  late = late_to rule (pair_by φ P Q) key

  before : (j x : ℕ) → id_at Q j < key.q → late j x ≡ false
  unfolding late_to follows
  before j x h = rw (le-ltb key.q (id_at Q j) (omega arith), ne_eqb key.q (id_at Q j) (λ (e : key.q ≡ id_at Q j). omega arith)) (and_no (rule j x))
    where
      and_no : (t : Bool) → (t && false) ≡ false
      and_no true = refl
      and_no false = refl

  early_rows : (r : ℕ) → Early Q key r → (d j : ℕ) → j + d ≤ r → r ≤ nq → rows late (pair_by φ P Q) n (nq - j) j ≡ rows late (pair_by φ P Q) n (nq - (j + d)) (j + d)
  early_rows r s zero j h m = let z : j + 0 ≡ j = omega arith in ap (λ (x : ℕ). rows late (pair_by φ P Q) n (nq - x) x) (sym z)
  early_rows r s (suc d) j h m =
      let shift : j + 1 + d ≡ j + suc d = omega arith in
      rows_next late (pair_by φ P Q) n nq j (omega arith)
      ∙ ap (λ (x : List Pair). x ++ rows late (pair_by φ P Q) n (nq - (j + 1)) (j + 1)) (row_empty late (pair_by φ P Q) j n 0 (λ x. before j x (s.below j (omega arith))))
      ∙ early_rows r s d (j + 1) (omega arith) m
      ∙ ap (λ (x : ℕ). rows late (pair_by φ P Q) n (nq - x) x) shift

  pub many_left_all : (at r : ℕ) → r ≤ nq → Early Q key r → left_to rule (pair_by φ P Q) key n nq at n r ≡ after key (list_by rule (pair_by φ P Q) n nq)
  unfolding left_to rest_to list_by
  many_left_all at r m s =
      let z : nq - 0 ≡ nq = omega arith in
      let w : 0 + r ≡ r = omega arith in
      ap (λ (x : List Pair). x ++ rows late (pair_by φ P Q) n (nq - r) r) (chamber_rest_end late (pair_by φ P Q) at n n (omega arith))
      ∙ sym (ap (λ (k : ℕ). rows late (pair_by φ P Q) n k 0) (sym z) ∙ early_rows r s r 0 (omega arith) m ∙ ap (λ (x : ℕ). rows late (pair_by φ P Q) n (nq - x) x) w)
      ∙ sym (after_rows rule (pair_by φ P Q) key n nq 0)

-- ---- what a step leaves

-- the first words are x, and those past them as they were
module _ (b : List ℕ) (w : ℕ) (fits : w ≤ length b) (x : List ℕ) (long : length x ≡ length (take w b)) where
  as_long : length x ≡ w
  as_long = long ∙ part_long b w fits

  pub part_first : take w (x ++ drop w b) ≡ x
  part_first = ap (λ (k : ℕ). take k (x ++ drop w b)) (sym as_long) ∙ take-append_seam x (drop w b)

  pub part_past : drop w (x ++ drop w b) ≡ drop w b
  part_past = ap (λ (k : ℕ). drop k (x ++ drop w b)) (sym as_long) ∙ drop-append_seam x (drop w b)

  pub part_length : length (x ++ drop w b) ≡ length b
  part_length = omega (arith, length-append x (drop w b), length-drop w b, as_long)

module _ (P Q : List ℤ) (o : List ℕ) (len : ℕ) (b : List ℕ) (s : Step) (st : Stand P Q o b s) (x : List ℕ) (long : length x ≡ length (take s.task.words b)) (at i next : ℕ)
    (ad : Advanced (rule_of P Q o s.task) (pair_of P Q s.task) s.task.key s.task.hp.n s.task.hq.n x s.at s.i s.next at i next) where
  abbrev now_at : ℕ → Bool → Pair → Step
  now_at to more v = record { task = s.task; count = s.count; to = to; more = more; pair = v; at = at; i = i; next = next }

  pub stand_after : (to : ℕ) (more : Bool) (v : Pair) → Stand P Q o (x ++ drop s.task.words b) (now_at to more v)
  stand_after to more v =
      let a = st.able in
      record {
        able = record { p_opens = a.p_opens; q_opens = a.q_opens; alone = a.alone; needed = a.needed; lent = omega (arith, part_length b s.task.words a.lent x long, a.lent) };
        held = subst (λ (y : List ℕ). Holding (rule_of P Q o s.task) s.task.hp.n s.task.hq.n y at i next) (sym (part_first b s.task.words a.lent x long)) ad.holding;
      }

  -- the list is at its end
  pub ahead_none : (v : Pair) → s.task.hp.n ≤ i → Ahead P Q o len (now_at s.count false v)
  ahead_none v h =
      record {
        most = omega arith;
        room = λ l. absurd (omega arith);
        place = λ l. absurd (omega arith);
        first = λ l. absurd (omega arith);
        ends = λ l e. ad.done h;
        full = λ l e. clash e refl;
      }

  module _ (h : i < s.task.hp.n) (v : Pair) (is : v ≡ pair_of P Q s.task at i) where
    cons : left_of P Q o s.task at i next ≡ v ∷ left_of P Q o s.task at (i + 1) next
    cons = left_cons (rule_of P Q o s.task) (pair_of P Q s.task) s.task.key s.task.hp.n s.task.hq.n at i next h (ad.here h) ∙ ap (λ (y : Pair). y ∷ left_of P Q o s.task at (i + 1) next) (sym is)

    -- there is a pair, and a slot for it
    pub ahead_room : s.count < len → Ahead P Q o len (now_at (s.count + 1) false v)
    ahead_room l =
        record {
          most = omega arith;
          room = λ k. l;
          place = λ k. h;
          first = λ k. cons;
          ends = λ k e. absurd (omega arith);
          full = λ k e. absurd (omega arith);
        }

    -- or none
    pub ahead_full : len ≤ s.count → Ahead P Q o len (now_at s.count true v)
    ahead_full l =
        record {
          most = omega arith;
          room = λ k. absurd (omega arith);
          place = λ k. absurd (omega arith);
          first = λ k. absurd (omega arith);
          ends = λ k e. clash refl e;
          full = λ k e. (l, cons_some v (left_of P Q o s.task at (i + 1) next) (left_of P Q o s.task at i next) cons);
        }

-- ---- the next step

-- from one position on
pub stand_next : (P Q : List ℤ) (o b : List ℕ) (s : Step) (c : ℕ) → Stand P Q o b s → Stand P Q o b (record { task = s.task; count = c; to = s.to; more = s.more; pair = s.pair; at = s.at; i = s.i + 1; next = s.next })
stand_next P Q o b s c st =
    let h = st.held in
    record { able = st.able; held = record { most = h.most; chamber = λ l. h.chamber (omega arith); held = λ y l m. h.held y (omega arith) m } }

-- ---- the first step

-- before the first chamber nothing is kept that is asked for
pub stand_first : (P Q : List ℤ) (o b : List ℕ) (t : Task) (v : Pair) (r : ℕ) → Able P Q t (length b) → r ≤ t.hq.n → Stand P Q o b (record { task = t; count = 0; to = 0; more = false; pair = v; at = 0; i = t.hp.n; next = r })
stand_first P Q o b t v r a h = record { able = a; held = record { most = h; chamber = λ l. absurd (omega arith); held = λ y l m. absurd (omega arith) } }

pub started_first : (P Q : List ℤ) (o : List ℕ) (len : ℕ) (ws b : List ℕ) (t : Task) (s : Step) (r : ℕ) → Able P Q t (length ws) → r ≤ t.hq.n → Early (points_of Q) t.key r → Stand P Q o b s → Ahead P Q o len s → s.task ≡ t → s.count ≡ 0
    → left_of P Q o t 0 t.hp.n r ≡ left_of P Q o s.task s.at s.i s.next → drop t.words b ≡ drop t.words ws → Started P Q o len ws b t s
started_first P Q o len ws b t s r a h ea st ah et ec el past =
    record {
      task_is = et;
      none_yet = ec;
      stands = st;
      ahead = ah;
      all =
          ap (λ (u : Task). left_of P Q o u s.at s.i s.next) (sym et) ∙ sym el
          ∙ many_left_all (rule_of P Q o t) (profile_for t.terms) (points_of P) (points_of Q) t.key t.hp.n t.hq.n 0 r h ea
          ∙ ap (after t.key) (list_of_sheets t.largest t.terms o P Q t.hp.n t.hp.m t.hq.n t.hq.m a.p_opens a.q_opens);
      past = past;
    }
