-- The walks of a page of t: what they find is the list of t's rule, their count has room, and a chamber's part of the work as the code does it.
-- Assumes nothing.
use mathlib.Core.Path.{◌≡◌, refl, sym, ap, ◌∙◌}
use mathlib.Core.Bool.{Bool, true, false, cond, ◌&&◌}
use mathlib.Core.Logic.{⊎_elim}
use mathlib.Core.List.{List, ◌∷◌}
use Prim.Native.Nat.{ℕ, zero, suc, ◌+◌, ◌*◌, ◌≤◌, ◌<◌}
use native.Mathlib.Omega.{arith}
use lib.Dec.{leb}
use lib.IntN.{ℤ}
use lib.ListN.{length}
use borrow.Author.Tests.{le-leb, lt-leb}
use Rattle.integers.proofs.Bools.{decide}
use Rattle.sheet.specs.Boxes.{sum_over}
use Rattle.bits.specs.Set.{kept}
use Rattle.walk.proofs.WalkLaws.{sum_one}
use Rattle.walk.proofs.SiftLaws.{one_if, sum_cap}
use Rattle.list.specs.declared.Key.{Key}
use Rattle.list.specs.declared.Terms.{Terms}
use Rattle.list.specs.Terms.{profile_for}
use Rattle.list.specs.declared.Pair.{Pair}
use Rattle.list.specs.Rows.{row, at_least, Rising, Named}
use Rattle.list.proofs.RowLaws.{row_same}
use Rattle.list.proofs.ThresholdLaws.{least_none}
use Rattle.join.specs.declared.Draft.{Draft}
use Rattle.join.specs.Walks.{Walks}
use Rattle.join.specs.Work.{first_from}
use Rattle.join.specs.Maker.{spent, with_tried, tried, partner, partners, chamber}
use Rattle.join.specs.Sheets.{walks_by}
use Rattle.join.specs.Threshold.{found_for, ring_opened, all_walked, walks_for, on_words}
use Rattle.join.proofs.MakerLaws.{Exact}
use Rattle.join.proofs.TurnLaws.{Capped, chamber_cap}

-- ---- rows

-- a row is as long as its rule holds
pub row_many : (rule : ℕ → ℕ → Bool) (pair : ℕ → ℕ → Pair) (j k i : ℕ) → length (row rule pair j k i) ≡ sum_over (λ x. one_if (rule j x)) i k
unfolding row sum_over
row_many rule pair j zero i = refl
row_many rule pair j (suc k) i = go (rule j i) _ ∙ omega (arith, row_many rule pair j k (i + 1), sum_one (λ x. one_if (rule j x)) i k)
  where
    go : (t : Bool) (l : List Pair) → length (cond t (pair j i ∷ l) l) ≡ one_if t + length l
    go true l = omega arith
    go false l = omega arith

-- ---- what the walks find

module _ (w : Walks) (rule : ℕ → ℕ → Bool) (np nq : ℕ) (ex : Exact w rule np nq) where
  -- as many as the rule lists
  pub found_is : (j : ℕ) → j < nq → found_for w np j ≡ length (row rule w.pair j np 0)
  unfolding found_for
  found_is j h = ap length (row_same (λ j i. w.kept j i && w.clear j i) rule w.pair j np 0 (λ x a b. sym (ex j x h (omega arith))))

  -- the rule of t: that of the full list, where it lists at least t for the chamber
  exact_all : (t : ℕ) → Exact (all_walked w np t) (at_least rule w.pair t np) np nq
  unfolding all_walked at_least
  exact_all t j i hj hi =
      ap (λ (a : Bool). a && leb t (length (row rule w.pair j np 0))) (ex j i hj hi)
      ∙ ap (λ (n : ℕ). w.kept j i && w.clear j i && leb t n) (sym (found_is j hj))
      ∙ sym (and_yes (w.kept j i && w.clear j i && leb t (found_for w np j)))
    where
      and_yes : (a : Bool) → (a && true) ≡ a
      and_yes true = refl
      and_yes false = refl

  pub exact_for : (t : ℕ) → Exact (walks_for w np t) (at_least rule w.pair t np) np nq
  unfolding walks_for
  exact_for zero j i hj hi = ap (λ (x : ℕ → ℕ → Bool). x j i) (least_none rule w.pair np) ∙ ex j i hj hi
  exact_for (suc t) j i hj hi = exact_all (suc t) j i hj hi

-- ---- room for the count

module _ (w : Walks) (a b n : ℕ) (c : Capped w a b) where
  pub ring_few : (j : ℕ) → ring_opened w n j ≤ n * b
  unfolding ring_opened
  ring_few j = sum_cap _ b n (λ i. few i (w.kept j i))
    where
      few : (i : ℕ) (t : Bool) → cond t (w.clear_opened j i) 0 ≤ b
      few i true = c.ring j i
      few i false = omega arith

  all_capped : (t : ℕ) → Capped (all_walked w n t) (a + n * b) 0
  unfolding all_walked
  all_capped t = record { filter = λ j. omega (arith, c.filter j, ring_few j); ring = λ j i. omega arith }

  pub for_cap : (t : ℕ) (key : Key) (size j : ℕ) (d : Draft) → (chamber (walks_for w n t) key size n j d).opened ≤ d.opened + (a + n * b)
  unfolding walks_for
  for_cap zero key size j d = chamber_cap w key size a b c n j d
  for_cap (suc t) key size j d = omega (arith, chamber_cap (all_walked w n (suc t)) key size (a + n * b) 0 (all_capped (suc t)) n j d)

-- ---- a chamber of a page of t

-- the pairs and the ids are the sheets', whatever t is
pub for_pair : (w : Walks) (n t : ℕ) → (walks_for w n t).pair ≡ w.pair
unfolding walks_for all_walked
for_pair w n zero = refl
for_pair w n (suc t) = refl

pub for_named : (w : Walks) (n t : ℕ) (pid : ℕ → ℕ) → Named w.pair w.qid pid → Named (walks_for w n t).pair (walks_for w n t).qid pid
unfolding walks_for all_walked
for_named w n zero pid h = h
for_named w n (suc t) pid h = h

pub for_rising : (w : Walks) (n t m : ℕ) → Rising w.qid m → Rising (walks_for w n t).qid m
unfolding walks_for all_walked
for_rising w n zero m h = h
for_rising w n (suc t) m h = h

for_ids : (w : Walks) (n t : ℕ) → (walks_for w n t).qid ≡ w.qid
unfolding walks_for all_walked
for_ids w n zero = refl
for_ids w n (suc t) = refl

pub first_for : (w : Walks) (n t : ℕ) (key : Key) (nq j : ℕ) → j ≡ first_from w.qid key nq → j ≡ first_from (walks_for w n t).qid key nq
first_for w n t key nq j e = e ∙ ap (λ (f : ℕ → ℕ). first_from f key nq) (sym (for_ids w n t))

for_none : (w : Walks) (n t : ℕ) → t ≡ 0 → walks_for w n t ≡ w
unfolding walks_for
for_none w n zero e = refl
for_none w n (suc t) e = absurd (omega arith)

for_some : (w : Walks) (n t : ℕ) → (t ≡ 0 → ⊥) → walks_for w n t ≡ all_walked w n t
unfolding walks_for
for_some w n zero ne = absurd (ne refl)
for_some w n (suc t) ne = refl

module _ (key : Key) (size : ℕ) where
  -- nothing kept, nothing done
  pub partners_none : (w : Walks) (j k i : ℕ) (d : Draft) → ((x : ℕ) → w.kept j x ≡ false) → partners w key size j k i d ≡ d
  unfolding partners partner
  partners_none w j zero i d none = refl
  partners_none w j (suc k) i d none =
      ⊎_elim
      (λ (e : d.more ≡ true). ap (λ (t : Bool). cond t d (partners w key size j k (i + 1) (partner w key size j i d))) e)
      (λ (e : d.more ≡ false).
      ap (λ (t : Bool). cond t d (partners w key size j k (i + 1) (partner w key size j i d))) e
      ∙ ap (λ (t : Bool). partners w key size j k (i + 1) (cond t (with_tried size (w.pair j i) (tried w key j i) d) d)) (none i)
      ∙ partners_none w j k (i + 1) d none)
      (decide d.more)

  pub partners_same : (w v : Walks) (j : ℕ) → ((i : ℕ) (d : Draft) → partner w key size j i d ≡ partner v key size j i d) → (k i : ℕ) (d : Draft) → partners w key size j k i d ≡ partners v key size j k i d
  unfolding partners
  partners_same w v j e zero i d = refl
  partners_same w v j e (suc k) i d =
      ap (λ (x : Draft). cond d.more d (partners w key size j k (i + 1) x)) (e i d)
      ∙ ap (λ (x : Draft). cond d.more d x) (partners_same w v j e k (i + 1) (partner v key size j i d))

  module _ (w : Walks) (n t j : ℕ) (d : Draft) where
    -- the full list
    pub chamber_full : t ≡ 0 → (r : Draft) → r ≡ chamber w key size n j d → r ≡ chamber (walks_for w n t) key size n j d
    chamber_full z r e = e ∙ ap (λ (x : Walks). chamber x key size n j d) (sym (for_none w n t z))

    module _ (ne : t ≡ 0 → ⊥) (o : ℕ) (eo : o ≡ w.kept_opened j) (s : ℕ) (es : s ≡ ring_opened w n j) (c : ℕ) (ec : c ≡ found_for w n j) where
      -- what is left to do of the chamber
      chamber_left : partners (all_walked w n t) key size j n 0 (spent s (spent o d)) ≡ chamber (walks_for w n t) key size n j d
      unfolding chamber all_walked
      chamber_left =
          let e : d.opened + o + s ≡ d.opened + (w.kept_opened j + ring_opened w n j) = omega arith in
          ap (partners (all_walked w n t) key size j n 0) (λ x. record { pairs = d.pairs; count = d.count; more = d.more; opened = e x })
          ∙ ap (λ (x : Walks). chamber x key size n j d) (sym (for_some w n t ne))

      -- too few: nothing is shown
      chamber_few : c < t → spent s (spent o d) ≡ chamber (walks_for w n t) key size n j d
      unfolding all_walked
      chamber_few l = sym (partners_none (all_walked w n t) j n 0 (spent s (spent o d)) (λ i. nobody (w.kept j i && w.clear j i) (lt-leb t (found_for w n j) (omega arith)))) ∙ chamber_left
        where
          nobody : (a : Bool) {b : Bool} → b ≡ false → (a && b) ≡ false
          nobody true e = e
          nobody false e = refl

-- as the code has it: b words were lent, and they are a now
module _ (k : Terms) (P Q : List ℤ) (key : Key) (size n t j : ℕ) (d : Draft) (ne : t ≡ 0 → ⊥) (a b : ℕ) (el : a ≡ b) (o : ℕ) (eo : o ≡ (walks_by k b P Q).kept_opened j) (s : ℕ) (es : s ≡ ring_opened (walks_by k a P Q) n j) (c : ℕ) (ec : c ≡ found_for (walks_by k a P Q) n j) where
  eo' : o ≡ (walks_by k a P Q).kept_opened j
  eo' = eo ∙ ap (λ (l : ℕ). (walks_by k l P Q).kept_opened j) (sym el)

  as_lent : chamber (walks_for (walks_by k a P Q) n t) key size n j d ≡ chamber (walks_for (walks_by k b P Q) n t) key size n j d
  as_lent = ap (λ (l : ℕ). chamber (walks_for (walks_by k l P Q) n t) key size n j d) el

  -- too few: nothing is shown
  pub chamber_shut : c < t → spent s (spent o d) ≡ chamber (walks_for (walks_by k b P Q) n t) key size n j d
  chamber_shut l = chamber_few key size (walks_by k a P Q) n t j d ne o eo' s es c ec l ∙ as_lent

  -- enough: the pairs are those of the words
  module _ (l : t ≤ c) (ws : List ℕ) (is : (i : ℕ) → kept ws i ≡ ((walks_by k a P Q).kept j i && (walks_by k a P Q).clear j i)) where
    all : (x : Bool) {y : Bool} → y ≡ true → x ≡ (x && y)
    all true e = sym e
    all false e = refl

    words_same : (i : ℕ) (x : Draft) → partner (on_words (profile_for k) ws P Q) key size j i x ≡ partner (all_walked (walks_by k a P Q) n t) key size j i x
    unfolding all_walked partner tried
    words_same i x =
        ap (λ (y : Bool). cond y (with_tried size ((walks_by k a P Q).pair j i) (tried (on_words (profile_for k) ws P Q) key j i) x) x)
        (is i ∙ all ((walks_by k a P Q).kept j i && (walks_by k a P Q).clear j i) (le-leb t (found_for (walks_by k a P Q) n j) (omega arith)))

    pub chamber_shown : (r : Draft) → r ≡ partners (on_words (profile_for k) ws P Q) key size j n 0 (spent s (spent o d)) → r ≡ chamber (walks_for (walks_by k b P Q) n t) key size n j d
    chamber_shown r e =
        e
        ∙ partners_same key size (on_words (profile_for k) ws P Q) (all_walked (walks_by k a P Q) n t) j words_same n 0 (spent s (spent o d))
        ∙ chamber_left key size (walks_by k a P Q) n t j d ne o eo' s es c ec
        ∙ as_lent
