-- What the page maker makes is the page of the list.
-- Assumes nothing.
use mathlib.Core.Path.{◌≡◌, refl, sym, ap, ◌∙◌}
use mathlib.Core.Bool.{Bool, true, false, cond, not, ◌&&◌}
use mathlib.Core.Logic.{⊎_elim}
use mathlib.Core.List.{List, [], ◌∷◌, ◌++◌, append-nil, append_assoc}
use Prim.Native.Nat.{ℕ, zero, suc, ◌+◌, ◌-◌, ◌≤◌, ◌<◌}
use native.Mathlib.Omega.{arith}
use native.Mathlib.Nat.{eq-or-lt_of_le}
use lib.ListN.{length, take, set, replicate, length-append}
use lib.Seq.{take_at, take_all, set_at}
use lib.Dec.{ltb}
use borrow.Author.Tests.{ltb-true, lt-ltb, le-ltb, not-false}
use Rattle.integers.proofs.Bools.{decide}
use Rattle.words.specs.All.{first_b}
use Rattle.words.proofs.AllLaws.{first_le, first_before}
use Rattle.list.specs.declared.Key.{Key}
use Rattle.list.specs.declared.Pair.{Pair}
use Rattle.list.specs.declared.Source.{Source}
use Rattle.list.specs.Pairs.{start, none, key_of, follows, after}
use Rattle.list.specs.Pages.{padded, shown, page_of}
use Rattle.list.specs.Rows.{row, rows, list_by, Rising, Named}
use Rattle.list.proofs.Order.{later, after_append}
use Rattle.list.proofs.PageLaws.{end_mark}
use Rattle.list.proofs.RowLaws.{ring_list_ascends}
use Rattle.join.specs.declared.Draft.{Draft}
use Rattle.join.specs.Walks.{Walks}
use Rattle.join.specs.Work.{first_from}
use Rattle.join.specs.Maker.{spent, found, with_tried, tried, partner, partners, chamber, chambers, blank, page_made, page_from}

-- a draft without its count
abbrev bare : Draft → Draft
bare d = record { pairs = d.pairs; count = d.count; more = d.more; opened = 0 }

-- a list of pairs found one by one, until one is beyond the size
feed : ℕ → List Pair → Draft → Draft
feed size [] d = d
feed size (v ∷ l) d = cond d.more d (feed size l (found size v d))

found_bare : (size : ℕ) (v : Pair) (d : Draft) → bare (found size v d) ≡ found size v (bare d)
unfolding found
found_bare size v d =
    ⊎_elim (λ (e : ltb d.count size ≡ true). rw e) (λ (e : ltb d.count size ≡ false). rw e) (decide (ltb d.count size))

feed_more : (size : ℕ) (l : List Pair) (d : Draft) → d.more ≡ true → feed size l d ≡ d
unfolding feed
feed_more size [] d e = refl
feed_more size (v ∷ l) d e = rw e

feed_append : (size : ℕ) (a b : List Pair) (d : Draft) → feed size (a ++ b) d ≡ feed size b (feed size a d)
unfolding feed
feed_append size [] b d = refl
feed_append size (v ∷ a) b d =
    ⊎_elim
    (λ (e : d.more ≡ true). ap (λ (t : Bool). cond t d (feed size (a ++ b) (found size v d))) e ∙ sym (feed_more size b d e) ∙ ap (λ (t : Bool). feed size b (cond t d (feed size a (found size v d)))) (sym e))
    (λ (e : d.more ≡ false).
    ap (λ (t : Bool). cond t d (feed size (a ++ b) (found size v d))) e
    ∙ feed_append size a b (found size v d)
    ∙ ap (λ (t : Bool). feed size b (cond t d (feed size a (found size v d)))) (sym e))
    (decide d.more)

-- ---- what is fed is the page

result : ℕ → List Pair → Draft
result size l = record { pairs = padded (take size l); count = length (take size l); more = ltb size (length l); opened = 0 }

filled : List Pair → Draft
filled l = record { pairs = padded l; count = length l; more = false; opened = 0 }

put_padded : (l : List Pair) (v : Pair) → length l < 16 → set (padded l) (length l) v ≡ padded (l ++ (v ∷ []))
unfolding padded
put_padded l v h =
    let e : 16 - length l ≡ suc (15 - length l) = omega arith in
    let f : 16 - length (l ++ (v ∷ [])) ≡ 15 - length l = omega (arith, length-append l (v ∷ [])) in
    ap (λ (n : ℕ). set (l ++ replicate n none) (length l) v) e
    ∙ set_at l none (replicate (15 - length l) none) v (length l) refl
    ∙ sym (append_assoc l (v ∷ []) (replicate (15 - length l) none))
    ∙ ap (λ (n : ℕ). (l ++ (v ∷ [])) ++ replicate n none) (sym f)

found_filled : (size : ℕ) (v : Pair) (l : List Pair) → length l < size → size ≤ 16 → found size v (filled l) ≡ filled (l ++ (v ∷ []))
unfolding found filled
found_filled size v l h g =
    let e : length l + 1 ≡ length (l ++ (v ∷ [])) = sym (length-append l (v ∷ [])) in
    ap (λ (t : Bool). cond t (record { pairs = set (padded l) (length l) v; count = length l + 1; more = false; opened = 0 }) (record { pairs = padded l; count = length l; more = true; opened = 0 })) (lt-ltb (length l) size h)
    ∙ (λ i. record { pairs = put_padded l v (omega arith) i; count = e i; more = false; opened = 0 })

-- nothing is left out of at most `size` pairs
kept_whole : (size : ℕ) (l : List Pair) → length l ≤ size → filled l ≡ result size l
unfolding filled result
kept_whole size l h =
    let e = take_all size l h in
    λ i. record { pairs = padded (sym e i); count = length (sym e i); more = sym (le-ltb size (length l) h) i; opened = 0 }

-- one pair more than `size`: it is not shown
found_beyond : (size : ℕ) (v : Pair) (m l : List Pair) → length l ≡ size → found size v (filled l) ≡ result size (l ++ (v ∷ m))
unfolding found filled result
found_beyond size v m l h =
    let e : take size (l ++ (v ∷ m)) ≡ l = take_at l (v ∷ m) size h in
    let f : ltb size (length (l ++ (v ∷ m))) ≡ true = lt-ltb size (length (l ++ (v ∷ m))) (omega (arith, length-append l (v ∷ m))) in
    ap (λ (t : Bool). cond t (record { pairs = set (padded l) (length l) v; count = length l + 1; more = false; opened = 0 }) (record { pairs = padded l; count = length l; more = true; opened = 0 })) (le-ltb (length l) size (omega arith))
    ∙ (λ i. record { pairs = padded (sym e i); count = length (sym e i); more = sym f i; opened = 0 })

beyond : (size : ℕ) (v : Pair) (m l : List Pair) → length l ≡ size → (result size (l ++ (v ∷ m))).more ≡ true
unfolding result
beyond size v m l h = lt-ltb size (length (l ++ (v ∷ m))) (omega (arith, length-append l (v ∷ m)))

-- from l shown already
feed_on : (size : ℕ) (m l : List Pair) → length l ≤ size → size ≤ 16 → feed size m (filled l) ≡ result size (l ++ m)
unfolding feed filled
feed_on size [] l h g = rw (append-nil l) (kept_whole size l h)
feed_on size (v ∷ m) l h g =
    ⊎_elim
    (λ (e : length l ≡ size). ap (feed size m) (found_beyond size v m l e) ∙ feed_more size m (result size (l ++ (v ∷ m))) (beyond size v m l e))
    (λ (e : length l < size).
    ap (feed size m) (found_filled size v l e g)
    ∙ feed_on size m (l ++ (v ∷ [])) (omega (arith, length-append l (v ∷ []))) g
    ∙ ap (result size) (append_assoc l (v ∷ []) m))
    (eq-or-lt_of_le h)

feed_page : (size : ℕ) (m : List Pair) → size ≤ 16 → feed size m blank ≡ result size m
unfolding filled padded
feed_page size m g = feed_on size m [] (omega arith) g

-- ---- the maker feeds what the rule lists after the key

-- what the walks must be: the rule holds exactly if the partner is kept and its ring walk is clear
abbrev pub Exact : Walks → (ℕ → ℕ → Bool) → ℕ → ℕ → Type 0
Exact w rule np nq = (j i : ℕ) → j < nq → i < np → rule j i ≡ (w.kept j i && w.clear j i)

rows_split : (rule : ℕ → ℕ → Bool) (pair : ℕ → ℕ → Pair) (n a b j : ℕ) → rows rule pair n (a + b) j ≡ rows rule pair n a j ++ rows rule pair n b (j + a)
unfolding rows
rows_split rule pair n zero b j = let e : j + 0 ≡ j = omega arith in let f : 0 + b ≡ b = omega arith in rw (e, f)
rows_split rule pair n (suc a) b j =
    let e : suc a + b ≡ suc (a + b) = omega arith in
    let f : j + suc a ≡ j + 1 + a = omega arith in
    rw (e, f) (ap (λ (l : List Pair). row rule pair j n 0 ++ l) (rows_split rule pair n a b (j + 1)) ∙ sym (append_assoc (row rule pair j n 0) (rows rule pair n a (j + 1)) (rows rule pair n b (j + 1 + a))))

module _ (w : Walks) (key : Key) (size : ℕ) (rule : ℕ → ℕ → Bool) (np nq : ℕ) (ex : Exact w rule np nq) (pid : ℕ → ℕ) (nm : Named w.pair w.qid pid) where
  partner_bare : (j i : ℕ) (d : Draft) → j < nq → i < np
      → bare (partner w key size j i d) ≡ cond (rule j i && follows key (key_of (w.pair j i))) (found size (w.pair j i) (bare d)) (bare d)
  unfolding partner with_tried tried
  partner_bare j i d a b =
      let v = w.pair j i in
      let c = ex j i a b in
      ⊎_elim
      (λ (k : w.kept j i ≡ true).
      ⊎_elim
      (λ (r : w.clear j i ≡ true).
      ⊎_elim
      (λ (f : follows key (key_of v) ≡ true). rw (c, k, r, f) (found_bare size v (spent (w.clear_opened j i) d)))
      (λ (f : follows key (key_of v) ≡ false). rw (c, k, r, f))
      (decide (follows key (key_of v))))
      (λ (r : w.clear j i ≡ false).
      ⊎_elim (λ (f : follows key (key_of v) ≡ true). rw (c, k, r, f)) (λ (f : follows key (key_of v) ≡ false). rw (c, k, r, f)) (decide (follows key (key_of v))))
      (decide (w.clear j i)))
      (λ (k : w.kept j i ≡ false). rw (c, k))
      (decide (w.kept j i))

  row_after : (j k i : ℕ)
      → after key (row rule w.pair j (suc k) i)
      ≡ cond (rule j i && follows key (key_of (w.pair j i))) (w.pair j i ∷ after key (row rule w.pair j k (i + 1))) (after key (row rule w.pair j k (i + 1)))
  unfolding row after
  row_after j k i = ⊎_elim (λ (r : rule j i ≡ true). rw r) (λ (r : rule j i ≡ false). rw r) (decide (rule j i))

  feed_cond : (t : Bool) (v : Pair) (l : List Pair) (d : Draft) → d.more ≡ false → feed size l (cond t (found size v d) d) ≡ feed size (cond t (v ∷ l) l) d
  unfolding feed
  feed_cond true v l d e = sym (ap (λ (t : Bool). cond t d (feed size l (found size v d))) e)
  feed_cond false v l d e = refl

  partners_feed : (j k i : ℕ) (d : Draft) → j < nq → i + k ≤ np → bare (partners w key size j k i d) ≡ feed size (after key (row rule w.pair j k i)) (bare d)
  unfolding partners
  partners_feed j zero i d a b = sym (nothing j i d)
    where
      nothing : (j i : ℕ) (d : Draft) → feed size (after key (row rule w.pair j zero i)) (bare d) ≡ bare d
      nothing j i d = unfold row after feed in refl
  partners_feed j (suc k) i d a b =
      ⊎_elim
      (λ (e : d.more ≡ true).
      ap (λ (t : Bool). bare (cond t d (partners w key size j k (i + 1) (partner w key size j i d)))) e
      ∙ sym (feed_more size (after key (row rule w.pair j (suc k) i)) (bare d) e))
      (λ (e : d.more ≡ false).
      ap (λ (t : Bool). bare (cond t d (partners w key size j k (i + 1) (partner w key size j i d)))) e
      ∙ partners_feed j k (i + 1) (partner w key size j i d) a (omega arith)
      ∙ ap (feed size (after key (row rule w.pair j k (i + 1)))) (partner_bare j i d a (omega arith))
      ∙ feed_cond (rule j i && follows key (key_of (w.pair j i))) (w.pair j i) (after key (row rule w.pair j k (i + 1))) (bare d) e
      ∙ ap (λ (l : List Pair). feed size l (bare d)) (sym (row_after j k i)))
      (decide d.more)

  chambers_feed : (k j : ℕ) (d : Draft) → j + k ≤ nq → bare (chambers w key size np k j d) ≡ feed size (after key (rows rule w.pair np k j)) (bare d)
  unfolding chambers chamber rows
  chambers_feed zero j d h = unfold after feed in refl
  chambers_feed (suc k) j d h =
      let a = row rule w.pair j np 0 in
      let b = rows rule w.pair np k (j + 1) in
      ⊎_elim
      (λ (e : d.more ≡ true).
      ap (λ (t : Bool). bare (cond t d (chambers w key size np k (j + 1) (chamber w key size np j d)))) e ∙ sym (feed_more size (after key (a ++ b)) (bare d) e))
      (λ (e : d.more ≡ false).
      ap (λ (t : Bool). bare (cond t d (chambers w key size np k (j + 1) (chamber w key size np j d)))) e
      ∙ chambers_feed k (j + 1) (chamber w key size np j d) (omega arith)
      ∙ ap (feed size (after key b)) (partners_feed j np 0 (spent (w.kept_opened j) d) (omega arith) (omega arith))
      ∙ sym (feed_append size (after key a) (after key b) (bare d))
      ∙ ap (λ (l : List Pair). feed size l (bare d)) (sym (after_append key a b)))
      (decide d.more)

  -- no pair of a q below the key's follows the key
  row_before : (j k i : ℕ) → w.qid j < key.q → after key (row rule w.pair j k i) ≡ []
  unfolding row after
  row_before j zero i h = refl
  row_before j (suc k) i h =
      let v = w.pair j i in
      let z : follows key (key_of v) ≡ false =
      ⊎_elim
      (λ (e : follows key (key_of v) ≡ true).
      absurd (⊎_elim (λ (x : key.q < v.q). omega (arith, nm.q_is j i)) (λ (x : (key.q ≡ v.q) × (key.p < v.p)). omega (arith, x.0, nm.q_is j i)) (later key (key_of v) e)))
      (λ (e : follows key (key_of v) ≡ false). e)
      (decide (follows key (key_of v))) in
      ⊎_elim
      (λ (r : rule j i ≡ true). rw (r, z) (row_before j k (i + 1) h))
      (λ (r : rule j i ≡ false). rw r (row_before j k (i + 1) h))
      (decide (rule j i))

  rows_before : (k j : ℕ) → ((t : ℕ) → j ≤ t → t < j + k → w.qid t < key.q) → after key (rows rule w.pair np k j) ≡ []
  unfolding rows
  rows_before zero j f = unfold after in refl
  rows_before (suc k) j f =
      after_append key (row rule w.pair j np 0) (rows rule w.pair np k (j + 1))
      ∙ ap (λ (l : List Pair). l ++ after key (rows rule w.pair np k (j + 1))) (row_before j np 0 (f j (omega arith) (omega arith)))
      ∙ rows_before k (j + 1) (λ t a b. f t (omega arith) (omega arith))

  -- .. so the q's before the first whose id is not below the key's add nothing
  from_after : after key (list_by rule w.pair np nq) ≡ after key (rows rule w.pair np (nq - first_from w.qid key nq) (first_from w.qid key nq))
  unfolding list_by first_from
  from_after =
      let test : ℕ → Bool = λ j. not (ltb (w.qid j) key.q) in
      let from = first_b nq test in
      let e : nq ≡ from + (nq - from) = omega (arith, first_le test nq) in
      let f : 0 + from ≡ from = omega arith in
      let a = rows rule w.pair np from 0 in
      let b = rows rule w.pair np (nq - from) from in
      let low : (t : ℕ) → t < from → w.qid t < key.q = λ t h. ltb-true (w.qid t) key.q (not-false (ltb (w.qid t) key.q) (first_before test nq t h)) in
      ap (λ (n : ℕ). after key (rows rule w.pair np n 0)) e
      ∙ ap (after key) (rows_split rule w.pair np from (nq - from) 0 ∙ ap (λ (n : ℕ). a ++ rows rule w.pair np (nq - from) n) f)
      ∙ after_append key a b
      ∙ ap (λ (l : List Pair). l ++ after key b) (rows_before from 0 (λ t x y. low t (omega arith)))

  -- the maker's pairs, number and end mark are those of the list's page
  pub maker_page : (s : Source) → Rising w.qid nq → Rising pid np → size ≤ 16
      → page_from s key (page_made w key size np nq) ≡ page_of s (list_by rule w.pair np nq) key size
  unfolding page_made page_from page_of result
  maker_page s rq rp g =
      let l = list_by rule w.pair np nq in
      let from = first_from w.qid key nq in
      let few : from + (nq - from) ≤ nq = omega (arith, from_most) in
      let z : bare (chambers w key size np (nq - from) from blank) ≡ result size (after key l) = chambers_feed (nq - from) from blank few ∙ feed_page size (after key (rows rule w.pair np (nq - from) from)) g ∙ ap (result size) (sym from_after) in
      let m = end_mark start key s l size (ring_list_ascends rule w.pair w.qid pid nm nq np rq rp) in
      let u : take size (after key l) ≡ shown l key size = unfold shown in refl in
      let e : not (ltb size (length (after key l))) ≡ (page_of s l key size).end = sym m in
      (λ t. record { source = s; key = key; count = (z t).count; end = not (z t).more; pairs = (z t).pairs })
      ∙ (λ t. record { source = s; key = key; count = length (u t); end = e t; pairs = padded (u t) })
    where
      from_most : first_from w.qid key nq ≤ nq
      from_most = unfold first_from in first_le (λ j. not (ltb (w.qid j) key.q)) nq
