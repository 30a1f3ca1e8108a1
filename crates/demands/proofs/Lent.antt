-- Request 9: "Kept bits move to a lent slice of at least as many 64-bit words as the points need, sixteen times as many for a leaf run; a filter walk leaves
-- its kept set there, any other call zeros, and none touches words past them." Of every call that is lent words, as specs/Lent names them, and in terms of
-- what it answered. None has a premise but the number of the answer.
--
--     filter_left      after a filter walk that is answered the first words are its kept set, bit for bit
--     words_zero       after any other call that is answered the first words are 0
--     words_past       words past those that are needed are as they were, answered or refused
--     words_refused    a refusal leaves every word as it was
-- What the kept set means is Demand2's and Nearest's.
-- Assumes nothing.
use mathlib.Core.Path.{◌≡◌, refl, sym, ap, ◌∙◌}
use mathlib.Core.List.{List, ◌++◌}
use Prim.Native.Nat.{ℕ, zero, suc, ◌+◌, ◌*◌, ◌/◌, ◌%◌, ◌≤◌, ◌<◌}
use native.Mathlib.Omega.{arith}
use lib.Dec.{eqb}
use lib.IntN.{ℤ}
use lib.ListN.{length, get_or, take, drop, replicate, length-replicate, get_or-append}
use lib.Seq.{take-append_seam, drop-append_seam}
use Rattle.words.proofs.FirstLaws.{none_applies}
use Rattle.sheet.specs.Layout.{points}
use Rattle.sheet.specs.Places.{spot_of}
use Rattle.sheet.proofs.SheetLaws.{sheet_facts}
use Rattle.bits.specs.Set.{digit, at, kept, card_in, wiped}
use Rattle.bits.proofs.LentLaws.{words_enough}
use Rattle.walk.proofs.Meaning.{kept_words}
use Rattle.outward.proofs.Meaning.{near_words}
use Rattle.ring.specs.declared.Filtered.{Filtered}
use Rattle.ring.specs.Lent.{need, wiped_by}
use Rattle.ring.specs.Numbers.{filter_no}
use Rattle.ring.specs.Answers.{kept_for}
use Rattle.ring.specs.Page.{page_bits}
use Rattle.ring.specs.Own.{own_bits}
use Rattle.ring.specs.Partners.{partners_bits}
use Rattle.ring.proofs.LentLaws.{wiped_refused, wiped_given}
use Rattle.ring.proofs.FilterLaws.{filter_given}
use Rattle.shortest.specs.Answer.{short_bits}
use Rattle.nearest.specs.Nearest.{stands_at, near_filter_no, near_kept_for}
use Rattle.nearest.proofs.Meaning.{near_filter_words_given}
use Rattle.runs.specs.Run.{run_need, run_bits}
use Rattle.ranked.specs.Busiest.{busy_bits, pump_bits}
use Rattle.ranked.specs.Urgent.{urgent_bits}
use Rattle.many.specs.Many.{pairs_bits, own_pairs_bits, count_bits, own_count_bits}
use Rattle.demands.specs.Promises.{FilterAnswers, NearFilterAnswers}
use Rattle.demands.specs.Lent.{Filters, filters_walk, filters_near, Works, works_page, works_own, works_partners, works_short, works_run, works_array, works_pairs, works_own_pairs, works_count, works_own_count, works_busy, works_pumps, works_urgent, Lends, lends_filter, lends_work}
use Rattle.demands.proofs.Alike.{run_array_lem}
use Rattle.demands.proofs.Demand1.{filter_no_lem, near_filter_no_lem, page_no_lem, own_no_lem, partners_no_lem, short_no_lem, run_no_lem, run_array_no, pairs_no_lem, own_pairs_no_lem, count_no_lem, own_count_no_lem, busy_no_lem, pump_no_lem, urgent_no_lem}

-- ---- words that start with a set of n, and go on as others did

module _ (set w w' : List ℕ) (n : ℕ) (long : length set ≡ n) (is : w' ≡ set ++ drop n w) where
  front_set : take n w' ≡ set
  front_set = (λ i. take (sym long i) (is i)) ∙ take-append_seam set (drop n w)

  front_rest : drop n w' ≡ drop n w
  front_rest = (λ i. drop (sym long i) (is i)) ∙ drop-append_seam set (drop n w)

  -- the bit of each position of the set
  pub front_at : (i : ℕ) → i < 64 * n → at w' i ≡ at set i
  unfolding at
  front_at i h =
      ap (λ (l : List ℕ). digit (get_or l (i / 64) 0) (i % 64)) is
      ∙ ap (λ (x : ℕ). digit x (i % 64)) (get_or-append set (drop n w) 0 (i / 64) (omega (arith, long)))

  pub front_kept : (i : ℕ) → i < 64 * n → kept w' i ≡ kept set i
  unfolding kept
  front_kept i h = ap (λ (b : ℕ). eqb b 1) (front_at i h)

  -- how many of f positions from i on are kept
  pub front_card : (f i : ℕ) → i + f ≤ 64 * n → card_in w' f i ≡ card_in set f i
  unfolding card_in
  front_card zero i h = refl
  front_card (suc f) i h = λ t. front_at i (omega arith) t + front_card f (i + 1) (omega arith) t

-- ---- a filter walk

-- what it leaves where it is answered: its kept set, as long as is needed, and past it the words as they were
pub walk_left : (P Q : List ℤ) (j : ℕ) (w : List ℕ) (r : Filtered) (w' : List ℕ) → FilterAnswers P Q j w r w' → r.number ≡ 0
    → (length (kept_for P Q j).bits ≡ need P) × (w' ≡ (kept_for P Q j).bits ++ drop (need P) w)
unfolding filter_no
walk_left P Q j w r w' a z =
    let set = (kept_for P Q j).bits in
    let no : filter_no P Q j (length w) ≡ 0 = sym (filter_no_lem P Q j w r w' a).0 ∙ z in
    let long : length set ≡ need P = kept_words (need P) P (spot_of Q j) (sheet_facts P ((none_applies _).0 no 0)) (words_enough (points P)) in
    (long, a.promised.1 ∙ sym (filter_given P Q j w no).1 ∙ ap (λ (n : ℕ). set ++ drop n w) long)

pub near_left : (P Q : List ℤ) (id : ℕ) (ws w : List ℕ) (r : Filtered) (ws' w' : List ℕ) → NearFilterAnswers P Q id ws w r ws' w' → r.number ≡ 0
    → (length (near_kept_for P Q id).bits ≡ need P) × (w' ≡ (near_kept_for P Q id).bits ++ drop (need P) w)
unfolding near_filter_no
near_left P Q id ws w r ws' w' a z =
    let no : near_filter_no P Q id (length w) (length ws) ≡ 0 = sym (near_filter_no_lem P Q id ws w r ws' w' a).0 ∙ z in
    let o = sheet_facts P ((none_applies _).0 no 0) in
    (near_words (need P) P (stands_at Q id) o (words_enough (points P)), a.promised.2 ∙ near_filter_words_given P Q id (length ws) w o no)

set_left : {P : List ℤ} {set : List ℕ} {k : ℕ} {w w' : List ℕ} → Filters P set k w w' → k ≡ 0 → (length set ≡ need P) × (w' ≡ set ++ drop (need P) w)
set_left (filters_walk P Q j w r w' a) z = walk_left P Q j w r w' a z
set_left (filters_near P Q id ws w r ws' w' a) z = near_left P Q id ws w r ws' w' a z

-- "a filter walk leaves its kept set there": word for word, so that of each of their positions the bit is set exactly where the set keeps it [Y9]
pub filter_left : {P : List ℤ} {set : List ℕ} {k : ℕ} {w w' : List ℕ} → Filters P set k w w' → k ≡ 0
    → (take (need P) w' ≡ set) × ((i : ℕ) → i < 64 * need P → kept w' i ≡ kept set i)
filter_left {P} {set} {k} {w} {w'} x z =
    let l = set_left x z in
    (front_set set w w' (need P) l.0 l.1, front_kept set w w' (need P) l.0 l.1)

filter_refuses : {P : List ℤ} {set : List ℕ} {k : ℕ} {w w' : List ℕ} → Filters P set k w w' → (k ≡ 0 → ⊥) → w' ≡ w
filter_refuses (filters_walk P Q j w r w' a) ne = let z = filter_no_lem P Q j w r w' a in (z.1 (λ e. ne (z.0 ∙ e))).1
filter_refuses (filters_near P Q id ws w r ws' w' a) ne = let z = near_filter_no_lem P Q id ws w r ws' w' a in (z.1 (λ e. ne (z.0 ∙ e))).2

-- ---- any other call

-- the words by its number
works_by : {n k : ℕ} {w w' : List ℕ} → Works n k w w' → w' ≡ wiped_by k n w
unfolding page_bits own_bits partners_bits short_bits run_bits pairs_bits own_pairs_bits count_bits own_count_bits busy_bits pump_bits urgent_bits
works_by (works_page P Q o ask w r w' a) = a.promised.1 ∙ ap (λ (m : ℕ). wiped_by m (need P) w) (sym (page_no_lem P Q o ask w r w' a).0)
works_by (works_own S key size g w r w' a) = a.promised.1 ∙ ap (λ (m : ℕ). wiped_by m (need S) w) (sym (own_no_lem S key size g w r w' a).0)
works_by (works_partners P Q id t w r w' a) = a.promised.1 ∙ ap (λ (m : ℕ). wiped_by m (need P) w) (sym (partners_no_lem P Q id t w r w' a).0)
works_by (works_short P Q k w r w' a) = a.promised.1 ∙ ap (λ (m : ℕ). wiped_by m (need P) w) (sym (short_no_lem P Q k w r w' a).0)
works_by (works_run P Q v slots w r slots' w' a) = a.2 ∙ ap (λ (m : ℕ). wiped_by m (run_need P) w) (sym (run_no_lem P Q v slots w r slots' w' a).0)
works_by (works_array P Q v slots len w r w' a) =
    (run_array_lem P Q v slots len w r w' a).2 ∙ ap (λ (m : ℕ). wiped_by m (run_need P) w) (sym (run_array_no P Q v slots len w r w' a).0)
works_by (works_pairs P Q o ask slots w r slots' w' a) = a.2 ∙ ap (λ (m : ℕ). wiped_by m (need P) w) (sym (pairs_no_lem P Q o ask slots w r slots' w' a).0)
works_by (works_own_pairs S key big g slots w r slots' w' a) = a.2 ∙ ap (λ (m : ℕ). wiped_by m (need S) w) (sym (own_pairs_no_lem S key big g slots w r slots' w' a).0)
works_by (works_count P Q o which w r w' a) = a.promised.1 ∙ ap (λ (m : ℕ). wiped_by m (need P) w) (sym (count_no_lem P Q o which w r w' a).0)
works_by (works_own_count S big g w r w' a) = a.promised.1 ∙ ap (λ (m : ℕ). wiped_by m (need S) w) (sym (own_count_no_lem S big g w r w' a).0)
works_by (works_busy P Q o ask w r w' a) = a.promised.1 ∙ ap (λ (m : ℕ). wiped_by m (need P) w) (sym (busy_no_lem P Q o ask w r w' a).0)
works_by (works_pumps P Q k big g w r w' a) = a.promised.1 ∙ ap (λ (m : ℕ). wiped_by m (need Q) w) (sym (pump_no_lem P Q k big g w r w' a).0)
works_by (works_urgent P Q o ps qs ask w r w' a) = a.promised.1 ∙ ap (λ (m : ℕ). wiped_by m (need P) w) (sym (urgent_no_lem P Q o ps qs ask w r w' a).0)

zeros_left : {n k : ℕ} {w w' : List ℕ} → Works n k w w' → k ≡ 0 → w' ≡ replicate n 0 ++ drop n w
unfolding wiped
zeros_left {n} {k} {w} x z = works_by x ∙ sym (wiped_given w n k z)

-- "any other call zeros" [Y10, MP12, BU11]
pub words_zero : {n k : ℕ} {w w' : List ℕ} → Works n k w w' → k ≡ 0 → take n w' ≡ replicate n 0
words_zero {n} {k} {w} {w'} x z = front_set (replicate n 0) w w' n (length-replicate n 0) (zeros_left x z)

-- ---- all of them

-- a refusal "leaves lent memory [..] as they stood" [Y11, MP12, MP15, BU11]
pub words_refused : {n k : ℕ} {w w' : List ℕ} → Lends n k w w' → (k ≡ 0 → ⊥) → w' ≡ w
words_refused (lends_filter x) ne = filter_refuses x ne
words_refused {n} {k} {w} (lends_work x) ne = works_by x ∙ sym (wiped_refused w n k k refl ne)

past_given : {n k : ℕ} {w w' : List ℕ} → Lends n k w w' → k ≡ 0 → drop n w' ≡ drop n w
past_given (lends_filter {P} {set} {k} {w} {w'} x) z = let l = set_left x z in front_rest set w w' (need P) l.0 l.1
past_given {n} {k} {w} {w'} (lends_work x) z = front_rest (replicate n 0) w w' n (length-replicate n 0) (zeros_left x z)

-- "and none touches words past them" [Y11, MP12, BU11]
pub words_past : {n k : ℕ} {w w' : List ℕ} → Lends n k w w' → drop n w' ≡ drop n w
words_past {n} {k} {w} {w'} x = go k refl
  where
    go : (m : ℕ) → k ≡ m → drop n w' ≡ drop n w
    go zero e = past_given x e
    go (suc m) e = ap (drop n) (words_refused x (λ z. omega (arith, e, z)))
