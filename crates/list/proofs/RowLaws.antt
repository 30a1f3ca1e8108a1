-- The list that a rule makes: it ascends, and holds a pair exactly if the rule holds of its positions. And so the ring pairs' list.
-- Assumes nothing.
use mathlib.Core.Path.{◌≡◌, refl, sym, ap, ap₂, ◌∙◌}
use mathlib.Core.Bool.{Bool, true, false, cond}
use mathlib.Core.Logic.{◌↔◌, ⊎_elim}
use mathlib.Core.List.Memᴰ
use mathlib.Core.List.{List, ◌∷◌, ◌++◌, Memᴰ}
use Prim.Native.Nat.{ℕ, zero, suc, ◌+◌, ◌≤◌, ◌<◌}
use native.Mathlib.Omega.{arith}
use native.Mathlib.Numerals.{add-one}
use native.Mathlib.Nat.{eq-or-lt_of_le, le_antisymm}
use lib.Dec.{ltb}
use borrow.Author.Tests.{ltb-true, ltb-false, le-leb}
use lib.ListN.{length, get_or}
use Rattle.integers.proofs.Bools.{decide, and_both}
use Rattle.words.specs.Range.{last_id, id_ok}
use Rattle.words.proofs.RangeLaws.{id_make, id_bounds}
use Rattle.plane.specs.declared.Spot.{Spot}
use Rattle.plane.specs.Profile.{Profile, circle, profile_of, size_ok}
use Rattle.plane.proofs.ProfileLaws.{profile_lawful}
use Rattle.plane.specs.Point.{Point, id_at, spot_at}
use Rattle.list.specs.declared.Key.{Key}
use Rattle.list.specs.declared.Pair.{Pair}
use Rattle.list.specs.Pairs.{start, none, key_of, follows, ascends, last_or}
use Rattle.list.specs.Rows.{row, rows, list_by, Rising, Named}
use Rattle.list.specs.RingList.{ring_pair_by, pair_by, ring_list_by, Sound, Reached}
use Rattle.list.proofs.Order.{by_q, by_p, asc_append, once}

-- ids of later positions are greater
pub rises_far : (id : ℕ → ℕ) (n : ℕ) → Rising id n → (i j : ℕ) → i < j → j < n → id i < id j
rises_far id n r i zero h g = absurd (omega arith)
rises_far id n r i (suc j) h g =
    let s : id j < id (suc j) = rw add-one at (r.rises j (omega arith)) in
    ⊎_elim
    (λ (e : i ≡ j). rw e s)
    (λ (x : i < j). omega (arith, rises_far id n r i j x (omega arith)))
    (eq-or-lt_of_le {n = i} {m = j} (omega arith))

-- a position is known by its id
pub by_id : (id : ℕ → ℕ) (n : ℕ) → Rising id n → (i j : ℕ) → i < n → j < n → id i ≡ id j → i ≡ j
by_id id n r i j a b e =
    ⊎_elim
    (λ (x : ltb i j ≡ true). let z = rises_far id n r i j (ltb-true i j x) b in absurd (omega arith))
    (λ (x : ltb i j ≡ false).
    ⊎_elim
    (λ (y : ltb j i ≡ true). let z = rises_far id n r j i (ltb-true j i y) a in absurd (omega arith))
    (λ (y : ltb j i ≡ false). le_antisymm (ltb-false j i y) (ltb-false i j x))
    (decide (ltb j i)))
    (decide (ltb i j))

-- a pair that the rule makes, with its positions
pub record Placed (rule : ℕ → ℕ → Bool) (pair : ℕ → ℕ → Pair) (np nq : ℕ) (v : Pair) : Type 0 where
  pub at_q : ℕ
  pub at_p : ℕ
  pub q_in : at_q < nq
  pub p_in : at_p < np
  pub holds : rule at_q at_p ≡ true
  pub is : v ≡ pair at_q at_p

-- ---- what rows hold, whatever the ids

module _ (rule : ℕ → ℕ → Bool) (pair : ℕ → ℕ → Pair) (nq np : ℕ) where
  row_placed : (j k i : ℕ) (v : Pair) → j < nq → i + k ≤ np → Memᴰ v (row rule pair j k i) → Placed rule pair np nq v
  unfolding row
  row_placed j zero i v a h m = absurd (Memᴰ.not-nil m)
  row_placed j (suc k) i v a h m = go (row_placed j k (i + 1) v a (omega arith)) (rule j i) refl m
    where
      go : (Memᴰ v (row rule pair j k (i + 1)) → Placed rule pair np nq v) → (b : Bool) → rule j i ≡ b
          → Memᴰ v (cond b (pair j i ∷ row rule pair j k (i + 1)) (row rule pair j k (i + 1))) → Placed rule pair np nq v
      go ih true e n =
          ⊎_elim
          (λ (x : v ≡ pair j i). record { at_q = j; at_p = i; q_in = a; p_in = omega arith; holds = e; is = x })
          (λ x. ih x)
          (Memᴰ.cases_cons n)
      go ih false e n = ih n

  -- every pair of the rows is one that the rule makes
  pub rows_placed : (k j : ℕ) (v : Pair) → j + k ≤ nq → Memᴰ v (rows rule pair np k j) → Placed rule pair np nq v
  unfolding rows
  rows_placed zero j v h m = absurd (Memᴰ.not-nil m)
  rows_placed (suc k) j v h m =
      ⊎_elim
      (λ x. row_placed j np 0 v (omega arith) (omega arith) x)
      (λ x. rows_placed k (j + 1) v (omega arith) x)
      (Memᴰ.append_cases (row rule pair j np 0) m)

  placed_row : (j k i u : ℕ) → i ≤ u → u < i + k → rule j u ≡ true → Memᴰ (pair j u) (row rule pair j k i)
  unfolding row
  placed_row j zero i u a b e = absurd (omega arith)
  placed_row j (suc k) i u a b e =
      ⊎_elim
      (λ (x : i ≡ u). rw (x, e) (Memᴰ.head refl))
      (λ (x : i < u).
      let m = placed_row j k (i + 1) u (omega arith) (omega arith) e in
      ⊎_elim (λ (f : rule j i ≡ true). rw f (Memᴰ.tail m)) (λ (f : rule j i ≡ false). rw f m) (decide (rule j i)))
      (eq-or-lt_of_le a)

  -- and each of those is there
  pub placed_rows : (k j t u : ℕ) → j ≤ t → t < j + k → u < np → rule t u ≡ true → Memᴰ (pair t u) (rows rule pair np k j)
  unfolding rows
  placed_rows zero j t u a b c e = absurd (omega arith)
  placed_rows (suc k) j t u a b c e =
      ⊎_elim
      (λ (x : j ≡ t). rw x (Memᴰ.append_left (rows rule pair np k (t + 1)) (placed_row t np 0 u (omega arith) (omega arith) e)))
      (λ (x : j < t). Memᴰ.append_right (row rule pair j np 0) (placed_rows k (j + 1) t u (omega arith) (omega arith) c e))
      (eq-or-lt_of_le a)

-- ---- rules that agree make one list

pub row_same : (a b : ℕ → ℕ → Bool) (pair : ℕ → ℕ → Pair) (j k i : ℕ) → ((x : ℕ) → i ≤ x → x < i + k → a j x ≡ b j x) → row a pair j k i ≡ row b pair j k i
unfolding row
row_same a b pair j zero i e = refl
row_same a b pair j (suc k) i e = rw (e i (omega arith) (omega arith), row_same a b pair j k (i + 1) (λ x h g. e x (omega arith) (omega arith)))

rows_same : (a b : ℕ → ℕ → Bool) (pair : ℕ → ℕ → Pair) (n k j : ℕ) → ((y x : ℕ) → j ≤ y → y < j + k → x < n → a y x ≡ b y x) → rows a pair n k j ≡ rows b pair n k j
unfolding rows
rows_same a b pair n zero j e = refl
rows_same a b pair n (suc k) j e =
    ap₂ (λ (x y : List Pair). x ++ y) (row_same a b pair j n 0 (λ x h g. e j x (omega arith) (omega arith) (omega arith))) (rows_same a b pair n k (j + 1) (λ y x h g l. e y x (omega arith) (omega arith) l))

pub list_same : (a b : ℕ → ℕ → Bool) (pair : ℕ → ℕ → Pair) (np nq : ℕ) → ((j i : ℕ) → j < nq → i < np → a j i ≡ b j i) → list_by a pair np nq ≡ list_by b pair np nq
unfolding list_by
list_same a b pair np nq e = rows_same a b pair np nq 0 (λ y x h g l. e y x (omega arith) l)

-- ---- rows by ids that rise

module _ (rule : ℕ → ℕ → Bool) (pair : ℕ → ℕ → Pair) (qid pid : ℕ → ℕ) (nm : Named pair qid pid) (nq np : ℕ) (rq : Rising qid nq) (rp : Rising pid np) where
  row_asc : (j k i : ℕ) (key : Key) → i + k ≤ np → ((u : ℕ) → i ≤ u → u < np → follows key (key_of (pair j u)) ≡ true) → ascends key (row rule pair j k i) ≡ true
  unfolding row ascends
  row_asc j zero i key h f = refl
  row_asc j (suc k) i key h f =
      ⊎_elim
      (λ (e : rule j i ≡ true).
      rw e
      (and_both (follows key (key_of (pair j i))) (ascends (key_of (pair j i)) (row rule pair j k (i + 1))) (f i (omega arith) (omega arith))
      (row_asc j k (i + 1) (key_of (pair j i)) (omega arith) (λ u a b. by_p (key_of (pair j i)) (key_of (pair j u)) (nm.q_is j i ∙ sym (nm.q_is j u)) (omega (arith, nm.p_is j i, nm.p_is j u, rises_far pid np rp i u (omega arith) b))))))
      (λ (e : rule j i ≡ false). rw e (row_asc j k (i + 1) key (omega arith) (λ u a b. f u (omega arith) b)))
      (decide (rule j i))

  row_last : (j k i : ℕ) (key : Key) → key.q ≤ qid j → (last_or key (row rule pair j k i)).q ≤ qid j
  unfolding row last_or
  row_last j zero i key h = h
  row_last j (suc k) i key h =
      ⊎_elim
      (λ (e : rule j i ≡ true). rw e (row_last j k (i + 1) (key_of (pair j i)) (omega (arith, nm.q_is j i))))
      (λ (e : rule j i ≡ false). rw e (row_last j k (i + 1) key h))
      (decide (rule j i))

  rows_asc : (k j : ℕ) (key : Key) → j + k ≤ nq → ((u : ℕ) → j ≤ u → u < nq → key.q < qid u) → ascends key (rows rule pair np k j) ≡ true
  unfolding rows ascends
  rows_asc zero j key h f = refl
  rows_asc (suc k) j key h f =
      let s = f j (omega arith) (omega arith) in
      asc_append key (row rule pair j np 0) (rows rule pair np k (j + 1))
      (row_asc j np 0 key (omega arith) (λ u a b. by_q key (key_of (pair j u)) (omega (arith, nm.q_is j u))))
      (rows_asc k (j + 1) (last_or key (row rule pair j np 0)) (omega arith)
      (λ u a b. omega (arith, row_last j np 0 key (omega arith), rises_far qid nq rq j u (omega arith) b)))

  -- the list ascends strictly in (q id, p id)
  pub ring_list_ascends : ascends start (list_by rule pair np nq) ≡ true
  unfolding list_by
  ring_list_ascends = rows_asc nq 0 start (omega arith) (λ u a b. rq.low u b)

  -- every pair of the list is one that the rule makes
  pub listed_holds : (v : Pair) → Memᴰ v (list_by rule pair np nq) → Placed rule pair np nq v
  unfolding list_by
  listed_holds v m = rows_placed rule pair nq np nq 0 v (omega arith) m

  -- a pair of ids stands in the list exactly if the rule makes it one
  pub listed_iff : (j i : ℕ) → j < nq → i < np → Memᴰ (pair j i) (list_by rule pair np nq) ↔ (rule j i ≡ true)
  unfolding list_by
  listed_iff j i a b = (
    λ m.
        let z = listed_holds (pair j i) m in
        let e : j ≡ z.at_q = by_id qid nq rq j z.at_q a z.q_in (sym (nm.q_is j i) ∙ ap (λ (v : Pair). v.q) z.is ∙ nm.q_is z.at_q z.at_p) in
        let f : i ≡ z.at_p = by_id pid np rp i z.at_p b z.p_in (sym (nm.p_is j i) ∙ ap (λ (v : Pair). v.p) z.is ∙ nm.p_is z.at_q z.at_p) in
        ap₂ rule e f ∙ z.holds,
    λ e. placed_rows rule pair nq np nq 0 j i (omega arith) (omega arith) b e,
  )

-- ---- the list of the ring pairs

pub named : (f : Profile) (P Q : List Point) → Named (pair_by f P Q) (id_at Q) (id_at P)
named f P Q = record { q_is = λ j i. refl; p_is = λ j i. refl }

-- a pair that has the ids of two records and the size of their places is the pair of their positions
pub pair_made : (f : Profile) (P Q : List Point) (j i a b d : ℕ) (y z : Spot) → a ≡ id_at Q j → b ≡ id_at P i → y ≡ spot_at Q j → z ≡ spot_at P i → d ≡ f.size y z → ◌≡◌ {A = Pair} (record { q = a; p = b; size = d }) (pair_by f P Q j i)
pair_made f P Q j i a b d y z ea eb ey ez ed = λ t. record { q = ea t; p = eb t; size = (ed ∙ ap₂ f.size ey ez) t }

pub id_in : (id : ℕ → ℕ) (n : ℕ) → Rising id n → (i : ℕ) → i < n → id_ok (id i) ≡ true
id_in id n r i h = id_make (id i) (r.low i h) (r.high i h)

-- ---- the list of any rule on two sets of points

module _ (f : Profile) (rule : ℕ → ℕ → Bool) (P Q : List Point) (rp : Rising (id_at P) (length P)) (rq : Rising (id_at Q) (length Q)) where
  -- the list
  abbrev pub Made : List Pair
  Made = list_by rule (pair_by f P Q) (length P) (length Q)

  -- it runs by q id, then p id
  pub made_ascends : ascends start Made ≡ true
  made_ascends = ring_list_ascends _ _ (id_at Q) (id_at P) (named f P Q) _ _ rq rp

  -- it holds a chamber and a pump house, by ids, exactly if the rule makes them a pair ..
  pub made_iff : (j i : ℕ) → j < length Q → i < length P → Memᴰ (pair_by f P Q j i) Made ↔ (rule j i ≡ true)
  made_iff j i a b = listed_iff _ _ (id_at Q) (id_at P) (named f P Q) _ _ rq rp j i a b

  -- .. it holds nothing else ..
  pub made_only : (v : Pair) → Memᴰ v Made → Placed rule (pair_by f P Q) (length P) (length Q) v
  made_only v m = listed_holds _ _ (id_at Q) (id_at P) (named f P Q) _ _ rq rp v m

  -- .. the ids of each pair are in range, and so is its key ..
  pub made_ids : (v : Pair) → Memᴰ v Made → (id_ok v.q ≡ true) × (id_ok v.p ≡ true)
  made_ids v m =
      let z = made_only v m in
      rw z.is (id_in (id_at Q) (length Q) rq z.at_q z.q_in, id_in (id_at P) (length P) rp z.at_p z.p_in)

  pub made_keys : (v : Pair) → Memᴰ v Made → (v.q ≤ last_id) × (v.p ≤ last_id)
  made_keys v m = let z = made_ids v m in ((id_bounds v.q z.0).1, (id_bounds v.p z.1).1)

  -- .. and its size is that of the places of its two records
  pub made_size : (v : Pair) → Memᴰ v Made → (j i : ℕ) → j < length Q → i < length P → id_at Q j ≡ v.q → id_at P i ≡ v.p → v.size ≡ f.size (spot_at Q j) (spot_at P i)
  made_size v m j i a b e d =
      let z = made_only v m in
      let x : z.at_q ≡ j = by_id (id_at Q) (length Q) rq z.at_q j z.q_in a (sym (e ∙ ap (λ (u : Pair). u.q) z.is)) in
      let y : z.at_p ≡ i = by_id (id_at P) (length P) rp z.at_p i z.p_in b (sym (d ∙ ap (λ (u : Pair). u.p) z.is)) in
      ap (λ (u : Pair). u.size) z.is ∙ ap₂ (λ (s t : ℕ). f.size (spot_at Q s) (spot_at P t)) x y

-- of points in reach of the profile, the size of each pair is in range too
pub made_sizes : (g : Bool) (rule : ℕ → ℕ → Bool) (P Q : List Point) (rp : Rising (id_at P) (length P)) (rq : Rising (id_at Q) (length Q)) → Reached (profile_of g) P → Reached (profile_of g) Q → (v : Pair) → Memᴰ v (Made (profile_of g) rule P Q rp rq) → size_ok g v.size ≡ true
unfolding size_ok
made_sizes g rule P Q rp rq np nq v m =
    let z = made_only (profile_of g) rule P Q rp rq v m in
    rw z.is (le-leb ((profile_of g).size (spot_at Q z.at_q) (spot_at P z.at_p)) (profile_of g).most ((profile_lawful g).size_most (spot_at Q z.at_q) (spot_at P z.at_p) (nq.in_reach z.at_q z.q_in) (np.in_reach z.at_p z.p_in)))

-- sets of points as sheets hold them are in reach of the circle
pub sound_reached : (s : List Point) → Sound s → Reached circle s
sound_reached s h = record { in_reach = h.near }

-- ---- the ring pairs' list

module _ (f : Profile) (P Q : List Point) (rp : Rising (id_at P) (length P)) (rq : Rising (id_at Q) (length Q)) where
  pub ring_ascends : ascends start (ring_list_by f P Q) ≡ true
  unfolding ring_list_by
  ring_ascends = made_ascends f (ring_pair_by f P Q) P Q rp rq

  pub ring_iff : (j i : ℕ) → j < length Q → i < length P → Memᴰ (pair_by f P Q j i) (ring_list_by f P Q) ↔ (ring_pair_by f P Q j i ≡ true)
  unfolding ring_list_by
  ring_iff = made_iff f (ring_pair_by f P Q) P Q rp rq

  pub ring_only : (v : Pair) → Memᴰ v (ring_list_by f P Q) → Placed (ring_pair_by f P Q) (pair_by f P Q) (length P) (length Q) v
  unfolding ring_list_by
  ring_only = made_only f (ring_pair_by f P Q) P Q rp rq

  pub ring_keys : (v : Pair) → Memᴰ v (ring_list_by f P Q) → (v.q ≤ last_id) × (v.p ≤ last_id)
  unfolding ring_list_by
  ring_keys = made_keys f (ring_pair_by f P Q) P Q rp rq

  pub ring_size : (v : Pair) → Memᴰ v (ring_list_by f P Q) → (j i : ℕ) → j < length Q → i < length P → id_at Q j ≡ v.q → id_at P i ≡ v.p → v.size ≡ f.size (spot_at Q j) (spot_at P i)
  unfolding ring_list_by
  ring_size = made_size f (ring_pair_by f P Q) P Q rp rq

  -- each pair stands there once
  pub list_ring_once : (a b : ℕ) → a < b → b < length (ring_list_by f P Q) → get_or (ring_list_by f P Q) a none ≡ get_or (ring_list_by f P Q) b none → ⊥
  list_ring_once a b h g e = once start (ring_list_by f P Q) ring_ascends a b h g e
