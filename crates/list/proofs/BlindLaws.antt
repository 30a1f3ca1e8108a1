-- What one contractor is handed does not depend on the ids of the other's chambers.
--
--     blind_list         two runs that differ in these ids alone give the contractor one list: with any t, of either profile
--     same_many          the chambers are as many in both; same_owners: and their bytes are refused in both or in neither
--     one_list          two lists that ascend and have the same pairs are one
-- Assumes nothing.
use mathlib.Core.Path.{◌≡◌, refl, sym, ap, ap₂, subst, ◌∙◌}
use mathlib.Core.Bool.{Bool, true, false, cond, not, ◌&&◌, ◌||◌}
use mathlib.Core.Logic.{inl, inr, ⊎_elim}
use mathlib.Core.List.Memᴰ
use mathlib.Core.List.{List, [], ◌∷◌, Memᴰ}
use Prim.Native.Nat.{ℕ, zero, suc, ◌+◌, ◌≤◌, ◌<◌}
use native.Mathlib.Omega.{arith}
use native.Mathlib.Nat.{le_antisymm}
use lib.Dec.{eqb, leb, ltb}
use lib.ListN.{length, get_or}
use borrow.Author.Tests.{eqb-true, eq-eqb}
use Rattle.integers.proofs.Bools.{decide, and_left, and_right, and_both, clash, test_iff}
use Rattle.words.specs.First.{given}
use Rattle.words.proofs.AllLaws.{all_at, all_make}
use Rattle.plane.specs.declared.Spot.{Spot}
use Rattle.plane.specs.Profile.{Profile}
use Rattle.plane.specs.Point.{Point, id_at, spot_at}
use Rattle.list.specs.declared.Key.{Key}
use Rattle.list.specs.declared.Pair.{Pair}
use Rattle.list.specs.declared.Terms.{Terms}
use Rattle.list.specs.Pairs.{start, key_of, follows, ascends}
use Rattle.list.specs.Pages.{owners_no}
use Rattle.list.specs.Rows.{row, at_least, Rising}
use Rattle.list.specs.RingList.{unblocked, ring_pair_by, pair_by}
use Rattle.list.specs.Contractor.{mine, one_each, Renamed}
use Rattle.list.specs.Terms.{profile_for, pair_for, listed_for, list_for}
use Rattle.list.proofs.Order.{asc_member, never}
use Rattle.list.proofs.TermsLaws.{for_ascends, for_iff, for_only}
use Rattle.list.proofs.ContractorLaws.{mine_is, is_mine, owned}

-- ---- two lists that ascend and have the same pairs are one

abbrev Has : List Pair → List Pair → Type 0
Has l l' = (v : Pair) → Memᴰ v l → Memᴰ v l'

pub one_list : (k : Key) (l l' : List Pair) → ascends k l ≡ true → ascends k l' ≡ true → Has l l' → Has l' l → l ≡ l'
unfolding ascends
one_list k [] [] a a' h h' = refl
one_list k [] (w ∷ l') a a' h h' = absurd (Memᴰ.not-nil (h' w (Memᴰ.head refl)))
one_list k (v ∷ l) [] a a' h h' = absurd (Memᴰ.not-nil (h v (Memᴰ.head refl)))
one_list k (v ∷ l) (w ∷ l') a a' h h' =
    let b = and_right (follows k (key_of v)) (ascends (key_of v) l) a in
    let b' = and_right (follows k (key_of w)) (ascends (key_of w) l') a' in
    let e : v ≡ w = front b b' in
    let c' : ascends (key_of v) l' ≡ true = subst (λ (u : Pair). ascends (key_of u) l' ≡ true) (sym e) b' in
    ap₂ {A = Pair} {B = List Pair} (λ x y. x ∷ y) e
    (one_list (key_of v) l l' b c'
    (λ u m. later l l' w u (sym e) b m (h u (Memᴰ.tail m)))
    (λ u m. later l' l v u e b' m (h' u (Memᴰ.tail m))))
  where
    -- a pair of the rest is not the first
    later : (l l' : List Pair) (w u : Pair) → {v : Pair} → w ≡ v → ascends (key_of v) l ≡ true → Memᴰ u l → Memᴰ u (w ∷ l') → Memᴰ u l'
    later l l' w u {v} e b m n =
        ⊎_elim
        (λ (x : u ≡ w). clash (asc_member (key_of v) u l b m) (never (key_of u) (key_of v) (inl (ap key_of (x ∙ e)))))
        (λ (x : Memᴰ u l'). x)
        (Memᴰ.cases_cons n)

    front : ascends (key_of v) l ≡ true → ascends (key_of w) l' ≡ true → v ≡ w
    front b b' =
        ⊎_elim
        (λ (x : v ≡ w). x)
        (λ (x : Memᴰ v l').
        ⊎_elim
        (λ (y : w ≡ v). sym y)
        (λ (y : Memᴰ w l). clash (asc_member (key_of w) v l' b' x) (never (key_of v) (key_of w) (inr (asc_member (key_of v) w l b y))))
        (Memᴰ.cases_cons (h' w (Memᴰ.head refl))))
        (Memᴰ.cases_cons (h v (Memᴰ.head refl)))

-- ---- rows of one length

row_length : (rule rule' : ℕ → ℕ → Bool) (pair pair' : ℕ → ℕ → Pair) (j j' : ℕ) → ((i : ℕ) → rule j i ≡ rule' j' i) → (k i : ℕ) → length (row rule pair j k i) ≡ length (row rule' pair' j' k i)
unfolding row
row_length rule rule' pair pair' j j' h zero i = refl
row_length rule rule' pair pair' j j' h (suc k) i = go (rule j i) (rule' j' i) (h i) (row_length rule rule' pair pair' j j' h k (i + 1))
  where
    go : (s t : Bool) → s ≡ t → length (row rule pair j k (i + 1)) ≡ length (row rule' pair' j' k (i + 1))
        → length (cond s (pair j i ∷ row rule pair j k (i + 1)) (row rule pair j k (i + 1))) ≡ length (cond t (pair' j' i ∷ row rule' pair' j' k (i + 1)) (row rule' pair' j' k (i + 1)))
    go true true e f = ap suc f
    go true false e f = clash refl e
    go false true e f = clash e refl
    go false false e f = f

-- ---- a map that takes no two numbers to one goes to no fewer

-- what goes to m goes where n went
abbrev instead : (ℕ → ℕ) → ℕ → ℕ → ℕ → ℕ
instead f n m j = cond (eqb (f j) m) (f n) (f j)

fewer : (n m : ℕ) (f : ℕ → ℕ) → ((j : ℕ) → j < n → f j < m) → ((j k : ℕ) → j < n → k < n → f j ≡ f k → j ≡ k) → n ≤ m
fewer zero m f into one = omega arith
fewer (suc n) zero f into one = absurd (omega (arith, into 0 (omega arith)))
fewer (suc n) (suc m) f into one = omega (arith, fewer n m (instead f n m) g_in g_one)
  where
    apart : (j : ℕ) → j < n → f j ≡ f n → ⊥
    apart j h e = omega (arith, one j n (omega arith) (omega arith) e)

    yes : (j : ℕ) → eqb (f j) m ≡ true → (f j ≡ m) × (instead f n m j ≡ f n)
    yes j e = (eqb-true (f j) m e, ap (λ (b : Bool). cond b (f n) (f j)) e)

    no : (j : ℕ) → eqb (f j) m ≡ false → (f j ≡ m → ⊥) × (instead f n m j ≡ f j)
    no j e = (λ x. clash (eq-eqb (f j) m x) e, ap (λ (b : Bool). cond b (f n) (f j)) e)

    g_in : (j : ℕ) → j < n → instead f n m j < m
    g_in j h =
        ⊎_elim
        (λ (e : eqb (f j) m ≡ true).
        let x = yes j e in
        let ne : f n ≡ m → ⊥ = λ z. apart j h (x.0 ∙ sym z) in
        omega (arith, x.1, into n (omega arith), ne))
        (λ (e : eqb (f j) m ≡ false). let x = no j e in omega (arith, x.0, x.1, into j (omega arith)))
        (decide (eqb (f j) m))

    g_one : (j k : ℕ) → j < n → k < n → instead f n m j ≡ instead f n m k → j ≡ k
    g_one j k hj hk e =
        ⊎_elim
        (λ (a : eqb (f j) m ≡ true).
        ⊎_elim
        (λ (b : eqb (f k) m ≡ true). one j k (omega arith) (omega arith) ((yes j a).0 ∙ sym (yes k b).0))
        (λ (b : eqb (f k) m ≡ false). absurd (apart k hk (sym (no k b).1 ∙ sym e ∙ (yes j a).1)))
        (decide (eqb (f k) m)))
        (λ (a : eqb (f j) m ≡ false).
        ⊎_elim
        (λ (b : eqb (f k) m ≡ true). absurd (apart j hj (sym (no j a).1 ∙ e ∙ (yes k b).1)))
        (λ (b : eqb (f k) m ≡ false). one j k (omega arith) (omega arith) (sym (no j a).1 ∙ e ∙ (no k b).1))
        (decide (eqb (f k) m)))
        (decide (eqb (f j) m))

-- ---- one run and the other

module _ (c : ℕ) (Q : List Point) (o : List ℕ) (Q' : List Point) (o' : List ℕ) (r : Renamed c Q o Q' o') where
  -- where a record of the second run stands
  place_back : (k : ℕ) → k < length Q' → spot_at Q' k ≡ spot_at Q (r.back k)
  place_back k h = ap (spot_at Q') (sym (r.to_back k h)) ∙ r.place (r.back k) (r.back_in k h)

  owner_back : (k : ℕ) → k < length Q' → get_or o' k 2 ≡ get_or o (r.back k) 2
  owner_back k h = ap (λ (j : ℕ). get_or o' j 2) (sym (r.to_back k h)) ∙ r.owner (r.back k) (r.back_in k h)

  -- the same, from the second run to the first
  turned : Renamed c Q' o' Q o
  turned =
      record {
        to = r.back;
        back = r.to;
        to_in = r.back_in;
        back_in = r.to_in;
        to_back = r.back_to;
        back_to = r.to_back;
        place = λ j h. sym (place_back j h);
        owner = λ j h. sym (owner_back j h);
        own_id = λ j h e. sym (r.own_id (r.back j) (r.back_in j h) (sym (owner_back j h) ∙ e)) ∙ ap (id_at Q') (r.to_back j h);
        as_many = sym r.as_many;
      }

  -- the chambers are as many
  pub same_many : length Q ≡ length Q'
  same_many =
      le_antisymm
      (fewer (length Q) (length Q') r.to r.to_in (λ j k hj hk e. sym (r.back_to j hj) ∙ ap r.back e ∙ r.back_to k hk))
      (fewer (length Q') (length Q) r.back r.back_in (λ j k hj hk e. sym (r.to_back j hj) ∙ ap r.to e ∙ r.to_back k hk))

  same_each : one_each o (length Q) ≡ one_each o' (length Q')
  unfolding one_each
  same_each =
      ap₂ (λ (x y : Bool). x && y) (ap₂ eqb r.as_many same_many)
      (test_iff _ _
      (λ e. all_make (owned o') (length Q') (λ k h. ap (λ (b : ℕ). leb b 1) (owner_back k h) ∙ all_at (owned o) (length Q) e (r.back k) (r.back_in k h)))
      (λ e. all_make (owned o) (length Q) (λ k h. ap (λ (b : ℕ). leb b 1) (sym (r.owner k h)) ∙ all_at (owned o') (length Q') e (r.to k) (r.to_in k h))))

  -- and their bytes are refused in both runs or in neither
  pub same_owners : owners_no c o (length Q) ≡ owners_no c o' (length Q')
  unfolding owners_no
  same_owners = ap₂ (λ (n : ℕ) (x : Bool). given (not (cond (eqb c 2) (eqb n 0) x)) 26) r.as_many same_each

  -- "all points still block for both": the same places block
  same_blocked : (f : Profile) (a b : Spot) → unblocked f Q a b ≡ unblocked f Q' a b
  unfolding unblocked
  same_blocked f a b =
      test_iff _ _
      (λ e. all_make _ (length Q') (λ k h. ap (λ (z : Spot). not (f.blocks a b z)) (place_back k h) ∙ all_at _ (length Q) e (r.back k) (r.back_in k h)))
      (λ e. all_make _ (length Q) (λ k h. ap (λ (z : Spot). not (f.blocks a b z)) (sym (r.place k h)) ∙ all_at _ (length Q') e (r.to k) (r.to_in k h)))

  module _ (a : Terms) (is : a.contractor ≡ c) (one : c < 2) (P : List Point) where
    same_ring : (j : ℕ) → j < length Q → (i : ℕ) → ring_pair_by (profile_for a) P Q j i ≡ ring_pair_by (profile_for a) P Q' (r.to j) i
    unfolding ring_pair_by
    same_ring j h i =
        ap (λ (u : Bool). u && unblocked (profile_for a) P (spot_at Q j) (spot_at P i)) (same_blocked (profile_for a) (spot_at Q j) (spot_at P i))
        ∙ ap (λ (z : Spot). unblocked (profile_for a) Q' z (spot_at P i) && unblocked (profile_for a) P z (spot_at P i)) (sym (r.place j h))

    -- a chamber of c's keeps its id too
    module _ (j : ℕ) (h : j < length Q) (own : get_or o j 2 ≡ c) where
      same_pair : (i : ℕ) → pair_for a P Q j i ≡ pair_for a P Q' (r.to j) i
      unfolding pair_for
      same_pair i = ap₂ (λ (id : ℕ) (u : Bool). (not a.own || ltb id (id_at P i)) && u) (sym (r.own_id j h own)) (same_ring j h i)

      same_listed : (i : ℕ) → at_least (pair_for a P Q) (pair_by (profile_for a) P Q) a.threshold (length P) j i ≡ at_least (pair_for a P Q') (pair_by (profile_for a) P Q') a.threshold (length P) (r.to j) i
      unfolding at_least
      same_listed i =
          ap₂ (λ (u : Bool) (n : ℕ). u && leb a.threshold n) (same_pair i)
          (row_length (pair_for a P Q) (pair_for a P Q') (pair_by (profile_for a) P Q) (pair_by (profile_for a) P Q') j (r.to j) same_pair (length P) 0)

    -- a pair of the first run's list is one of the second's
    over : Rising (id_at P) (length P) → Rising (id_at Q) (length Q) → Rising (id_at Q') (length Q') → Has (list_for a o P Q) (list_for a o' P Q')
    unfolding listed_for
    over rp rq rq' v m =
        let z = for_only a o P Q rp rq v m in
        let j = z.at_q in
        let i = z.at_p in
        let rule : ℕ → ℕ → Bool = at_least (pair_for a P Q) (pair_by (profile_for a) P Q) a.threshold (length P) in
        let rule' : ℕ → ℕ → Bool = at_least (pair_for a P Q') (pair_by (profile_for a) P Q') a.threshold (length P) in
        let own : get_or o j 2 ≡ c = mine_is c one o j (ap (λ (x : ℕ). mine x o j) (sym is) ∙ and_left (mine a.contractor o j) (rule j i) z.holds) in
        let own' : mine a.contractor o' (r.to j) ≡ true = ap (λ (x : ℕ). mine x o' (r.to j)) is ∙ is_mine c one o' (r.to j) (r.owner j z.q_in ∙ own) in
        let l : rule' (r.to j) i ≡ true = sym (same_listed j z.q_in own i) ∙ and_right (mine a.contractor o j) (rule j i) z.holds in
        let e : v ≡ pair_by (profile_for a) P Q' (r.to j) i = z.is ∙ (λ s. record { q = sym (r.own_id j z.q_in own) s; p = id_at P i; size = (profile_for a).size (sym (r.place j z.q_in) s) (spot_at P i) }) in
        subst (λ (u : Pair). Memᴰ u (list_for a o' P Q')) (sym e)
        ((for_iff a o' P Q' rp rq' (r.to j) i (r.to_in j z.q_in) z.p_in).1 (and_both (mine a.contractor o' (r.to j)) (rule' (r.to j) i) own' l))

-- "What one contractor is handed may not depend on the ids of the other's chambers": its list is the same in both runs, and so is each of its pages.
pub blind_list : (c : ℕ) (Q : List Point) (o : List ℕ) (Q' : List Point) (o' : List ℕ) → Renamed c Q o Q' o' → c < 2 → (a : Terms) → a.contractor ≡ c → (P : List Point)
    → Rising (id_at P) (length P) → Rising (id_at Q) (length Q) → Rising (id_at Q') (length Q') → list_for a o P Q ≡ list_for a o' P Q'
blind_list c Q o Q' o' r one a is P rp rq rq' =
    one_list start _ _
    (for_ascends a o P Q rp rq)
    (for_ascends a o' P Q' rp rq')
    (over c Q o Q' o' r a is one P rp rq rq')
    (over c Q' o' Q o (turned c Q o Q' o' r) a is one P rp rq' rq)
