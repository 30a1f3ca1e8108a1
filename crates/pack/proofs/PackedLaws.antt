-- The words of a packed sheet, part by part; a list that is written word by word; and a node's side from the boxes already written.
-- Assumes nothing.
use mathlib.Core.Path.{◌≡◌, refl, sym, ap, subst, ◌∙◌}
use mathlib.Core.Bool.{true, false, ◌&&◌}
use mathlib.Core.Logic.{⊎_elim}
use mathlib.Core.List.{List, [], ◌∷◌, ◌++◌}
use Prim.Native.Nat.{ℕ, zero, suc, ◌+◌, ◌*◌, ◌-◌, ◌/◌, ◌%◌, ◌<◌, ◌≤◌}
use native.Mathlib.Omega.{arith}
use lib.Dec.{ltb, eqb}
use lib.IntN.{ℤ, pos}
use lib.ListN.{length, take, set, length-set}
use lib.Seq.{get_or-set_same, get_or-set_other, ext_get_or, length-take-le}
use borrow.Author.Tests.{lt-ltb, le-ltb, ltb-true, ltb-false, ne_eqb, eqb-true, eqb-false}
use Rattle.std.proofs.lemmas.List.{get_or_append_left, get_or-take, get_or-append_right}
use Rattle.integers.proofs.Bools.{and_both, decide}
use Rattle.words.specs.Word.{at, num, eq_z, is_below}
use Rattle.words.specs.All.{tab}
use Rattle.words.proofs.AllLaws.{all_make, below_suc}
use Rattle.words.proofs.TabLaws.{length_tab, at_tab}
use Rattle.sheet.specs.declared.Due.{Due}
use Rattle.sheet.specs.declared.Sides.{Sides}
use Rattle.sheet.specs.Layout.{root_word}
use Rattle.sheet.specs.Order.{order_word, rank_word, order_of, rank_of, place_ok, order_ok}
use Rattle.sheet.specs.Boxes.{best, side_of, coord_of, part_of, best_sides, Readable}
use Rattle.sheet.proofs.Permute.{same?}
use Rattle.sheet.proofs.BoxLaws.{best_cong}
use Rattle.pack.specs.Tree.{nodes_for, plan_of, plan_count}
use Rattle.pack.specs.Order.{place_in, order_list_ok}
use Rattle.pack.specs.Packed.{flat_word, coord_in, box_side, node_word, body_word, trailer_word, pack_word, sheet_size, packed}
use Rattle.pack.specs.Work.{Holds, node_read, head_words, sides_put}
use Rattle.pack.proofs.OrderLaws.{place_hit, pack_place_is, list_word, list_below, list_back, list_place}
use Rattle.pack.proofs.TableLaws.{Planned, num_of, plan_few, node_stood, count_range, plan_child, plan_leaf}

-- ---- the words, part by part

module _ (p o : List ℤ) (n : ℕ) where
  flat_is : (i : ℕ) → i < 5 * n → body_word p o n i ≡ flat_word p o n i
  unfolding body_word
  flat_is i h = rw (lt-ltb i (5 * n) h)

  pub point_word : (i : ℕ) → i < 3 * n → body_word p o n i ≡ at p i
  unfolding flat_word
  point_word i h = flat_is i (omega arith) ∙ rw (lt-ltb i (3 * n) h)

  pub order_word_lem : (i : ℕ) → i < n → body_word p o n (3 * n + i) ≡ at o i
  unfolding flat_word
  order_word_lem i h = flat_is (3 * n + i) (omega arith) ∙ rw (le-ltb (3 * n + i) (3 * n) (omega arith), lt-ltb (3 * n + i) (4 * n) (omega arith)) (ap (at o) z)
    where
      z : 3 * n + i - 3 * n ≡ i
      z = omega arith

  pub rank_word_lem : (i : ℕ) → i < n → body_word p o n (4 * n + i) ≡ pos (place_in o i n)
  unfolding flat_word
  rank_word_lem i h = flat_is (4 * n + i) (omega arith) ∙ rw (le-ltb (4 * n + i) (3 * n) (omega arith), le-ltb (4 * n + i) (4 * n) (omega arith)) (ap (λ (j : ℕ). pos (place_in o j n)) z)
    where
      z : 4 * n + i - 4 * n ≡ i
      z = omega arith

  pub node_word_lem : (j f : ℕ) → f < 7 → body_word p o n (5 * n + 7 * j + f) ≡ node_word p o n j f
  unfolding body_word
  node_word_lem j f h =
      rw (le-ltb (5 * n + 7 * j + f) (5 * n) (omega arith)) (ap (λ (a : ℕ). node_word p o n a ((5 * n + 7 * j + f - 5 * n) % 7)) y ∙ ap (node_word p o n j) z)
    where
      y : (5 * n + 7 * j + f - 5 * n) / 7 ≡ j
      y = omega arith

      z : (5 * n + 7 * j + f - 5 * n) % 7 ≡ f
      z = omega arith

  pub side_word : (j q : ℕ) → q < 4 → body_word p o n (5 * n + 7 * j + 3 + q) ≡ box_side p o n q (plan_of n j).level j
  unfolding node_word
  side_word j q h =
      ap (body_word p o n) y ∙ node_word_lem j (3 + q) (omega arith)
      ∙ rw (ne_eqb (3 + q) 0 (λ (x : 3 + q ≡ 0). omega arith), ne_eqb (3 + q) 1 (λ (x : 3 + q ≡ 1). omega arith), ne_eqb (3 + q) 2 (λ (x : 3 + q ≡ 2). omega arith))
      (ap (λ (a : ℕ). box_side p o n a (plan_of n j).level j) z)
    where
      y : 5 * n + 7 * j + 3 + q ≡ 5 * n + 7 * j + (3 + q)
      y = omega arith

      z : 3 + q - 3 ≡ q
      z = omega arith

  pub pack_body : (form ed i : ℕ) → i < 5 * n + 7 * nodes_for n → pack_word form p o n ed i ≡ body_word p o n i
  unfolding pack_word
  pack_body form ed i h = rw (lt-ltb i (5 * n + 7 * nodes_for n) h)

  pub pack_trail : (form ed i t : ℕ) → i ≡ 5 * n + 7 * nodes_for n + t → pack_word form p o n ed i ≡ trailer_word form n (nodes_for n) ed t
  unfolding pack_word
  pack_trail form ed i t e = rw (le-ltb i (5 * n + 7 * nodes_for n) (omega arith)) (ap (trailer_word form n (nodes_for n) ed) z)
    where
      z : i - (5 * n + 7 * nodes_for n) ≡ t
      z = omega arith

-- ---- a list that is written word by word

-- where the right word is put it is right, and what was right stays so
pub put_here : (w : List ℤ) (f : ℕ → ℤ) (i : ℕ) (v : ℤ) → i < length w → v ≡ f i → at (set w i v) i ≡ f i
put_here w f i v l e = get_or-set_same w i v (pos 0) l ∙ e

pub put_keeps : (w : List ℤ) (f : ℕ → ℤ) (i : ℕ) (v : ℤ) → i < length w → v ≡ f i → (k : ℕ) → at w k ≡ f k → at (set w i v) k ≡ f k
put_keeps w f i v l e k h =
    ⊎_elim
    (λ (z : k ≡ i). subst (λ (x : ℕ). at (set w i v) x ≡ f x) (sym z) (put_here w f i v l e))
    (λ (z : k ≡ i → ⊥). get_or-set_other w i k v (pos 0) z ∙ h)
    (same? k i)

pub holds_none : (w : List ℤ) (f : ℕ → ℤ) → Holds w f 0
holds_none w f = record { word = λ k h. absurd (omega arith) }

pub holds_more : (w : List ℤ) (f : ℕ → ℤ) (i : ℕ) (v : ℤ) → i < length w → v ≡ f i → Holds w f i → Holds (set w i v) f (i + 1)
holds_more w f i v l e h =
    record {
      word = λ k g. ⊎_elim
          (λ (z : k ≡ i). subst (λ (x : ℕ). at (set w i v) x ≡ f x) (sym z) (put_here w f i v l e))
          (λ (z : k < i). put_keeps w f i v l e k (h.word k z))
          (below_suc k i (omega arith));
    }

pub holds_fewer : (w : List ℤ) (f : ℕ → ℤ) (i j : ℕ) → j ≤ i → Holds w f i → Holds w f j
holds_fewer w f i j g h = record { word = λ k l. h.word k (omega arith) }

-- right words written in a row, behind what is right
pub holds_part : (w rest ys zs : List ℤ) (f : ℕ → ℤ) (a : ℕ) → ys ≡ zs → a ≤ length w → Holds w f a → ((i : ℕ) → i < length zs → at zs i ≡ f (a + i))
    → Holds (take a w ++ (ys ++ rest)) f (a + length zs)
holds_part w rest ys zs f a e l h g = rw e (record { word = λ i b. ⊎_elim (λ (t : ltb i a ≡ true). before i (ltb-true i a t)) (λ (t : ltb i a ≡ false). here i (ltb-false i a t) b) (decide (ltb i a)) })
  where
    front : length (take a w) ≡ a
    front = length-take-le a w l

    before : (i : ℕ) → i < a → at (take a w ++ (zs ++ rest)) i ≡ f i
    before i b = get_or_append_left (take a w) (zs ++ rest) (pos 0) i (omega (arith, front)) ∙ get_or-take a w i (pos 0) b ∙ h.word i b

    here : (i : ℕ) → a ≤ i → i < a + length zs → at (take a w ++ (zs ++ rest)) i ≡ f i
    here i c b =
        let z : a + (i - a) ≡ i = omega arith in
        get_or-append_right (take a w) (zs ++ rest) a i (pos 0) front c ∙ get_or_append_left zs rest (pos 0) (i - a) (omega arith) ∙ g (i - a) (omega arith) ∙ ap f z

-- a list written to its end
pub holds_all : (w : List ℤ) (f : ℕ → ℤ) (n : ℕ) → length w ≡ n → Holds w f n → w ≡ tab n f
holds_all w f n l h =
    ext_get_or (pos 0) w (tab n f) (l ∙ sym (length_tab n f)) (λ k g. let b : k < n = omega arith in h.word k b ∙ sym (at_tab n f (pos 0) k b))

-- ---- the packed sheet

module _ (form : ℕ) (p o : List ℤ) (n ed : ℕ) where
  pub packed_size : length (packed form p o n ed) ≡ 5 * n + 7 * nodes_for n + 6
  unfolding packed sheet_size
  packed_size = length_tab _ _

  packed_at : (i : ℕ) → i < 5 * n + 7 * nodes_for n + 6 → at (packed form p o n ed) i ≡ pack_word form p o n ed i
  unfolding packed sheet_size
  packed_at i h = at_tab _ _ (pos 0) i h

  pub packed_body : Holds (packed form p o n ed) (body_word p o n) (5 * n + 7 * nodes_for n)
  packed_body = record { word = λ k h. packed_at k (omega arith) ∙ pack_body p o n form ed k h }

  pub packed_trail : (i t : ℕ) → t < 6 → i ≡ 5 * n + 7 * nodes_for n + t → at (packed form p o n ed) i ≡ trailer_word form n (nodes_for n) ed t
  packed_trail i t h e = packed_at i (omega arith) ∙ pack_trail p o n form ed i t e

  pub packed_plan : Planned (packed form p o n ed) n
  unfolding node_word
  packed_plan =
      record {
        levels = λ j h. packed_body.word (5 * n + 7 * j) (omega arith) ∙ ap (body_word p o n) (z j) ∙ node_word_lem p o n j 0 (omega arith);
        firsts = λ j h. packed_body.word (5 * n + 7 * j + 1) (omega arith) ∙ node_word_lem p o n j 1 (omega arith);
        counts = λ j h. packed_body.word (5 * n + 7 * j + 2) (omega arith) ∙ node_word_lem p o n j 2 (omega arith);
      }
    where
      z : (j : ℕ) → 5 * n + 7 * j ≡ 5 * n + 7 * j + 0
      z j = omega arith

-- ---- the trailer, behind all else

pub root_low : (m : ℕ) → root_word m ≤ 7
unfolding root_word
root_low m = ⊎_elim (λ (e : eqb m 0 ≡ true). rw e (omega arith)) (λ (e : eqb m 0 ≡ false). rw e (omega arith)) (decide (eqb m 0))

pub sheet_size_lem : (n : ℕ) → sheet_size n ≡ 5 * n + 7 * nodes_for n + 6
unfolding sheet_size
sheet_size_lem n = refl

module _ (p o : List ℤ) (n : ℕ) where
  pub trail_start : (form ed : ℕ) (w : List ℤ) → Holds w (body_word p o n) (5 * n + 7 * nodes_for n) → Holds w (pack_word form p o n ed) (5 * n + 7 * nodes_for n + 0)
  trail_start form ed w h = record { word = λ k g. let b : k < 5 * n + 7 * nodes_for n = omega arith in h.word k b ∙ sym (pack_body p o n form ed k b) }

  pub trail_put : (form m ed : ℕ) (w rest ys : List ℤ) → m ≡ nodes_for n → length w ≡ sheet_size n → length (take (5 * n + 7 * m) w ++ (ys ++ rest)) ≡ length w
      → ys ≡ pos (5 * n + 7 * m) ∷ pos (root_word m) ∷ pos n ∷ pos m ∷ pos ed ∷ pos form ∷ [] → Holds w (body_word p o n) (5 * n + 7 * nodes_for n)
      → take (5 * n + 7 * m) w ++ (ys ++ rest) ≡ packed form p o n ed
  unfolding packed trailer_word
  trail_put form m ed w rest ys e l same d h =
      holds_all _ (pack_word form p o n ed) (sheet_size n) (same ∙ l)
      (holds_fewer _ _ (5 * n + 7 * m + 6) _ (omega (arith, sheet_size_lem n))
      (holds_part w rest ys _ (pack_word form p o n ed) (5 * n + 7 * m) d (omega (arith, sheet_size_lem n)) (holds_fewer _ _ _ _ (omega arith) (trail_start form ed w h)) word))
    where
      word : (t : ℕ) → t < 6 → at (pos (5 * n + 7 * m) ∷ pos (root_word m) ∷ pos n ∷ pos m ∷ pos ed ∷ pos form ∷ []) t ≡ pack_word form p o n ed (5 * n + 7 * m + t)
      word t b =
          told t b ∙ ap (λ (y : ℕ). trailer_word form n y ed t) e
          ∙ sym (pack_trail p o n form ed (5 * n + 7 * m + t) t (omega arith))
        where
          told : (t : ℕ) → t < 6 → at (pos (5 * n + 7 * m) ∷ pos (root_word m) ∷ pos n ∷ pos m ∷ pos ed ∷ pos form ∷ []) t ≡ trailer_word form n m ed t
          told zero b = refl
          told (suc zero) b = refl
          told (suc (suc zero)) b = refl
          told (suc (suc (suc zero))) b = refl
          told (suc (suc (suc (suc zero)))) b = refl
          told (suc (suc (suc (suc (suc zero))))) b = refl
          told (suc (suc (suc (suc (suc (suc t)))))) b = absurd (omega arith)

-- ---- points and order, each copied in one piece

pub points_put : (p o w rest ys : List ℤ) (n : ℕ) → ys ≡ take (3 * n) p → 3 * n ≤ length p → Holds (ys ++ rest) (body_word p o n) (3 * n)
points_put p o w rest ys n e l =
    let long = length-take-le (3 * n) p l in
    holds_fewer _ _ (0 + length (take (3 * n) p)) _ (omega (arith, long))
    (holds_part w rest ys _ (body_word p o n) 0 e (omega arith) (holds_none w _)
    (λ i b. let c : i < 3 * n = omega (arith, long) in let z : 0 + i ≡ i = omega arith in get_or-take (3 * n) p i (pos 0) c ∙ sym (ap (body_word p o n) z ∙ point_word p o n i c)))

pub order_put : (p o w rest ys : List ℤ) (n : ℕ) → ys ≡ take n o → n ≤ length o → 3 * n ≤ length w → Holds w (body_word p o n) (3 * n) → Holds (take (3 * n) w ++ (ys ++ rest)) (body_word p o n) (4 * n)
order_put p o w rest ys n e l m h =
    let long = length-take-le n o l in
    holds_fewer _ _ (3 * n + length (take n o)) _ (omega (arith, long))
    (holds_part w rest ys _ (body_word p o n) (3 * n) e m h
    (λ i b. let c : i < n = omega (arith, long) in get_or-take n o i (pos 0) c ∙ sym (order_word_lem p o n i c)))

-- ---- the ranks, put where each position stands in the order list

-- the ranks of the positions at the first k places are put
pub record Ranked (p o : List ℤ) (n size : ℕ) (w : List ℤ) (k : ℕ) : Type 0 where
  pub passed : k ≤ n
  pub size_is : length w ≡ size
  pub room : 5 * n ≤ size
  pub front : Holds w (body_word p o n) (4 * n)
  pub put : (j : ℕ) → j < k → at w (4 * n + num (at o j)) ≡ body_word p o n (4 * n + num (at o j))

pub ranked_start : (p o : List ℤ) (n : ℕ) (w : List ℤ) → 5 * n ≤ length w → Holds w (body_word p o n) (4 * n) → Ranked p o n (length w) w 0
ranked_start p o n w l h = record { passed = omega arith; size_is = refl; room = l; front = h; put = λ j g. absurd (omega arith) }

module _ (p o : List ℤ) (n size : ℕ) (w : List ℤ) (k : ℕ) (ok : order_list_ok o n ≡ true) (r : Ranked p o n size w k) where
  pub rank_room : k < n → 4 * n + num (at o k) < length w
  rank_room h = omega (arith, list_below o n ok k h, r.room, r.size_is)

  pub ranked_more : (v : ℤ) → k < n → v ≡ pos k → Ranked p o n size (set w (4 * n + num (at o k)) v) (k + 1)
  ranked_more v h e =
      let f = body_word p o n in
      let i = 4 * n + num (at o k) in
      let b = list_below o n ok k h in
      let l = rank_room h in
      let x : v ≡ f i = e ∙ sym (ap pos (list_back o n ok k h)) ∙ sym (rank_word_lem p o n (num (at o k)) b) in
      record {
        passed = omega arith;
        size_is = length-set w i v ∙ r.size_is;
        room = r.room;
        front = record { word = λ j g. put_keeps w f i v l x j (r.front.word j g) };
        put = λ j g. ⊎_elim
            (λ (z : j ≡ k). subst (λ (y : ℕ). at (set w i v) (4 * n + num (at o y)) ≡ f (4 * n + num (at o y))) (sym z) (put_here w f i v l x))
            (λ (z : j < k). put_keeps w f i v l x (4 * n + num (at o j)) (r.put j z))
            (below_suc j k (omega arith));
      }

  -- every position stands somewhere, so every rank is put
  pub ranked_done : n ≤ k → Holds w (body_word p o n) (5 * n)
  ranked_done h =
      record {
        word = λ j g. ⊎_elim
            (λ (x : ltb j (4 * n) ≡ true). r.front.word j (ltb-true j (4 * n) x))
            (λ (x : ltb j (4 * n) ≡ false).
            let u = ltb-false j (4 * n) x in
            let i = j - 4 * n in
            let b = list_place o n ok i (omega arith) in
            let z : 4 * n + num (at o (place_in o i n)) ≡ j = omega (arith, place_hit o i n b) in
            subst (λ (y : ℕ). at w y ≡ body_word p o n y) z (r.put (place_in o i n) (omega arith)))
            (decide (ltb j (4 * n)));
      }

-- ---- the order, once it is written

module _ (p o w : List ℤ) (n : ℕ) (h : Holds w (body_word p o n) (5 * n)) where
  order_same : (i : ℕ) → i < n → order_word w n i ≡ at o i
  order_same i g = h.word (3 * n + i) (omega arith) ∙ order_word_lem p o n i g

  rank_same : (i : ℕ) → i < n → rank_word w n i ≡ pos (place_in o i n)
  rank_same i g = h.word (4 * n + i) (omega arith) ∙ rank_word_lem p o n i g

  pub order_right : order_list_ok o n ≡ true → order_ok w n ≡ true
  unfolding order_ok place_ok rank_of is_below
  order_right ok =
      all_make (place_ok w n) n
      (λ i g.
      let r = list_place o n ok i g in
      and_both (is_below n (order_word w n i) && is_below n (rank_word w n i)) _
      (and_both (is_below n (order_word w n i)) (is_below n (rank_word w n i)) (ap (is_below n) (order_same i g) ∙ list_word o n ok i g) (ap (is_below n) (rank_same i g) ∙ lt-ltb (place_in o i n) n r))
      (ap (λ (j : ℕ). eq_z (order_word w n j) (pos i)) (num_of _ _ (rank_same i g)) ∙ ap (λ (z : ℤ). eq_z z (pos i)) (order_same (place_in o i n) r) ∙ pack_place_is o i n r))

-- ---- a node's box from what is written before it

module _ (p o w : List ℤ) (n j : ℕ) (ok : order_list_ok o n ≡ true) (h : Holds w (body_word p o n) (5 * n + 7 * j)) where
  order_read : (k : ℕ) → k < n → order_of w n k ≡ num (at o k)
  unfolding order_of
  order_read k g = ap num (h.word (3 * n + k) (omega arith) ∙ order_word_lem p o n k g)

  pub coord_read : (q k : ℕ) → k < n → coord_of w n q k ≡ coord_in p o q k
  unfolding coord_of coord_in
  coord_read q k g =
      let b = list_below o n ok k g in
      rw (order_read k g) (h.word (3 * num (at o k) + 1 + q % 2) (omega arith) ∙ point_word p o n (3 * num (at o k) + 1 + q % 2) (omega arith))

  pub side_read : (q k : ℕ) → q < 4 → k < j → side_of w n q k ≡ box_side p o n q (plan_of n k).level k
  unfolding side_of
  side_read q k g b = h.word (5 * n + 7 * k + 3 + q) (omega arith) ∙ side_word p o n k q g

  -- the packed sheet has the planned tree, and so its laws hold of the plan
  module _ (le : n ≤ 4294967296) (b : j < nodes_for n) where
    part_best : (q l : ℕ) → q < 4 → (plan_of n j).level ≡ l → best q (part_of w n (eqb l 0) q) (plan_of n j).next (plan_count (plan_of n j) - 1) ≡ box_side p o n q l j
    unfolding box_side part_of
    part_best q zero g e =
        let c = count_range (plan_of n j) (node_stood n j b).some in
        best_cong q _ _ _ _ (λ k x y. coord_read q k (plan_leaf (packed 1 p o n 0) n (packed_plan 1 p o n 0) le j b e k (omega arith)))
    part_best q (suc l) g e =
        let c = count_range (plan_of n j) (node_stood n j b).some in
        rw (ne_eqb (suc l) 0 (λ (z : suc l ≡ 0). omega arith))
        (best_cong q _ _ _ _
        (λ k x y.
        let d = plan_child (packed 1 p o n 0) n (packed_plan 1 p o n 0) le j l b e k x (omega arith) in
        side_read q k g d.1 ∙ ap (λ (i : ℕ). box_side p o n q i k) d.0))

    -- what is made from the words before node j is what belongs there
    pub read_is : (f : ℕ) → f < 7 → node_read w n (plan_of n j) f ≡ body_word p o n (5 * n + 7 * j + f)
    unfolding node_read node_word
    read_is f g =
        ⊎_elim
        (λ (e : ltb f 3 ≡ true). head f (ltb-true f 3 e) ∙ sym (node_word_lem p o n j f g))
        (λ (e : ltb f 3 ≡ false).
        let l = ltb-false f 3 e in
        rw (ne_eqb f 0 (λ (x : f ≡ 0). omega arith), ne_eqb f 1 (λ (x : f ≡ 1). omega arith), ne_eqb f 2 (λ (x : f ≡ 2). omega arith))
        (part_best (f - 3) (plan_of n j).level (omega arith) refl)
        ∙ sym (rw (ne_eqb f 0 (λ (x : f ≡ 0). omega arith), ne_eqb f 1 (λ (x : f ≡ 1). omega arith), ne_eqb f 2 (λ (x : f ≡ 2). omega arith)) at (node_word_lem p o n j f g)))
        (decide (ltb f 3))
      where
        head : (f : ℕ) → f < 3 → node_read w n (plan_of n j) f ≡ node_word p o n j f
        head zero l = refl
        head (suc zero) l = refl
        head (suc (suc zero)) l = refl
        head (suc (suc (suc f))) l = absurd (omega arith)

-- the words of node j, as they are made where all before it is written
read_at : (p o w : List ℤ) (n j : ℕ) → order_list_ok o n ≡ true → (d : Due) → d ≡ plan_of n j → n ≤ 60000 → j < nodes_for n → Holds w (body_word p o n) (5 * n + 7 * j)
    → (f : ℕ) → f < 7 → node_read w n d f ≡ body_word p o n (5 * n + 7 * j + f)
read_at p o w n j ok d s le b h f g = ap (λ (x : Due). node_read w n x f) s ∙ read_is p o w n j ok h (omega arith) b f g

-- what a planned leaf covers are places, and what any other node covers stands before it
pub leaf_reach : (n j : ℕ) (d : Due) → n ≤ 60000 → j < nodes_for n → d ≡ plan_of n j → d.level ≡ 0 → d.next + (plan_count d - 1) < n
leaf_reach n j d g h e =
    subst (λ (x : Due). x.level ≡ 0 → x.next + (plan_count x - 1) < n) (sym e)
    (λ l. plan_leaf (packed 1 [] [] n 0) n (packed_plan 1 [] [] n 0) (omega arith) j h l _ (omega (arith, count_range (plan_of n j) (node_stood n j h).some)))

pub child_reach : (n j : ℕ) (d : Due) → n ≤ 60000 → j < nodes_for n → d ≡ plan_of n j → (d.level ≡ 0 → ⊥) → d.next + (plan_count d - 1) < j
child_reach n j d g h e =
    subst (λ (x : Due). (x.level ≡ 0 → ⊥) → x.next + (plan_count x - 1) < j) (sym e) (reach (plan_of n j).level refl)
  where
    reach : (l : ℕ) → (plan_of n j).level ≡ l → ((plan_of n j).level ≡ 0 → ⊥) → (plan_of n j).next + (plan_count (plan_of n j) - 1) < j
    reach zero q u = absurd (u q)
    reach (suc l) q u =
        let c = count_range (plan_of n j) (node_stood n j h).some in
        (plan_child (packed 1 [] [] n 0) n (packed_plan 1 [] [] n 0) (omega arith) j l h q ((plan_of n j).next + (plan_count (plan_of n j) - 1)) (omega arith) (omega arith)).1

-- its first words are told by the plan
pub head_put : (p o w rest ys : List ℤ) (n j : ℕ) → order_list_ok o n ≡ true → (d : Due) → d ≡ plan_of n j → n ≤ 60000 → j < nodes_for n → 5 * n + 7 * j ≤ length w → ys ≡ head_words d
    → Holds w (body_word p o n) (5 * n + 7 * j) → Holds (take (5 * n + 7 * j) w ++ (ys ++ rest)) (body_word p o n) (5 * n + 7 * j + 3)
unfolding node_read
head_put p o w rest ys n j ok d s le b l e h = holds_part w rest ys _ (body_word p o n) (5 * n + 7 * j) e l h told
  where
    told : (i : ℕ) → i < 3 → at (head_words d) i ≡ body_word p o n (5 * n + 7 * j + i)
    told zero g = read_at p o w n j ok d s le b h 0 (omega arith)
    told (suc zero) g = read_at p o w n j ok d s le b h 1 (omega arith)
    told (suc (suc zero)) g = read_at p o w n j ok d s le b h 2 (omega arith)
    told (suc (suc (suc i))) g = absurd (omega arith)

-- so what it covers can be read, once the order is written
pub parts_reach : (w : List ℤ) (n j : ℕ) (d : Due) (c : ℕ) → n ≤ 60000 → j < nodes_for n → d ≡ plan_of n j → c ≡ plan_count d → order_ok w n ≡ true → 5 * n + 7 * nodes_for n ≤ length w → Readable w n (eqb d.level 0) (d.next + (c - 1))
parts_reach w n j d c g h e f o l =
    record {
      place = λ t. (omega arith, o, omega (arith, leaf_reach n j d g h e (eqb-true d.level 0 t)));
      node = λ t. let r = child_reach n j d g h e (eqb-false d.level 0 t) in (omega (arith, plan_few n), omega arith);
    }

-- the box of node j more
module _ (p o w : List ℤ) (n j : ℕ) (ok : order_list_ok o n ≡ true) (d : Due) (s : d ≡ plan_of n j) (le : n ≤ 60000) (b : j < nodes_for n) (l : 5 * n + 7 * (j + 1) ≤ length w) (h : Holds w (body_word p o n) (5 * n + 7 * j + 3)) where
  pub box_more : (x : Sides) (c : ℕ) → c ≡ plan_count d - 1 → x ≡ best_sides w n (eqb d.level 0) d.next c → Holds (sides_put w (5 * n + 7 * j + 3) x) (body_word p o n) (5 * n + 7 * (j + 1))
  unfolding sides_put node_read best_sides
  box_more x c e f =
      holds_fewer _ (body_word p o n) (5 * n + 7 * j + 3 + 4) _ (omega arith)
      (holds_part w _ _ (x.xmin ∷ x.ymin ∷ x.xmax ∷ x.ymax ∷ []) (body_word p o n) (5 * n + 7 * j + 3) refl (omega arith) h told)
    where
      best-is : x ≡ best_sides w n (eqb d.level 0) d.next (plan_count d - 1)
      best-is = f ∙ ap (best_sides w n (eqb d.level 0) d.next) e

      side_is : (q : ℕ) → q < 4 → node_read w n d (3 + q) ≡ body_word p o n (5 * n + 7 * j + 3 + q)
      side_is q g =
          let z : 5 * n + 7 * j + (3 + q) ≡ 5 * n + 7 * j + 3 + q = omega arith in
          read_at p o w n j ok d s le b (holds_fewer w (body_word p o n) _ (5 * n + 7 * j) (omega arith) h) (3 + q) (omega arith) ∙ ap (body_word p o n) z

      told : (i : ℕ) → i < 4 → at (x.xmin ∷ x.ymin ∷ x.xmax ∷ x.ymax ∷ []) i ≡ body_word p o n (5 * n + 7 * j + 3 + i)
      told zero g = ap (λ (y : Sides). y.xmin) best-is ∙ side_is 0 (omega arith)
      told (suc zero) g = ap (λ (y : Sides). y.ymin) best-is ∙ side_is 1 (omega arith)
      told (suc (suc zero)) g = ap (λ (y : Sides). y.xmax) best-is ∙ side_is 2 (omega arith)
      told (suc (suc (suc zero))) g = ap (λ (y : Sides). y.ymax) best-is ∙ side_is 3 (omega arith)
      told (suc (suc (suc (suc i)))) g = absurd (omega arith)
