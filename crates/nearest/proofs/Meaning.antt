-- What the answers of the calls mean, from their promises alone.
--
--     nearest_call_no, near_filter_call_no      the number is the first that applies
--     nearest_refused_lem, near_filter_refused, waited_refused, near_filter_words_refused      refused, all else is zero, and what was lent is as it was
--     near_filter_words_given      the filter's kept set stands in the first of the lent words
--     nearest_served, near_filter_served      sheets that open, the id of a chamber, a size from 1 to 16, enough numbers and enough words lent are served
--     nearest_chamber_is      the chamber with an id
--     nearest_count, nearest_at_lem, nearest_unused     the pump houses given are the first of the order in which the walk comes to them, which near's Meaning speaks of
--     near_pairs      a ring partner of the chamber is a kept position whose ring walk is clear, and no other
--     nearest_call_once, near_filter_call_once      one input, one answer, one final state
-- Assumes nothing.
use mathlib.Core.Path.{◌≡◌, refl, sym, ap, ◌∙◌}
use mathlib.Core.Bool.{◌&&◌}
use mathlib.Core.List.{List, [], ◌∷◌, ◌++◌, map}
use Prim.Native.Nat.{ℕ, zero, suc, min, ◌+◌, ◌-◌, ◌≤◌, ◌<◌}
use native.Mathlib.Omega.{arith}
use lib.IntN.{ℤ}
use lib.ListN.{length, get_or, take, drop, replicate, length-map, length-take, get_or-append}
use lib.Seq.{drop_at, get_or-take}
use borrow.Author.Tests.{eq-eqb, eqb-true, lt-ltb, le-ltb}
use Rattle.words.specs.First.{given}
use Rattle.words.proofs.FirstLaws.{first_passes, first_last, answer_given, answer_refused, answer_number}
use Rattle.words.specs.All.{first_b}
use Rattle.words.proofs.AllLaws.{first_in, first_hit}
use Rattle.plane.specs.declared.Spot.{Spot}
use Rattle.plane.specs.Point.{id_at}
use Rattle.sheet.specs.Layout.{points, nodes}
use Rattle.sheet.specs.Places.{spot_of, points_of}
use Rattle.sheet.specs.Open.{Opens}
use Rattle.sheet.proofs.PointsLaws.{length_points}
use Rattle.list.specs.RingList.{ring_pair}
use Rattle.list.proofs.RowLaws.{by_id}
use Rattle.join.proofs.Meaning.{points_rise}
use Rattle.bits.specs.Set.{kept, wiped}
use Rattle.bits.proofs.LentLaws.{words_enough}
use Rattle.walk.specs.RingWalk.{clear, pair_walk}
use Rattle.outward.specs.NearWalk.{near_order, near_kept}
use Rattle.outward.proofs.Meaning.{near_all, near_words, near_exact}
use Rattle.ring.specs.declared.Filtered.{Filtered}
use Rattle.ring.specs.Numbers.{sheets_no}
use Rattle.list.specs.Pages.{size_no}
use Rattle.list.proofs.PageLaws.{size_taken}
use Rattle.ring.specs.Lent.{need}
use Rattle.ring.specs.Answers.{filtered_to, unfiltered}
use Rattle.ring.proofs.LentLaws.{bits_enough, kept_refused, wiped_refused, kept_given, wiped_given}
use Rattle.ring.proofs.HeadLaws.{sheets_open}
use Rattle.nearest.specs.declared.Near.{Near}
use Rattle.nearest.specs.declared.Found.{Found}
use Rattle.nearest.specs.Nearest.{wait_no, chamber_no, nearest_no, near_filter_no, stands_at, no_point, near_at, sixteen, nearest_at, nearest_refused, nearest_answer, near_kept_for, near_filtered, near_filtered_bits, waited_by}
use Rattle.nearest.proofs.ChamberLaws.{chamber_front}
use Rattle.sheet.specs.Find.{position_of}
use Rattle.ring.specs.Partners.{id_no}
use Rattle.sheet.proofs.FindLaws.{has}

-- ---- by number

-- what was lent, by the number of the call
pub waited_refused : (k : ℕ) (P : List ℤ) (ws : List ℕ) → (k ≡ 0 → ⊥) → waited_by k P ws ≡ ws
unfolding waited_by
waited_refused k P ws ne = sym (wiped_refused ws (points P + nodes P) k k refl ne)

pub waited_given : (k : ℕ) (P : List ℤ) (ws : List ℕ) → k ≡ 0 → waited_by k P ws ≡ wiped (points P + nodes P) ws
unfolding waited_by
waited_given k P ws e = sym (wiped_given ws (points P + nodes P) k e)

module _ (P Q : List ℤ) (id k len : ℕ) where
  pub nearest_refused_lem : (i : ℕ) → nearest_no P Q id k len ≡ i → (i ≡ 0 → ⊥) → nearest_answer P Q id k len ≡ nearest_refused i
  unfolding nearest_answer
  nearest_refused_lem i e ne = answer_refused _ nearest_refused _ i e ne

  pub nearest_call_given : nearest_no P Q id k len ≡ 0 → nearest_answer P Q id k len ≡ nearest_at P (stands_at Q id) k
  unfolding nearest_answer
  nearest_call_given e = answer_given _ nearest_refused _ e

  pub nearest_call_no : (nearest_answer P Q id k len).number ≡ nearest_no P Q id k len
  unfolding nearest_answer nearest_at nearest_refused
  nearest_call_no = answer_number (nearest_at P (stands_at Q id) k) nearest_refused (λ r. r.number) refl (λ i. refl) (nearest_no P Q id k len)

module _ (P Q : List ℤ) (id bits len : ℕ) where
  pub near_filter_refused : (i : ℕ) → near_filter_no P Q id bits len ≡ i → (i ≡ 0 → ⊥) → near_filtered P Q id bits len ≡ unfiltered i
  unfolding near_filtered
  near_filter_refused i e ne = answer_refused _ unfiltered _ i e ne

  pub near_filter_call_given : near_filter_no P Q id bits len ≡ 0 → near_filtered P Q id bits len ≡ filtered_to (near_kept_for P Q id)
  unfolding near_filtered
  near_filter_call_given e = answer_given _ unfiltered _ e

  pub near_filter_call_no : (near_filtered P Q id bits len).number ≡ near_filter_no P Q id bits len
  unfolding near_filtered filtered_to unfiltered
  near_filter_call_no = answer_number (filtered_to (near_kept_for P Q id)) unfiltered (λ r. r.number) refl (λ i. refl) (near_filter_no P Q id bits len)

-- the lent words, by the number of the call: as they were, or the kept set in the first, as many as the points of P need
module _ (P Q : List ℤ) (id len : ℕ) (bs : List ℕ) where
  pub near_filter_words_refused : (near_filter_no P Q id (length bs) len ≡ 0 → ⊥) → near_filtered_bits P Q id len bs ≡ bs
  unfolding near_filtered_bits
  near_filter_words_refused ne = sym (kept_refused bs _ _ _ refl ne)

  pub near_filter_words_given : Opens P (points P) (nodes P) → near_filter_no P Q id (length bs) len ≡ 0 → near_filtered_bits P Q id len bs ≡ (near_kept_for P Q id).bits ++ drop (need P) bs
  unfolding near_filtered_bits
  near_filter_words_given o e =
      let set = (near_kept_for P Q id).bits in
      sym (kept_given bs set _ e) ∙ ap (λ (n : ℕ). set ++ drop n bs) (near_words (need P) P (stands_at Q id) o (words_enough (points P)))

-- ---- what is served

module _ (P Q : List ℤ) (id len : ℕ) (opens : sheets_no P Q ≡ 0) (j : ℕ) (j_in : j < points Q) (named : id_at (points_of Q) j ≡ id) (room : points P + nodes P ≤ len) where
  known : id_no (points_of Q) id ≡ 0
  unfolding id_no position_of given
  known = rw (lt-ltb (first_b (length (points_of Q)) (has Q id)) (length (points_of Q)) (first_in (has Q id) (length (points_of Q)) j (omega (arith, length_points Q)) (eq-eqb (id_at (points_of Q) j) id named)))

  enough : wait_no P len ≡ 0
  unfolding wait_no given
  enough = rw (le-ltb len (points P + nodes P) room)

  chamber : chamber_no P Q id ≡ 0
  unfolding chamber_no
  chamber = sheets_open P Q _ opens ∙ first_last _ ∙ known

  pub near_filter_served : (bits : ℕ) → need P ≤ bits → near_filter_no P Q id bits len ≡ 0
  unfolding near_filter_no
  near_filter_served bits most =
      chamber_front P Q id _ ∙ first_passes (chamber_no P Q id) _ chamber ∙ first_passes _ _ (bits_enough (need P) bits most) ∙ first_last _ ∙ enough

  pub nearest_served : (k : ℕ) → 1 ≤ k → k ≤ 16 → nearest_no P Q id k len ≡ 0
  unfolding nearest_no
  nearest_served k some most =
      chamber_front P Q id _ ∙ first_passes (chamber_no P Q id) _ chamber ∙ first_passes (size_no k) _ (size_taken k some most) ∙ first_last _ ∙ enough

-- ---- the chamber

-- ids ascend, so one chamber has the id
pub nearest_chamber_is : (Q : List ℤ) → Opens Q (points Q) (nodes Q) → (id j : ℕ) → j < points Q → id_at (points_of Q) j ≡ id → position_of (points_of Q) id ≡ j
unfolding position_of
nearest_chamber_is Q o id j h e =
    let n = length (points_of Q) in
    let j_in : j < n = omega (arith, length_points Q) in
    let low : first_b n (has Q id) < n = first_in (has Q id) n j j_in (eq-eqb (id_at (points_of Q) j) id e) in
    let hit : id_at (points_of Q) (first_b n (has Q id)) ≡ id = eqb-true _ id (first_hit (has Q id) n low) in
    by_id (id_at (points_of Q)) n (points_rise o) (first_b n (has Q id)) j low j_in (hit ∙ sym e)

pub stands_is : (Q : List ℤ) → Opens Q (points Q) (nodes Q) → (id j : ℕ) → j < points Q → id_at (points_of Q) j ≡ id → stands_at Q id ≡ spot_of Q j
unfolding stands_at
stands_is Q o id j h e = ap (spot_of Q) (nearest_chamber_is Q o id j h e)

-- ---- the pump houses

mapped : (f : ℕ → Near) (l : List ℕ) (a : ℕ) → a < length l → get_or (map f l) a no_point ≡ f (get_or l a 0)
mapped f [] a h = absurd (omega arith)
mapped f (x ∷ l) zero h = refl
mapped f (x ∷ l) (suc a) h = mapped f l a (omega arith)

module _ (P : List ℤ) (q : Spot) (k : ℕ) where
  pub nearest_count : Opens P (points P) (nodes P) → (nearest_at P q k).count ≡ min k (points P)
  unfolding nearest_at
  nearest_count o = length-take k (near_order P q) ∙ ap (min k) (near_all P q o)

  -- pump house a of the answer is the one at the position that stands there in the order of the walk
  pub nearest_at_lem : (a : ℕ) → a < (nearest_at P q k).count → get_or (nearest_at P q k).points a no_point ≡ near_at P q (get_or (near_order P q) a 0)
  unfolding nearest_at sixteen
  nearest_at_lem a h =
      let l = take k (near_order P q) in
      let b : a < length (map (near_at P q) l) = omega (arith, length-map l (near_at P q)) in
      let c : a < k = omega (arith, length-take k (near_order P q)) in
      get_or-append (map (near_at P q) l) (replicate (16 - length l) no_point) no_point a b ∙ mapped (near_at P q) l a h ∙ ap (near_at P q) (get_or-take k (near_order P q) a 0 c)

  -- the rest are zeros
  pub nearest_unused : drop (nearest_at P q k).count (nearest_at P q k).points ≡ replicate (16 - (nearest_at P q k).count) no_point
  unfolding nearest_at sixteen
  nearest_unused = drop_at (map (near_at P q) (take k (near_order P q))) _ (length (take k (near_order P q))) (length-map (take k (near_order P q)) (near_at P q))

-- ---- the filter

-- "Pairs made with its kept set equal the list": the kept set on as many words as the points of P need
pub near_pairs : (P Q : List ℤ) → Opens P (points P) (nodes P) → Opens Q (points Q) (nodes Q) → (j i : ℕ) → j < points Q → i < points P
    → ring_pair (points_of P) (points_of Q) j i ≡ (kept (near_kept (need P) P (spot_of Q j)).bits i && clear (pair_walk P Q j i).hit)
near_pairs P Q p_opens q_opens j i j_in i_in = near_exact (need P) P Q p_opens (words_enough (points P)) j i j_in i_in q_opens

-- ---- one input, one answer, one final state

pub nearest_call_once : (P Q : List ℤ) (id k : ℕ) (ws : List ℕ) (r r' : Found) (t t' : List ℕ)
    → (r ≡ nearest_answer P Q id k (length ws)) × (t ≡ waited_by (nearest_no P Q id k (length ws)) P ws) → (r' ≡ nearest_answer P Q id k (length ws)) × (t' ≡ waited_by (nearest_no P Q id k (length ws)) P ws)
    → (r ≡ r') × (t ≡ t')
nearest_call_once P Q id k ws r r' t t' a b = (a.0 ∙ sym b.0, a.1 ∙ sym b.1)

pub near_filter_call_once : (P Q : List ℤ) (id : ℕ) (ws bs : List ℕ) (r r' : Filtered) (t t' b b' : List ℕ)
    → (r ≡ near_filtered P Q id (length bs) (length ws)) × (t ≡ waited_by (near_filter_no P Q id (length bs) (length ws)) P ws) × (b ≡ near_filtered_bits P Q id (length ws) bs)
    → (r' ≡ near_filtered P Q id (length bs) (length ws)) × (t' ≡ waited_by (near_filter_no P Q id (length bs) (length ws)) P ws) × (b' ≡ near_filtered_bits P Q id (length ws) bs)
    → (r ≡ r') × (t ≡ t') × (b ≡ b')
near_filter_call_once P Q id ws bs r r' t t' b b' x y = (x.0 ∙ sym y.0, x.1 ∙ sym y.1, x.2 ∙ sym y.2)
