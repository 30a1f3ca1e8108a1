-- The answers of the calls, by their numbers; and the lent numbers and words after them.
-- Assumes nothing.
use mathlib.Core.Path.{◌≡◌, refl, sym, ap, ◌∙◌}
use mathlib.Core.List.{List, [], ◌∷◌, ◌++◌, map, append_assoc}
use Prim.Native.Nat.{ℕ, suc, ◌+◌, ◌-◌, ◌≤◌, ◌<◌}
use native.Mathlib.Omega.{arith}
use native.Mathlib.Numerals.{add-one}
use lib.IntN.{ℤ, pos}
use lib.ListN.{length, get_or, take, drop, set, replicate, length-map, length-take, get_or-append}
use lib.Seq.{take-suc, take_all, set_at, length-take-le, get_or-take}
use borrow.Author.Tests.{lt-ltb, le-ltb}
use Rattle.words.specs.First.{given, first}
use Rattle.words.proofs.FirstLaws.{first_passes, first_stops, first_last, answer_given, answer_refused}
use Rattle.plane.specs.declared.Spot.{Spot}
use Rattle.plane.specs.Rule.{size}
use Rattle.words.specs.Word.{num}
use Rattle.plane.specs.Point.{id_at}
use Rattle.sheet.specs.Layout.{points, nodes}
use Rattle.sheet.specs.Places.{spot_of, points_of}
use Rattle.sheet.specs.Open.{Opens}
use Rattle.sheet.proofs.SheetLaws.{by_counts}
use Rattle.bits.specs.Set.{words_for, wiped, Holds}
use Rattle.bits.proofs.LentLaws.{words_enough, lent_holds, part_long}
use Rattle.walk.specs.FilterWalk.{Kept}
use Rattle.outward.specs.NearWalk.{near_order, near_kept}
use Rattle.outward.specs.Room.{zero_filled}
use Rattle.outward.specs.Claims.{distance_to}
use Rattle.outward.proofs.OrderLaws.{order_small}
use Rattle.outward.proofs.Meaning.{near_words}
use Rattle.ring.specs.declared.Filtered.{Filtered}
use Rattle.list.specs.Pages.{size_no}
use Rattle.ring.specs.Lent.{need, bits_no}
use Rattle.ring.specs.Answers.{filtered_to, unfiltered}
use Rattle.ring.proofs.LentLaws.{bits_short, bits_enough, kept_refused, wiped_refused, kept_given, wiped_given}
use Rattle.nearest.specs.declared.Near.{Near}
use Rattle.nearest.specs.declared.Found.{Found}
use Rattle.nearest.specs.Nearest.{wait_no, Chamber, chamber_no, nearest_no, near_filter_no, stands_at, chamber_found, no_point, near_at, sixteen, nearest_at, nearest_refused, nearest_answer, near_kept_for, near_filtered, near_filtered_bits, waited_by}
use Rattle.nearest.proofs.ChamberLaws.{chamber_number, chamber_front, Placed, placed_facts}

-- ---- the pump houses, one by one

pub near_is : (P : List ℤ) (q : Spot) (i : ℕ) (z : Spot) (id d : ℕ) → z ≡ spot_of P i → id ≡ id_at (points_of P) i → pos d ≡ size q z → record { id = id; distance = d } ≡ near_at P q i
unfolding near_at distance_to num
near_is P q i z id d e f g =
    let h : d ≡ num (size q (spot_of P i)) = ap num g ∙ ap (λ (x : Spot). num (size q x)) e in
    λ t. record { id = f t; distance = h t }

-- the first k of them are listed
pub record Listing (f : ℕ → Near) (s : List ℕ) (found : List Near) (k : ℕ) : Type 0 where
  pub most : k ≤ length s
  pub is : found ≡ map f (take k s) ++ replicate (16 - k) no_point

module _ (f : ℕ → Near) (s : List ℕ) (few : length s ≤ 16) where
  pub listing_start : Listing f s (replicate 16 no_point) 0
  listing_start = record { most = omega arith; is = refl }

  map_more : (a : ℕ) (l : List ℕ) → map f (l ++ (a ∷ [])) ≡ map f l ++ (f a ∷ [])
  map_more a [] = refl
  map_more a (x ∷ l) = ap (λ (r : List Near). f x ∷ r) (map_more a l)

  pub listing_step : (found : List Near) (k : ℕ) (v : Near) → k < length s → v ≡ f (get_or s k 0) → Listing f s found k → Listing f s (set found k v) (k + 1)
  listing_step found k v h e x =
      let z : 16 - k ≡ suc (16 - (k + 1)) = omega arith in
      let here : length (map f (take k s)) ≡ k = length-map (take k s) f ∙ length-take-le k s (omega arith) in
      record {
        most = omega arith;
        is =
            ap (λ (l : List Near). set l k v) (x.is ∙ ap (λ (i : ℕ). map f (take k s) ++ replicate i no_point) z)
            ∙ set_at (map f (take k s)) no_point (replicate (16 - (k + 1)) no_point) v k here
            ∙ sym (append_assoc (map f (take k s)) (v ∷ []) (replicate (16 - (k + 1)) no_point))
            ∙ ap (λ (r : List Near). r ++ replicate (16 - (k + 1)) no_point)
            (ap (λ (a : Near). map f (take k s) ++ (a ∷ [])) e ∙ sym (map_more (get_or s k 0) (take k s)) ∙ ap (map f) (sym (take-suc s k 0 h) ∙ ap (λ (i : ℕ). take i s) (sym (add-one k))));
      }

  pub listing_end : (found : List Near) (k : ℕ) → length s ≤ k → Listing f s found k → found ≡ sixteen f s
  unfolding sixteen
  listing_end found k h x =
      let z : k ≡ length s = omega (arith, x.most) in
      x.is ∙ ap (λ (i : ℕ). map f (take i s) ++ replicate (16 - i) no_point) z ∙ ap (λ (l : List ℕ). map f l ++ replicate (16 - length s) no_point) (take_all (length s) s (omega arith))

-- what is read of the positions found
pub padded_at : (s at : List ℕ) (k : ℕ) → at ≡ zero_filled s → k < length s → get_or at k 0 ≡ get_or s k 0
unfolding zero_filled
padded_at s at k e h = ap (λ (l : List ℕ). get_or l k 0) e ∙ get_or-append s (replicate (16 - length s) 0) 0 k h

pub first_small : (w : List ℤ) (n m : ℕ) (q : Spot) → Opens w n m → (k i : ℕ) → i < length (take k (near_order w q)) → get_or (take k (near_order w q)) i 0 < n
first_small w n m q o k i h =
    let l = near_order w q in
    let a : i < k = omega (arith, length-take k l) in
    let b : i < length l = omega (arith, length-take k l) in
    rw (get_or-take k l i 0 a) (omega (arith, order_small w q (by_counts o) i b, o.n_is))

pub first_few : (w : List ℤ) (q : Spot) (k : ℕ) → k ≤ 16 → length (take k (near_order w q)) ≤ 16
first_few w q k h = omega (arith, length-take k (near_order w q))

pub nearest_found_is : (P : List ℤ) (q : Spot) (k c : ℕ) (l : List Near) → c ≡ length (take k (near_order P q)) → l ≡ sixteen (near_at P q) (take k (near_order P q)) → record { number = 0; count = c; points = l } ≡ nearest_at P q k
unfolding nearest_at
nearest_found_is P q k c l e f = λ t. record { number = 0; count = e t; points = f t }

-- ---- nearest

module _ (P Q : List ℤ) (id k : ℕ) (ws : List ℕ) where
  abbrev no : ℕ
  no = nearest_no P Q id k (length ws)

  abbrev Answered : Found → List ℕ → Type 0
  Answered r ws' = (r ≡ nearest_answer P Q id k (length ws)) × (ws' ≡ waited_by no P ws)

  nearest_refused_lem : (i : ℕ) → no ≡ i → (i ≡ 0 → ⊥) → (r : Found) → r ≡ nearest_refused i → Answered r ws
  unfolding nearest_answer waited_by
  nearest_refused_lem i e ne r f = (f ∙ sym (answer_refused _ nearest_refused _ i e ne), wiped_refused ws _ _ i e ne)

  module _ (c : Chamber) (e : c ≡ chamber_found P Q id) where
    pub nearest_chamber : (c.number ≡ 0 → ⊥) → (r : Found) → r ≡ nearest_refused c.number → Answered r ws
    unfolding nearest_no
    nearest_chamber ne r f =
        let n = chamber_number P Q id c e in
        nearest_refused_lem c.number (chamber_front P Q id _ ∙ first_stops (chamber_no P Q id) _ (λ x. ne (n ∙ x)) ∙ sym n) ne r f

    module _ (z : c.number ≡ 0) (j : ℕ) (g : j ≡ size_no k) where
      at : Placed P Q id c
      at = placed_facts P Q id c e z

      pub nearest_size : (j ≡ 0 → ⊥) → (r : Found) → r ≡ nearest_refused j → Answered r ws
      unfolding nearest_no
      nearest_size ne r f = nearest_refused_lem j (chamber_front P Q id _ ∙ first_passes (chamber_no P Q id) _ at.no ∙ first_stops (size_no k) _ (λ x. ne (g ∙ x)) ∙ sym g) ne r f

      module _ (y : j ≡ 0) where
        passes : no ≡ wait_no P (length ws)
        unfolding nearest_no
        passes = chamber_front P Q id _ ∙ first_passes (chamber_no P Q id) _ at.no ∙ first_passes (size_no k) _ (sym g ∙ y) ∙ first_last _

        pub nearest_room : length ws < c.n + c.m → (r : Found) → r ≡ nearest_refused 25 → Answered r ws
        unfolding wait_no given
        nearest_room h r f = nearest_refused_lem 25 (passes ∙ (rw (lt-ltb (length ws) (points P + nodes P) (omega (arith, at.n_is, at.m_is))))) (λ x. omega arith) r f

        pub nearest_call_given : c.n + c.m ≤ length ws → (r : Found) (q : Spot) (ws' : List ℕ) → q ≡ c.at → r ≡ nearest_at P q k → ws' ≡ wiped (c.n + c.m) ws → Answered r ws'
        unfolding wait_no given nearest_answer waited_by
        nearest_call_given h r q ws' i f d =
            let v : no ≡ 0 = passes ∙ (rw (le-ltb (length ws) (points P + nodes P) (omega (arith, at.n_is, at.m_is)))) in
            let s : c.n + c.m ≡ points P + nodes P = omega (arith, at.n_is, at.m_is) in
            (f ∙ ap (λ (x : Spot). nearest_at P x k) (i ∙ at.at_is) ∙ sym (answer_given _ nearest_refused _ v), d ∙ ap (λ (x : ℕ). wiped x ws) s ∙ wiped_given ws _ _ v)

-- ---- near_filter

module _ (P Q : List ℤ) (id : ℕ) (ws bs : List ℕ) where
  abbrev filter_no_lem : ℕ
  filter_no_lem = near_filter_no P Q id (length bs) (length ws)

  -- the answer, the lent numbers and the lent words after it
  abbrev Filters : Filtered → List ℕ → List ℕ → Type 0
  Filters r ws' bs' = (r ≡ near_filtered P Q id (length bs) (length ws)) × (ws' ≡ waited_by filter_no_lem P ws) × (bs' ≡ near_filtered_bits P Q id (length ws) bs)

  stops : (i : ℕ) → filter_no_lem ≡ i → (i ≡ 0 → ⊥) → (r : Filtered) → r ≡ unfiltered i → Filters r ws bs
  unfolding near_filtered waited_by near_filtered_bits
  stops i e ne r f = (f ∙ sym (answer_refused _ unfiltered _ i e ne), wiped_refused ws _ _ i e ne, kept_refused bs _ _ i e ne)

  module _ (c : Chamber) (e : c ≡ chamber_found P Q id) where
    pub near_filter_chamber : (c.number ≡ 0 → ⊥) → (r : Filtered) → r ≡ unfiltered c.number → Filters r ws bs
    unfolding near_filter_no
    near_filter_chamber ne r f =
        let n = chamber_number P Q id c e in
        stops c.number (chamber_front P Q id _ ∙ first_stops (chamber_no P Q id) _ (λ x. ne (n ∙ x)) ∙ sym n) ne r f

    module _ (z : c.number ≡ 0) (w : ℕ) (as_many : w ≡ words_for c.n) where
      filter_at : Placed P Q id c
      filter_at = placed_facts P Q id c e z

      needed : w ≡ need P
      needed = as_many ∙ ap words_for filter_at.n_is

      after : filter_no_lem ≡ first (bits_no (need P) (length bs) ∷ wait_no P (length ws) ∷ [])
      unfolding near_filter_no
      after = chamber_front P Q id _ ∙ first_passes (chamber_no P Q id) _ filter_at.no

      pub near_filter_few : length bs < w → (r : Filtered) → r ≡ unfiltered 24 → Filters r ws bs
      near_filter_few h r f =
          let no = bits_short (need P) (length bs) (omega (arith, needed)) in
          stops 24 (after ∙ first_stops _ _ (λ x. omega (arith, x, no)) ∙ no) (λ x. omega arith) r f

      module _ (fits : w ≤ length bs) where
        last : filter_no_lem ≡ wait_no P (length ws)
        last = after ∙ first_passes _ _ (bits_enough (need P) (length bs) (omega (arith, needed))) ∙ first_last _

        pub near_filter_room : length ws < c.n + c.m → (r : Filtered) → r ≡ unfiltered 25 → Filters r ws bs
        unfolding wait_no given
        near_filter_room h r f = stops 25 (last ∙ (rw (lt-ltb (length ws) (points P + nodes P) (omega (arith, filter_at.n_is, filter_at.m_is))))) (λ x. omega arith) r f

        -- what the walk asks of the first words
        pub near_filter_asked : Holds (take w bs) c.n
        near_filter_asked = lent_holds (take w bs) c.n (omega (arith, filter_at.opens.n_le)) (part_long bs w fits ∙ as_many)

        -- what the walk over P left for the place of the chamber on the first words, and in the lent numbers
        pub near_filter_walks : c.n + c.m ≤ length ws → (q : Spot) → q ≡ c.at → (r : Filtered) → r ≡ filtered_to (near_kept (length (take w bs)) P q) → (ws' : List ℕ)
            → ws' ≡ wiped (c.n + c.m) ws → (b : List ℕ) → b ≡ (near_kept (length (take w bs)) P q).bits → Filters r ws' (b ++ drop w bs)
        unfolding wait_no given near_filtered waited_by near_filtered_bits
        near_filter_walks h q at_q r r-is ws' ws-is b b-is =
            let o = filter_at in
            let no : filter_no_lem ≡ 0 = last ∙ (rw (le-ltb (length ws) (points P + nodes P) (omega (arith, o.n_is, o.m_is)))) in
            let s : c.n + c.m ≡ points P + nodes P = omega (arith, o.n_is, o.m_is) in
            let long : length (take w bs) ≡ need P = part_long bs w fits ∙ needed in
            let k : near_kept (length (take w bs)) P q ≡ near_kept_for P Q id = ap (λ (n : ℕ). near_kept n P q) long ∙ ap (near_kept (need P) P) (at_q ∙ o.at_is) in
            let x : b ≡ (near_kept_for P Q id).bits = b-is ∙ ap (λ (f : Kept). f.bits) k in
            let l : w ≡ length (near_kept_for P Q id).bits = needed ∙ sym (near_words (need P) P (stands_at Q id) (by_counts o.opens) (words_enough (points P))) in
            (r-is ∙ ap filtered_to k ∙ sym (answer_given _ unfiltered _ no), ws-is ∙ ap (λ (a : ℕ). wiped a ws) s ∙ wiped_given ws _ _ no, (λ i. x i ++ drop (l i) bs) ∙ kept_given bs _ _ no)
