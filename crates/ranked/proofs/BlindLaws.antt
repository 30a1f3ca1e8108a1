-- What one contractor is told of the first of its list does not depend on the ids of the other's chambers, nor on their scores.
--
--     blind_ranks      its chambers, each with its number of pairs in one list, are the same in both runs
--     blind_scored     the chambers' scores are right in both runs or in neither
--     blind_visits     the pairs of its own chambers have the same sums of scores
-- Assumes nothing.
use mathlib.Core.Path.{◌≡◌, refl, sym, ap, ap₂, subst, ◌∙◌}
use mathlib.Core.Bool.{Bool, true, false, cond, ◌&&◌}
use mathlib.Core.Logic.{⊎_elim}
use mathlib.Core.List.Memᴰ
use mathlib.Core.List.{List, [], ◌∷◌, map, Memᴰ}
use Prim.Native.Nat.{ℕ, zero, suc, ◌+◌, ◌≤◌, ◌<◌}
use native.Mathlib.Omega.{arith}
use lib.Dec.{eqb, leb}
use lib.ListN.{length, get_or}
use Rattle.integers.proofs.Bools.{test_iff}
use Rattle.words.proofs.AllLaws.{all_at, all_make}
use Rattle.plane.specs.Point.{Point, id_at}
use Rattle.list.specs.declared.Pair.{Pair}
use Rattle.list.specs.Contractor.{mine, Renamed}
use Rattle.list.proofs.ContractorLaws.{mine_is, is_mine}
use Rattle.list.proofs.BlindLaws.{same_many}
use Rattle.ranked.specs.declared.Rank.{Rank}
use Rattle.ranked.specs.declared.Visit.{Visit}
use Rattle.ranked.specs.Busiest.{ranks_from, chamber_rank, chamber_ranks}
use Rattle.ranked.specs.Urgent.{last_score, scores_ok, score_of, visit_of}
use Rattle.ranked.specs.Blind.{Rescored}
use Rattle.ranked.proofs.RanksLaws.{ranks_only, ranks_there}
use Rattle.ranked.proofs.VisitsLaws.{score_at}

-- ---- two lists of ranks whose ids rise and that have the same ranks are one

abbrev HasRanks : List Rank → List Rank → Type 0
HasRanks l l' = (v : Rank) → Memᴰ v l → Memᴰ v l'

-- each id is below those that are listed behind it
Climbs : List Rank → Type 0
Climbs [] = Unit
Climbs (v ∷ l) = ((w : Rank) → Memᴰ w l → v.id < w.id) × Climbs l

one_ranks : (l l' : List Rank) → Climbs l → Climbs l' → HasRanks l l' → HasRanks l' l → l ≡ l'
unfolding Climbs
one_ranks [] [] a a' h h' = refl
one_ranks [] (w ∷ l') a a' h h' = absurd (Memᴰ.not-nil (h' w (Memᴰ.head refl)))
one_ranks (v ∷ l) [] a a' h h' = absurd (Memᴰ.not-nil (h v (Memᴰ.head refl)))
one_ranks (v ∷ l) (w ∷ l') a a' h h' =
    ap₂ {A = Rank} {B = List Rank} (λ x y. x ∷ y) front
    (one_ranks l l' a.1 a'.1
    (λ u m. behind l' w u (omega (arith, a.0 u m, ap (λ (x : Rank). x.id) front)) (h u (Memᴰ.tail m)))
    (λ u m. behind l v u (omega (arith, a'.0 u m, ap (λ (x : Rank). x.id) front)) (h' u (Memᴰ.tail m))))
  where
    -- one with a higher id is not the first
    behind : (t : List Rank) (w u : Rank) → w.id < u.id → Memᴰ u (w ∷ t) → Memᴰ u t
    behind t w u g n =
        ⊎_elim
        (λ (x : u ≡ w). absurd (omega (arith, ap (λ (y : Rank). y.id) x)))
        (λ (x : Memᴰ u t). x)
        (Memᴰ.cases_cons n)

    front : v ≡ w
    front =
        ⊎_elim
        (λ (x : v ≡ w). x)
        (λ (x : Memᴰ v l').
        ⊎_elim
        (λ (y : w ≡ v). sym y)
        (λ (y : Memᴰ w l). absurd (omega (arith, a.0 w y, a'.0 v x)))
        (Memᴰ.cases_cons (h' w (Memᴰ.head refl))))
        (Memᴰ.cases_cons (h v (Memᴰ.head refl)))

ranks_climb : (has : ℕ → Bool) (rank : ℕ → Rank) (n : ℕ) → ((x y : ℕ) → x < y → y < n → (rank x).id < (rank y).id) → (k j : ℕ) → j + k ≤ n → Climbs (ranks_from has rank k j)
unfolding ranks_from Climbs
ranks_climb has rank n r zero j h = tt
ranks_climb has rank n r (suc k) j h = go (ranks_climb has rank n r k (j + 1) (omega arith)) (has j)
  where
    go : Climbs (ranks_from has rank k (j + 1)) → (b : Bool) → Climbs (cond b (rank j ∷ ranks_from has rank k (j + 1)) (ranks_from has rank k (j + 1)))
    go ih true = (λ w m. let z = ranks_only has rank k (j + 1) w m in rw z.is (r j z.place (omega (arith, z.from)) (omega (arith, z.to))), ih)
    go ih false = ih

-- ---- one run and the other

-- each chamber of c's of the first run is one of the second's, with its id
over_ranks : (c : ℕ) (Q : List Point) (o : List ℕ) (Q' : List Point) (o' : List ℕ) (to : ℕ → ℕ) → ((j : ℕ) → j < length Q → to j < length Q')
    → ((j : ℕ) → j < length Q → mine c o j ≡ true → (mine c o' (to j) ≡ true) × (id_at Q' (to j) ≡ id_at Q j)) → (l : List Pair) → HasRanks (chamber_ranks c o Q l) (chamber_ranks c o' Q' l)
unfolding chamber_ranks
over_ranks c Q o Q' o' to into goes l v m =
    let z = ranks_only (mine c o) (λ j. chamber_rank l (id_at Q j)) (length Q) 0 v m in
    let j = z.place in
    let h : j < length Q = omega (arith, z.to) in
    let g = goes j h z.taken in
    subst (λ (x : Rank). Memᴰ x (chamber_ranks c o' Q' l)) (ap (chamber_rank l) g.1 ∙ sym z.is)
    (ranks_there (mine c o') (λ x. chamber_rank l (id_at Q' x)) (length Q') 0 (to j) (omega arith) (omega (arith, into j h)) g.0)

module _ (c : ℕ) (one : c < 2) (Q : List Point) (o : List ℕ) (Q' : List Point) (o' : List ℕ) (r : Renamed c Q o Q' o')
    (rq : (x y : ℕ) → x < y → y < length Q → id_at Q x < id_at Q y) (rq' : (x y : ℕ) → x < y → y < length Q' → id_at Q' x < id_at Q' y) where
  own_to : (j : ℕ) → j < length Q → mine c o j ≡ true → (mine c o' (r.to j) ≡ true) × (id_at Q' (r.to j) ≡ id_at Q j)
  own_to j h m = let own = mine_is c one o j m in (is_mine c one o' (r.to j) (r.owner j h ∙ own), r.own_id j h own)

  own_back : (k : ℕ) → k < length Q' → mine c o' k ≡ true → (mine c o (r.back k) ≡ true) × (id_at Q (r.back k) ≡ id_at Q' k)
  own_back k h m =
      let j = r.back k in
      let in_q = r.back_in k h in
      let own : get_or o j 2 ≡ c = sym (r.owner j in_q) ∙ ap (λ (x : ℕ). get_or o' x 2) (r.to_back k h) ∙ mine_is c one o' k m in
      (is_mine c one o j own, sym (r.own_id j in_q own) ∙ ap (id_at Q') (r.to_back k h))

  pub blind_ranks : (l : List Pair) → chamber_ranks c o Q l ≡ chamber_ranks c o' Q' l
  unfolding chamber_ranks
  blind_ranks l =
      one_ranks _ _
      (ranks_climb (mine c o) (λ j. chamber_rank l (id_at Q j)) (length Q) rq (length Q) 0 (omega arith))
      (ranks_climb (mine c o') (λ j. chamber_rank l (id_at Q' j)) (length Q') rq' (length Q') 0 (omega arith))
      (over_ranks c Q o Q' o' r.to r.to_in own_to l)
      (over_ranks c Q' o' Q o r.back r.back_in own_back l)

  module _ (s s' : List ℕ) (t : Rescored c Q o Q' o' r s s') where
    pub blind_scored : scores_ok s (length Q) ≡ scores_ok s' (length Q')
    unfolding scores_ok
    blind_scored =
        ap₂ (λ (x y : Bool). x && y) (ap₂ eqb t.as_many (same_many c Q o Q' o' r))
        (test_iff _ _
        (λ e. all_make _ (length Q') (λ k h. ap (λ (x : ℕ). leb (get_or s' x 0) last_score) (sym (r.to_back k h)) ∙ t.in_range (r.back k) (r.back_in k h) ∙ all_at _ (length Q) e (r.back k) (r.back_in k h)))
        (λ e. all_make _ (length Q) (λ k h. sym (t.in_range k h) ∙ all_at _ (length Q') e (r.to k) (r.to_in k h))))

    -- a chamber of c's has the same score
    own_scored : (j : ℕ) → j < length Q → mine c o j ≡ true → score_of Q s (id_at Q j) ≡ score_of Q' s' (id_at Q j)
    own_scored j h m =
        let g = own_to j h m in
        score_at Q s rq j h
        ∙ sym (t.own_score j h (mine_is c one o j m))
        ∙ sym (score_at Q' s' rq' (r.to j) (r.to_in j h))
        ∙ ap (score_of Q' s') g.1

    -- of pairs that are all of chambers of c's
    pub blind_visits : (P : List Point) (ps : List ℕ) (l : List Pair) → ((v : Pair) → Memᴰ v l → (j : ℕ) × (j < length Q) × (mine c o j ≡ true) × (v.q ≡ id_at Q j)) → map (visit_of P Q ps s) l ≡ map (visit_of P Q' ps s') l
    unfolding visit_of
    blind_visits P ps [] f = refl
    blind_visits P ps (v ∷ l) f =
        let z = f v (Memᴰ.head refl) in
        let e : score_of Q s v.q ≡ score_of Q' s' v.q = ap (score_of Q s) z.3 ∙ own_scored z.0 z.1 z.2 ∙ sym (ap (score_of Q' s') z.3) in
        ap₂ {A = Visit} {B = List Visit} (λ x y. x ∷ y)
        (λ i. record { pair = v; score = e i + score_of P ps v.p })
        (blind_visits P ps l (λ u m. f u (Memᴰ.tail m)))
