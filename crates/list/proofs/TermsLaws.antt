-- The list of any terms: it runs by q id, then p id, each pair once by its ids, and holds what the rule of the terms makes.
--
--     for_ascends, for_once     in order, and once by ids
--     for_only, for_iff         a pair is listed exactly if the rule lists its positions, and nothing else is
--     for_ids, for_keys, for_size, for_sizes      what a listed pair says is in range, and its size is that of its two places
--     for_pages                 its pages, followed from (0, 0), give it
--     kind_of                   terms are those of their own kind
--     full_ring_list            the list of a profile's full terms, which is undivided, is the list of its ring pairs
--     threshold_iff             a pair stands in the list of t exactly if it stands in the ring pairs' list, and its chamber has at least t pairs there; threshold_pairs: with all its pairs
--     partners_listed           `partners_of` is the number of the chamber's pairs in the ring pairs' list
--     self_iff, self_exact      two records of one set, the lower id first, are listed exactly if no record of it, no other record of it, blocks the pair; self_low: never the higher id first
-- Assumes nothing.
use mathlib.Core.Path.{◌≡◌, refl, sym, ap, ◌∙◌}
use mathlib.Core.Bool.{Bool, true, false, cond, not, ◌&&◌}
use mathlib.Core.Logic.{◌↔◌}
use mathlib.Core.List.{List, [], Memᴰ}
use Prim.Native.Nat.{ℕ, ◌≤◌, ◌<◌}
use native.Mathlib.Decide.{ℕ_discrete}
use lib.Dec.{leb, ltb}
use lib.ListN.{length, get_or}
use borrow.Author.Tests.{ltb-true, lt-ltb, not-true}
use Rattle.integers.proofs.Bools.{and_left, and_right, and_both}
use Rattle.words.specs.Range.{last_id, id_ok}
use Rattle.words.proofs.AllLaws.{all_at, all_make}
use Rattle.plane.specs.Profile.{circle, profile_of, size_ok}
use Rattle.plane.specs.Point.{Point, id_at, spot_at}
use Rattle.plane.proofs.ProfileLaws.{profile_lawful}
use Rattle.list.specs.declared.Pair.{Pair}
use Rattle.list.specs.declared.Source.{Source}
use Rattle.list.specs.declared.Terms.{Terms}
use Rattle.list.specs.Pairs.{start, none, key_of, ascends, chamber_pairs}
use Rattle.list.specs.Pages.{page_of, followed}
use Rattle.list.specs.Rows.{at_least, list_by, Rising}
use Rattle.list.specs.RingList.{unblocked, ring_pair_by, ring_pair, pair_by, ring_list_by, ring_list, partners_of, Reached}
use Rattle.list.specs.Terms.{with_by, alone_by, of_kind, profile_for, pair_for, listed_for, list_for}
use Rattle.list.proofs.Order.{once_key}
use Rattle.list.proofs.PageLaws.{list_pages_list}
use Rattle.list.proofs.RowLaws.{Placed, made_ascends, made_iff, made_only, made_ids, made_keys, made_size, made_sizes}
use Rattle.list.proofs.ThresholdLaws as of-least

pub kind_of : (a : Terms) (k : Bool) → a.own ≡ k → of_kind k a ≡ a
kind_of a k e = λ i. record { threshold = a.threshold; contractor = a.contractor; own = sym e i; grid = a.grid }

module _ (a : Terms) (o : List ℕ) (P Q : List Point) (rp : Rising (id_at P) (length P)) (rq : Rising (id_at Q) (length Q)) where
  pub for_ascends : ascends start (list_for a o P Q) ≡ true
  unfolding list_for
  for_ascends = made_ascends (profile_for a) (listed_for a o P Q) P Q rp rq

  pub for_iff : (j i : ℕ) → j < length Q → i < length P → Memᴰ (pair_by (profile_for a) P Q j i) (list_for a o P Q) ↔ (listed_for a o P Q j i ≡ true)
  unfolding list_for
  for_iff = made_iff (profile_for a) (listed_for a o P Q) P Q rp rq

  pub for_only : (v : Pair) → Memᴰ v (list_for a o P Q) → Placed (listed_for a o P Q) (pair_by (profile_for a) P Q) (length P) (length Q) v
  unfolding list_for
  for_only = made_only (profile_for a) (listed_for a o P Q) P Q rp rq

  pub for_ids : (v : Pair) → Memᴰ v (list_for a o P Q) → (id_ok v.q ≡ true) × (id_ok v.p ≡ true)
  unfolding list_for
  for_ids = made_ids (profile_for a) (listed_for a o P Q) P Q rp rq

  pub for_keys : (v : Pair) → Memᴰ v (list_for a o P Q) → (v.q ≤ last_id) × (v.p ≤ last_id)
  unfolding list_for
  for_keys = made_keys (profile_for a) (listed_for a o P Q) P Q rp rq

  pub for_size : (v : Pair) → Memᴰ v (list_for a o P Q) → (j i : ℕ) → j < length Q → i < length P → id_at Q j ≡ v.q → id_at P i ≡ v.p → v.size ≡ (profile_for a).size (spot_at Q j) (spot_at P i)
  unfolding list_for
  for_size = made_size (profile_for a) (listed_for a o P Q) P Q rp rq

  -- no two pairs of it have the same ids
  pub for_once : (k h : ℕ) → k < h → h < length (list_for a o P Q) → key_of (get_or (list_for a o P Q) k none) ≡ key_of (get_or (list_for a o P Q) h none) → ⊥
  for_once k h l g e = once_key start (list_for a o P Q) for_ascends k h l g e

  pub for_pages : (sizes : ℕ → ℕ) (s : Source) → ((k : ℕ) → 0 < sizes k) → followed (length (list_for a o P Q)) sizes (page_of s (list_for a o P Q)) start ≡ list_for a o P Q
  for_pages sizes s some = list_pages_list sizes s (list_for a o P Q) some for_ascends

pub for_sizes : (a : Terms) (o : List ℕ) (P Q : List Point) → Rising (id_at P) (length P) → Rising (id_at Q) (length Q) → Reached (profile_for a) P → Reached (profile_for a) Q → (v : Pair) → Memᴰ v (list_for a o P Q) → size_ok a.grid v.size ≡ true
unfolding list_for
for_sizes a o P Q = made_sizes a.grid (listed_for a o P Q) P Q

-- ---- the list of t

-- without t and kind the rule is the ring rule
full_rule : (g : Bool) (t : ℕ) (P Q : List Point) → pair_for (with_by g t) P Q ≡ ring_pair_by (profile_of g) P Q
unfolding pair_for
full_rule g t P Q = refl

listed_t : (g : Bool) (t : ℕ) (o : List ℕ) (P Q : List Point) → listed_for (with_by g t) o P Q ≡ at_least (ring_pair_by (profile_of g) P Q) (pair_by (profile_of g) P Q) t (length P)
unfolding listed_for
listed_t g t o P Q = ap (λ (rule : ℕ → ℕ → Bool). at_least rule (pair_by (profile_of g) P Q) t (length P)) (full_rule g t P Q)

-- the list of t, of the ring rule
list_t : (g : Bool) (t : ℕ) (o : List ℕ) (P Q : List Point) → list_for (with_by g t) o P Q ≡ list_by (at_least (ring_pair_by (profile_of g) P Q) (pair_by (profile_of g) P Q) t (length P)) (pair_by (profile_of g) P Q) (length P) (length Q)
unfolding list_for
list_t g t o P Q = ap (λ (rule : ℕ → ℕ → Bool). list_by rule (pair_by (profile_of g) P Q) (length P) (length Q)) (listed_t g t o P Q)

pub full_ring_list : (g : Bool) (o : List ℕ) (P Q : List Point) → list_for (with_by g 0) o P Q ≡ ring_list_by (profile_of g) P Q
unfolding ring_list_by
full_ring_list g o P Q = list_t g 0 o P Q ∙ ap (λ (rule : ℕ → ℕ → Bool). list_by rule (pair_by (profile_of g) P Q) (length P) (length Q)) (of-least.least_none (ring_pair_by (profile_of g) P Q) (pair_by (profile_of g) P Q) (length P))

module _ (P Q : List Point) (rp : Rising (id_at P) (length P)) (rq : Rising (id_at Q) (length Q)) where
  pub partners_listed : (j : ℕ) → j < length Q → partners_of P Q j ≡ length (chamber_pairs (id_at Q j) (ring_list P Q))
  unfolding partners_of ring_list_by
  partners_listed = of-least.row_listed circle (ring_pair P Q) P Q rp rq

  pub threshold_pairs : (g : Bool) (t : ℕ) (o : List ℕ) (j : ℕ) → j < length Q
      → chamber_pairs (id_at Q j) (list_for (with_by g t) o P Q) ≡ cond (leb t (length (chamber_pairs (id_at Q j) (ring_list_by (profile_of g) P Q)))) (chamber_pairs (id_at Q j) (ring_list_by (profile_of g) P Q)) []
  unfolding ring_list_by
  threshold_pairs g t o j h = ap (chamber_pairs (id_at Q j)) (list_t g t o P Q) ∙ of-least.least_pairs (profile_of g) (ring_pair_by (profile_of g) P Q) P Q rp rq t j h

  pub threshold_iff : (g : Bool) (t : ℕ) (o : List ℕ) (v : Pair) → Memᴰ v (list_for (with_by g t) o P Q) ↔ (Memᴰ v (ring_list_by (profile_of g) P Q) × (t ≤ length (chamber_pairs v.q (ring_list_by (profile_of g) P Q))))
  unfolding ring_list_by
  threshold_iff g t o v = rw (list_t g t o P Q) (of-least.least_iff (profile_of g) (ring_pair_by (profile_of g) P Q) P Q rp rq t v)

-- ---- the self join

alone_rule : (g : Bool) (o : List ℕ) (S : List Point) (j i : ℕ) → listed_for (alone_by g) o S S j i ≡ (ltb (id_at S j) (id_at S i) && ring_pair_by (profile_of g) S S j i)
unfolding listed_for pair_for
alone_rule g o S j i = ap (λ (rule : ℕ → ℕ → Bool). rule j i) (of-least.least_none (λ (j i : ℕ). ltb (id_at S j) (id_at S i) && ring_pair_by (profile_of g) S S j i) (pair_by (profile_of g) S S) (length S))

module _ (g : Bool) (o : List ℕ) (S : List Point) (r : Rising (id_at S) (length S)) where
  -- two records, the lower id first, are listed exactly if no record of the set blocks their pair
  pub self_iff : (j i : ℕ) → j < length S → i < length S → Memᴰ (pair_by (profile_of g) S S j i) (list_for (alone_by g) o S S) ↔ ((id_at S j < id_at S i) × (unblocked (profile_of g) S (spot_at S j) (spot_at S i) ≡ true))
  unfolding ring_pair_by
  self_iff j i a b =
      let low = ltb (id_at S j) (id_at S i) in
      let free = unblocked (profile_of g) S (spot_at S j) (spot_at S i) in (
        λ m. let e = sym (alone_rule g o S j i) ∙ (for_iff (alone_by g) o S S r r j i a b).0 m in (ltb-true (id_at S j) (id_at S i) (and_left low (free && free) e), and_left free free (and_right low (free && free) e)),
        λ x. (for_iff (alone_by g) o S S r r j i a b).1 (alone_rule g o S j i ∙ and_both low (free && free) (lt-ltb (id_at S j) (id_at S i) x.0) (and_both free free x.1 x.1)),
      )

  -- .. that is, if no other record does: neither end stands in the way of its own pair
  pub self_exact : (j i : ℕ) → j < length S → i < length S → id_at S j < id_at S i
      → Memᴰ (pair_by (profile_of g) S S j i) (list_for (alone_by g) o S S) ↔ ((k : ℕ) → k < length S → (k ≡ j → ⊥) → (k ≡ i → ⊥) → (profile_of g).blocks (spot_at S j) (spot_at S i) (spot_at S k) ≡ false)
  unfolding unblocked
  self_exact j i a b low =
      let test : ℕ → Bool = λ k. not ((profile_of g).blocks (spot_at S j) (spot_at S i) (spot_at S k)) in (
        λ m k h x y. not-true ((profile_of g).blocks (spot_at S j) (spot_at S i) (spot_at S k)) (all_at test (length S) ((self_iff j i a b).0 m).1 k h),
        λ f. (self_iff j i a b).1 (low, all_make test (length S) (λ k h. ap not (other f k h (ℕ_discrete k j) (ℕ_discrete k i)))),
      )
    where
      other : ((k : ℕ) → k < length S → (k ≡ j → ⊥) → (k ≡ i → ⊥) → (profile_of g).blocks (spot_at S j) (spot_at S i) (spot_at S k) ≡ false) → (k : ℕ) → k < length S → Dec (k ≡ j) → Dec (k ≡ i) → (profile_of g).blocks (spot_at S j) (spot_at S i) (spot_at S k) ≡ false
      other f k h (yes e) d = ap (λ (x : ℕ). (profile_of g).blocks (spot_at S j) (spot_at S i) (spot_at S x)) e ∙ (profile_lawful g).left_clear (spot_at S j) (spot_at S i)
      other f k h (no x) (yes e) = ap (λ (y : ℕ). (profile_of g).blocks (spot_at S j) (spot_at S i) (spot_at S y)) e ∙ (profile_lawful g).right_clear (spot_at S j) (spot_at S i)
      other f k h (no x) (no y) = f k h x y

  -- a listed pair has the lower id first: a record is never listed with itself, nor two records both ways
  pub self_low : (v : Pair) → Memᴰ v (list_for (alone_by g) o S S) → v.q < v.p
  self_low v m =
      let z = for_only (alone_by g) o S S r r v m in
      let e = sym (alone_rule g o S z.at_q z.at_p) ∙ z.holds in
      rw z.is (ltb-true (id_at S z.at_q) (id_at S z.at_p) (and_left (ltb (id_at S z.at_q) (id_at S z.at_p)) (ring_pair_by (profile_of g) S S z.at_q z.at_p) e))
