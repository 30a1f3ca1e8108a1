-- The page maker's loops: what is left to do, turn by turn, and room for the count.
-- Assumes nothing.
use mathlib.Core.Path.{◌≡◌, refl, sym, ap, ◌∙◌}
use mathlib.Core.Bool.{Bool, true, false, cond}
use mathlib.Core.Logic.{⊎_elim}
use mathlib.Core.List.{List}
use Prim.Native.Nat.{ℕ, zero, suc, ◌+◌, ◌-◌, ◌*◌, ◌≤◌, ◌<◌}
use native.Mathlib.Omega.{arith}
use native.Mathlib.Nat.{mul-le-mul_right}
use lib.Dec.{ltb}
use lib.ListN.{length}
use borrow.Author.Tests.{ltb-true, ltb-false}
use Rattle.integers.proofs.Bools.{decide}
use Rattle.bits.specs.Set.{kept, next_from}
use Rattle.bits.proofs.NextLaws.{from_le, from_kept, from_skip}
use Rattle.list.specs.declared.Key.{Key}
use Rattle.list.specs.declared.Pair.{Pair}
use Rattle.list.specs.Pairs.{key_of, follows}
use Rattle.join.specs.declared.Draft.{Draft}
use Rattle.join.specs.declared.Tried.{Tried}
use Rattle.join.specs.Walks.{Walks, Agrees}
use Rattle.join.specs.Work.{first_from}
use Rattle.join.specs.Maker.{spent, found, with_tried, tried, partner, partners, chamber, chambers, blank, page_made}

-- a filter walk opens at most a nodes, and a ring walk of both sheets at most b
pub record Capped (w : Walks) (a b : ℕ) : Type 0 where
  pub filter : (j : ℕ) → w.kept_opened j ≤ a
  pub ring : (j i : ℕ) → w.clear_opened j i ≤ b

pub all_words : (w : Walks) (j : ℕ) (ws : List ℕ) → ((i : ℕ) → w.kept j i ≡ kept ws i) → Agrees w j 0 ws
all_words w j ws e = record { early = λ i h. absurd (omega arith); held = λ i h. e i }

-- one factor less
step_mul : (i u b : ℕ) → i < u → i * b + b ≤ u * b
step_mul i u b h = let e : i * b + b ≡ (i + 1) * b = omega arith in rw e (mul-le-mul_right {m = i + 1} {n = u} b (omega arith))

module _ (w : Walks) (key : Key) (size : ℕ) where
  found_opened : (v : Pair) (d : Draft) → (found size v d).opened ≡ d.opened
  unfolding found
  found_opened v d =
      ⊎_elim (λ (e : ltb d.count size ≡ true). rw e) (λ (e : ltb d.count size ≡ false). rw e) (decide (ltb d.count size))

  with_opened : (v : Pair) (t : Tried) (d : Draft) → (with_tried size v t d).opened ≡ d.opened + t.opened
  unfolding with_tried
  with_opened v t d =
      ⊎_elim (λ (e : t.finds ≡ true). rw e (found_opened v (spent t.opened d))) (λ (e : t.finds ≡ false). rw e) (decide t.finds)

  tried_cap : (a b : ℕ) → Capped w a b → (j i : ℕ) → (tried w key j i).opened ≤ b
  unfolding tried
  tried_cap a b c j i =
      ⊎_elim
      (λ (f : follows key (key_of (w.pair j i)) ≡ true). rw f (c.ring j i))
      (λ (f : follows key (key_of (w.pair j i)) ≡ false). rw f (omega (arith, c.ring j i)))
      (decide (follows key (key_of (w.pair j i))))

  pub tried_few : (a b : ℕ) → Capped w a b → (j i : ℕ) (t : Tried) → t ≡ tried w key j i → t.opened ≤ b
  tried_few a b c j i t e = rw e (tried_cap a b c j i)

  partner_kept : (j i : ℕ) (d : Draft) → w.kept j i ≡ true → partner w key size j i d ≡ with_tried size (w.pair j i) (tried w key j i) d
  unfolding partner
  partner_kept j i d e = rw e

  partner_not : (j i : ℕ) (d : Draft) → w.kept j i ≡ false → partner w key size j i d ≡ d
  unfolding partner
  partner_not j i d e = rw e

  -- once a pair beyond the size is found, nothing more is done
  partners_stop : (j k i : ℕ) (d : Draft) → d.more ≡ true → partners w key size j k i d ≡ d
  unfolding partners
  partners_stop j zero i d e = refl
  partners_stop j (suc k) i d e = ap (λ (t : Bool). cond t d (partners w key size j k (i + 1) (partner w key size j i d))) e

  partners_end : (j n i : ℕ) (d : Draft) → n ≤ i → partners w key size j (n - i) i d ≡ d
  unfolding partners
  partners_end j n i d h = let z : n - i ≡ 0 = omega arith in ap (λ (k : ℕ). partners w key size j k i d) z

  partners_turn : (j n i : ℕ) (d : Draft) → i < n → d.more ≡ false → partners w key size j (n - i) i d ≡ partners w key size j (n - (i + 1)) (i + 1) (partner w key size j i d)
  unfolding partners
  partners_turn j n i d h e =
      let z : n - i ≡ suc (n - (i + 1)) = omega arith in
      ap (λ (k : ℕ). partners w key size j k i d) z ∙ ap (λ (t : Bool). cond t d (partners w key size j (n - (i + 1)) (i + 1) (partner w key size j i d))) e

  -- past a position that is not kept
  partners_pass : (j n : ℕ) (d : Draft) (i : ℕ) → w.kept j i ≡ false → partners w key size j (n - i) i d ≡ partners w key size j (n - (i + 1)) (i + 1) d
  partners_pass j n d i e =
      ⊎_elim
      (λ (m : d.more ≡ true). partners_stop j (n - i) i d m ∙ sym (partners_stop j (n - (i + 1)) (i + 1) d m))
      (λ (m : d.more ≡ false).
      ⊎_elim
      (λ (h : ltb i n ≡ true). partners_turn j n i d (ltb-true i n h) m ∙ ap (partners w key size j (n - (i + 1)) (i + 1)) (partner_not j i d e))
      (λ (h : ltb i n ≡ false). partners_end j n i d (ltb-false i n h) ∙ sym (partners_end j n (i + 1) d (omega (arith, ltb-false i n h))))
      (decide (ltb i n)))
      (decide d.more)

  partners_next : (j n a : ℕ) (d : Draft) (ws : List ℕ) → Agrees w j a ws → (i u : ℕ) → u ≡ next_from ws i → partners w key size j (n - i) i d ≡ partners w key size j (n - u) u d
  partners_next j n a d ws s i u e = from_skip ws (λ (t : ℕ). partners w key size j (n - t) t d) (λ t f. partners_pass j n d t (not_kept t f)) i u e
    where
      not_kept : (t : ℕ) → kept ws t ≡ false → w.kept j t ≡ false
      not_kept t f = ⊎_elim (λ (h : ltb t a ≡ true). s.early t (ltb-true t a h)) (λ (h : ltb t a ≡ false). s.held t (ltb-false t a h) ∙ f) (decide (ltb t a))

  -- past all that come before a
  partners_past : (j n : ℕ) (d : Draft) (a : ℕ) → ((i : ℕ) → i < a → w.kept j i ≡ false) → partners w key size j (n - 0) 0 d ≡ partners w key size j (n - a) a d
  partners_past j n d zero f = refl
  partners_past j n d (suc a) f =
      let e : a + 1 ≡ suc a = omega arith in
      partners_past j n d a (λ i h. f i (omega arith)) ∙ partners_pass j n d a (f a (omega arith)) ∙ ap (λ (k : ℕ). partners w key size j (n - k) k d) e

  partners_cap : (a b : ℕ) → Capped w a b → (j k i : ℕ) (d : Draft) → (partners w key size j k i d).opened ≤ d.opened + k * b
  unfolding partners
  partners_cap a b c j zero i d = omega arith
  partners_cap a b c j (suc k) i d =
      ⊎_elim
      (λ (m : d.more ≡ true). rw (ap (λ (t : Bool). cond t d (partners w key size j k (i + 1) (partner w key size j i d))) m) (omega arith))
      (λ (m : d.more ≡ false).
      let x = partners_cap a b c j k (i + 1) (partner w key size j i d) in
      let y : (partner w key size j i d).opened ≤ d.opened + b =
      ⊎_elim
      (λ (e : w.kept j i ≡ true). rw (partner_kept j i d e) (omega (arith, with_opened (w.pair j i) (tried w key j i) d, tried_cap a b c j i)))
      (λ (e : w.kept j i ≡ false). rw (partner_not j i d e) (omega arith))
      (decide (w.kept j i)) in
      let z : k * b + b ≡ suc k * b = omega arith in
      rw (ap (λ (t : Bool). cond t d (partners w key size j k (i + 1) (partner w key size j i d))) m) (omega arith))
      (decide d.more)

  pub chamber_cap : (a b : ℕ) → Capped w a b → (n j : ℕ) (d : Draft) → (chamber w key size n j d).opened ≤ d.opened + (a + n * b)
  unfolding chamber
  chamber_cap a b c n j d = omega (arith, partners_cap a b c j n 0 (spent (w.kept_opened j) d), c.filter j)

  -- ---- the loop over kept partners from position a on, at a kept position i or past the n positions

  pub record Tries (a b j n : ℕ) (d r : Draft) (i : ℕ) : Type 0 where
    pub left : partners w key size j (n - i) i r ≡ partners w key size j n 0 d
    pub room : r.opened ≤ d.opened + i * b
    pub here : i < n → w.kept j i ≡ true
    pub past : a ≤ i

  pub tries_start : (a b j n : ℕ) (d : Draft) (ws : List ℕ) → Agrees w j a ws → n ≤ 64 * length ws → (i : ℕ) → i ≡ next_from ws a → Tries a b j n d d i
  tries_start a b j n d ws s h i e =
      let up = from_le ws a i e in
      record {
        left =
            let z : n - 0 ≡ n = omega arith in
            sym (partners_next j n a d ws s a i e) ∙ sym (partners_past j n d a s.early) ∙ ap (λ (k : ℕ). partners w key size j k 0 d) z;
        room = omega arith;
        here = λ l. s.held i up ∙ from_kept ws a i e (omega arith);
        past = up;
      }

  -- room for one ring walk more
  pub tries_room : (a b j n : ℕ) (d r : Draft) (i : ℕ) → i < n → Tries a b j n d r i → r.opened + b ≤ d.opened + n * b
  tries_room a b j n d r i l t = omega (arith, t.room, step_mul i n b l)

  pub tries_on : (a c b : ℕ) → Capped w c b → (j n : ℕ) (d r : Draft) (ws : List ℕ) → Agrees w j a ws → n ≤ 64 * length ws → (i : ℕ) → i < n → r.more ≡ false → Tries a b j n d r i
      → (r' : Draft) → r' ≡ with_tried size (w.pair j i) (tried w key j i) r → (u : ℕ) → u ≡ next_from ws (i + 1) → Tries a b j n d r' u
  tries_on a c b capped j n d r ws s h i l m t r' e u f =
      let up = from_le ws (i + 1) u f in
      let cap : r'.opened ≤ r.opened + b = rw e (omega (arith, with_opened (w.pair j i) (tried w key j i) r, tried_cap c b capped j i)) in
      let far : a ≤ u = omega (arith, t.past) in
      record {
        left =
            sym (partners_next j n a r' ws s (i + 1) u f)
            ∙ ap (partners w key size j (n - (i + 1)) (i + 1)) (e ∙ sym (partner_kept j i r (t.here l)))
            ∙ sym (partners_turn j n i r l m)
            ∙ t.left;
        room = omega (arith, t.room, step_mul i u b (omega arith));
        here = λ x. s.held u far ∙ from_kept ws (i + 1) u f (omega arith);
        past = far;
      }

  pub tries_stop : (a b j n : ℕ) (d r : Draft) (i : ℕ) → r.more ≡ true → Tries a b j n d r i → r ≡ partners w key size j n 0 d
  tries_stop a b j n d r i m t = sym (partners_stop j (n - i) i r m) ∙ t.left

  pub tries_end : (a b j n : ℕ) (d r : Draft) (i : ℕ) → n ≤ i → Tries a b j n d r i → r ≡ partners w key size j n 0 d
  tries_end a b j n d r i h t = sym (partners_end j n i r h) ∙ t.left

  -- ---- the loop over chambers, each of which opens at most c nodes

  pub record Rounds (c np nq : ℕ) (r : Draft) (j : ℕ) : Type 0 where
    pub left : chambers w key size np (nq - j) j r ≡ page_made w key size np nq
    pub room : r.opened ≤ j * c

  pub join_rounds_start : (c np nq j : ℕ) → j ≡ first_from w.qid key nq → Rounds c np nq blank j
  unfolding page_made
  join_rounds_start c np nq j e = record { left = ap (λ (t : ℕ). chambers w key size np (nq - t) t blank) e; room = omega arith }

  -- room for one chamber more
  pub join_rounds_room : (c np nq : ℕ) (r : Draft) (j : ℕ) → j < nq → Rounds c np nq r j → r.opened + c ≤ nq * c
  join_rounds_room c np nq r j l t = omega (arith, t.room, step_mul j nq c l)

  pub rounds_on : (c np nq : ℕ) (r : Draft) (j : ℕ) → (chamber w key size np j r).opened ≤ r.opened + c → j < nq → r.more ≡ false → Rounds c np nq r j → (r' : Draft) → r' ≡ chamber w key size np j r → Rounds c np nq r' (j + 1)
  unfolding chambers
  rounds_on c np nq r j few l e t r' f =
      let z : nq - j ≡ suc (nq - (j + 1)) = omega arith in
      let cap : r'.opened ≤ r.opened + c = rw f few in
      record {
        left =
            ap (chambers w key size np (nq - (j + 1)) (j + 1)) f
            ∙ sym (ap (λ (k : ℕ). chambers w key size np k j r) z ∙ ap (λ (t : Bool). cond t r (chambers w key size np (nq - (j + 1)) (j + 1) (chamber w key size np j r))) e)
            ∙ t.left;
        room = omega (arith, t.room, step_mul j (j + 1) c (omega arith));
      }

  chambers_stop : (n k j : ℕ) (r : Draft) → r.more ≡ true → chambers w key size n k j r ≡ r
  unfolding chambers
  chambers_stop n zero j r e = refl
  chambers_stop n (suc k) j r e = ap (λ (t : Bool). cond t r (chambers w key size n k (j + 1) (chamber w key size n j r))) e

  pub rounds_stop : (c np nq : ℕ) (r : Draft) (j : ℕ) → r.more ≡ true → Rounds c np nq r j → r ≡ page_made w key size np nq
  rounds_stop c np nq r j e t = sym (chambers_stop np (nq - j) j r e) ∙ t.left

  pub join_rounds_end : (c np nq : ℕ) (r : Draft) (j : ℕ) → nq ≤ j → Rounds c np nq r j → r ≡ page_made w key size np nq
  unfolding chambers
  join_rounds_end c np nq r j h t = let z : nq - j ≡ 0 = omega arith in sym (ap (λ (k : ℕ). chambers w key size np k j r) z) ∙ t.left
