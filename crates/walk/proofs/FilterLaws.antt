-- What the filter walk brings about, on so many lent words: every position is kept or dropped by another that is kept, no position past the points is kept,
-- and at most m nodes are opened. `Meaning` has the statements for a reader.
-- Assumes nothing.
use mathlib.Core.Path.{◌≡◌, refl, sym, subst, ◌∙◌}
use mathlib.Core.Bool.{Bool, true, false, cond}
use mathlib.Core.Logic.{◌⊎◌, inl, inr, ⊎_elim}
use mathlib.Core.List.{List}
use Prim.Native.Nat.{ℕ, suc, ◌+◌, ◌*◌, ◌<◌, ◌≤◌}
use native.Mathlib.Omega.{arith}
use lib.IntN.{ℤ}
use lib.ListN.{length}
use Rattle.integers.proofs.Bools.{clash}
use Rattle.plane.specs.declared.Spot.{Spot}
use Rattle.plane.specs.Rule.{drops}
use Rattle.plane.proofs.RuleLaws.{box_drops}
use Rattle.sheet.specs.Layout.{points, nodes}
use Rattle.sheet.specs.Order.{order_of, rank_of, order_ok}
use Rattle.sheet.specs.Nodes.{level_of, table_ok}
use Rattle.sheet.specs.Boxes.{Below, tight_ok, tree_size}
use Rattle.sheet.specs.Places.{spot_of, box_of}
use Rattle.sheet.specs.Open.{Opens}
use Rattle.sheet.proofs.OrderLaws.{order_below, rank_below, order_rank}
use Rattle.sheet.proofs.PlaceLaws.{in_box_lem}
use Rattle.bits.specs.Set.{kept, with, none}
use Rattle.bits.proofs.SetLaws.{with_length, kept_same, kept_more, kept_only, none_kept, none_length}
use Rattle.bits.proofs.SomeLaws.{some_one}
use Rattle.walk.specs.Walk.{walk_all}
use Rattle.walk.specs.FilterWalk.{Kept, so_far, dropped, shut, consider, filter_place, filter_take, filter_visit, filter_node, filter_kept}
use Rattle.walk.specs.Claims.{Dropper}
use Rattle.walk.proofs.WalkLaws.{Steps, Does, all_does, walk_opened, all_opened}

-- so many words as there were, and every kept position is below n
pub record Right (words n : ℕ) (k : Kept) : Type 0 where
  pub long : length k.bits ≡ words
  pub low : (i : ℕ) → kept k.bits i ≡ true → i < n

-- what is kept stays kept
pub record Grows (k k' : Kept) : Type 0 where
  pub stays : (i : ℕ) → kept k.bits i ≡ true → kept k'.bits i ≡ true

-- position i is kept, or one that is kept drops it
abbrev pub Settled : List ℤ → ℕ → Spot → List ℕ → ℕ → Type 0
Settled w n q b i = (kept b i ≡ true) ⊎ Dropper w n q b i

-- so is the one that stands at place r
abbrev pub Met : List ℤ → ℕ → Spot → Kept → ℕ → Type 0
Met w n q k r = Settled w n q k.bits (order_of w n r)

filter_steps : (words : ℕ) (w : List ℤ) (n : ℕ) (q : Spot) → Steps (Right words n) Grows (Met w n q)
filter_steps words w n q =
    record {
      same = λ s. record { stays = λ i e. e };
      after = λ s t u a b. record { stays = λ i e. b.stays i (a.stays i e) };
      still = λ s t k a d.
          ⊎_elim
          (λ (e : kept s.bits (order_of w n k) ≡ true). inl (a.stays (order_of w n k) e))
          (λ (x : Dropper w n q s.bits (order_of w n k)). inr (record { by = x.by; below = x.below; is_kept = a.stays x.by x.is_kept; dropping = x.dropping }))
          d;
    }

-- a kept one that drops position i settles it
settle : (w : List ℤ) (n : ℕ) (q : Spot) (b : List ℕ) (i j : ℕ) → j < n → kept b j ≡ true → drops q (spot_of w j) (spot_of w i) ≡ true → Settled w n q b i
settle w n q b i j h e d = inr (record { by = j; below = h; is_kept = e; dropping = d })

module _ (words : ℕ) (w : List ℤ) (n m : ℕ) (q : Spot) (enough : n ≤ 64 * words) (ordered : order_ok w n ≡ true) (ok : table_ok w n m ≡ true) (tight : tight_ok w n m ≡ true) where
  abbrev Filters : Kept → Kept → (ℕ → Type 0) → Type 0
  Filters = Does (Right words n) Grows (Met w n q)

  -- a position is settled once its place is dealt with
  take_does : (r : ℕ) → r < n → (k : Kept) → Right words n k → Filters k (filter_take w n q r k) (λ i. i ≡ r)
  unfolding filter_take filter_place consider dropped
  take_does r h k g = go (dropped w n q i b) refl
    where
      b : List ℕ
      b = k.bits

      i : ℕ
      i = order_of w n r

      below : i < n
      below = order_below w n ordered r h

      fits : i < 64 * length b
      fits = omega (arith, below, g.long)

      found : dropped w n q i b ≡ true → Settled w n q b i
      found e = let x = some_one b _ n 0 e in settle w n q b i x.0 (omega (arith, x.2)) x.3 x.4

      go : (t : Bool) → dropped w n q i b ≡ t → Filters k (so_far (cond t b (with b i)) k.opened) (λ a. a ≡ r)
      go true e = record { good = record { long = g.long; low = g.low }; more = record { stays = λ j x. x }; done = λ a z. subst (λ (x : ℕ). Settled w n q b (order_of w n x)) (sym z) (found e) }
      go false e =
          record {
            good =
                record {
                  long = with_length b i ∙ g.long;
                  low = λ j x. ⊎_elim (λ (z : j ≡ i). omega (arith, below)) (λ (z : kept b j ≡ true). g.low j z) (kept_only b i j fits x);
                };
            more = record { stays = λ j x. kept_more b i j fits x };
            done = λ a z. subst (λ (x : ℕ). Settled w n q (with b i) (order_of w n x)) (sym z) (inl (kept_same b i fits));
          }

  visit_does : (l j : ℕ) → j < m → level_of w n j ≡ l → (go : Kept → Kept) → ((k : Kept) → Right words n k → Filters k (go k) (Below w n l j)) → (k : Kept) → Right words n k → Filters k (filter_visit w n q j go k) (Below w n l j)
  unfolding filter_visit shut
  visit_does l j h e go does k g = by (shut w n q j k.bits) refl
    where
      found : shut w n q j k.bits ≡ true → (r : ℕ) → Below w n l j r → Met w n q k r
      found t r b =
          let x = some_one k.bits _ n 0 t in
          settle w n q k.bits (order_of w n r) x.0 (omega (arith, x.2)) x.3 (box_drops q (spot_of w x.0) (box_of w n j) (spot_of w (order_of w n r)) x.4 (in_box_lem w n m ok tight l j h e r b))

      by : (t : Bool) → shut w n q j k.bits ≡ t → Filters k (cond t k (go (so_far k.bits (k.opened + 1)))) (Below w n l j)
      by true t = record { good = g; more = record { stays = λ i x. x }; done = found t }
      by false t =
          let d = does (so_far k.bits (k.opened + 1)) (record { long = g.long; low = g.low }) in
          record { good = d.good; more = record { stays = λ i x. d.more.stays i x }; done = d.done }

  filter_does : (m ≡ 0 → n ≡ 0) → (k : Kept) → Right words n k → Filters k (walk_all w n m (filter_visit w n q) (filter_take w n q) k) (λ r. r < n)
  filter_does z = all_does (Right words n) Grows (Met w n q) (filter_steps words w n q) w n m ok (filter_visit w n q) (filter_take w n q) take_does visit_does z

-- ---- nodes opened

take_opened : (w : List ℤ) (n : ℕ) (q : Spot) (r : ℕ) (k : Kept) → (filter_take w n q r k).opened ≡ k.opened
unfolding filter_take
take_opened w n q r k = refl

visit_opened : (w : List ℤ) (n : ℕ) (q : Spot) (j c : ℕ) (go : Kept → Kept) → ((k : Kept) → (go k).opened ≤ k.opened + c) → (k : Kept) → (filter_visit w n q j go k).opened ≤ k.opened + suc c
unfolding filter_visit
visit_opened w n q j c go h k = by (shut w n q j k.bits)
  where
    by : (t : Bool) → (cond t k (go (so_far k.bits (k.opened + 1)))).opened ≤ k.opened + suc c
    by true = omega arith
    by false = omega (arith, h (so_far k.bits (k.opened + 1)))

-- from node j down at most the nodes from there down are opened: what keeps a count in its range
pub filter_node_opened : (w : List ℤ) (n : ℕ) (q : Spot) (l j : ℕ) (k : Kept) → (filter_node w n q l j k).opened ≤ k.opened + tree_size w n l j
unfolding filter_node
filter_node_opened w n q = walk_opened (λ (k : Kept). k.opened) w n (filter_visit w n q) (filter_take w n q) (take_opened w n q) (visit_opened w n q)

-- ---- the sheet

module _ (words : ℕ) (w : List ℤ) (q : Spot) (o : Opens w (points w) (nodes w)) where
  -- at most m nodes are opened
  pub filter_opened : (filter_kept words w q).opened ≤ nodes w
  unfolding filter_kept
  filter_opened =
      let x = all_opened (λ (k : Kept). k.opened) w (points w) (filter_visit w (points w) q) (filter_take w (points w) q) (take_opened w (points w) q) (visit_opened w (points w) q) (nodes w) o.table (so_far (none words) 0) in
      omega arith

  module _ (enough : points w ≤ 64 * words) where
    whole : Does (Right words (points w)) Grows (Met w (points w) q) (so_far (none words) 0) (filter_kept words w q) (λ r. r < points w)
    unfolding filter_kept
    whole = filter_does words w (points w) (nodes w) q enough o.ordered o.table o.tight o.empty (so_far (none words) 0) (record { long = none_length words; low = λ i e. clash e (none_kept words i) })

    -- the words are as many as were lent
    pub kept_long : length (filter_kept words w q).bits ≡ words
    kept_long = whole.good.long

    -- every kept position is below n
    pub kept_below : (i : ℕ) → kept (filter_kept words w q).bits i ≡ true → i < points w
    kept_below = whole.good.low

    -- every position below n is kept, or one that is kept drops it
    pub kept_settled : (i : ℕ) → i < points w → Settled w (points w) q (filter_kept words w q).bits i
    kept_settled i h =
        subst (Settled w (points w) q (filter_kept words w q).bits) (order_rank w (points w) o.ordered i h)
        (whole.done (rank_of w (points w) i) (rank_below w (points w) o.ordered i h))
