-- The list of the latest kept positions: a search from its end down, and one more kept.
-- Assumes nothing.
use mathlib.Core.Path.{◌≡◌, refl, sym, ap, subst, ◌∙◌}
use mathlib.Core.Bool.{Bool, true, false}
use mathlib.Core.Logic.{⊎_elim}
use mathlib.Core.List.{List}
use Prim.Native.Nat.{ℕ, ◌+◌, ◌-◌, ◌*◌, ◌≤◌, ◌<◌}
use native.Mathlib.Omega.{arith}
use native.Mathlib.Decide.{ℕ_discrete}
use lib.IntN.{ℤ}
use lib.ListN.{length, get_or, set}
use lib.Seq.{get_or-set_same, get_or-set_other}
use Rattle.integers.proofs.Bools.{clash}
use Rattle.plane.specs.declared.Spot.{Spot}
use Rattle.plane.specs.declared.Boxed.{Boxed}
use Rattle.plane.specs.Rule.{drops_box}
use Rattle.sheet.specs.Open.{Opens}
use Rattle.sheet.specs.Places.{spot_of}
use Rattle.bits.specs.Set.{kept, with, none, some, Known, Finds}
use Rattle.bits.proofs.SetLaws.{kept_same, kept_more, kept_only, none_kept}
use Rattle.bits.proofs.SomeLaws.{some_one, known_past, known_more, finds_at}
use Rattle.walk.specs.Latest.{Lists, Tries, TestsBox}
use Rattle.walk.proofs.NodeLaws.{spot_fits}

-- ---- the search: of the first c numbers, those from k on are asked, and q holds at none of them

pub record Asked (latest : List ℕ) (q : ℕ → Bool) (c k : ℕ) : Type 0 where
  pub most : k ≤ c
  pub fails : (j : ℕ) → k ≤ j → j < c → q (get_or latest j 0) ≡ false

module _ (latest : List ℕ) (q : ℕ → Bool) (c : ℕ) where
  pub asked_start : Asked latest q c c
  asked_start = record { most = omega arith; fails = λ j a b. absurd (omega arith) }

  pub asked_more : (k : ℕ) → 0 < k → q (get_or latest (k - 1) 0) ≡ false → Asked latest q c k → Asked latest q c (k - 1)
  asked_more k h e a = record { most = omega (arith, a.most); fails = λ j l m. go j l m (ℕ_discrete j (k - 1)) }
    where
      go : (j : ℕ) → k - 1 ≤ j → j < c → Dec (j ≡ k - 1) → q (get_or latest j 0) ≡ false
      go j l m (yes s) = ap (λ (x : ℕ). q (get_or latest x 0)) s ∙ e
      go j l m (no d) = a.fails j (omega arith) m

  module _ (ws : List ℕ) (n : ℕ) (s : Lists ws n latest c) where
    pub asked_yes : (k : ℕ) → k < c → q (get_or latest k 0) ≡ true → Finds ws q n (get_or latest k 0)
    asked_yes k h e = finds_at ws q n (get_or latest k 0) (s.below k h) (record { is_kept = λ l. s.is_kept k h }) e

    -- all asked, and none found
    pub asked_end : (k : ℕ) → k ≤ 0 → Asked latest q c k → Finds ws q n n
    asked_end k h a = record { known = known_past ws n n (omega arith); holds = λ l. absurd (omega arith); none_left = λ l. go (some ws q n 0) refl }
      where
        no_one : some ws q n 0 ≡ true → some ws q n 0 ≡ false
        no_one e =
            let x = some_one ws q n 0 e in
            let y = s.each x.0 (omega (arith, x.2)) x.3 in
            clash x.4 (sym (ap q y.2) ∙ a.fails y.0 (omega arith) y.1)

        go : (b : Bool) → some ws q n 0 ≡ b → some ws q n 0 ≡ false
        go true e = no_one e
        go false e = e

-- ---- a test of boxes, asked of the place of position i

pub says_at : (pre : Spot → Type 0) (post : Spot → Bool → Type 0) (q : Spot) (o : Boxed) → TestsBox pre post q o → (w : List ℤ) (n m : ℕ) → Opens w n m → (i : ℕ) (z : Spot) (t : Bool)
    → i < n → z ≡ spot_of w i → post z t → drops_box q (spot_of w i) o ≡ t
says_at pre post q o d w n m op i z t h e p = subst (λ (s : Spot). drops_box q s o ≡ t) e (sym (d.says z t (spot_fits w n m op i z h e) p))

-- ---- none is kept at the start

pub tries_none : (words : ℕ) (ws : List ℕ) (n : ℕ) (latest : List ℕ) → ws ≡ none words → Tries ws n latest n 0
tries_none words ws n latest e =
    record {
      known = known_past ws n n (omega arith);
      listed = λ h. record {
        below = λ k b. absurd (omega arith);
        is_kept = λ k b. absurd (omega arith);
        each = λ i b y. clash y (ap (λ (x : List ℕ). kept x i) e ∙ none_kept words i);
      };
    }

-- ---- what was found is tried first

pub tries_found : (ws : List ℕ) (n : ℕ) (latest : List ℕ) (last c by : ℕ) → Known ws n by → Tries ws n latest last c → Tries ws n latest by c
tries_found ws n latest last c by k t = record { known = k; listed = t.listed }

-- ---- one more is kept

module _ (ws : List ℕ) (n i : ℕ) (latest : List ℕ) (last c : ℕ) (h : i < n) (m : i < 64 * length ws) (t : Tries ws n latest last c) where
  last_more : (ws' : List ℕ) → ws' ≡ with ws i → Known ws' n last
  last_more ws' e = known_more ws ws' n i last e m t.known

  -- it stands at the end of the list, and every other where it stood
  module _ (r : c < length latest) where
    end_is : get_or (set latest c i) c 0 ≡ i
    end_is = get_or-set_same latest c i 0 r

    rest_is : (k : ℕ) → k < c → get_or (set latest c i) k 0 ≡ get_or latest k 0
    rest_is k l = get_or-set_other latest c k i 0 (λ (e : k ≡ c). omega arith)

    of_each : (P : ℕ → Type 0) → P i → ((k : ℕ) → k < c → P (get_or latest k 0)) → (k : ℕ) → k < c + 1 → P (get_or (set latest c i) k 0)
    of_each P x f k l = go (ℕ_discrete k c)
      where
        go : Dec (k ≡ c) → P (get_or (set latest c i) k 0)
        go (yes e) = subst P (sym (ap (λ (y : ℕ). get_or (set latest c i) y 0) e ∙ end_is)) x
        go (no d) = let b : k < c = omega arith in subst P (sym (rest_is k b)) (f k b)

    lists_more : Lists ws n latest c → Lists (with ws i) n (set latest c i) (c + 1)
    lists_more s =
        record {
          below = of_each (λ x. x < n) h s.below;
          is_kept = of_each (λ x. kept (with ws i) x ≡ true) (kept_same ws i m) (λ k l. kept_more ws i (get_or latest k 0) m (s.is_kept k l));
          each = λ j b y. ⊎_elim (new j) (old j b) (kept_only ws i j m y);
        }
      where
        new : (j : ℕ) → j ≡ i → (k : ℕ) × (k < c + 1) × (get_or (set latest c i) k 0 ≡ j)
        new j e = (c, omega arith, end_is ∙ sym e)

        old : (j : ℕ) → j < n → kept ws j ≡ true → (k : ℕ) × (k < c + 1) × (get_or (set latest c i) k 0 ≡ j)
        old j b y = let x = s.each j b y in (x.0, omega (arith, x.1), rest_is x.0 x.1 ∙ x.2)

    pub tries_more : (ws' : List ℕ) → ws' ≡ with ws i → Tries ws' n (set latest c i) last (c + 1)
    tries_more ws' e =
        record {
          known = last_more ws' e;
          listed = λ l. subst (λ (x : List ℕ). Lists x n (set latest c i) (c + 1)) (sym e) (lists_more (t.listed (omega arith)));
        }

  -- or there is no room for it
  pub tries_full : (ws' : List ℕ) (c' : ℕ) → ws' ≡ with ws i → length latest < c' → Tries ws' n latest last c'
  tries_full ws' c' e f = record { known = last_more ws' e; listed = λ l. absurd (omega arith) }
