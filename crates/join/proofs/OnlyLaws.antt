-- The walks of a contractor's page: nothing is done for a chamber that is not its own, and all as before for its own.
--
--     only_other, only_own      a chamber of the other's is passed over without a trace; one of its own is worked on as in the undivided list
--     exact_only                what the walks find is what the rule lists of its own chambers
--     only_cap, only_capped     room for the count
-- Assumes nothing.
use mathlib.Core.Path.{◌≡◌, refl, sym, ap, ◌∙◌}
use mathlib.Core.Bool.{Bool, true, false, cond, ◌&&◌}
use mathlib.Core.Logic.{⊎_elim}
use Prim.Native.Nat.{ℕ, ◌+◌, ◌≤◌}
use native.Mathlib.Omega.{arith}
use Rattle.integers.proofs.Bools.{decide}
use Rattle.list.specs.declared.Key.{Key}
use Rattle.list.specs.Rows.{Rising, Named}
use Rattle.join.specs.declared.Draft.{Draft}
use Rattle.join.specs.Walks.{Walks}
use Rattle.join.specs.Work.{first_from}
use Rattle.join.specs.Maker.{spent, with_tried, tried, partner, partners, chamber}
use Rattle.join.specs.Only.{only_for}
use Rattle.join.proofs.MakerLaws.{Exact}
use Rattle.join.proofs.TurnLaws.{Capped}
use Rattle.join.proofs.CallLaws.{spent_none}
use Rattle.join.proofs.ThresholdLaws.{partners_none, partners_same}

module _ (m : ℕ → Bool) (w : Walks) where
  -- ---- a chamber

  module _ (key : Key) (size n j : ℕ) (d : Draft) where
    pub only_other : m j ≡ false → chamber (only_for m w) key size n j d ≡ d
    unfolding chamber only_for
    only_other e =
        partners_none key size (only_for m w) j n 0 (spent (cond (m j) (w.kept_opened j) 0) d) (λ i. ap (λ (b : Bool). b && w.kept j i) e)
        ∙ ap (λ (b : Bool). spent (cond b (w.kept_opened j) 0) d) e
        ∙ sym (spent_none d)

    pub only_own : m j ≡ true → chamber (only_for m w) key size n j d ≡ chamber w key size n j d
    unfolding chamber only_for
    only_own e =
        partners_same key size (only_for m w) w j same n 0 (spent (cond (m j) (w.kept_opened j) 0) d)
        ∙ ap (λ (b : Bool). partners w key size j n 0 (spent (cond b (w.kept_opened j) 0) d)) e
      where
        same : (i : ℕ) (x : Draft) → partner (only_for m w) key size j i x ≡ partner w key size j i x
        same i x = unfold partner tried in ap (λ (b : Bool). cond (b && w.kept j i) (with_tried size (w.pair j i) (tried w key j i) x) x) e

    -- it opens no more
    pub only_cap : (c : ℕ) → (chamber w key size n j d).opened ≤ d.opened + c → (chamber (only_for m w) key size n j d).opened ≤ d.opened + c
    only_cap c h =
        ⊎_elim
        (λ (e : m j ≡ true). rw (only_own e) h)
        (λ (e : m j ≡ false). rw (only_other e) (omega arith))
        (decide (m j))

  -- ---- what the walks find, and room for the count

  pub exact_only : (rule : ℕ → ℕ → Bool) (np nq : ℕ) → Exact w rule np nq → Exact (only_for m w) (λ j i. m j && rule j i) np nq
  unfolding only_for
  exact_only rule np nq ex j i hj hi = ap (λ (b : Bool). m j && b) (ex j i hj hi) ∙ grouped (m j) (w.kept j i) (w.clear j i)
    where
      grouped : (a b c : Bool) → (a && (b && c)) ≡ ((a && b) && c)
      grouped true b c = refl
      grouped false b c = refl

  pub only_capped : (a b : ℕ) → Capped w a b → Capped (only_for m w) a b
  unfolding only_for
  only_capped a b c = record { filter = λ j. few j (m j); ring = c.ring }
    where
      few : (j : ℕ) (t : Bool) → cond t (w.kept_opened j) 0 ≤ a
      few j true = c.filter j
      few j false = omega arith

  -- ---- the pairs and the ids are the sheets'

  pub only_pair : (only_for m w).pair ≡ w.pair
  unfolding only_for
  only_pair = refl

  pub only_named : (pid : ℕ → ℕ) → Named w.pair w.qid pid → Named (only_for m w).pair (only_for m w).qid pid
  unfolding only_for
  only_named pid h = h

  pub only_rising : (n : ℕ) → Rising w.qid n → Rising (only_for m w).qid n
  unfolding only_for
  only_rising n h = h

  pub first_only : (key : Key) (nq j : ℕ) → j ≡ first_from w.qid key nq → j ≡ first_from (only_for m w).qid key nq
  unfolding only_for
  first_only key nq j e = e
