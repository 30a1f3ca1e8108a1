-- A chamber's kept partners, ring-walked one after the other: those that stay kept, the nodes opened, and how many they are.
-- Assumes nothing.
use mathlib.Core.Path.{◌≡◌, refl, sym, ap, ◌∙◌}
use mathlib.Core.Bool.{Bool, true, false, cond, ◌&&◌}
use mathlib.Core.Logic.{⊎_elim}
use mathlib.Core.List.{List}
use Prim.Native.Nat.{ℕ, suc, ◌+◌, ◌*◌, ◌≤◌, ◌<◌}
use native.Mathlib.Omega.{arith}
use native.Mathlib.Nat.{mul-le-mul, le_refl}
use lib.Dec.{ltb}
use lib.IntN.{ℤ}
use lib.ListN.{length}
use borrow.Author.Tests.{ltb-true, ltb-false}
use Rattle.integers.proofs.Bools.{decide}
use Rattle.plane.specs.Profile.{Profile}
use Rattle.plane.proofs.ProfileLaws.{profile_lawful}
use Rattle.bits.specs.Set.{kept, without, next_from}
use Rattle.sheet.specs.Places.{spot_of}
use Rattle.sheet.specs.Open.{Opens}
use Rattle.sheet.proofs.SheetLaws.{by_counts}
use Rattle.walk.specs.declared.Answer.{Answer}
use Rattle.walk.specs.FilterWalk.{keeps_by}
use Rattle.walk.specs.RingWalk.{clear, pair_walk_by}
use Rattle.walk.proofs.Meaning.{keeps_below, pair_opened}
use Rattle.walk.proofs.SiftLaws.{one_if, sum_same, sum_past, stays, spends, stays_not, spends_not, Sifted, Sifts, walk_sift_start, sift_clear, sift_gone, sift_few, sift_room}
use Rattle.list.specs.declared.Terms.{Terms}
use Rattle.list.specs.Terms.{profile_for}
use Rattle.join.specs.Walks.{Agrees}
use Rattle.join.specs.Sheets.{walks_by}
use Rattle.join.specs.Threshold.{found_for, ring_opened}
use Rattle.join.proofs.ThresholdLaws.{row_many}

-- the ring walk of a position
abbrev walk_of : Profile → List ℤ → List ℤ → ℕ → ℕ → Answer
walk_of φ P Q j i = pair_walk_by φ P Q j i

-- the loop that takes out of the words b₀, at the kept position i or past the points
abbrev pub Keeping : Profile → List ℕ → List ℤ → List ℤ → ℕ → List ℕ → ℕ → ℕ → ℕ → Type 0
Keeping φ b₀ P Q j b count opened i = Sifts (walk_of φ P Q j) b₀ 0 b count opened i

-- the same, with i passed
abbrev pub Kept-to : Profile → List ℕ → List ℤ → List ℤ → ℕ → List ℕ → ℕ → ℕ → ℕ → Type 0
Kept-to φ b₀ P Q j b count opened i = Sifted (walk_of φ P Q j) b₀ 0 b count opened i

pub keep_start : (φ : Profile) (b₀ : List ℕ) (P Q : List ℤ) (j u : ℕ) → u ≡ next_from b₀ 0 → Keeping φ b₀ P Q j b₀ 0 0 u
keep_start φ b₀ P Q j u g = walk_sift_start (walk_of φ P Q j) b₀ 0 b₀ 0 u refl refl g

-- words that agree with the walks of two sheets hold no position past the points
past_none : {P : List ℤ} {np mp : ℕ} → Opens P np mp → (Q : List ℤ) (a : Terms) → a.own ≡ false → (words : ℕ) → np ≤ 64 * words → (j : ℕ) (b₀ : List ℕ) → Agrees (walks_by a words P Q) j 0 b₀ → (i : ℕ) → np ≤ i → kept b₀ i ≡ false
past_none {P} o Q a two words enough j b₀ ag i h =
    ⊎_elim
    (λ (e : kept b₀ i ≡ true).
    let k : keeps_by (profile_for a) words P (spot_of Q j) i ≡ true = rw two at (ag.held i (omega arith) ∙ e) in
    absurd (omega (arith, o.n_is, keeps_below (profile_for a) words P (spot_of Q j) (by_counts o) (omega (arith, o.n_is)) i k)))
    (λ (e : kept b₀ i ≡ false). e)
    (decide (kept b₀ i))

module _ (φ : Profile) (b₀ : List ℕ) (P Q : List ℤ) (j : ℕ) where
  -- the words stay as many
  pub keep_long : (b : List ℕ) (count opened i : ℕ) → Kept-to φ b₀ P Q j b count opened i → length b ≡ length b₀
  keep_long b count opened i s = s.long

  module _ (b : List ℕ) (count opened i : ℕ) (s : Keeping φ b₀ P Q j b count opened i) (l : i < 64 * length b₀) (a : Answer) (e : a ≡ walk_of φ P Q j i) (t : Bool) (g : t ≡ clear a.hit) where
    -- one turn: the position stays kept, or is taken out
    pub keep_clear : t ≡ true → (b' : List ℕ) (n : ℕ) → b' ≡ b → n ≡ count + 1 → Kept-to φ b₀ P Q j b' n (opened + a.opened) (i + 1)
    keep_clear y b' n x z = rw (x, z) (sift_clear (walk_of φ P Q j) b₀ 0 b count opened i s l a e t g y)

    pub keep_gone : t ≡ false → (b' : List ℕ) (n : ℕ) → b' ≡ without b i → n ≡ count → Kept-to φ b₀ P Q j b' n (opened + a.opened) (i + 1)
    keep_gone y b' n x z = rw (x, z) (sift_gone (walk_of φ P Q j) b₀ 0 b count opened i s l a e t g y)

  pub keep_few : (b : List ℕ) (count opened i : ℕ) → Keeping φ b₀ P Q j b count opened i → count ≤ i
  keep_few b count opened i s = sift_few (walk_of φ P Q j) b₀ 0 b count opened i s

module _ {P Q : List ℤ} {np mp nq mq : ℕ} (o : Opens P np mp) (o' : Opens Q nq mq) (a : Terms) (two : a.own ≡ false) (j : ℕ) (b₀ : List ℕ) (enough : np ≤ 64 * length b₀) (ag : Agrees (walks_by a (length b₀) P Q) j 0 b₀) where
  pub keep_room : (b : List ℕ) (count opened i : ℕ) → Keeping (profile_for a) b₀ P Q j b count opened i → i < np → (r : Answer) → r ≡ walk_of (profile_for a) P Q j i → opened + r.opened ≤ np * (mp + mq)
  keep_room b count opened i s l r e =
      let cap : (y : ℕ) → (walk_of (profile_for a) P Q j y).opened ≤ mp + mq = λ y. omega (arith, o.m_is, o'.m_is, pair_opened (profile_for a) (profile_lawful a.grid) P Q (by_counts o) (by_counts o') j y) in
      let m : suc i * (mp + mq) ≤ np * (mp + mq) = mul-le-mul {n₁ = suc i} {m₁ = mp + mq} {n₂ = np} {m₂ = mp + mq} (omega arith) (le_refl (mp + mq)) in
      let z : i * (mp + mq) + (mp + mq) ≡ suc i * (mp + mq) = omega arith in
      omega (arith, sift_room (walk_of (profile_for a) P Q j) b₀ 0 b count opened i s (mp + mq) cap, ap (λ (x : Answer). x.opened) e, cap i)

  past : (i : ℕ) → np ≤ i → kept b₀ i ≡ false
  past = past_none o Q a two (length b₀) enough j b₀ ag

  -- what stays of the words is what the walks find
  stays_is : (y : ℕ) → stays (walk_of (profile_for a) P Q j) b₀ y ≡ ((walks_by a (length b₀) P Q).kept j y && (walks_by a (length b₀) P Q).clear j y)
  unfolding stays
  stays_is y = rw (ag.held y (omega arith), two)

  spends_is : (y : ℕ) → spends (walk_of (profile_for a) P Q j) b₀ y ≡ cond ((walks_by a (length b₀) P Q).kept j y) ((walks_by a (length b₀) P Q).clear_opened j y) 0
  unfolding spends
  spends_is y = rw (ag.held y (omega arith), two)

  -- where the loop ends
  module _ (b : List ℕ) (count opened i : ℕ) (s : Keeping (profile_for a) b₀ P Q j b count opened i) (end : np ≤ i) where
    pub kept_clear : (y : ℕ) → kept b y ≡ ((walks_by a (length b₀) P Q).kept j y && (walks_by a (length b₀) P Q).clear j y)
    kept_clear y =
        ⊎_elim
        (λ (t : ltb y i ≡ true). s.sifted.below y (ltb-true y i t))
        (λ (t : ltb y i ≡ false).
        let n = past y (omega (arith, ltb-false y i t)) in
        s.sifted.above y (ltb-false y i t) ∙ n ∙ sym (stays_not (walk_of (profile_for a) P Q j) b₀ y n))
        (decide (ltb y i))
        ∙ stays_is y

    pub join_kept_count : count ≡ found_for (walks_by a (length b₀) P Q) np j
    unfolding found_for
    join_kept_count =
        s.sifted.counted
        ∙ sum_past _ np i end (λ y h l. ap one_if (stays_not (walk_of (profile_for a) P Q j) b₀ y (past y h)))
        ∙ sum_same _ (λ y. one_if ((walks_by a (length b₀) P Q).kept j y && (walks_by a (length b₀) P Q).clear j y)) 0 np (λ y l. ap one_if (stays_is (0 + y)))
        ∙ sym (row_many (λ j i. (walks_by a (length b₀) P Q).kept j i && (walks_by a (length b₀) P Q).clear j i) (walks_by a (length b₀) P Q).pair j np 0)

    pub kept_opened : opened ≡ ring_opened (walks_by a (length b₀) P Q) np j
    unfolding ring_opened
    kept_opened =
        s.sifted.spent
        ∙ omega (arith, sum_past (spends (walk_of (profile_for a) P Q j) b₀) np i end (λ y h l. spends_not (walk_of (profile_for a) P Q j) b₀ y (past y h)))
        ∙ sum_same (spends (walk_of (profile_for a) P Q j) b₀) (λ y. cond ((walks_by a (length b₀) P Q).kept j y) ((walks_by a (length b₀) P Q).clear_opened j y) 0) 0 np (λ y l. spends_is (0 + y))
