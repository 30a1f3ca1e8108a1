-- From one pair of a list to the next: what is left of a chamber, of the list, and the list after a key.
-- Assumes nothing.
use mathlib.Core.Path.{◌≡◌, refl, sym, ap, subst, ◌∙◌}
use mathlib.Core.Bool.{Bool, true, false, ◌&&◌}
use mathlib.Core.Logic.{◌⊎◌, ⊎_elim}
use mathlib.Core.List.{List, [], ◌∷◌, ◌++◌}
use Prim.Native.Nat.{ℕ, zero, suc, ◌+◌, ◌-◌, ◌≤◌, ◌<◌}
use native.Mathlib.Omega.{arith}
use native.Mathlib.Decide.{ℕ_discrete}
use lib.Dec.{leb, ltb}
use lib.ListN.{length}
use borrow.Author.Tests.{ltb-true, ltb-false, leb-true, le-leb}
use Rattle.integers.proofs.Bools.{and_left, and_right, and_both, decide}
use Rattle.plane.specs.Point.{Point, id_at}
use Rattle.plane.specs.Profile.{Profile}
use Rattle.bits.specs.Set.{kept, next_from, Holds}
use Rattle.bits.proofs.NextLaws.{from_le, from_kept}
use Rattle.list.specs.declared.Key.{Key}
use Rattle.list.specs.declared.Pair.{Pair}
use Rattle.list.specs.Pairs.{key_of, follows}
use Rattle.list.specs.Rows.{row, rows}
use Rattle.list.specs.RingList.{pair_at, pair_by}
use Rattle.chamber.specs.Chamber.{ListedOn}
use Rattle.many.specs.Cursor.{late_to, Early, Seeks, rest_to, Entered, left_to, Holding, Advanced}
use Rattle.chamber.proofs.KeepLaws.{between, row_yes, row_no, row_nil, rest_no, chamber_rest_end}
use Rattle.chamber.proofs.ListedLaws.{rows_next, rows_end}

-- ---- chambers before the key

pub early_start : (Q : List Point) (key : Key) → Early Q key 0
early_start Q key = record { below = λ j h. absurd (omega arith) }

pub early_more : (Q : List Point) (key : Key) (j v : ℕ) → v ≡ id_at Q j → v < key.q → Early Q key j → Early Q key (j + 1)
early_more Q key j v e h s = record { below = λ y l. go y l (ℕ_discrete y j) }
  where
    go : (y : ℕ) → y < j + 1 → Dec (y ≡ j) → id_at Q y < key.q
    go y l (yes x) = subst (λ (z : ℕ). id_at Q z < key.q) (sym x) (subst (λ (z : ℕ). z < key.q) e h)
    go y l (no x) = s.below y (omega arith)

-- ---- the search on the words

-- a position of the n is kept
pub record Kept-at (b : List ℕ) (n x : ℕ) : Type 0 where
  pub is_kept : x < n → kept b x ≡ true

pub kept_at : (b : List ℕ) (n i x : ℕ) → Holds b n → x ≡ next_from b i → Kept-at b n x
kept_at b n i x h e = record { is_kept = λ l. from_kept b i x e (omega (arith, h.enough)) }

module _ (P Q : List Point) (key : Key) (b : List ℕ) (j n i : ℕ) where
  -- so far none was found
  pub record Looks (x : ℕ) : Type 0 where
    pub from : i ≤ x
    pub none_before : (y : ℕ) → i ≤ y → y < x → y < n → kept b y ≡ true → follows key (key_of (pair_at P Q j y)) ≡ false

  pub look_start : (u : ℕ) → u ≡ next_from b i → Looks u
  look_start u e = record { from = from_le b i u e; none_before = λ y l h m k. absurd (between b i u e y l h k) }

  pub look_next : (x u : ℕ) → follows key (key_of (pair_at P Q j x)) ≡ false → u ≡ next_from b (x + 1) → Looks x → Looks u
  look_next x u f e s =
      record {
        from = omega (arith, s.from, from_le b (x + 1) u e);
        none_before = λ y l h m k. go y l h m k (decide (ltb y x)) (ℕ_discrete y x);
      }
    where
      go : (y : ℕ) → i ≤ y → y < u → y < n → kept b y ≡ true → (ltb y x ≡ true) ⊎ (ltb y x ≡ false) → Dec (y ≡ x) → follows key (key_of (pair_at P Q j y)) ≡ false
      go y l h m k t (yes z) = ap (λ (v : ℕ). follows key (key_of (pair_at P Q j v))) z ∙ f
      go y l h m k t (no z) =
          ⊎_elim
          (λ (a : ltb y x ≡ true). s.none_before y l (ltb-true y x a) m k)
          (λ (a : ltb y x ≡ false). let g = ltb-false y x a in absurd (between b (x + 1) u e y (omega arith) h k))
          t

-- ---- rows

module _ (rule : ℕ → ℕ → Bool) (pair : ℕ → ℕ → Pair) (key : Key) where
  abbrev late : ℕ → ℕ → Bool
  late = late_to rule pair key

  -- what is passed over adds nothing
  pub rest_over : (j n i d : ℕ) → ((y : ℕ) → i ≤ y → y < i + d → y < n → late j y ≡ false) → rest_to rule pair key j n i ≡ rest_to rule pair key j n (i + d)
  unfolding rest_to
  rest_over j n i zero f = let z : i + 0 ≡ i = omega arith in ap (λ (x : ℕ). row late pair j (n - x) x) (sym z)
  rest_over j n i (suc d) f =
      let shift : i + 1 + d ≡ i + suc d = omega arith in
      ⊎_elim
      (λ (a : ltb i n ≡ true).
      rest_no late pair j n i (ltb-true i n a) (f i (omega arith) (omega arith) (ltb-true i n a))
      ∙ rest_over j n (i + 1) d (λ y l h m. f y (omega arith) (omega arith) m)
      ∙ ap (λ (x : ℕ). row late pair j (n - x) x) shift)
      (λ (a : ltb i n ≡ false). let l = ltb-false i n a in chamber_rest_end late pair j n i l ∙ sym (chamber_rest_end late pair j n (i + suc d) (omega arith)))
      (decide (ltb i n))

  row_fewer : (j k i : ℕ) → length (row late pair j k i) ≤ length (row rule pair j k i)
  unfolding late_to
  row_fewer j zero i = omega (arith, ap length (row_nil late pair j i))
  row_fewer j (suc k) i =
      ⊎_elim
      (λ (e : late j i ≡ true). omega (arith, ap length (row_yes late pair j k i e), ap length (row_yes rule pair j k i (was e)), row_fewer j k (i + 1)))
      (λ (e : late j i ≡ false).
      ⊎_elim
      (λ (f : rule j i ≡ true). omega (arith, ap length (row_no late pair j k i e), ap length (row_yes rule pair j k i f), row_fewer j k (i + 1)))
      (λ (f : rule j i ≡ false). omega (arith, ap length (row_no late pair j k i e), ap length (row_no rule pair j k i f), row_fewer j k (i + 1)))
      (decide (rule j i)))
      (decide (late j i))
    where
      was : late j i ≡ true → rule j i ≡ true
      was e = and_left (rule j i) (follows key (key_of (pair j i))) e

  nil_of : (l : List Pair) → length l ≤ 0 → l ≡ []
  nil_of [] h = refl
  nil_of (v ∷ l) h = absurd (omega arith)

  pub entered_none : (b : List ℕ) (j n c : ℕ) → c ≡ 0 → ListedOn rule pair j n b c → Entered rule pair key b j n n
  unfolding rest_to
  entered_none b j n c z s =
      let e : n - 0 ≡ n = omega arith in
      record {
        all = ap (λ (k : ℕ). row late pair j k 0) e ∙ nil_of (row late pair j n 0) (omega (arith, row_fewer j n 0, s.counted)) ∙ sym (chamber_rest_end late pair j n n (omega arith));
        held = λ h. absurd (omega arith);
        here = λ h. absurd (omega arith);
      }

-- a search finds what is left of a chamber
module _ (rule : ℕ → ℕ → Bool) (φ : Profile) (P Q : List Point) (key : Key) (b : List ℕ) (j n i r : ℕ) (s : Seeks P Q key b j n i r) (held : (y : ℕ) → i ≤ y → y < n → kept b y ≡ rule j y) where
  pub seek_over : rest_to rule (pair_by φ P Q) key j n i ≡ rest_to rule (pair_by φ P Q) key j n r
  unfolding late_to
  seek_over =
      let e : i + (r - i) ≡ r = omega (arith, s.from) in
      rest_over rule (pair_by φ P Q) key j n i (r - i) (λ y l h m. none y l (omega arith) m) ∙ ap (rest_to rule (pair_by φ P Q) key j n) e
    where
      none : (y : ℕ) → i ≤ y → y < r → y < n → late_to rule (pair_by φ P Q) key j y ≡ false
      none y l h m =
          ⊎_elim
          (λ (x : kept b y ≡ true). and_no (rule j y) _ (s.none_before y l h m x))
          (λ (x : kept b y ≡ false). let z : rule j y ≡ false = sym (held y l m) ∙ x in rw z)
          (decide (kept b y))
        where
          and_no : (x t : Bool) → t ≡ false → (x && t) ≡ false
          and_no true t e = e
          and_no false t e = refl

  pub seek_here : r < n → late_to rule (pair_by φ P Q) key j r ≡ true
  unfolding late_to
  seek_here h = and_both (rule j r) (follows key (key_of (pair_at P Q j r))) (sym (held r s.from h) ∙ s.is_kept h) (s.is_late h)

pub entered_some : (rule : ℕ → ℕ → Bool) (φ : Profile) (P Q : List Point) (key : Key) (b : List ℕ) (j n r c : ℕ) → (c ≡ 0 → ⊥) → ListedOn rule (pair_by φ P Q) j n b c → Seeks P Q key b j n 0 r → Entered rule (pair_by φ P Q) key b j n r
entered_some rule φ P Q key b j n r c ne on s =
    record {
      all = seek_over rule φ P Q key b j n 0 r s (λ y l h. on.held ne y h);
      held = λ h. on.held ne;
      here = seek_here rule φ P Q key b j n 0 r s (λ y l h. on.held ne y h);
    }

-- ---- the search goes on

module _ (rule : ℕ → ℕ → Bool) (pair : ℕ → ℕ → Pair) (key : Key) (n nq at₀ i₀ next₀ : ℕ) where
  pub record Going (b : List ℕ) (at i next : ℕ) : Type 0 where
    pub holding : Holding rule n nq b at i next
    pub same : left_to rule pair key n nq at₀ i₀ next₀ ≡ left_to rule pair key n nq at i next
    pub here : i < n → late_to rule pair key at i ≡ true

  -- into the next chamber, where the one at hand is done
  pub go_enter : (b b' : List ℕ) (at i next r : ℕ) → (leb n i && ltb next nq) ≡ true → Going b at i next → Entered rule pair key b' next n r → Going b' next r (next + 1)
  unfolding left_to rest_to
  go_enter b b' at i next r t s en =
      let over : n ≤ i = leb-true n i (and_left (leb n i) (ltb next nq) t) in
      let less : next < nq = ltb-true next nq (and_right (leb n i) (ltb next nq) t) in
      let z : n - 0 ≡ n = omega arith in
      record {
        holding = record { most = omega arith; chamber = λ h. less; held = λ y l h. en.held (omega arith) y h };
        same =
            s.same
            ∙ ap (λ (x : List Pair). x ++ rows (late_to rule pair key) pair n (nq - next) next) (nothing at i over)
            ∙ rows_next (late_to rule pair key) pair n nq next less
            ∙ ap (λ (x : List Pair). x ++ rows (late_to rule pair key) pair n (nq - (next + 1)) (next + 1)) (whole next ∙ en.all);
        here = en.here;
      }
    where
      nothing : (at i : ℕ) → n ≤ i → rest_to rule pair key at n i ≡ []
      nothing at i h = chamber_rest_end (late_to rule pair key) pair at n i h

      whole : (j : ℕ) → row (late_to rule pair key) pair j n 0 ≡ rest_to rule pair key j n 0
      whole j = let z : n - 0 ≡ n = omega arith in ap (λ (k : ℕ). row (late_to rule pair key) pair j k 0) (sym z)

  pub go_end : (b : List ℕ) (at i next : ℕ) → (leb n i && ltb next nq) ≡ false → Going b at i next → Advanced rule pair key n nq b at₀ i₀ next₀ at i next
  unfolding left_to rest_to
  go_end b at i next t s =
      record {
        holding = s.holding;
        same = s.same;
        here = s.here;
        done = λ h.
            let last : nq ≤ next = ltb-false next nq (sym (ap (λ (x : Bool). x && ltb next nq) (le-leb n i h)) ∙ t) in
            ap (λ (x : List Pair). x ++ rows (late_to rule pair key) pair n (nq - next) next) (chamber_rest_end (late_to rule pair key) pair at n i h)
            ∙ rows_end (late_to rule pair key) pair n nq next last;
      }

pub go_start : (rule : ℕ → ℕ → Bool) (φ : Profile) (P Q : List Point) (key : Key) (n nq : ℕ) (b : List ℕ) (at i next r : ℕ) → Holding rule n nq b at i next → Seeks P Q key b at n i r → Going rule (pair_by φ P Q) key n nq at i next b at r next
unfolding left_to
go_start rule φ P Q key n nq b at i next r h s =
    record {
      holding = record { most = h.most; chamber = λ l. h.chamber (omega (arith, s.from)); held = λ y l m. h.held y (omega (arith, s.from)) m };
      same = ap (λ (x : List Pair). x ++ rows (late_to rule (pair_by φ P Q) key) (pair_by φ P Q) n (nq - next) next) (seek_over rule φ P Q key b at n i r s h.held);
      here = seek_here rule φ P Q key b at n i r s h.held;
    }

-- a search that is begun anew where it stands
pub go_here : (rule : ℕ → ℕ → Bool) (pair : ℕ → ℕ → Pair) (key : Key) (n nq at₀ i₀ next₀ : ℕ) (b : List ℕ) (at i next : ℕ) → Going rule pair key n nq at₀ i₀ next₀ b at i next → Going rule pair key n nq at i next b at i next
go_here rule pair key n nq at₀ i₀ next₀ b at i next s = record { holding = s.holding; same = refl; here = s.here }

pub go_all : (rule : ℕ → ℕ → Bool) (pair : ℕ → ℕ → Pair) (key : Key) (n nq at₀ i₀ next₀ at₁ i₁ next₁ : ℕ) (b b' : List ℕ) (at i next : ℕ) → Going rule pair key n nq at₀ i₀ next₀ b at₁ i₁ next₁ → Advanced rule pair key n nq b' at₁ i₁ next₁ at i next → Advanced rule pair key n nq b' at₀ i₀ next₀ at i next
go_all rule pair key n nq at₀ i₀ next₀ at₁ i₁ next₁ b b' at i next s t = record { holding = t.holding; same = s.same ∙ t.same; here = t.here; done = t.done }
