-- Scores: the test of them, and the greatest.
-- Assumes nothing.
use mathlib.Core.Path.{◌≡◌, sym, ap, ◌∙◌}
use mathlib.Core.Bool.{Bool, true, false, ◌&&◌}
use mathlib.Core.Logic.{⊎_elim}
use mathlib.Core.List.{List, [], ◌∷◌}
use Prim.Native.Nat.{ℕ, ◌+◌, ◌≤◌, ◌<◌}
use native.Mathlib.Omega.{arith}
use native.Mathlib.Nat.{eq-or-lt_of_le}
use lib.Dec.{eqb, leb}
use lib.ListN.{length, get_or}
use borrow.Author.Tests.{eqb-true, eq-eqb, ne_eqb, leb-true, le-leb}
use Rattle.integers.proofs.Bools.{and_left, and_right, test_iff}
use lib.IntN.{ℤ}
use Rattle.std.specs.Prelude.{◌↔◌, IsTrue, EachIndex}
use Rattle.words.specs.All.{all_b}
use Rattle.words.specs.First.{first}
use Rattle.words.proofs.FirstLaws.{first_passes, first_stops, first_last, first_front, none_applies, given_held}
use Rattle.words.proofs.AllLaws.{all_at, all_make}
use Rattle.sheet.specs.Layout.{points}
use Rattle.sheet.specs.Open.{Opens, sheet_no}
use Rattle.list.specs.Pages.{size_no, contractor_no, owners_no}
use Rattle.ring.specs.Lent.{need, bits_no}
use Rattle.ring.specs.Numbers.{grid_no}
use Rattle.ring.proofs.LentLaws.{bits_short, bits_enough}
use Rattle.many.specs.Many.{largest_no}
use Rattle.many.proofs.CheckLaws.{bits_lent}
use Rattle.ranked.specs.declared.Question.{Question}
use Rattle.ranked.specs.Busiest.{asked_no}
use Rattle.ranked.specs.Urgent.{last_score, scores_ok, scores_no, urgent_no}
use Rattle.ranked.specs.Visits.{Scored, Greatest}

-- a score in range
abbrev pub within : List ℕ → ℕ → Bool
within s i = leb (get_or s i 0) last_score

pub scores_other : (s : List ℕ) (n : ℕ) → (length s ≡ n → ⊥) → false ≡ scores_ok s n
unfolding scores_ok
scores_other s n ne = sym (ap (λ (b : Bool). b && all_b n (within s)) (ne_eqb (length s) n ne))

pub scores_by : (s : List ℕ) (n : ℕ) (b : Bool) → length s ≡ n → b ≡ all_b n (within s) → b ≡ scores_ok s n
unfolding scores_ok
scores_by s n b e f = f ∙ sym (ap (λ (x : Bool). x && all_b n (within s)) (eq-eqb (length s) n e))

-- that each is, of so many
pub scores_all : (s : List ℕ) (n : ℕ) (r : Bool) → length s ≡ n → IsTrue r ↔ EachIndex s (λ i. get_or s i 0 ≤ last_score) → r ≡ all_b n (within s)
scores_all s n r e f =
    test_iff r (all_b n (within s))
    (λ (t : r ≡ true). all_make (within s) n (λ i h. le-leb (get_or s i 0) last_score (f.0 t i (omega arith))))
    (λ (t : all_b n (within s) ≡ true). f.1 (λ i h. leb-true (get_or s i 0) last_score (all_at (within s) n t i (omega arith))))

pub scores_scored : (s : List ℕ) (n : ℕ) → scores_ok s n ≡ true → Scored s n
unfolding scores_ok
scores_scored s n e =
    record {
      long = eqb-true (length s) n (and_left (eqb (length s) n) (all_b n (within s)) e);
      small = λ i h. leb-true (get_or s i 0) last_score (all_at (within s) n (and_right (eqb (length s) n) (all_b n (within s)) e) i h);
    }

-- ---- the greatest

pub record Topping (s : List ℕ) (n top i : ℕ) : Type 0 where
  pub upto : i ≤ n
  pub most : (x : ℕ) → x < i → get_or s x 0 ≤ top
  pub fits : top ≤ last_score

module _ (s : List ℕ) (n : ℕ) where
  pub top_start : Topping s n 0 0
  top_start = record { upto = omega arith; most = λ x h. absurd (omega arith); fits = omega arith }

  module _ (top i : ℕ) (t : Topping s n top i) (h : i < n) where
    -- the score at i is no greater, or it takes the place
    pub top_more : (other : ℕ) → top ≤ other → get_or s i 0 ≤ other → other ≤ last_score → Topping s n other (i + 1)
    top_more other a b d =
        record {
          upto = omega arith;
          most = λ x l. ⊎_elim (λ (e : x ≡ i). omega (arith, ap (λ (y : ℕ). get_or s y 0) e)) (λ (e : x < i). omega (arith, t.most x e)) (eq-or-lt_of_le {n = x} {m = i} (omega arith));
          fits = d;
        }

  pub top_done : (top i : ℕ) → length s ≡ n → Topping s n top i → n ≤ i → Greatest s top
  top_done top i e t h = record { most = λ x l. t.most x (omega arith); fits = t.fits }

-- ---- what is refused last: 41, 42, then 24

module _ (a x : ℕ) (e : a ≡ x) where
  pub last_p : (l : List ℕ) → (a ≡ 0 → ⊥) → a ≡ first (x ∷ l)
  last_p l ne = e ∙ sym (first_stops x l (λ z. ne (e ∙ z)))

  module _ (z : a ≡ 0) (b y : ℕ) (f : b ≡ y) where
    pub last_q : (l : List ℕ) → (b ≡ 0 → ⊥) → b ≡ first (x ∷ y ∷ l)
    last_q l ne = f ∙ sym (first_passes x (y ∷ l) (sym e ∙ z) ∙ first_stops y l (λ u. ne (f ∙ u)))

    module _ (u : b ≡ 0) (words len : ℕ) where
      both : first (x ∷ y ∷ bits_no words len ∷ []) ≡ bits_no words len
      both = first_passes x _ (sym e ∙ z) ∙ first_passes y _ (sym f ∙ u) ∙ first_last _

      pub last_short : len < words → 24 ≡ first (x ∷ y ∷ bits_no words len ∷ [])
      last_short h = sym (both ∙ bits_short words len h)

      pub last_passes : words ≤ len → 0 ≡ first (x ∷ y ∷ bits_no words len ∷ [])
      last_passes h = sym (both ∙ bits_enough words len h)

-- where none of these applies
pub last_served : (ps qs : List ℕ) (np nq words len m : ℕ) → m ≡ first (scores_no 41 ps np ∷ scores_no 42 qs nq ∷ bits_no words len ∷ []) → m ≡ 0 → Scored ps np × Scored qs nq × (words ≤ len)
unfolding scores_no
last_served ps qs np nq words len m e z =
    let none = (none_applies _).0 (sym e ∙ z) in
    (scores_scored ps np (given_held 40 (none 0)), scores_scored qs nq (given_held 41 (none 1)), bits_lent words len (none 2))

-- ---- the call's number

urgent_number : (P Q : List ℤ) (o ps qs : List ℕ) (a : Question) (len : ℕ) → urgent_no P Q o ps qs a len ≡ first (asked_no P Q o a ∷ scores_no 41 ps (points P) ∷ scores_no 42 qs (points Q) ∷ bits_no (need P) len ∷ [])
unfolding urgent_no asked_no
urgent_number P Q o ps qs a len =
    first_front
    (sheet_no P ∷ sheet_no Q ∷ contractor_no false a.contractor ∷ owners_no a.contractor o (points Q) ∷ grid_no a.grid P Q ∷ size_no a.k ∷ largest_no a.largest ∷ [])
    (scores_no 41 ps (points P) ∷ scores_no 42 qs (points Q) ∷ bits_no (need P) len ∷ [])

module _ (P Q : List ℤ) (o ps qs : List ℕ) (a : Question) (len n : ℕ) (e : n ≡ asked_no P Q o a) where
  after : urgent_no P Q o ps qs a len ≡ first (n ∷ scores_no 41 ps (points P) ∷ scores_no 42 qs (points Q) ∷ bits_no (need P) len ∷ [])
  after = urgent_number P Q o ps qs a len ∙ ap (λ (x : ℕ). first (x ∷ scores_no 41 ps (points P) ∷ scores_no 42 qs (points Q) ∷ bits_no (need P) len ∷ [])) (sym e)

  pub urgent_stops : (n ≡ 0 → ⊥) → n ≡ urgent_no P Q o ps qs a len
  urgent_stops ne = sym (after ∙ first_stops n _ ne)

  pub urgent_last : n ≡ 0 → (np mp nq mq : ℕ) → Opens P np mp → Opens Q nq mq → (w : ℕ) → w ≡ need P → (m : ℕ) → m ≡ first (scores_no 41 ps np ∷ scores_no 42 qs nq ∷ bits_no w len ∷ []) → m ≡ urgent_no P Q o ps qs a len
  urgent_last z np mp nq mq op oq w f m d =
      d ∙ (λ t. first (scores_no 41 ps (sym op.n_is t) ∷ scores_no 42 qs (sym oq.n_is t) ∷ bits_no (f t) len ∷ [])) ∙ sym (after ∙ first_passes n _ z)
