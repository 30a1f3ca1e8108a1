-- Laws of the lines: where a listed record stands, and lines one after the other. Assumes nothing.
use mathlib.Core.Path.{◌≡◌, refl, sym, ap, subst, ◌∙◌}
use mathlib.Core.Bool.{true}
use mathlib.Core.List.{List, [], ◌∷◌, ◌++◌, append_assoc, append-nil, Memᴰ}
use Prim.Native.Nat.{ℕ, ◌+◌, ◌-◌, ◌*◌, ◌≤◌, ◌<◌}
use native.Mathlib.Nat.{add-zero}
use native.Mathlib.Omega.{arith}
use borrow.Author.Tests.{eq-eqb, eqb-true}
use lib.Dec.{eqb}
use lib.IntN.{ℤ}
use lib.ListN.{length}
use Rattle.words.proofs.AllLaws.{first_in, first_hit}
use Rattle.plane.specs.declared.Spot.{Spot}
use Rattle.plane.specs.Rule.{SpotIn}
use Rattle.plane.specs.Profile.{circle}
use Rattle.plane.specs.Point.{Point, id_at, spot_at}
use Rattle.sheet.specs.Places.{spot_of, points_of}
use Rattle.sheet.specs.Open.{Opens}
use Rattle.sheet.specs.Find.{position_of}
use Rattle.sheet.proofs.PointsLaws.{length_points, spot_of_lem}
use Rattle.sheet.proofs.RangeLaws.{spot_in}
use Rattle.bits.specs.Set.{kept, next_from}
use Rattle.list.specs.declared.Pair.{Pair}
use Rattle.list.specs.Rows.{row}
use Rattle.list.specs.RingList.{ring_pair, pair_at, size_of}
use Rattle.list.proofs.RowLaws.{by_id, ring_only, ring_size}
use Rattle.join.proofs.Meaning.{points_rise}
use Rattle.chamber.specs.Chamber.{PairsOn}
use Rattle.chamber.proofs.KeepLaws.{rest_yes, rest_skip, chamber_rest_end}
use Rattle.text.specs.Text.{Grown}
use Rattle.text.proofs.Grow.{then}
use Rattle.sheet.specs.declared.Size.{Size}
use Rattle.printout.specs.Listing.{Has, stands_at, HasBoth, line_of, lines_of, ring_row}
use Rattle.printout.specs.Outcome.{Both, pairs_of}

has : (s : List Point) (j : ℕ) → j < length s → Has s (id_at s j)
unfolding position_of
has s j h = first_in (λ i. eqb (id_at s i) (id_at s j)) (length s) j h (eq-eqb (id_at s j) (id_at s j) refl)

-- the record at the position of an id has it
named : (s : List Point) (id : ℕ) → Has s id → id_at s (position_of s id) ≡ id
unfolding position_of
named s id h = eqb-true (id_at s (position_of s id)) id (first_hit (λ i. eqb (id_at s i) id) (length s) h)

module _ {w : List ℤ} {n m : ℕ} (o : Opens w n m) (i : ℕ) (h : i < n) (b : Spot) (e : b ≡ spot_of w i) where
  in_points : i < length (points_of w)
  in_points = omega (arith, length_points w, o.n_is)

  -- ids ascend, so the record at a position is found by its id
  position_is : position_of (points_of w) (id_at (points_of w) i) ≡ i
  position_is =
      let s = points_of w in
      let there = has s i in_points in
      by_id (id_at s) (length s) (points_rise o) (position_of s (id_at s i)) i there in_points (named s (id_at s i) there)

  pub printout_stands : b ≡ stands_at (points_of w) (id_at (points_of w) i)
  printout_stands = e ∙ sym (spot_of_lem w i (omega (arith, o.n_is))) ∙ ap (spot_at (points_of w)) (sym position_is)

  pub stands_in : SpotIn b
  stands_in = subst SpotIn (sym e) (spot_in o i h)

module _ {P Q : List ℤ} {hp hq : Size} (b : Both P hp Q hq) where
  -- the ends of a listed pair are there
  member_has : (v : Pair) → Memᴰ v (pairs_of P Q) → HasBoth (points_of P) (points_of Q) v
  member_has v m =
      let z = ring_only circle (points_of P) (points_of Q) (points_rise b.p_opens) (points_rise b.q_opens) v m in
      subst (HasBoth (points_of P) (points_of Q)) (sym z.is) (has (points_of Q) z.at_q z.q_in, has (points_of P) z.at_p z.p_in)

  -- the size of a listed pair, which its line ends with, is the squared diameter of the places of its two records
  pub line_size : (v : Pair) → Memᴰ v (pairs_of P Q) → v.size ≡ size_of (stands_at (points_of Q) v.q) (stands_at (points_of P) v.p)
  line_size v m =
      let h = member_has v m in
      ring_size circle (points_of P) (points_of Q) (points_rise b.p_opens) (points_rise b.q_opens) v m (position_of (points_of Q) v.q) (position_of (points_of P) v.p) h.0 h.1 (named (points_of Q) v.q h.0) (named (points_of P) v.p h.1)

-- the lines of two lists of pairs, one after the other
pub lines_append : (P Q : List Point) (k l : List Pair) → lines_of P Q (k ++ l) ≡ lines_of P Q k ++ lines_of P Q l
unfolding lines_of
lines_append P Q [] l = refl
lines_append P Q (v ∷ k) l = ap (λ (t : List ℕ). line_of P Q v ++ t) (lines_append P Q k l) ∙ sym (append_assoc (line_of P Q v) (lines_of P Q k) (lines_of P Q l))

-- nothing is put
pub no_line : (A : List ℕ) (at : ℕ) → Grown A at A at []
no_line A at = record { place = sym (add-zero at); text = sym (append-nil _) }

-- ---- the loop over a chamber's kept pairs: A is the buffer before, B at position i. What is put, and then the lines of what is left, are the chamber's

module _ (P Q : List Point) (j n at count : ℕ) where
  abbrev left_at : ℕ → List Pair
  left_at i = row (ring_pair P Q) (pair_at P Q) j (n - i) i

  pub record Putting (A B : List ℕ) (to i : ℕ) : Type 0 where
    pub text : List ℕ
    pub put : Grown A at B to text
    pub left : text ++ lines_of P Q (left_at i) ≡ lines_of P Q (row (ring_pair P Q) (pair_at P Q) j n 0)
    pub few : to + 107 * length (left_at i) ≤ at + 107 * count

  module _ (b : List ℕ) (on : PairsOn (ring_pair P Q) (pair_at P Q) j n b count) where
    -- on to the next kept position
    pub put_next : (A B : List ℕ) (to x u : ℕ) → u ≡ next_from b x → Putting A B to x → Putting A B to u
    put_next A B to x u e s =
        let same : left_at x ≡ left_at u = rest_skip (ring_pair P Q) (pair_at P Q) j n b (λ y h f. on.held y h ∙ f) x u e in
        record {
          text = s.text;
          put = s.put;
          left = ap (λ (l : List Pair). s.text ++ lines_of P Q l) (sym same) ∙ s.left;
          few = subst (λ (l : List Pair). to + 107 * length l ≤ at + 107 * count) same s.few;
        }

    pub put_start : (A : List ℕ) (u : ℕ) → u ≡ next_from b 0 → Putting A A at u
    put_start A u e =
        let z : n - 0 ≡ n = omega arith in
        put_next A A at 0 u e
        (record {
          text = [];
          put = no_line A at;
          left = ap (λ (k : ℕ). lines_of P Q (row (ring_pair P Q) (pair_at P Q) j k 0)) z;
          few = omega (arith, ap (λ (k : ℕ). length (row (ring_pair P Q) (pair_at P Q) j k 0)) z, on.counted);
        })

    module _ (A B : List ℕ) (to i : ℕ) (s : Putting A B to i) (h : i < n) (k : kept b i ≡ true) where
      here : left_at i ≡ pair_at P Q j i ∷ left_at (i + 1)
      here = rest_yes (ring_pair P Q) (pair_at P Q) j n i h (sym (on.held i h) ∙ k)

      -- there is room for its line
      pub put_room : to + 107 ≤ at + 107 * count
      put_room = omega (arith, s.few, ap length here)

      pub put_turn : (C : List ℕ) (r : ℕ) → Grown B to C r (line_of P Q (pair_at P Q j i)) → r ≤ to + 107 → Putting A C r (i + 1)
      unfolding lines_of
      put_turn C r g f =
          record {
            text = s.text ++ line_of P Q (pair_at P Q j i);
            put = then s.put g;
            left =
                append_assoc s.text (line_of P Q (pair_at P Q j i)) (lines_of P Q (left_at (i + 1)))
                ∙ ap (λ (l : List Pair). s.text ++ lines_of P Q l) (sym here)
                ∙ s.left;
            few = omega (arith, s.few, ap length here);
          }

  pub put_end : (A B : List ℕ) (to i : ℕ) → length P ≡ n → n ≤ i → Putting A B to i → Grown A at B to (lines_of P Q (ring_row P Q j)) × (to ≤ at + 107 * count)
  unfolding lines_of
  put_end A B to i e h s =
      let none = chamber_rest_end (ring_pair P Q) (pair_at P Q) j n i h in
      let all : s.text ≡ lines_of P Q (row (ring_pair P Q) (pair_at P Q) j n 0) = sym (append-nil s.text) ∙ ap (λ (l : List Pair). s.text ++ lines_of P Q l) (sym none) ∙ s.left in
      (subst (Grown A at B to) (all ∙ ap (λ (k : ℕ). lines_of P Q (row (ring_pair P Q) (pair_at P Q) j k 0)) (sym e)) s.put, omega (arith, s.few))
