-- The chambers one after the other: the pairs kept are the ring pairs, there is room for their lines, and they are counted. Assumes nothing.
use mathlib.Core.Path.{◌≡◌, sym, ap, ◌∙◌}
use mathlib.Core.Bool.{Bool}
use mathlib.Core.List.{List}
use Prim.Native.Nat.{ℕ, ◌+◌, ◌≤◌, ◌<◌}
use native.Mathlib.Omega.{arith}
use lib.IntN.{ℤ}
use lib.ListN.{length}
use Rattle.sheet.specs.declared.Size.{Size}
use Rattle.sheet.specs.Places.{points_of}
use Rattle.bits.specs.Set.{Holds}
use Rattle.list.specs.declared.Pair.{Pair}
use Rattle.list.specs.Rows.{list_by}
use Rattle.list.specs.RingList.{ring_list_by, ring_pair, pair_at}
use Rattle.list.specs.Terms.{full}
use Rattle.list.proofs.RowLaws.{row_same}
use Rattle.chamber.specs.Sized.{small_for}
use Rattle.chamber.specs.Chamber.{PairsOn, ListedOn}
use Rattle.chamber.proofs.KeepLaws.{row_short}
use Rattle.chamber.proofs.ListedLaws.{points_many, Counting, chamber_count_start, count_room, count_more, count_by, chamber_count_end, count_fits}
use Rattle.chamber.proofs.WholeLaws.{small_ring}
use Rattle.printout.specs.Outcome.{Both, pairs_of}
use Rattle.printout.proofs.FormLaws.{few_points}

module _ {P Q : List ℤ} {hp hq : Size} (b : Both P hp Q hq) where
  abbrev rule : ℕ → ℕ → Bool
  rule = ring_pair (points_of P) (points_of Q)

  abbrev pair : ℕ → ℕ → Pair
  pair = pair_at (points_of P) (points_of Q)

  np_few : hp.n ≤ 1000
  np_few = omega (arith, few_points P b.p_no, b.p_opens.n_is)

  pub sixteen_hold : (ws : List ℕ) → length ws ≡ 16 → Holds ws hp.n
  sixteen_hold ws e = record { enough = omega (arith, np_few); numbered = omega arith }

  -- the pairs kept are the ring pairs, at most 1,000
  module _ (j : ℕ) (h : j < hq.n) (ws : List ℕ) (count : ℕ) (on : PairsOn (small_for 8_000_000_000_000_000_000 full (points_of P) (points_of Q)) pair j hp.n ws count) where
    ring : (i : ℕ) → i < hp.n → small_for 8_000_000_000_000_000_000 full (points_of P) (points_of Q) j i ≡ rule j i
    ring i l = small_ring P Q hp.n hp.m hq.n hq.m b.p_opens b.q_opens j i (omega (arith, points_many Q hq.n hq.m b.q_opens)) (omega (arith, points_many P hp.n hp.m b.p_opens))

    pub ring_kept : PairsOn rule pair j hp.n ws count
    ring_kept = record {
      held = λ i l. on.held i l ∙ ring i l;
      counted = on.counted ∙ ap length (row_same (small_for 8_000_000_000_000_000_000 full (points_of P) (points_of Q)) rule pair j hp.n 0 (λ i l m. ring i (omega arith)));
    }

    pub printout_few : count ≤ 1000
    printout_few = omega (arith, ring_kept.counted, row_short rule pair j hp.n 0, np_few)

  -- so many pairs were listed up to chamber j
  abbrev pub Listing : ℕ → ℕ → Type 0
  Listing total j = Counting rule pair hp.n hq.n total j

  pub printout_start : Listing 0 0
  printout_start = chamber_count_start rule pair hp.n hq.n

  module _ (total j : ℕ) (s : Listing total j) (h : j < hq.n) (ws : List ℕ) (found wide : ℕ) (e : wide ≡ found) (on : PairsOn rule pair j hp.n ws found) where
    listed : ListedOn rule pair j hp.n ws found
    listed = record { counted = on.counted; held = λ z. on.held }

    pub printout_fits : total + wide < 18446744073709551616
    printout_fits = count_fits found total wide hp.n {nq = hq.n} e (count_room rule pair hp.n hq.n total j s h ws found listed) b.p_opens.n_le b.q_opens.n_le

    pub printout_more : Listing (total + wide) (j + 1)
    printout_more = count_by rule pair hp.n hq.n total found wide (j + 1) e (count_more rule pair hp.n hq.n total j s h ws found listed)

  pub all_listed : (total j : ℕ) → Listing total j → hq.n ≤ j → total ≡ length (pairs_of P Q)
  unfolding ring_list_by
  all_listed total j s h =
      chamber_count_end rule pair hp.n hq.n total j s h
      ∙ ap (λ (n : ℕ). length (list_by rule pair n hq.n)) (sym (points_many P hp.n hp.m b.p_opens))
      ∙ ap (λ (n : ℕ). length (list_by rule pair (length (points_of P)) n)) (sym (points_many Q hq.n hq.m b.q_opens))
