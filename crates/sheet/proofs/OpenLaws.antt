-- What a right trailer says.
-- Assumes nothing.
use mathlib.Core.Path.{◌≡◌}
use mathlib.Core.Bool.{true, ◌&&◌, beq}
use mathlib.Core.List.{List}
use Prim.Native.Nat.{ℕ, ◌+◌, ◌*◌, ◌≤◌}
use lib.Dec.{eqb}
use lib.IntN.{ℤ, pos}
use lib.ListN.{length}
use borrow.Author.Tests.{ltb-false, eqb-true}
use Rattle.words.specs.Word.{within, eq_z}
use Rattle.words.specs.Range.{edition_word}
use Rattle.integers.proofs.Bools.{and_left, and_right}
use Rattle.words.proofs.Signs.{within_num}
use Rattle.words.proofs.FirstLaws.{none_applies, given_failed, given_held}
use Rattle.sheet.specs.Layout.{n_word, m_word, edition, span, root, points, nodes, root_word, counts_ok, layout_ok, trailer_no}
use Rattle.sheet.specs.Nodes.{nodes_ok, table_ok}
use Rattle.sheet.specs.declared.Limits.{Limits}

pub record Trailer (lim : Limits) (w : List ℤ) : Type 0 where
  pub long : 6 ≤ length w
  pub n_le : points w ≤ lim.points
  pub m_le : nodes w ≤ lim.nodes
  pub edition_in : edition_word (edition w) ≡ true
  pub size : length w ≡ 5 * points w + 7 * nodes w + 6

pub trailer_facts : (lim : Limits) (w : List ℤ) → trailer_no lim w ≡ 0 → Trailer lim w
unfolding trailer_no counts_ok layout_ok
trailer_facts lim w e =
    let z = (none_applies _).0 e in
    let counts = given_held _ (z 2) in
    let a = within (pos 0) (pos lim.points) (n_word w) in
    let b = within (pos 0) (pos lim.nodes) (m_word w) in
    let c = edition_word (edition w) in
    let e₁ = and_left (a && b) c counts in
    record {
      long = ltb-false (length w) 6 (given_failed _ (z 0));
      n_le = (within_num 0 lim.points (n_word w) (and_left a b e₁)).1;
      m_le = (within_num 0 lim.nodes (m_word w) (and_right a b e₁)).1;
      edition_in = and_right (a && b) c counts;
      size = eqb-true (length w) (5 * points w + 7 * nodes w + 6) (and_right (eq_z (span w) (pos (5 * points w + 7 * nodes w)) && eq_z (root w) (pos (root_word (nodes w)))) (eqb (length w) (5 * points w + 7 * nodes w + 6)) (given_held _ (z 3)));
    }

pub nodes_table : (w : List ℤ) (n m : ℕ) → nodes_ok w n m ≡ true → table_ok w n m ≡ true
unfolding nodes_ok
nodes_table w n m e = and_right (beq (eqb n 0) (eqb m 0)) (table_ok w n m) e
