-- Laws of the nodes table: one node more, and what a right node says.
-- Assumes nothing.
use mathlib.Core.Path.{◌≡◌, sym, ap, ◌∙◌}
use mathlib.Core.Bool.{Bool, true, ◌&&◌}
use mathlib.Core.List.{List}
use Prim.Native.Nat.{ℕ, ◌+◌, ◌<◌}
use native.Mathlib.Numerals.{add-one}
use lib.Dec.{ltb}
use lib.IntN.{ℤ, pos}
use borrow.Author.Tests.{ltb-true}
use Rattle.words.specs.Word.{within, eq_z}
use Rattle.integers.proofs.Bools.{and_left}
use Rattle.sheet.specs.declared.Due.{Due}
use Rattle.sheet.specs.Nodes.{level_word, first_word, count_word, due_next, due_of, run_ok, end_ok, node_rule, node_ok}

pub due_more : (w : List ℤ) (n j : ℕ) → due_of w n (j + 1) ≡ due_next w n j (due_of w n j)
unfolding due_of
due_more w n j = rw add-one

-- the test at node j is the test of what was found due there
pub node_is : (w : List ℤ) (n m j : ℕ) (d : Due) (r : Bool) → d ≡ due_of w n j → r ≡ node_rule w n m d j → node_ok w n m j ≡ r
unfolding node_ok
node_is w n m j d r e f = ap (λ (x : Due). node_rule w n m x j) (sym e) ∙ sym f

pub rule_run : (w : List ℤ) (n m : ℕ) (d : Due) (j : ℕ) → node_rule w n m d j ≡ true → run_ok w n d j ≡ true
unfolding node_rule
rule_run w n m d j e = and_left (run_ok w n d j) (end_ok w n m d j) e

pub run_level : (w : List ℤ) (n : ℕ) (d : Due) (j : ℕ) → run_ok w n d j ≡ true → d.level < 8
unfolding run_ok
run_level w n d j e =
    let a = eq_z (level_word w n j) (pos d.level) in
    let b = eq_z (first_word w n j) (pos d.next) in
    let k = within (pos 1) (pos 16) (count_word w n j) in
    ltb-true d.level 8 (and_left (ltb d.level 8) a (and_left (ltb d.level 8 && a) b (and_left (ltb d.level 8 && a && b) k e)))
