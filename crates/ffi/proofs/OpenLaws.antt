-- What crosses of words that are checked, from what the check found.
-- Assumes nothing.
use mathlib.Core.Path.{◌≡◌, sym, ◌∙◌}
use mathlib.Core.List.{List}
use Prim.Native.Nat.{ℕ, ◌≤◌}
use lib.IntN.{ℤ}
use lib.ListN.{length}
use Rattle.words.specs.Word.{num}
use Rattle.words.proofs.FirstLaws.{answer_given, answer_refused}
use Rattle.sheet.specs.Layout.{points, nodes, edition, form}
use Rattle.sheet.specs.Open.{sheet_no}
use Rattle.ring.specs.declared.Head.{Head}
use Rattle.ring.specs.Answers.{head_of}
use Rattle.ring.proofs.HeadLaws.{long, head_number, headed}
use Rattle.ffi.specs.declared.HeadAnswer.{HeadAnswer}
use Rattle.ffi.specs.Over.{head_over}

abbrev found : List ℤ → HeadAnswer
found w = record { number = 0; len = length w; n = points w; m = nodes w; edition = num (edition w); form = num (form w) }

abbrev shut : ℕ → HeadAnswer
shut k = record { number = k; len = 0; n = 0; m = 0; edition = 0; form = 0 }

module _ (w : List ℤ) (h : Head) (e : h ≡ head_of w) where
  -- the number and zeros
  pub over_shut : (h.number ≡ 0 → ⊥) → shut h.number ≡ head_over w
  unfolding head_over
  over_shut ne = sym (answer_refused (found w) shut (sheet_no w) h.number (sym (head_number w h e)) ne)

  -- a sheet has its trailer
  pub over_long : h.number ≡ 0 → 6 ≤ length w
  over_long z = long w (headed w h e z).opens

  -- 0, the counts that the check found, and what stands in the last two words
  pub over_found : h.number ≡ 0 → (ed f : ℕ) → ed ≡ num (edition w) → f ≡ num (form w)
      → record { number = 0; len = length w; n = h.n; m = h.m; edition = ed; form = f } ≡ head_over w
  unfolding head_over
  over_found z ed f d g =
      let t = headed w h e z in
      (λ i. record { number = 0; len = length w; n = t.n_is i; m = t.m_is i; edition = d i; form = g i }) ∙ sym (answer_given (found w) shut (sheet_no w) t.opens)
