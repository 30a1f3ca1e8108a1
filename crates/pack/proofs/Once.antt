-- One input, one answer and one final state of the lent words: from the promises of `pack` and of `sheet_len` alone.
-- Assumes nothing.
use mathlib.Core.Path.{◌≡◌, sym, ◌∙◌}
use mathlib.Core.List.{List}
use Prim.Native.Nat.{ℕ}
use lib.IntN.{ℤ}
use lib.ListN.{length}
use Rattle.pack.specs.Pack.{pack_no, pack_out, length_for}

pub length_call_once : (n r r' : ℕ) → r ≡ length_for n → r' ≡ length_for n → r ≡ r'
length_call_once n r r' e f = e ∙ sym f

module _ (form n : ℕ) (p o : List ℤ) (ed : ℕ) (out : List ℤ) where
  pub pack_call_once : (r r' : ℕ) → r ≡ pack_no form n p o ed (length out) → r' ≡ pack_no form n p o ed (length out) → r ≡ r'
  pack_call_once r r' e f = e ∙ sym f

  pub pack_words_once : (w w' : List ℤ) → w ≡ pack_out form n p o ed out → w' ≡ pack_out form n p o ed out → w ≡ w'
  pack_words_once w w' e f = e ∙ sym f
