-- Where the input is split. "The program splits at Q's span, found from the last six words; if span+6 is negative, under 6 or over the whole, Q is
-- everything."
use Rattle.std.specs.Prelude.{Bool, cond, not, ◌||◌, List, ℕ, ◌-◌, ◌%◌, eqb, ltb, ℤ, pos, ◌+ℤ◌, length}
use Rattle.words.specs.Word.{within, num}
use Rattle.sheet.specs.Layout.{span}

-- how many of the words are P's: what is left before the last span+6, or none where Q is everything [X11, X12]
unfoldable pub split_at : List ℤ → ℕ
split_at w = cond (within (pos 6) (pos (length w)) (span w +ℤ pos 6)) (length w - num (span w +ℤ pos 6)) 0

-- "or `refused input` for under 24 bytes, over 62,448, or not a multiple of 4" [X14]
unfoldable pub bad_input : ℕ → Bool
bad_input bytes = ltb bytes 24 || (ltb 62448 bytes || not (eqb (bytes % 4) 0))
