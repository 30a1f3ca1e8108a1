-- What the program does with what it has read.
use Rattle.std.specs.Prelude.{◌≡◌, cond, List, [], ℕ, ◌/◌, ℤ, length, take, drop, Result, Ok, Err}
use Rattle.input.specs.declared.ReadFailed.{ReadFailed}
use Rattle.words.specs.Bytes.{words_of}
use Rattle.words.specs.First.{answer}
use Rattle.sheet.specs.declared.Size.{Size}
use Rattle.sheet.specs.Places.{points_of}
use Rattle.sheet.specs.Limits.{form1}
use Rattle.sheet.specs.Open.{open_no, Opens}
use Rattle.list.specs.declared.Pair.{Pair}
use Rattle.list.specs.RingList.{ring_list}
use Rattle.text.specs.Text.{refused_text, input_text}
use Rattle.printout.specs.Split.{split_at, bad_input}
use Rattle.printout.specs.Listing.{listing_of}
use Rattle.printout.specs.declared.Outcome.{Outcome}
use Rattle.printout.specs.declared.Outcome.TheVariants.{BadInput, BadQ, BadP, Listed}

-- the ring pairs of two sheets
abbrev pub pairs_of : List ℤ → List ℤ → List Pair
pairs_of P Q = ring_list (points_of P) (points_of Q)

-- the number of a sheet of form 1: "2 for a form other than 1 or 2 [..], and from the listing program for form 2" [Y16]
abbrev pub first_no : List ℤ → ℕ
first_no w = open_no form1 w

-- "It opens Q first. It prints `refused q N` or `refused p N` alone" [Y16]
unfoldable pub sheets_outcome : List ℤ → List ℤ → Outcome
sheets_outcome P Q = answer (first_no Q) (answer (first_no P) (Listed (length (pairs_of P Q))) BadP) BadQ

-- P's words, then Q's
unfoldable pub words_outcome : List ℤ → Outcome
words_outcome w = sheets_outcome (take (split_at w) w) (drop (split_at w) w)

-- "or `refused input`" [X13, X14]
unfoldable pub outcome : List ℕ → Outcome
outcome bytes = cond (bad_input (length bytes)) BadInput (words_outcome (words_of bytes (length bytes / 4)))

-- of what was read into a room: the bytes up to the end of the input, or a read that failed, which is `refused input` too (decision 11) [X10]
unfoldable pub got_outcome : Result ℕ ReadFailed → List ℕ → Outcome
got_outcome (Ok n) room = outcome (take n room)
got_outcome (Err e) room = BadInput

-- the line of a refusal: 113 is the byte q, 112 is p. Nothing is said so of two sheets that are listed [X13]
unfoldable pub refusal : Outcome → List ℕ
refusal BadInput = input_text
refusal (BadQ n) = refused_text 113 n
refusal (BadP n) = refused_text 112 n
refusal (Listed n) = []

-- what stands on standard output, of two sheets and an outcome
unfoldable pub printed : List ℤ → List ℤ → Outcome → List ℕ
printed P Q BadInput = refusal BadInput
printed P Q (BadQ n) = refusal (BadQ n)
printed P Q (BadP n) = refusal (BadP n)
printed P Q (Listed n) = listing_of (points_of P) (points_of Q)

-- two sheets of form 1 that open, as the functions inside ask it
pub record Both (P : List ℤ) (hp : Size) (Q : List ℤ) (hq : Size) : Type 0 where
  pub p_no : first_no P ≡ 0
  pub q_no : first_no Q ≡ 0
  pub p_opens : Opens P hp.n hp.m
  pub q_opens : Opens Q hq.n hq.m
