-- Many pairs of a list at once: the list of pairs to a size, and the number of each refusal.
use Rattle.std.specs.Prelude.{Bool, false, not, List, [], ◌∷◌, ◌++◌, ℕ, ltb, ℤ, length, take, drop}
use Rattle.words.specs.First.{given, first, answer}
use Rattle.sheet.specs.Layout.{points}
use Rattle.sheet.specs.Places.{points_of}
use Rattle.sheet.specs.Open.{sheet_no}
use Rattle.list.specs.declared.Pair.{Pair}
use Rattle.list.specs.declared.Terms.{Terms}
use Rattle.list.specs.Pairs.{after, is_none}
use Rattle.list.specs.declared.Key.{Key}
use Rattle.list.specs.Pages.{threshold_no, contractor_no, owners_no}
use Rattle.list.specs.Terms.{with_by, alone_by, of_contractor}
use Rattle.ring.specs.Lent.{need, bits_no, wiped_by}
use Rattle.ring.specs.Numbers.{grid_no}
use Rattle.ring.specs.Page.{key_no}
use Rattle.chamber.specs.Sized.{list_to}
use Rattle.many.specs.declared.Wanted.{Wanted}
use Rattle.many.specs.declared.Which.{Which}
use Rattle.many.specs.declared.Counted.{Counted}
use Rattle.many.specs.declared.Many.{Many}

-- the greatest size that is taken: no pair of any list has a greater one [MP3, MP14]
abbrev pub last_largest : ℕ
last_largest = 8_000_000_000_000_000_000

-- 40: the largest size is over that [MP14]
unfoldable pub largest_no : ℕ → ℕ
largest_no big = given (ltb last_largest big) 40

-- ---- the numbers: "1-8 P, 1-8 Q, 27, 26, 29, 9, 21, a number of our own for `largest` [..], 24"

-- the terms of two sheets that are asked for
abbrev pub wanted_terms : Wanted → Terms
wanted_terms a = of_contractor a.contractor (with_by a.grid a.threshold)

-- for so many lent words [MP13]
unfoldable pub pairs_no : List ℤ → List ℤ → List ℕ → Wanted → ℕ → ℕ
pairs_no P Q o a len =
    first
    (sheet_no P
    ∷ sheet_no Q
    ∷ contractor_no false a.contractor
    ∷ owners_no a.contractor o (points Q)
    ∷ grid_no a.grid P Q
    ∷ key_no a.key
    ∷ threshold_no a.threshold
    ∷ largest_no a.largest
    ∷ bits_no (need P) len
    ∷ [])

-- "its numbers those of `pairs` without 9" [MP13]
unfoldable pub count_no : List ℤ → List ℤ → List ℕ → Which → ℕ → ℕ
count_no P Q o a len =
    first
    (sheet_no P
    ∷ sheet_no Q
    ∷ contractor_no false a.contractor
    ∷ owners_no a.contractor o (points Q)
    ∷ grid_no a.grid P Q
    ∷ threshold_no a.threshold
    ∷ largest_no a.largest
    ∷ bits_no (need P) len
    ∷ [])

-- of a self join: "1-8, 29, 9, 40, 24" [MP13]
unfoldable pub own_pairs_no : List ℤ → Key → ℕ → Bool → ℕ → ℕ
own_pairs_no S key big g len = first (sheet_no S ∷ grid_no g S S ∷ key_no key ∷ largest_no big ∷ bits_no (need S) len ∷ [])

-- [MP13]
unfoldable pub own_count_no : List ℤ → ℕ → Bool → ℕ → ℕ
own_count_no S big g len = first (sheet_no S ∷ grid_no g S S ∷ largest_no big ∷ bits_no (need S) len ∷ [])

-- what is refused of sheets that open, of which Q has n chambers, where so many words are needed: no promise of an open call cites this
unfoldable pub rest_no : List ℤ → List ℤ → List ℕ → ℕ → Wanted → ℕ → ℕ → ℕ
rest_no P Q o n a words len =
    first
    (contractor_no false a.contractor
    ∷ owners_no a.contractor o n
    ∷ grid_no a.grid P Q
    ∷ key_no a.key
    ∷ threshold_no a.threshold
    ∷ largest_no a.largest
    ∷ bits_no words len
    ∷ [])

-- ---- many pairs of a list

-- "those pairs strictly after the key" of the list to a size [MP1, MP10]
unfoldable pub pairs_list : List ℤ → List ℤ → List ℕ → Wanted → List Pair
pairs_list P Q o a = after a.key (list_to a.largest (wanted_terms a) o (points_of P) (points_of Q))

-- of these "the first so many as the lent slice has slots, their number, whether more follow" [MP6]
unfoldable pub many_given : ℕ → List Pair → Many
many_given len l = record { number = 0; count = length (take len l); more = not (is_none (drop len l)) }

-- refused, the number and zeros [MP15]
unfoldable pub many_refused : ℕ → Many
many_refused k = record { number = k; count = 0; more = false }

-- the slots then: "the rest of the slots untouched" [MP4, MP5]
unfoldable pub stored : List Pair → List Pair → List Pair
stored slots l = take (length slots) l ++ drop (length (take (length slots) l)) slots

-- the answer by its number, for so many slots and lent words; the slots and the words after it [MP1]
unfoldable pub pairs_answer : List ℤ → List ℤ → List ℕ → Wanted → ℕ → ℕ → Many
pairs_answer P Q o a len bits = answer (pairs_no P Q o a bits) (many_given len (pairs_list P Q o a)) many_refused

-- [MP4, MP15]
unfoldable pub pairs_slots : List ℤ → List ℤ → List ℕ → Wanted → List Pair → ℕ → List Pair
pairs_slots P Q o a slots bits = answer (pairs_no P Q o a bits) (stored slots (pairs_list P Q o a)) (λ k. slots)

-- [MP12]
unfoldable pub pairs_bits : List ℤ → List ℤ → List ℕ → Wanted → List ℕ → List ℕ
pairs_bits P Q o a ws = wiped_by (pairs_no P Q o a (length ws)) (need P) ws

-- of a self join: the terms of one, which is all-chambers and has no threshold [MP9, MP10]
unfoldable pub own_list : List ℤ → Key → ℕ → Bool → List Pair
own_list S key big g = after key (list_to big (alone_by g) [] (points_of S) (points_of S))

-- [MP9]
unfoldable pub own_pairs_answer : List ℤ → Key → ℕ → Bool → ℕ → ℕ → Many
own_pairs_answer S key big g len bits = answer (own_pairs_no S key big g bits) (many_given len (own_list S key big g)) many_refused

-- [MP9, MP15]
unfoldable pub own_pairs_slots : List ℤ → Key → ℕ → Bool → List Pair → ℕ → List Pair
own_pairs_slots S key big g slots bits = answer (own_pairs_no S key big g bits) (stored slots (own_list S key big g)) (λ k. slots)

-- [MP12]
unfoldable pub own_pairs_bits : List ℤ → Key → ℕ → Bool → List ℕ → List ℕ
own_pairs_bits S key big g ws = wiped_by (own_pairs_no S key big g (length ws)) (need S) ws

-- ---- how many pairs a list has

-- [MP8, MP10]
unfoldable pub count_given : ℕ → Terms → List ℕ → List ℤ → List ℤ → Counted
count_given big a o P Q = record { number = 0; count = length (list_to big a o (points_of P) (points_of Q)) }

-- [MP15]
unfoldable pub count_refused : ℕ → Counted
count_refused k = record { number = k; count = 0 }

-- the terms of two sheets
abbrev pub which_terms : Which → Terms
which_terms a = of_contractor a.contractor (with_by a.grid a.threshold)

-- the answer by its number, and the lent words after it [MP8]
unfoldable pub count_answer : List ℤ → List ℤ → List ℕ → Which → ℕ → Counted
count_answer P Q o a len = answer (count_no P Q o a len) (count_given a.largest (which_terms a) o P Q) count_refused

-- [MP12]
unfoldable pub count_bits : List ℤ → List ℤ → List ℕ → Which → List ℕ → List ℕ
count_bits P Q o a ws = wiped_by (count_no P Q o a (length ws)) (need P) ws

-- of a self join [MP9]
unfoldable pub own_count_answer : List ℤ → ℕ → Bool → ℕ → Counted
own_count_answer S big g len = answer (own_count_no S big g len) (count_given big (alone_by g) [] S S) count_refused

-- [MP12]
unfoldable pub own_count_bits : List ℤ → ℕ → Bool → List ℕ → List ℕ
own_count_bits S big g ws = wiped_by (own_count_no S big g (length ws)) (need S) ws
