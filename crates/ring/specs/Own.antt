-- The page request of a self join, of one sheet: its number, and its answer, which is the page request's of the sheet in both places.
use Rattle.std.specs.Prelude.{Bool, List, [], ◌∷◌, ℕ, ℤ, length}
use Rattle.words.specs.First.{first, answer}
use Rattle.sheet.specs.Open.{sheet_no}
use Rattle.list.specs.declared.Key.{Key}
use Rattle.list.specs.Pages.{size_no}
use Rattle.list.specs.Terms.{alone_by}
use Rattle.ring.specs.Lent.{need, bits_no, wiped_by}
use Rattle.ring.specs.Numbers.{grid_no}
use Rattle.ring.specs.declared.Paged.{Paged}
use Rattle.ring.specs.Page.{key_no, page_given, page_refused}

-- 1 to 8 of the sheet, then 29, then 9, then 10, then 24 [J6, A13]
unfoldable pub own_no : List ℤ → Key → ℕ → Bool → ℕ → ℕ
own_no S key size g len = first (sheet_no S ∷ grid_no g S S ∷ key_no key ∷ size_no size ∷ bits_no (need S) len ∷ [])

-- "Pages, counts, end mark [..] work as before, with one edition in both fields and t 0"; "self joins stay undivided": it takes no contractor and no bytes, and its pages say 2. The answer by its number, 0 is the page, any other is the refusal of that number
-- [J4]
unfoldable pub own_answer : List ℤ → Key → ℕ → Bool → ℕ → Paged
own_answer S key size g len = answer (own_no S key size g len) (page_given (alone_by g) [] S S key size) page_refused

-- the lent words after it [Y10]
unfoldable pub own_bits : List ℤ → Key → ℕ → Bool → List ℕ → List ℕ
own_bits S key size g ws = wiped_by (own_no S key size g (length ws)) (need S) ws
