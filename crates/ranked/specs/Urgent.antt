-- The most urgent visits: of a list the k pairs with the highest sum of scores, in order. "A lent score a record, by position, for each sheet (0 to 1,000,000,000)".
use Rattle.std.specs.Prelude.{◌≡◌, Bool, false, cond, not, ◌&&◌, ◌||◌, ◌⊎◌, List, [], ◌∷◌, map, ℕ, ◌+◌, ◌<◌, eqb, leb, ltb, ℤ, length, get_or, replicate}
use Rattle.words.specs.All.{all_b}
use Rattle.words.specs.First.{given, first, answer}
use Rattle.plane.specs.Point.{Point}
use Rattle.sheet.specs.Layout.{points}
use Rattle.sheet.specs.Places.{points_of}
use Rattle.sheet.specs.Open.{sheet_no}
use Rattle.list.specs.declared.Pair.{Pair}
use Rattle.list.specs.Pairs.{none, key_of, follows}
use Rattle.list.specs.Pages.{size_no, contractor_no, owners_no}
use Rattle.ring.specs.Lent.{need, bits_no, wiped_by}
use Rattle.ring.specs.Numbers.{grid_no}
use Rattle.many.specs.Many.{largest_no}
use Rattle.ranked.specs.declared.Question.{Question}
use Rattle.ranked.specs.declared.Visit.{Visit}
use Rattle.ranked.specs.declared.Urgent.{Urgent}
use Rattle.sorting.specs.Ranking.{first_by, sixteen}
use Rattle.ranked.specs.Busiest.{asked_list}

-- ---- scores

abbrev pub last_score : ℕ
last_score = 1_000_000_000

-- one of 0 to 1,000,000,000 for each of n points [BU7]
unfoldable pub scores_ok : List ℕ → ℕ → Bool
scores_ok s n = eqb (length s) n && all_b n (λ i. leb (get_or s i 0) last_score)

-- 41 of P, 42 of Q: they are not [BU9]
unfoldable pub scores_no : ℕ → List ℕ → ℕ → ℕ
scores_no k s n = given (not (scores_ok s n)) k

-- the score of the record with this id: the one at its position [BU7]
unfoldable pub score_of : List Point → List ℕ → ℕ → ℕ
score_of [] s id = 0
score_of (z ∷ p) [] id = 0
score_of (z ∷ p) (c ∷ s) id = cond (eqb z.id id) c (score_of p s id)

-- a pair, with the sum of the scores of its chamber and its pump house [BU6]
unfoldable pub visit_of : List Point → List Point → List ℕ → List ℕ → Pair → Visit
visit_of P Q ps qs v = record { pair = v; score = score_of Q qs v.q + score_of P ps v.p }

-- ---- the order: "the highest sum of scores [..], ties by q id and then p id"

-- [BU8]
unfoldable pub ahead : Visit → Visit → Bool
ahead v w = ltb w.score v.score || (eqb v.score w.score && follows (key_of v.pair) (key_of w.pair))

-- what that says, in numbers [BU8]
abbrev pub Ahead : Visit → Visit → Type 0
Ahead v w = (w.score < v.score) ⊎ ((v.score ≡ w.score) × ((v.pair.q < w.pair.q) ⊎ ((v.pair.q ≡ w.pair.q) × (v.pair.p < w.pair.p))))

-- an unused row
abbrev pub no_visit : Visit
no_visit = record { pair = none; score = 0 }

-- ---- the numbers: those of the busiest chambers, and before 24 "41 the scores of P [..], 42 the same of Q"

-- [BU9, BU10]
unfoldable pub urgent_no : List ℤ → List ℤ → List ℕ → List ℕ → List ℕ → Question → ℕ → ℕ
urgent_no P Q o ps qs a len =
    first
    (sheet_no P
    ∷ sheet_no Q
    ∷ contractor_no false a.contractor
    ∷ owners_no a.contractor o (points Q)
    ∷ grid_no a.grid P Q
    ∷ size_no a.k
    ∷ largest_no a.largest
    ∷ scores_no 41 ps (points P)
    ∷ scores_no 42 qs (points Q)
    ∷ bits_no (need P) len
    ∷ [])

-- ---- the answer

-- "the k ring pairs with the highest sum of scores among those of at most a given size" [BU6]
unfoldable pub urgent_of : List ℤ → List ℤ → List ℕ → List ℕ → List ℕ → Question → List Visit
urgent_of P Q o ps qs a = first_by ahead a.k (map (visit_of (points_of P) (points_of Q) ps qs) (asked_list P Q o a))

-- how many visits, and the visits; the unused rows are zeros [BU6]
unfoldable pub urgent_given : List Visit → Urgent
urgent_given l = record { number = 0; count = length l; rows = sixteen no_visit l }

-- refused, the number and zeros [BU9]
unfoldable pub urgent_refused : ℕ → Urgent
urgent_refused n = record { number = n; count = 0; rows = replicate 16 no_visit }

-- the answer by its number, and the lent words after it
unfoldable pub urgent_answer : List ℤ → List ℤ → List ℕ → List ℕ → List ℕ → Question → ℕ → Urgent
urgent_answer P Q o ps qs a len = answer (urgent_no P Q o ps qs a len) (urgent_given (urgent_of P Q o ps qs a)) urgent_refused

-- [BU11]
unfoldable pub urgent_bits : List ℤ → List ℤ → List ℕ → List ℕ → List ℕ → Question → List ℕ → List ℕ
urgent_bits P Q o ps qs a ws = wiped_by (urgent_no P Q o ps qs a (length ws)) (need P) ws
