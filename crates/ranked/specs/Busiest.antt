-- The busiest chambers, and the busiest pump houses: of a list, the k with the most pairs, in order; "each with its number of partners, those with none too".
use Rattle.std.specs.Prelude.{◌≡◌, Bool, true, false, cond, ◌&&◌, ◌||◌, ◌⊎◌, List, [], ◌∷◌, ℕ, zero, suc, ◌+◌, ◌<◌, eqb, ltb, ℤ, length, replicate}
use Rattle.words.specs.First.{first, answer}
use Rattle.plane.specs.Point.{Point, id_at}
use Rattle.sheet.specs.Layout.{points}
use Rattle.sheet.specs.Places.{points_of}
use Rattle.sheet.specs.Open.{sheet_no}
use Rattle.list.specs.declared.Pair.{Pair}
use Rattle.list.specs.declared.Terms.{Terms}
use Rattle.list.specs.Pairs.{chamber_pairs}
use Rattle.list.specs.Pages.{size_no, contractor_no, owners_no}
use Rattle.list.specs.Contractor.{mine}
use Rattle.list.specs.Terms.{with_by, of_contractor}
use Rattle.ring.specs.Lent.{need, bits_no, wiped_by}
use Rattle.ring.specs.Numbers.{grid_no}
use Rattle.chamber.specs.Sized.{list_to}
use Rattle.many.specs.Many.{largest_no}
use Rattle.ranked.specs.declared.Question.{Question}
use Rattle.ranked.specs.declared.Rank.{Rank}
use Rattle.ranked.specs.declared.Busy.{Busy}
use Rattle.sorting.specs.Ranking.{first_by, sixteen}

-- ---- the order: "the most ring partners, in order, ties by id"

-- v is busier than w: it has more pairs, or as many and the lower id [BU2]
unfoldable pub busier : Rank → Rank → Bool
busier v w = ltb w.pairs v.pairs || (eqb v.pairs w.pairs && ltb v.id w.id)

-- what that says, in numbers [BU2]
abbrev pub Busier : Rank → Rank → Type 0
Busier v w = (w.pairs < v.pairs) ⊎ ((v.pairs ≡ w.pairs) × (v.id < w.id))

-- an unused row
abbrev pub no_rank : Rank
no_rank = record { id = 0; pairs = 0 }

-- ---- the ranks of some records: of the k positions from j on those that are taken, each with its rank

-- [BU3]
unfoldable pub ranks_from : (ℕ → Bool) → (ℕ → Rank) → ℕ → ℕ → List Rank
ranks_from has rank zero j = []
ranks_from has rank (suc k) j = cond (has j) (rank j ∷ ranks_from has rank k (j + 1)) (ranks_from has rank k (j + 1))

-- the pairs of a list whose pump house has this id [BU5]
unfoldable pub pump_pairs : ℕ → List Pair → List Pair
pump_pairs id [] = []
pump_pairs id (v ∷ l) = cond (eqb v.p id) (v ∷ pump_pairs id l) (pump_pairs id l)

-- an id, and how many pairs of the list have it as their chamber's, as their pump house's [BU4]
abbrev pub chamber_rank : List Pair → ℕ → Rank
chamber_rank l id = record { id = id; pairs = length (chamber_pairs id l) }

-- [BU5]
abbrev pub pump_rank : List Pair → ℕ → Rank
pump_rank l id = record { id = id; pairs = length (pump_pairs id l) }

-- the contractor's chambers (all, for 2), and all pump houses, each with its number of pairs in the list [BU1, BU3]
unfoldable pub chamber_ranks : ℕ → List ℕ → List Point → List Pair → List Rank
chamber_ranks c o Q l = ranks_from (mine c o) (λ j. chamber_rank l (id_at Q j)) (length Q) 0

-- [BU5]
unfoldable pub pump_ranks : List Point → List Pair → List Rank
pump_ranks P l = ranks_from (λ i. true) (λ i. pump_rank l (id_at P i)) (length P) 0

-- ---- the numbers: "1-8 P, 1-8 Q, 27, 26, 29, 10, 40, 24"

-- the list asked for: whole chambers, of a contractor, to a size [BU4]
abbrev pub asked_terms : Question → Terms
asked_terms a = of_contractor a.contractor (with_by a.grid 0)

-- [BU4]
unfoldable pub asked_list : List ℤ → List ℤ → List ℕ → Question → List Pair
asked_list P Q o a = list_to a.largest (asked_terms a) o (points_of P) (points_of Q)

-- what is refused whatever is lent: no promise of an open call cites this
unfoldable pub asked_no : List ℤ → List ℤ → List ℕ → Question → ℕ
asked_no P Q o a =
    first
    (sheet_no P
    ∷ sheet_no Q
    ∷ contractor_no false a.contractor
    ∷ owners_no a.contractor o (points Q)
    ∷ grid_no a.grid P Q
    ∷ size_no a.k
    ∷ largest_no a.largest
    ∷ [])

-- for so many lent words [BU9, BU10]
unfoldable pub busy_no : List ℤ → List ℤ → List ℕ → Question → ℕ → ℕ
busy_no P Q o a len =
    first
    (sheet_no P
    ∷ sheet_no Q
    ∷ contractor_no false a.contractor
    ∷ owners_no a.contractor o (points Q)
    ∷ grid_no a.grid P Q
    ∷ size_no a.k
    ∷ largest_no a.largest
    ∷ bits_no (need P) len
    ∷ [])

-- of pump houses, whose list is undivided; the kept sets are of chambers [BU9, BU10]
unfoldable pub pump_no : List ℤ → List ℤ → ℕ → ℕ → Bool → ℕ → ℕ
pump_no P Q k big g len = first (sheet_no P ∷ sheet_no Q ∷ grid_no g P Q ∷ size_no k ∷ largest_no big ∷ bits_no (need Q) len ∷ [])

-- ---- the answers

-- how many ranks, and the ranks; the unused rows are zeros [BU1]
unfoldable pub busy_given : List Rank → Busy
busy_given l = record { number = 0; count = length l; rows = sixteen no_rank l }

-- refused, the number and zeros [BU9]
unfoldable pub busy_refused : ℕ → Busy
busy_refused n = record { number = n; count = 0; rows = replicate 16 no_rank }

-- "the k chambers with the most ring partners, in order, ties by id, k 1 to 16, fewer if there are fewer" [BU1]
unfoldable pub busiest_of : List ℤ → List ℤ → List ℕ → Question → List Rank
busiest_of P Q o a = first_by busier a.k (chamber_ranks a.contractor o (points_of Q) (asked_list P Q o a))

-- "and the same of pump houses" [BU5]
unfoldable pub busiest_pumps : List ℤ → List ℤ → ℕ → ℕ → Bool → List Rank
busiest_pumps P Q k big g = first_by busier k (pump_ranks (points_of P) (list_to big (with_by g 0) [] (points_of P) (points_of Q)))

-- the answer by its number, and the lent words after it
unfoldable pub busy_answer : List ℤ → List ℤ → List ℕ → Question → ℕ → Busy
busy_answer P Q o a len = answer (busy_no P Q o a len) (busy_given (busiest_of P Q o a)) busy_refused

-- [BU11]
unfoldable pub busy_bits : List ℤ → List ℤ → List ℕ → Question → List ℕ → List ℕ
busy_bits P Q o a ws = wiped_by (busy_no P Q o a (length ws)) (need P) ws

unfoldable pub pump_answer : List ℤ → List ℤ → ℕ → ℕ → Bool → ℕ → Busy
pump_answer P Q k big g len = answer (pump_no P Q k big g len) (busy_given (busiest_pumps P Q k big g)) busy_refused

-- [BU11]
unfoldable pub pump_bits : List ℤ → List ℤ → ℕ → ℕ → Bool → List ℕ → List ℕ
pump_bits P Q k big g ws = wiped_by (pump_no P Q k big g (length ws)) (need Q) ws
