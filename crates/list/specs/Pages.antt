-- The pages of a list.
use Rattle.std.specs.Prelude.{Bool, cond, not, ◌&&◌, ◌||◌, List, [], ◌∷◌, ◌++◌, ℕ, zero, suc, ◌-◌, eqb, leb, length, take, replicate}
use Rattle.words.specs.First.{given, first}
use Rattle.list.specs.declared.Key.{Key}
use Rattle.list.specs.declared.Pair.{Pair}
use Rattle.list.specs.declared.Source.{Source}
use Rattle.list.specs.declared.Page.{Page}
use Rattle.list.specs.Pairs.{none, after, last_or, is_none}
use Rattle.list.specs.Contractor.{one_each}

-- 21 "t outside 0 to 1,000"; "Request 5's threshold goes to 60,000": the number for the list of t, 0 where t is in range [Y13]
abbrev pub last_threshold : ℕ
last_threshold = 60000

-- [T9, Y13]
unfoldable pub threshold_no : ℕ → ℕ
threshold_no t = given (not (leb t last_threshold)) 21

-- 10: "size out of range", "a size 1 to 16" [P1, N23, H3, H5]
unfoldable pub size_no : ℕ → ℕ
size_no size = given (not (leb 1 size && leb size 16)) 10

-- 27 "contractor outside 0 to 2, or not 2 for a self join": "Pages and books carry the contractor, or 2 for an undivided list; self joins stay undivided" [U10, U13]
unfoldable pub contractor_no : Bool → ℕ → ℕ
contractor_no own c = given (not (leb c 2 && (not own || eqb c 2))) 27

-- 26 "owner bytes not one 0 or 1 a chamber, or any for 2": of a contractor, its bytes, and so many chambers [U14]
unfoldable pub owners_no : ℕ → List ℕ → ℕ → ℕ
owners_no c o n = given (not (cond (eqb c 2) (eqb (length o) 0) (one_each o n))) 26

-- both or neither
abbrev pub alike : Bool → Bool → Bool
alike a b = (a && b) || (not a && not b)

-- both are of self joins, or neither is [J10]
abbrev pub same_kind : Source → Source → Bool
same_kind a b = alike a.terms.own b.terms.own

-- both are of the street grid, or neither is [A8, A14]
abbrev pub same_profile : Source → Source → Bool
same_profile a b = alike a.terms.grid b.terms.grid

-- 22 "wrong kind", then 28 "page of another contractor", then 30 "page of the other profile", then 13 "page of other editions", then 31 "page of another t": the number for a page of `b`
-- and a book of `a`, 0 where they are of one list [N28, N32, O7, T11, J11, A14, U9, U15]
unfoldable pub source_no : Source → Source → ℕ
source_no a b =
    first
    (given (not (same_kind a b)) 22
    ∷ given (not (eqb a.terms.contractor b.terms.contractor)) 28
    ∷ given (not (same_profile a b)) 30
    ∷ given (not (eqb a.p_edition b.p_edition && eqb a.q_edition b.q_edition)) 13
    ∷ given (not (eqb a.terms.threshold b.terms.threshold)) 31
    ∷ [])

-- sixteen pairs, the unused ones three zeros [P6, H4]
unfoldable pub padded : List Pair → List Pair
padded l = l ++ replicate (16 - length l) none

-- "the first `size` ring pairs strictly after the key (fewer if fewer follow)" [P4]
unfoldable pub shown : List Pair → Key → ℕ → List Pair
shown l k size = take size (after k l)

-- "The page holds both editions, the key, the first `size` ring pairs strictly after the key (fewer if fewer follow), their number and an end
-- mark, set exactly when no ring pair follows the last one shown, or follows the key if none is shown." "Unused pairs are three zeros." [P3, P4, P5, V5, V11, X16]
unfoldable pub page_of : Source → List Pair → Key → ℕ → Page
page_of s l k size =
    record {
      source = s;
      key = k;
      count = length (shown l k size);
      end = is_none (after (last_or k (shown l k size)) l);
      pairs = padded (shown l k size);
    }

-- the pairs that a page shows
unfoldable pub page_pairs : Page → List Pair
page_pairs g = take g.count g.pairs

-- the pairs of the pages that `ask` gives from `k` on, each next key the last pair shown, until the end mark (at most f requests)
unfoldable pub followed : ℕ → (ℕ → ℕ) → (Key → ℕ → Page) → Key → List Pair
followed zero sizes ask k = []
followed (suc f) sizes ask k =
    page_pairs (ask k (sizes 0)) ++ cond (ask k (sizes 0)).end [] (followed f (λ i. sizes (suc i)) ask (last_or k (page_pairs (ask k (sizes 0)))))
