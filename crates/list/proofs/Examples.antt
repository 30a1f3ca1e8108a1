-- The document's listing with its pages, and the starred examples that speak of another record on one spot, as request 3 turns them: each by computation.
-- Assumes nothing.
use mathlib.Core.Path.{◌≡◌, refl}
use mathlib.Core.Bool.{true, false}
use mathlib.Core.List.{List, [], ◌∷◌}
use Prim.Native.Nat.{ℕ}
use lib.IntN.{pos}
use lib.ListN.{replicate}
use Rattle.words.specs.All.{all_b}
use Rattle.plane.specs.Rule.{spot, same_spot, blocks}
use Rattle.plane.specs.Point.{Point}
use Rattle.list.specs.declared.Key.{Key}
use Rattle.list.specs.declared.Pair.{Pair}
use Rattle.list.specs.declared.Source.{Source}
use Rattle.list.specs.declared.Page.{Page}
use Rattle.list.specs.Pairs.{start, none, follows, after, last_or, is_none}
use Rattle.list.specs.Pages.{padded, shown, page_of}
use Rattle.list.specs.Rows.{row, rows, at_least, list_by}
use Rattle.list.specs.RingList.{unblocked, ring_pair_by, ring_pair, ring_list_by, ring_list}
use Rattle.list.specs.Terms.{full, with_t, of_contractor, pair_for, listed_for, list_for}

abbrev at : ℕ → ℕ → ℕ → Point
at i x y = record { id = i; spot = spot (pos x) (pos y) }

abbrev to : ℕ → ℕ → ℕ → Pair
to q p size = record { q = q; p = p; size = size }

abbrev key : ℕ → ℕ → Key
key q p = record { q = q; p = p }

-- P, edition 7, and Q, edition 9
abbrev pumps : List Point
pumps = at 1 0 0 ∷ at 2 10 0 ∷ []

abbrev chambers : List Point
chambers = at 5 4 0 ∷ at 6 16 1 ∷ []

abbrev source : Source
source = record { p_edition = 7; q_edition = 9; terms = full }

abbrev page : Key → ℕ → Page
page k size = page_of source (ring_list pumps chambers) k size

-- the page that shows one pair, (6, 2), with the end mark
abbrev last : Key → Page
last k = record { source = source; key = k; count = 1; end = true; pairs = to 6 2 37 ∷ replicate 15 none }

pub record Listed : Type 0 where
  listing : ring_list pumps chambers ≡ to 5 1 16 ∷ to 5 2 36 ∷ to 6 2 37 ∷ []
  -- "Size 2 from (0,0) gives two pairs, no end mark; from (5,2) one pair with the mark; from (6,2) none, with the mark. Key (5,3) gives (6,2)."
  first : page start 2 ≡ record { source = source; key = start; count = 2; end = false; pairs = to 5 1 16 ∷ to 5 2 36 ∷ replicate 14 none }
  second : page (key 5 2) 2 ≡ last (key 5 2)
  third : page (key 6 2) 2 ≡ record { source = source; key = key 6 2; count = 0; end = true; pairs = replicate 16 none }
  between : page (key 5 3) 2 ≡ last (key 5 3)
  -- "a full last page has it too"
  full : page (key 5 2) 1 ≡ last (key 5 2)
  -- chamber 5 has two partners, chamber 6 has one
  of_none : list_for (with_t 0) [] pumps chambers ≡ ring_list pumps chambers
  of_one : list_for (with_t 1) [] pumps chambers ≡ ring_list pumps chambers
  of_two : list_for (with_t 2) [] pumps chambers ≡ to 5 1 16 ∷ to 5 2 36 ∷ []
  of_three : list_for (with_t 3) [] pumps chambers ≡ []
  -- chamber 5 is the first contractor's, chamber 6 the second's
  of_first : list_for (of_contractor 0 (with_t 0)) (0 ∷ 1 ∷ []) pumps chambers ≡ to 5 1 16 ∷ to 5 2 36 ∷ []
  of_second : list_for (of_contractor 1 (with_t 0)) (0 ∷ 1 ∷ []) pumps chambers ≡ to 6 2 37 ∷ []

pub listed : Listed
unfolding ring_list_by list_by rows row ring_pair_by unblocked all_b same_spot blocks page_of padded shown after follows last_or is_none at_least pair_for listed_for list_for
listed = record { listing = refl; first = refl; second = refl; third = refl; between = refl; full = refl; of_none = refl; of_one = refl; of_two = refl; of_three = refl; of_first = refl; of_second = refl }

-- "01's two examples with records on one spot turn round": a record of either set at the place of an end doesn't count as another point
pub record Starred : Type 0 where
  -- (0,0),(4,0)
  alone : ring_pair (at 1 4 0 ∷ []) (at 1 0 0 ∷ []) 0 0 ≡ true
  beside : ring_pair (at 1 4 0 ∷ []) (at 1 0 0 ∷ at 2 2 3 ∷ []) 0 0 ≡ true
  on_end_q : ring_pair (at 1 4 0 ∷ []) (at 1 0 0 ∷ at 2 0 0 ∷ []) 0 0 ≡ true
  on_end_p : ring_pair (at 1 4 0 ∷ at 2 0 0 ∷ []) (at 1 0 0 ∷ []) 0 0 ≡ true
  -- (7,7),(7,7)
  one_spot : ring_pair (at 1 7 7 ∷ []) (at 1 7 7 ∷ []) 0 0 ≡ true
  one_off : ring_pair (at 1 7 7 ∷ []) (at 1 7 7 ∷ at 2 7 8 ∷ []) 0 0 ≡ true
  third_q : ring_pair (at 1 7 7 ∷ []) (at 1 7 7 ∷ at 2 7 7 ∷ []) 0 0 ≡ true
  third_p : ring_pair (at 1 7 7 ∷ at 2 7 7 ∷ []) (at 1 7 7 ∷ []) 0 0 ≡ true

pub list_starred : Starred
unfolding ring_pair_by unblocked all_b same_spot blocks
list_starred =
    record { alone = refl; beside = refl; on_end_q = refl; on_end_p = refl; one_spot = refl; one_off = refl; third_q = refl; third_p = refl }
