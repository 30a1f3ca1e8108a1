-- The world of demand 3: sheets with one edition number hold the same points, and chambers have the same owners; pages are not altered or invented; one book, begun empty.
use Rattle.std.specs.Prelude.{◌≡◌, cond, List, ℕ, zero, suc, ◌≤◌, ◌<◌, length, take, Ok}
use Rattle.plane.specs.Point.{Point}
use Rattle.list.specs.declared.Key.{Key}
use Rattle.list.specs.declared.Pair.{Pair}
use Rattle.list.specs.declared.Source.{Source}
use Rattle.list.specs.declared.Page.{Page}
use Rattle.list.specs.Pages.{page_of}
use Rattle.list.specs.RingList.{Sound}
use Rattle.list.specs.RingList as ring_list
use Rattle.list.specs.Terms.{profile_for, list_for}
use Rattle.book.specs.declared.Book.{Book}
use Rattle.book.specs.Rules.{begun_for, last_key, taken, taken_slots}

-- each edition number has one list of points for P, one for Q and one for self joins ("all sheets given to self joins under one edition number hold the same
-- points"), such as sheets hold: their ids ascend strictly, and they stand where a sheet's points may [D4]
pub record World : Type 0 where
  pub pumps : ℕ → List Point
  pub chambers : ℕ → List Point
  -- "the owner bytes being the same under one chamber edition"
  pub owners : ℕ → List ℕ
  -- [J7]
  pub assets : ℕ → List Point
  pub pumps_sound : (e : ℕ) → Sound (pumps e)
  pub chambers_sound : (e : ℕ) → Sound (chambers e)
  pub assets_sound : (e : ℕ) → Sound (assets e)

module _ (w : World) where
  -- the points in the two places of a page or a book: of a self join those of its one edition in both
  abbrev pub pumps_of : Source → List Point
  pumps_of s = cond s.terms.own (w.assets s.q_edition) (w.pumps s.p_edition)

  abbrev pub chambers_of : Source → List Point
  chambers_of s = cond s.terms.own (w.assets s.q_edition) (w.chambers s.q_edition)

  -- its list: that of its terms, of these points, by the owner bytes of its chamber edition; those of an undivided list do not matter (`undivided_any` of list) [Z2, T6, J6, A10]
  abbrev pub list_of : Source → List Pair
  list_of s = list_for s.terms (w.owners s.q_edition) (pumps_of s) (chambers_of s)

  -- the points in both places stand in reach of its profile, so that no size of its list exceeds the profile's limit. Of the circle every world has it (`circle_in_reach` of
  -- proofs/Story); of the street grid a world has it where the sheets are of form 1, "form 1 sheets only", which 29 sees to
  pub record InReach (s : Source) : Type 0 where
    pub pumps_in : ring_list.Reached (profile_for s.terms) (pumps_of s)
    pub chambers_in : ring_list.Reached (profile_for s.terms) (chambers_of s)

  -- a page that answers some request on two sheets of this world, or on one of a self join [D4]
  pub record Honest (g : Page) : Type 0 where
    pub of : Source
    pub after : Key
    pub size : ℕ
    pub some : 0 < size
    pub most : size ≤ 16
    pub is : g ≡ page_of of (list_of of) after size

  -- a book and the slots lent to it, as they can come to stand: begun; handed honest pages in any order, any of them any number of times, those
  -- that it refuses too; lent another slice that holds the same pairs. (Asking the next key changes nothing, and a slice that is too short is
  -- refused by 11 with nothing changed: neither is a step.) [K9, D4, D5]
  pub data Reached : Book → List Pair → Type 0 where
    began : (s : Source) (b : Book) (slots : List Pair) → begun_for s ≡ Ok b → Reached b slots
    took : {b : Book} {slots : List Pair} (g : Page) → Reached b slots → Honest g → Reached (taken b slots g).book (taken_slots b slots g)
    lent : {b : Book} {slots : List Pair} (other : List Pair) → Reached b slots → b.held ≤ length other → take b.held other ≡ take b.held slots → Reached b other

  -- the page that answers a book's own next request
  abbrev pub own_page : Book → List Pair → ℕ → Page
  own_page b slots size = page_of b.source (list_of b.source) (last_key b.held slots) size

  -- a book that asks k times, for pages of these sizes, and takes each answer
  unfoldable pub served : ℕ → (ℕ → ℕ) → Book → List Pair → Book
  served zero sizes b slots = b
  served (suc k) sizes b slots =
      served k (λ i. sizes (suc i)) (taken b slots (own_page b slots (sizes 0))).book (taken_slots b slots (own_page b slots (sizes 0)))
