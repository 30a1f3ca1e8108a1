-- The world of demand 3, told by what the shipped calls answer. "Pages may be lost, repeated, late or out of order, but not altered or invented; P sheets with one
-- edition number hold the same points, and Q sheets likewise; nobody else writes the book or hands in an older state of it." For self joins the premise is
-- "that all sheets given to self joins under one edition number hold the same points". For a contractor's list there is one more, "the owner bytes being the same under one chamber edition".
use Rattle.std.specs.Prelude.{◌≡◌, Bool, true, false, cond, List, [], ℕ, zero, suc, ◌≤◌, ◌<◌, ℤ, length, take, Ok}
use Rattle.words.specs.Word.{num}
use Rattle.plane.specs.Point.{Point}
use Rattle.sheet.specs.Layout.{edition, points}
use Rattle.sheet.specs.Places.{points_of}
use Rattle.sheet.specs.Open.{sheet_no}
use Rattle.list.specs.declared.Key.{Key}
use Rattle.list.specs.declared.Pair.{Pair}
use Rattle.list.specs.declared.Source.{Source}
use Rattle.list.specs.declared.Page.{Page}
use Rattle.list.specs.declared.Terms.{Terms}
use Rattle.list.specs.Pages.{owners_no}
use Rattle.list.specs.Terms.{list_for}
use Rattle.ring.specs.Lent.{need}
use Rattle.ring.specs.Numbers.{grid_no}
use Rattle.ring.specs.Page.{source_of}
use Rattle.ring.specs.declared.Paged.{Paged}
use Rattle.book.specs.declared.Book.{Book}
use Rattle.book.specs.declared.Asked.{Asked}
use Rattle.book.specs.declared.Taken.{Taken}
use Rattle.demands.specs.Promises.{TermsAnswers, BeginAnswers, NextAnswers, TakeAnswers}

-- "P sheets with one edition number hold the same points, and Q sheets likewise": for each number a sheet of P and one of Q, whose points they are, and one of self
-- joins. (For a number that was never given out this may be any sheet, as the empty one.) [U12, D9]
pub record Editions : Type 0 where
  pub pumps : ℕ → List ℤ
  pub chambers : ℕ → List ℤ
  -- "the owner bytes being the same under one chamber edition"
  pub owners : ℕ → List ℕ
  pub assets : ℕ → List ℤ
  pub pumps_open : (e : ℕ) → sheet_no (pumps e) ≡ 0
  pub chambers_open : (e : ℕ) → sheet_no (chambers e) ≡ 0
  pub assets_open : (e : ℕ) → sheet_no (assets e) ≡ 0

module _ (w : Editions) where
  -- a sheet of P in this world: it opens, and its points are those of its edition number. Order and tree are its own. [D9]
  pub record PumpSheet (P : List ℤ) : Type 0 where
    pub opens : sheet_no P ≡ 0
    pub same : points_of P ≡ points_of (w.pumps (num (edition P)))

  -- [D9]
  pub record ChamberSheet (Q : List ℤ) : Type 0 where
    pub opens : sheet_no Q ≡ 0
    pub same : points_of Q ≡ points_of (w.chambers (num (edition Q)))

  -- a sheet given to self joins [J7]
  pub record AssetSheet (S : List ℤ) : Type 0 where
    pub opens : sheet_no S ≡ 0
    pub same : points_of S ≡ points_of (w.assets (num (edition S)))

  -- the sheets in the two places of a request: of P and of Q, or of a self join one that is given to self joins, in both
  abbrev pub OfKind : Bool → List ℤ → List ℤ → Type 0
  OfKind false P Q = PumpSheet P × ChamberSheet Q
  OfKind true P Q = AssetSheet P × AssetSheet Q

  abbrev pub Sheets : Terms → List ℤ → List ℤ → Type 0
  Sheets a P Q = OfKind a.own P Q

  -- the owner bytes that a request hands in, of these terms and this sheet of chambers: those of its edition for a contractor's list, none for an undivided one [U12]
  pub record HandsIn (a : Terms) (Q : List ℤ) (o : List ℕ) : Type 0 where
    pub divided : a.contractor < 2 → o ≡ w.owners (num (edition Q))
    pub undivided : a.contractor ≡ 2 → o ≡ []

  -- the points in the two places of a book: of a self join those of its edition in both, else those of its two editions
  abbrev pub pumps_of : Source → List Point
  pumps_of s = cond s.terms.own (points_of (w.assets s.q_edition)) (points_of (w.pumps s.p_edition))

  abbrev pub chambers_of : Source → List Point
  chambers_of s = cond s.terms.own (points_of (w.assets s.q_edition)) (points_of (w.chambers s.q_edition))

  -- the list of a book: that of its terms, of these points, by the owner bytes of its chamber edition (which do not matter for an undivided one) [T6, U12, D4, D5]
  abbrev pub book_list : Book → List Pair
  book_list b = list_for b.source.terms (w.owners b.source.q_edition) (pumps_of b.source) (chambers_of b.source)

  -- a page "not altered or invented": one that the page request of some terms answered, at some time, for sheets of this world, some key and some size [D9]
  pub record Answered (g : Page) : Type 0 where
    pub terms : Terms
    pub P : List ℤ
    pub Q : List ℤ
    pub sheets : Sheets terms P Q
    pub o : List ℕ
    pub handed : HandsIn terms Q o
    pub key : Key
    pub size : ℕ
    pub bits : List ℕ
    pub r : Paged
    pub bits' : List ℕ
    pub answers : TermsAnswers terms o P Q key size bits r bits'
    pub given : r.number ≡ 0
    pub is : g ≡ r.page

  -- A book and its slots, as they can come to stand: begun; handed pages that were answered, in any order, any of them any number of times, those that it refuses too;
  -- lent another slice that holds the same pairs. Each step starts from what the step before left: "nobody else writes the book or hands in an older state of it".
  -- [K9, I8, D4, D5, D9]
  pub data History : Book → List Pair → Type 0 where
    began : (s : Source) (b : Book) (slots : List Pair) → BeginAnswers s (Ok b) → History b slots
    took : {b : Book} {slots : List Pair} (g : Page) (r : Taken) (slots' : List Pair) → History b slots → Answered g → TakeAnswers b slots g r slots' → History r.book slots'
    lent : {b : Book} {slots : List Pair} (other : List Pair) → History b slots → b.held ≤ length other → take b.held other ≡ take b.held slots → History b other

  -- a request for a page of a book's list: of its terms, on sheets of its editions
  pub record Asks (of : Source) (key : Key) (size : ℕ) (r : Paged) : Type 0 where
    pub P : List ℤ
    pub Q : List ℤ
    pub sheets : Sheets of.terms P Q
    pub of_book : source_of P Q of.terms ≡ of
    pub o : List ℕ
    pub handed : HandsIn of.terms Q o
    -- of a contractor's list the bytes are one 0 or 1 a chamber: else the request is refused, by 26
    pub whose : owners_no of.terms.contractor o (points Q) ≡ 0
    -- of the street grid the sheets are of form 1: else the request is refused, by 29
    pub forms : grid_no of.terms.grid P Q ≡ 0
    -- as many words are lent as the points need: else the request is refused, by 24
    pub bits : List ℕ
    pub enough : need P ≤ length bits
    pub bits' : List ℕ
    pub answers : TermsAnswers of.terms o P Q key size bits r bits'

  -- a page "that answers its own next request": the book is asked for its next key, and a page of its list is asked for after it, of any size from 1 to 16 [D6]
  pub record OwnPage (b : Book) (slots : List Pair) (g : Page) : Type 0 where
    pub asked : Asked
    pub key : Key
    pub asks : NextAnswers b slots asked
    pub next_is : asked.next ≡ Ok key
    pub size : ℕ
    pub some : 1 ≤ size
    pub most : size ≤ 16
    pub r : Paged
    pub request : Asks b.source key size r
    pub is : g ≡ r.page

  -- a book that asks so many times, and takes each answer: from the first book and slots to the last [D6]
  pub data Asking : ℕ → Book → List Pair → Book → List Pair → Type 0 where
    stops : (b : Book) (slots : List Pair) → Asking zero b slots b slots
    asks : {k : ℕ} {b : Book} {slots : List Pair} {b'' : Book} {slots'' : List Pair} (g : Page) (r : Taken) (slots' : List Pair)
        → OwnPage b slots g → TakeAnswers b slots g r slots' → Asking k r.book slots' b'' slots'' → Asking (suc k) b slots b'' slots''
