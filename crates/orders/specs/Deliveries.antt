-- The world of the depot, told by what the shipped calls answer: "Forms may be lost, repeated or reordered on the way, but not altered or invented; the depot is begun empty
-- and nobody else writes it or hands in an older state of it." Below it stands the world of demand 3, of which the books are.
use Rattle.std.specs.Prelude.{◌≡◌, false, ℕ, ◌≤◌, ◌<◌, length, take, get_or, Result, Ok, Err}
use mathlib.Core.List.{List, [], ◌∷◌, ◌++◌, Memᴰ}
use Rattle.list.specs.declared.Pair.{Pair}
use Rattle.list.specs.declared.Source.{Source}
use Rattle.list.specs.declared.Terms.{Terms}
use Rattle.list.specs.Terms.{list_for}
use Rattle.book.specs.declared.Book.{Book}
use Rattle.depot.specs.declared.Receipt.{Receipt}
use Rattle.depot.specs.declared.Receipt.TheVariants.{Issued, Known}
use Rattle.depot.specs.declared.Form.{Form}
use Rattle.depot.specs.declared.Made.{Made}
use Rattle.depot.specs.declared.Depot.{Depot}
use Rattle.depot.specs.declared.Stored.{Stored}
use Rattle.depot.specs.Forms.{form_of, forms_of}
use Rattle.depot.specs.Depot.{same_form}
use Rattle.demands.specs.Promises.{FormsAnswers, DepotBegins, StoreAnswers}
use Rattle.demands.specs.World.{Editions, pumps_of, chambers_of, book_list, History}

-- ---- what was handed in

-- a form that was handed in, and what the depot said of it
pub record Handed : Type 0 where
  pub form : Form
  pub outcome : Result Receipt ℕ

-- the forms that were handed in, in this order, repeats and refused ones too [I10]
unfoldable pub handed_in : List Handed → List Form
handed_in [] = []
handed_in (h ∷ l) = h.form ∷ handed_in l

-- of one that was handed in, the form where it was answered `issued`; where it was taken, that is answered `issued` or `known`
unfoldable pub if_issued : Result Receipt ℕ → Form → List Form
if_issued (Ok Issued) f = f ∷ []
if_issued (Ok Known) f = []
if_issued (Err n) f = []

unfoldable pub if_taken : Result Receipt ℕ → Form → List Form
if_taken (Ok Issued) f = f ∷ []
if_taken (Ok Known) f = f ∷ []
if_taken (Err n) f = []

-- those that were answered `issued`, in this order [I10]
unfoldable pub issued_of : List Handed → List Form
issued_of [] = []
issued_of (h ∷ l) = if_issued h.outcome h.form ++ issued_of l

-- those that were taken, in this order: answered `issued` or `known` [I10]
unfoldable pub taken_of : List Handed → List Form
taken_of [] = []
taken_of (h ∷ l) = if_taken h.outcome h.form ++ taken_of l

-- no form was refused by 16, for want of a slot [I10]
abbrev pub NeverFull : List Handed → Type 0
NeverFull log = (h : Handed) → Memᴰ h log → h.outcome ≡ Err 16 → ⊥

-- each form of a book was handed in at least once, whatever the depot said of it [I11]
abbrev pub EachCame : Book → List Pair → List Handed → Type 0
EachCame b slots log = (f : Form) → Memᴰ f (forms_of b slots) → Memᴰ f (handed_in log)

-- each form of a book was taken at least once: answered `issued` or `known`, the first time that it was handed in or any later one [I11]
abbrev pub EachTaken : Book → List Pair → List Handed → Type 0
EachTaken b slots log = (f : Form) → Memᴰ f (forms_of b slots) → Memᴰ f (taken_of log)

-- ---- forms under a book's editions, kind, contractor and profile

-- [I12]
pub record Under (s : Source) (f : Form) : Type 0 where
  pub p_edition : f.p_edition ≡ s.p_edition
  pub q_edition : f.q_edition ≡ s.q_edition
  pub kind : f.own ≡ s.terms.own
  pub contractor : f.contractor ≡ s.terms.contractor
  pub profile : f.grid ≡ s.terms.grid

-- an order of a chamber and a pump house, by their ids, under these [I12]
pub record OrderOf (s : Source) (chamber pump : ℕ) (f : Form) : Type 0 where
  pub under : Under s f
  pub q_is : f.q ≡ chamber
  pub p_is : f.p ≡ pump

-- the terms with no t: those of the full list
abbrev pub no_t : Terms → Terms
no_t a = record { threshold = 0; contractor = a.contractor; own = a.own; grid = a.grid }

module _ (w : Editions) where
  -- the full list under a book's editions, kind, contractor and profile, whatever the book's t [I12]
  abbrev pub full_list : Book → List Pair
  full_list b = list_for (no_t b.source.terms) (w.owners b.source.q_edition) (pumps_of w b.source) (chambers_of w b.source)

  -- a form "not altered or invented": one of those that `forms` made, at some time, of a book and its slots as they stood at some time of a history of demand 3: of a closed
  -- book or of one that was still open [I8, I13]
  pub record Genuine (f : Form) : Type 0 where
    pub b : Book
    pub slots : List Pair
    pub history : History w b slots
    pub out : List Form
    pub r : Made
    pub out' : List Form
    pub makes : FormsAnswers b slots out r out'
    pub given : r.number ≡ 0
    pub among : Memᴰ f (take r.count out')

  module _ (n : ℕ) where
    -- A depot, its slots, and all that was handed in so far, as they can come to stand where each slice that is lent has at least n slots: begun empty; handed genuine forms,
    -- any of them any number of times, in any order, those that it refuses too; lent another slice that holds the same forms. Each step starts from what the step before left:
    -- "nobody else writes it or hands in an older state of it". (A form that is lost is handed in by no step.) [I8, I9]
    pub data Arrived : Depot → List Form → List Handed → Type 0 where
      began : (d : Depot) (slots : List Form) → DepotBegins d → n ≤ length slots → Arrived d slots []
      took : {d : Depot} {slots : List Form} {log : List Handed} (f : Form) (r : Stored) (slots' : List Form)
          → Arrived d slots log → Genuine f → StoreAnswers d slots f r slots' → Arrived r.depot slots' (log ++ (record { form = f; outcome = r.outcome } ∷ []))
      lent : {d : Depot} {slots : List Form} {log : List Handed} (other : List Form)
          → Arrived d slots log → n ≤ length other → d.held ≤ length other → take d.held other ≡ take d.held slots → Arrived d other log

  -- What a works manager asks of the orders that the depot holds under one book's editions, kind, contractor and profile: one for each ring pair of the book's list, none missing
  -- and none twice, and none that is no ring pair of it. [I11]
  pub record OneOrderEach (b : Book) (orders : List Form) : Type 0 where
    pub none_missing : (v : Pair) → Memᴰ v (book_list w b) → Memᴰ (form_of b.source v) orders
    pub none_twice : (x : Form) (i j : ℕ) → i < j → j < length orders → same_form (get_or orders i x) (get_or orders j x) ≡ false
    pub none_other : (f : Form) → Memᴰ f orders → Under b.source f → (v : Pair) × Memᴰ v (book_list w b) × (f ≡ form_of b.source v)
