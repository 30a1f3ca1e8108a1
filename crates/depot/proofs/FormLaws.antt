-- Forms made one after the other. Assumes nothing.
use mathlib.Core.Path.{◌≡◌, refl, sym, ap, ap₂, ◌∙◌}
use mathlib.Core.Bool.{Bool, true, false}
use mathlib.Core.List.{List, [], ◌∷◌, ◌++◌, map}
use Prim.Native.Nat.{ℕ, zero, suc, ◌+◌, ◌≤◌, ◌<◌}
use native.Mathlib.Omega.{arith}
use native.Mathlib.Numerals.{add-one}
use lib.Dec.{ltb}
use lib.ListN.{length, take, drop, set, get_or, length-set, length-map}
use lib.Seq.{take-suc, drop-cons, set_at, length-take-le, append_snoc}
use borrow.Author.Tests.{ltb-false, lt-ltb, le-ltb}
use Rattle.words.specs.First.{given, first, answer}
use Rattle.list.specs.declared.Pair.{Pair}
use Rattle.list.specs.declared.Source.{Source}
use Rattle.list.specs.Pairs.{none}
use Rattle.list.specs.Lent.{lent_of}
use Rattle.book.specs.declared.Book.{Book}
use Rattle.depot.specs.declared.Form.{Form}
use Rattle.depot.specs.declared.Made.{Made}
use Rattle.depot.specs.declared.MadeArray.{MadeArray}
use Rattle.depot.specs.Forms.{form_of, forms_no, none_made, all_made, made_for, forms_answer, forms_of, forms_out, with_forms, made_array}

abbrev pub blank : Form
blank = record { p_edition = 0; q_edition = 0; own = false; contractor = 0; grid = false; q = 0; p = 0; size = 0 }

-- ---- what is decided, in order

module _ (b : Book) (len room : ℕ) where
  pub made_11 : len < b.held → none_made 11 ≡ made_for b len room
  unfolding made_for forms_no first given answer
  made_11 h = rw (lt-ltb len b.held h)

  pub made_16 : b.held ≤ len → room < b.held → none_made 16 ≡ made_for b len room
  unfolding made_for forms_no first given answer
  made_16 h g = rw (le-ltb len b.held h, lt-ltb room b.held g)

  pub made_all : b.held ≤ len → b.held ≤ room → all_made b ≡ made_for b len room
  unfolding made_for forms_no first given answer
  made_all h g = rw (le-ltb len b.held h, le-ltb room b.held g)

-- ---- the loop

-- `out` after k forms are stored
abbrev pub filled : List Form → Source → List Pair → ℕ → List Form
filled out s ps zero = out
filled out s ps (suc k) = set (filled out s ps k) k (form_of s (get_or ps k none))

pub filled_long : (out : List Form) (s : Source) (ps : List Pair) (k : ℕ) → length (filled out s ps k) ≡ length out
filled_long out s ps zero = refl
filled_long out s ps (suc k) = length-set (filled out s ps k) k (form_of s (get_or ps k none)) ∙ filled_long out s ps k

-- one of the first n pairs, read at any default
front_at : (ps : List Pair) (n k : ℕ) (d : Pair) → k < length (take n ps) → get_or (take n ps) k d ≡ get_or ps k none
front_at ps zero k d h = absurd (omega arith)
front_at [] (suc n) k d h = absurd (omega arith)
front_at (v ∷ ps) (suc n) zero d h = refl
front_at (v ∷ ps) (suc n) (suc k) d h = front_at ps n k d (omega arith)

-- one more form is stored
pub filled_more : (out : List Form) (s : Source) (ps : List Pair) (n k : ℕ) (d : Pair) (z : List Form) (f : Form) → z ≡ filled out s ps k → f ≡ form_of s (get_or (take n ps) k d)
    → k < length (take n ps) → set z k f ≡ filled out s ps (k + 1)
filled_more out s ps n k d z f e g h =
    ap₂ (λ (x : List Form) (w : Form). set x k w) e (g ∙ ap (form_of s) (front_at ps n k d h)) ∙ ap (filled out s ps) (sym (add-one k))

map_append : (f : Pair → Form) (a b : List Pair) → map f (a ++ b) ≡ map f a ++ map f b
map_append f [] b = refl
map_append f (v ∷ a) b = ap (λ (l : List Form). f v ∷ l) (map_append f a b)

filled_is : (out : List Form) (s : Source) (ps : List Pair) (k : ℕ) → k ≤ length ps → k ≤ length out → filled out s ps k ≡ map (form_of s) (take k ps) ++ drop k out
filled_is out s ps zero h g = refl
filled_is out s ps (suc k) h g =
    let f = form_of s in
    let v = f (get_or ps k none) in
    let l : length (map f (take k ps)) ≡ k = length-map (take k ps) f ∙ length-take-le k ps (omega arith) in
    ap (λ (l : List Form). set l k v) (filled_is out s ps k (omega arith) (omega arith) ∙ ap (λ (t : List Form). map f (take k ps) ++ t) (drop-cons out k blank (omega arith)))
    ∙ set_at (map f (take k ps)) (get_or out k blank) (drop (suc k) out) v k l
    ∙ sym (append_snoc (map f (take k ps)) v (drop (suc k) out))
    ∙ ap (λ (t : List Form). t ++ drop (suc k) out) (sym (map_append f (take k ps) (get_or ps k none ∷ [])) ∙ ap (map f) (sym (take-suc ps k none (omega arith))))

-- what is decided leaves room, and as many forms are stored as the answer says
module _ (b : Book) (ps : List Pair) (out : List Form) where
  abbrev by : Bool → Bool → Made
  by s t = answer (first (given s 11 ∷ given t 16 ∷ [])) (all_made b) none_made

  made_room : ((made_for b (length ps) (length out)).count ≤ length ps) × ((made_for b (length ps) (length out)).count ≤ length out)
  unfolding made_for forms_no first given answer
  made_room = go (ltb (length ps) b.held) (ltb (length out) b.held) refl refl
    where
      go : (s t : Bool) → ltb (length ps) b.held ≡ s → ltb (length out) b.held ≡ t → ((by s t).count ≤ length ps) × ((by s t).count ≤ length out)
      go true t e f = (omega arith, omega arith)
      go false true e f = (omega arith, omega arith)
      go false false e f = (omega (arith, ltb-false (length ps) b.held e), omega (arith, ltb-false (length out) b.held f))

  filled_out : filled out b.source ps (made_for b (length ps) (length out)).count ≡ forms_out b ps out
  unfolding made_for forms_out forms_of forms_no first given answer
  filled_out = go (ltb (length ps) b.held) (ltb (length out) b.held) refl refl
    where
      go : (s t : Bool) → ltb (length ps) b.held ≡ s → ltb (length out) b.held ≡ t
          → filled out b.source ps (by s t).count ≡ answer (first (given s 11 ∷ given t 16 ∷ [])) (map (form_of b.source) (take b.held ps) ++ drop b.held out) (λ n. out)
      go true t e f = refl
      go false true e f = refl
      go false false e f = filled_is out b.source ps b.held (ltb-false (length ps) b.held e) (ltb-false (length out) b.held f)

  module _ (r : Made) (e : r ≡ made_for b (length ps) (length out)) where
    pub forms_are : (r ≡ forms_answer b ps out) × (filled out b.source ps r.count ≡ forms_out b ps out)
    unfolding forms_answer
    forms_are = (e, ap (λ (x : Made). filled out b.source ps x.count) e ∙ filled_out)

    pub fits_both : (length (take r.count ps) ≡ r.count) × (r.count ≤ length out)
    fits_both =
        let m = made_room in
        let c : r.count ≡ (made_for b (length ps) (length out)).count = ap (λ (x : Made). x.count) e in
        (length-take-le r.count ps (omega arith), omega arith)

-- ---- a part of an array, lent

pub made_array_is : (l : List Pair) (len : ℕ) (out : List Form) (room : ℕ) (b : Book) (m n : ℕ) (r : Made) (zs : List Form) (t : MadeArray) → m ≡ lent_of 64 len → n ≡ lent_of 64 room
    → r ≡ forms_answer b (take m l) (take n out) → zs ≡ forms_out b (take m l) (take n out) → t ≡ with_forms (zs ++ drop n out) r → t ≡ made_array l len out room b
unfolding made_array
made_array_is l len out room b m n r zs t em en x y z =
    z ∙ ap₂ (λ (u : List Form) (v : Made). with_forms (u ++ drop n out) v) y x
    ∙ ap₂ (λ (i j : ℕ). with_forms (forms_out b (take i l) (take j out) ++ drop j out) (forms_answer b (take i l) (take j out))) em en
