-- "What one contractor is handed may not depend on the ids of the other's chambers [..]: equal requests give the first contractor equal pages or refusals."
--
--     blind         two runs in which both sheets open, and that differ in the ids of the other's chambers alone: for every key, also one that names a chamber of the other's, every size,
--                   t and profile, however each sheet is packed in either run, the number, the page and the lent words after it are the same. The count of nodes opened may differ: it is
--                   not handed on
--     blind_no      the number
-- Assumes nothing.
use mathlib.Core.Path.{◌≡◌, refl, sym, ap, ap₂, ◌∙◌}
use mathlib.Core.Bool.{◌&&◌, ◌||◌, false}
use mathlib.Core.List.{List, [], ◌∷◌}
use Prim.Native.Nat.{ℕ, zero, suc, ◌<◌}
use lib.IntN.{ℤ, pos}
use lib.ListN.{length}
use Rattle.words.specs.First.{given, first, answer}
use Rattle.words.specs.Word.{eq_z, num}
use Rattle.bits.specs.Set.{words_for}
use Rattle.plane.specs.Point.{Point}
use Rattle.sheet.specs.Layout.{points}
use Rattle.sheet.specs.Places.{points_of}
use Rattle.sheet.proofs.SheetLaws.{sheet_facts}
use Rattle.sheet.proofs.PointsLaws.{length_points}
use Rattle.list.specs.declared.Pair.{Pair}
use Rattle.list.specs.declared.Request.{Request}
use Rattle.list.specs.declared.Source.{Source}
use Rattle.list.specs.Contractor.{Renamed}
use Rattle.list.specs.Pages.{threshold_no, size_no, contractor_no, owners_no, page_of}
use Rattle.list.specs.Terms.{list_for}
use Rattle.list.proofs.BlindLaws.{same_owners, blind_list}
use Rattle.join.proofs.Meaning.{points_rise}
use Rattle.ring.specs.declared.Paged.{Paged}
use Rattle.ring.specs.Blind.{SameSeen}
use Rattle.ring.specs.Lent.{need, bits_no, wiped_by}
use Rattle.ring.specs.Numbers.{sheets_no, grid_no}
use Rattle.ring.specs.Page.{key_no, page_no, source_of, page_given, page_refused, terms_of, page_answer, page_bits}
use Rattle.ring.proofs.HeadLaws.{both_open}
use Rattle.ring.proofs.PageLaws.{PageDone, ring_page_no}

-- answers by one number whose pages are one
page_by : (n m : ℕ) → n ≡ m → (x y : Paged) → x.page ≡ y.page → (answer n x page_refused).page ≡ (answer m y page_refused).page
unfolding answer
page_by n m e x y f = ap (λ (k : ℕ). (answer k x page_refused).page) e ∙ go m
  where
    go : (k : ℕ) → (answer k x page_refused).page ≡ (answer k y page_refused).page
    go zero = f
    go (suc k) = refl

module _ (c : ℕ) (one : c < 2) (P Q : List ℤ) (o : List ℕ) (P' Q' : List ℤ) (o' : List ℕ) (opens : sheets_no P Q ≡ 0) (opens' : sheets_no P' Q' ≡ 0) (p_points : points_of P ≡ points_of P') (p-seen : SameSeen P P') (q-seen : SameSeen Q Q')
    (renamed : Renamed c (points_of Q) o (points_of Q') o') (a : Request) (is : a.contractor ≡ c) where
  p_need : need P ≡ need P'
  p_need = ap words_for (sym (length_points P) ∙ ap length p_points ∙ length_points P')

  -- the bytes are refused in both runs or in neither
  owners_same : owners_no a.contractor o (points Q) ≡ owners_no a.contractor o' (points Q')
  owners_same =
      ap₂ (λ (x n : ℕ). owners_no x o n) is (sym (length_points Q))
      ∙ same_owners c (points_of Q) o (points_of Q') o' renamed
      ∙ ap₂ (λ (x n : ℕ). owners_no x o' n) (sym is) (length_points Q')

  forms_same : grid_no a.grid P Q ≡ grid_no a.grid P' Q'
  unfolding grid_no
  forms_same = ap₂ (λ (x y : ℤ). given (a.grid && (eq_z x (pos 2) || eq_z y (pos 2))) 29) p-seen.forms q-seen.forms

  -- of all that a request is refused by, once the sheets open, only the bytes and the forms are not its own
  pub blind_no : (len : ℕ) → page_no P Q o a len ≡ page_no P' Q' o' a len
  unfolding page_no
  blind_no len =
      let s = both_open P Q opens in
      let s' = both_open P' Q' opens' in
      let p = s.0 ∙ sym s'.0 in
      let q = s.1 ∙ sym s'.1 in
      λ i. first (p i ∷ q i ∷ contractor_no false a.contractor ∷ owners_same i ∷ forms_same i ∷ key_no a.key ∷ size_no a.size ∷ threshold_no a.threshold ∷ bits_no (p_need i) len ∷ [])

  list_same : list_for (terms_of a) o (points_of P) (points_of Q) ≡ list_for (terms_of a) o' (points_of P') (points_of Q')
  list_same =
      let s = both_open P Q opens in
      let s' = both_open P' Q' opens' in
      blind_list c (points_of Q) o (points_of Q') o' renamed one (terms_of a) is (points_of P) (points_rise (sheet_facts P s.0)) (points_rise (sheet_facts Q s.1)) (points_rise (sheet_facts Q' s'.1))
      ∙ ap (λ (x : List Point). list_for (terms_of a) o' x (points_of Q')) p_points

  source_same : source_of P Q (terms_of a) ≡ source_of P' Q' (terms_of a)
  unfolding source_of
  source_same = λ i. record { p_edition = num (p-seen.editions i); q_edition = num (q-seen.editions i); terms = terms_of a }

  page_same : (page_given (terms_of a) o P Q a.key a.size).page ≡ (page_given (terms_of a) o' P' Q' a.key a.size).page
  unfolding page_given
  page_same = ap₂ (λ (s : Source) (l : List Pair). page_of s l a.key a.size) source_same list_same

  pub blind : (ws : List ℕ) (r r' : Paged) (ws₁ ws₁' : List ℕ) → PageDone P Q o a ws r ws₁ → PageDone P' Q' o' a ws r' ws₁' → (r.number ≡ r'.number) × (r.page ≡ r'.page) × (ws₁ ≡ ws₁')
  unfolding page_answer page_bits
  blind ws r r' ws₁ ws₁' d d' =
      let len = length ws in (
        ap (λ (x : Paged). x.number) d.0 ∙ ring_page_no P Q o a len ∙ blind_no len ∙ sym (ap (λ (x : Paged). x.number) d'.0 ∙ ring_page_no P' Q' o' a len),
        ap (λ (x : Paged). x.page) d.0 ∙ page_by (page_no P Q o a len) (page_no P' Q' o' a len) (blind_no len) (page_given (terms_of a) o P Q a.key a.size) (page_given (terms_of a) o' P' Q' a.key a.size) page_same ∙ sym (ap (λ (x : Paged). x.page) d'.0),
        d.1 ∙ ap₂ (λ (k n : ℕ). wiped_by k n ws) (blind_no len) p_need ∙ sym d'.1,
      )
