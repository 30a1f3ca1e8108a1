-- What a genuine form is: the form of a pair of the list of the book that it was made from. So it has a key in range, and its key says all of it.
-- Assumes nothing.
use mathlib.Core.Path.{◌≡◌, refl, sym, ap, subst, ◌∙◌}
use mathlib.Core.Bool.{true, cond, ◌&&◌}
use mathlib.Core.List.Memᴰ
use mathlib.Core.List.{[], List, ◌∷◌, map, Memᴰ}
use Prim.Native.Nat.{ℕ, ◌≤◌, ◌<◌}
use native.Mathlib.Omega.{arith}
use lib.Dec.{leb}
use lib.ListN.{length, take, drop, length-map, take-append-drop}
use lib.Seq.{take_at, length-take-le}
use borrow.Author.Tests.{le-leb}
use Rattle.std.specs.Prelude.{Ok, Err}
use Rattle.integers.proofs.Bools.{and_left, and_right, and_both}
use Rattle.words.specs.Range.{edition_ok}
use Rattle.words.specs.First.{answer}
use Rattle.words.proofs.FirstLaws.{none_applies, given_held}
use Rattle.plane.specs.Profile.{profile_of}
use Rattle.plane.specs.Point.{Point, id_at, spot_at}
use Rattle.sheet.specs.Places.{points_of}
use Rattle.list.specs.declared.Pair.{Pair}
use Rattle.list.specs.declared.Source.{Source}
use Rattle.list.specs.declared.Terms.{Terms}
use Rattle.list.specs.RingList.{pair_by}
use Rattle.list.specs.Rows.{row, at_least, Rising}
use Rattle.list.specs.Contractor.{mine}
use Rattle.list.specs.Terms.{pair_for, listed_for, list_for, profile_for}
use Rattle.list.proofs.ContractorLaws.{contractor_most}
use Rattle.list.proofs.TermsLaws.{for_only, for_iff, for_ids, for_size}
use Rattle.book.specs.declared.Book.{Book}
use Rattle.book.specs.declared.Taken.{Taken}
use Rattle.book.specs.Rules.{one_sheet, begin_no, begun_no, begun_book, begun_for}
use Rattle.book.proofs.Once.{book_begin_no}
use Rattle.book.proofs.TakeLaws.{same_book_source}
use Rattle.depot.specs.declared.Form.{Form}
use Rattle.depot.specs.declared.Made.{Made}
use Rattle.depot.specs.Forms.{form_of, forms_answer, forms_of}
use Rattle.depot.specs.Depot.{last_contractor, form_ok}
use Rattle.depot.proofs.TakeLaws.{forms_made}
use Rattle.depot.proofs.KeyLaws.{OneKey}
use Rattle.demands.specs.World.{Editions, pumps_of, chambers_of, book_list, History, began, took, lent}
use Rattle.demands.proofs.Demand3.{held_prefix, pumps_rise, chambers_rise}
use Rattle.orders.specs.Deliveries.{Under, no_t, full_list, Genuine}

-- ---- a list of forms made of pairs

map_in : (g : Pair → Form) (l : List Pair) (f : Form) → Memᴰ f (map g l) → (v : Pair) × Memᴰ v l × (f ≡ g v)
map_in g [] f x' = elim x' [ ]
map_in g (v ∷ l) f (Memᴰ.head e) = (v, Memᴰ.head refl, e)
map_in g (v ∷ l) f (Memᴰ.tail m) = let r = map_in g l f m in (r.0, Memᴰ.tail r.1, r.2)

in_map : (g : Pair → Form) (l : List Pair) (v : Pair) → Memᴰ v l → Memᴰ (g v) (map g l)
in_map g [] v x' = elim x' [ ]
in_map g (u ∷ l) v (Memᴰ.head e) = Memᴰ.head (ap g e)
in_map g (u ∷ l) v (Memᴰ.tail m) = Memᴰ.tail (in_map g l v m)

-- the forms of a book's pairs
forms_in : (b : Book) (s : List Pair) (f : Form) → Memᴰ f (forms_of b s) → (v : Pair) × Memᴰ v (take b.held s) × (f ≡ form_of b.source v)
unfolding forms_of
forms_in b s f m = map_in (form_of b.source) (take b.held s) f m

pub in_forms : (b : Book) (s : List Pair) (v : Pair) → Memᴰ v (take b.held s) → Memᴰ (form_of b.source v) (forms_of b s)
unfolding forms_of
in_forms b s v m = in_map (form_of b.source) (take b.held s) v m

pub forms_long : (b : Book) (s : List Pair) → b.held ≤ length s → length (forms_of b s) ≡ b.held
unfolding forms_of
forms_long b s h = length-map (take b.held s) (form_of b.source) ∙ length-take-le b.held s h

-- ---- a book's list with a t is a part of the full one

module _ (a : Terms) (o : List ℕ) (P Q : List Point) (rp : Rising (id_at P) (length P)) (rq : Rising (id_at Q) (length Q)) where
  pub in_full : (v : Pair) → Memᴰ v (list_for a o P Q) → Memᴰ v (list_for (no_t a) o P Q)
  unfolding listed_for at_least pair_for
  in_full v m =
      let z = for_only a o P Q rp rq v m in
      let j = z.at_q in
      let i = z.at_p in
      let n = length (row (pair_for a P Q) (pair_by (profile_for a) P Q) j (length P) 0) in
      let mine-j = mine a.contractor o j in
      let own : mine-j ≡ true = and_left mine-j _ z.holds in
      let holds : pair_for a P Q j i ≡ true = and_left (pair_for a P Q j i) _ (and_right mine-j _ z.holds) in
      subst (λ (u : Pair). Memᴰ u (list_for (no_t a) o P Q)) (sym z.is) ((for_iff (no_t a) o P Q rp rq j i z.q_in z.p_in).1 (and_both mine-j (pair_for a P Q j i && leb 0 n) own (and_both (pair_for a P Q j i) (leb 0 n) holds (le-leb 0 n (omega arith)))))

module _ (w : Editions) where
  -- ---- where a genuine form comes from

  pub record Formed (f : Form) : Type 0 where
    pub b : Book
    pub slots : List Pair
    pub history : History w b slots
    pub v : Pair
    pub listed : Memᴰ v (book_list w b)
    pub is : f ≡ form_of b.source v

  -- what a book holds is of its list
  pub held_listed : {b : Book} {s : List Pair} → History w b s → (v : Pair) → Memᴰ v (take b.held s) → Memᴰ v (book_list w b)
  held_listed {b} h v m =
      let l = book_list w b in
      subst (Memᴰ v) (take-append-drop b.held l) (Memᴰ.append_left (drop b.held l) (subst (Memᴰ v) (held_prefix w h).2 m))

  pub formed : (f : Form) → Genuine w f → Formed f
  formed f g =
      let b = g.b in
      let s = g.slots in
      let h = g.history in
      let fine : (forms_answer b s g.out).number ≡ 0 = sym (ap (λ (x : Made). x.number) g.makes.0) ∙ g.given in
      let z = forms_made b s g.out fine in
      let n : g.r.count ≡ b.held = ap (λ (x : Made). x.count) g.makes.0 ∙ z.0 in
      let made : take g.r.count g.out' ≡ forms_of b s =
      ap (λ (k : ℕ). take k g.out') n ∙ ap (take b.held) (g.makes.1 ∙ z.1) ∙ take_at (forms_of b s) (drop b.held g.out) b.held (forms_long b s (held_prefix w h).0) in
      let r = forms_in b s f (subst (Memᴰ f) made g.among) in
      record { b = b; slots = s; history = h; v = r.0; listed = held_listed h r.0 r.1; is = r.2 }

  -- ---- its key is in range

  -- what a book was begun for
  begun_with : (s : Source) (b : Book) → Ok b ≡ begun_for s → (begin_no s ≡ 0) × (b.source ≡ s)
  begun_with s b e = (number, source)
    where
      number : begin_no s ≡ 0
      number = sym (book_begin_no s) ∙ ap begun_no (sym e) ∙ (unfold begun_no in refl)

      source : b.source ≡ s
      source = let z : Ok b ≡ Ok (begun_book s) = e ∙ (unfold begun_for in ap (λ (n : ℕ). answer n (Ok (begun_book s)) Err) number ∙ (unfold answer in refl)) in let y : b ≡ begun_book s = cc in ap (λ (x : Book). x.source) y ∙ (unfold begun_book in refl)

  pub record InRange (s : Source) : Type 0 where
    pub p_fine : edition_ok s.p_edition ≡ true
    pub q_fine : edition_ok s.q_edition ≡ true
    pub contractor_fine : leb s.terms.contractor last_contractor ≡ true

  begun_fine : (s : Source) → begin_no s ≡ 0 → InRange s
  unfolding begin_no
  begun_fine s e =
      let x = edition_ok s.p_edition in
      let y = edition_ok s.q_edition in
      let z = and_left (x && y) (one_sheet s) (given_held _ ((none_applies _).0 e 0)) in
      record { p_fine = and_left x y z; q_fine = and_right x y z; contractor_fine = le-leb _ _ (contractor_most s.terms.own s.terms.contractor ((none_applies _).0 e 3)) }

  pub book_fine : {b : Book} {s : List Pair} → History w b s → InRange b.source
  book_fine (began s b slots a) = let z = begun_with s b a.promised in subst InRange (sym z.1) (begun_fine s z.0)
  book_fine (took {b} {slots} g r slots' h a t) =
      subst InRange (sym (ap (λ (x : Taken). x.book.source) t.0 ∙ same_book_source b slots g)) (book_fine h)
  book_fine (lent other h e f) = book_fine h

  pub genuine_ok : (f : Form) → Genuine w f → form_ok f ≡ true
  unfolding form_ok form_of
  genuine_ok f g =
      let z = formed f g in
      let s = z.b.source in
      let r = book_fine z.history in
      let i = for_ids s.terms (w.owners s.q_edition) (pumps_of w s) (chambers_of w s) (pumps_rise w s) (chambers_rise w s) z.v z.listed in
      ap form_ok z.is ∙ rw (r.p_fine, r.q_fine, r.contractor_fine, i.0, i.1)

  -- ---- and says all of it

  -- the same editions and kind have the same points
  same_pumps : (s t : Source) → s.p_edition ≡ t.p_edition → s.q_edition ≡ t.q_edition → s.terms.own ≡ t.terms.own → pumps_of w s ≡ pumps_of w t
  same_pumps s t p q o = λ i. cond (o i) (points_of (w.assets (q i))) (points_of (w.pumps (p i)))

  same_chambers : (s t : Source) → s.q_edition ≡ t.q_edition → s.terms.own ≡ t.terms.own → chambers_of w s ≡ chambers_of w t
  same_chambers s t q o = λ i. cond (o i) (points_of (w.assets (q i))) (points_of (w.chambers (q i)))

  -- two pairs of lists of the same points and the same profile with the same ids have one size
  one_size : (s t : Source) (u v : Pair) → s.terms.grid ≡ t.terms.grid → pumps_of w s ≡ pumps_of w t → chambers_of w s ≡ chambers_of w t
      → Memᴰ u (list_for s.terms (w.owners s.q_edition) (pumps_of w s) (chambers_of w s)) → Memᴰ v (list_for t.terms (w.owners t.q_edition) (pumps_of w t) (chambers_of w t)) → u.q ≡ v.q → u.p ≡ v.p → u.size ≡ v.size
  one_size s t u v eg ep eq mu mv q p =
      let P = pumps_of w s in
      let Q = chambers_of w s in
      let z = for_only s.terms (w.owners s.q_edition) P Q (pumps_rise w s) (chambers_rise w s) u mu in
      let j = z.at_q in
      let i = z.at_p in
      let at_j : id_at (chambers_of w t) j ≡ v.q = ap (λ (x : List Point). id_at x j) (sym eq) ∙ sym (ap (λ (x : Pair). x.q) z.is) ∙ q in
      let at_i : id_at (pumps_of w t) i ≡ v.p = ap (λ (x : List Point). id_at x i) (sym ep) ∙ sym (ap (λ (x : Pair). x.p) z.is) ∙ p in
      let size : v.size ≡ (profile_for t.terms).size (spot_at (chambers_of w t) j) (spot_at (pumps_of w t) i) =
      for_size t.terms (w.owners t.q_edition) (pumps_of w t) (chambers_of w t) (pumps_rise w t) (chambers_rise w t) v mv j i (subst (λ (x : List Point). j < length x) eq z.q_in) (subst (λ (x : List Point). i < length x) ep z.p_in) at_j at_i in
      ap (λ (x : Pair). x.size) z.is ∙ (λ k. (profile_of (eg k)).size (spot_at (eq k) j) (spot_at (ep k) i)) ∙ sym size

  -- "genuine forms with one key are one form, sizes too"
  pub same_form_lem : (f g : Form) → Formed f → Formed g → OneKey f g → f ≡ g
  unfolding form_of
  same_form_lem f g x y k =
      let s = x.b.source in
      let t = y.b.source in
      let p : s.p_edition ≡ t.p_edition = sym (ap (λ (z : Form). z.p_edition) x.is) ∙ k.p_edition_is ∙ ap (λ (z : Form). z.p_edition) y.is in
      let q : s.q_edition ≡ t.q_edition = sym (ap (λ (z : Form). z.q_edition) x.is) ∙ k.q_edition_is ∙ ap (λ (z : Form). z.q_edition) y.is in
      let o : s.terms.own ≡ t.terms.own = sym (ap (λ (z : Form). z.own) x.is) ∙ k.own_is ∙ ap (λ (z : Form). z.own) y.is in
      let g' : s.terms.grid ≡ t.terms.grid = sym (ap (λ (z : Form). z.grid) x.is) ∙ k.grid_is ∙ ap (λ (z : Form). z.grid) y.is in
      let uq : x.v.q ≡ y.v.q = sym (ap (λ (z : Form). z.q) x.is) ∙ k.q_is ∙ ap (λ (z : Form). z.q) y.is in
      let up : x.v.p ≡ y.v.p = sym (ap (λ (z : Form). z.p) x.is) ∙ k.p_is ∙ ap (λ (z : Form). z.p) y.is in
      let e = one_size s t x.v y.v g' (same_pumps s t p q o) (same_chambers s t q o) x.listed y.listed uq up in
      let size : f.size ≡ g.size = ap (λ (z : Form). z.size) x.is ∙ e ∙ sym (ap (λ (z : Form). z.size) y.is) in
      λ i. record { p_edition = k.p_edition_is i; q_edition = k.q_edition_is i; own = k.own_is i; contractor = k.contractor_is i; grid = k.grid_is i; q = k.q_is i; p = k.p_is i; size = size i }

  -- a form under a book's editions, kind, contractor and profile is that of a pair of the full list under them
  pub under_listed : (b : Book) (f : Form) → Formed f → Under b.source f → (v : Pair) × Memᴰ v (full_list w b) × (f ≡ form_of b.source v)
  unfolding form_of
  under_listed b f x u =
      let s = b.source in
      let t = x.b.source in
      let p : t.p_edition ≡ s.p_edition = sym (ap (λ (z : Form). z.p_edition) x.is) ∙ u.p_edition in
      let q : t.q_edition ≡ s.q_edition = sym (ap (λ (z : Form). z.q_edition) x.is) ∙ u.q_edition in
      let o : t.terms.own ≡ s.terms.own = sym (ap (λ (z : Form). z.own) x.is) ∙ u.kind in
      let g' : t.terms.grid ≡ s.terms.grid = sym (ap (λ (z : Form). z.grid) x.is) ∙ u.profile in
      let c : t.terms.contractor ≡ s.terms.contractor = sym (ap (λ (z : Form). z.contractor) x.is) ∙ u.contractor in
      let m = in_full t.terms (w.owners t.q_edition) (pumps_of w t) (chambers_of w t) (pumps_rise w t) (chambers_rise w t) x.v x.listed in
      let l : list_for (no_t t.terms) (w.owners t.q_edition) (pumps_of w t) (chambers_of w t) ≡ full_list w b = λ i. list_for (record { threshold = 0; contractor = c i; own = o i; grid = g' i }) (w.owners (q i)) (same_pumps t s p q o i) (same_chambers t s q o i) in (
        x.v,
        subst (Memᴰ x.v) l m,
        λ i. record { p_edition = u.p_edition i; q_edition = u.q_edition i; own = u.kind i; contractor = u.contractor i; grid = u.profile i; q = (x.is i).q; p = (x.is i).p; size = (x.is i).size },
      )

  -- a form of a book's pair stands under it
  pub form_under : (s : Source) (v : Pair) → Under s (form_of s v)
  unfolding form_of
  form_under s v = record { p_edition = refl; q_edition = refl; kind = refl; contractor = refl; profile = refl }
