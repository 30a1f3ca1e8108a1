-- From the sheets to the orders, for who runs the works: sheets of P and of Q; their pages asked for, lost, repeated, late, until the book is closed; the book's forms made, at
-- any time and any number of times, lost, repeated and reordered, until each was taken at least once. Then under the book's editions, kind, contractor and profile the depot holds
-- exactly one order for each ring pair, none twice, none missing. A page that timed out, a form sent twice: one job.
--
--     one_order_each     of any book with no t: of two sheets or a self join
--     each_visit_once    of two sheets, said with the ring rule, of the undivided list or a contractor's: a chamber of the contractor's and a pump house are a ring pair exactly if the
--                        depot holds an order for the two, and never two
--
-- Each of the two stands three times, by what is known of the forms on their way:
--
--     NAME-taken         each form of the book was taken at least once: answered `issued` or `known`. Nothing is asked of the slices: one may be too short, a form be refused by 16,
--                        and be sent again when more slots are lent
--     NAME-unrefused     each was handed in at least once, and no form was refused by 16
--     NAME               each was handed in at least once, and each slice had room for all
-- Assumes nothing.
use mathlib.Core.Path.{◌≡◌, refl, sym, ap, ap₂, subst, ◌∙◌}
use mathlib.Core.Bool.{Bool, true, false, ◌&&◌}
use mathlib.Core.Logic.{◌↔◌}
use mathlib.Core.List.{List, [], ◌∷◌, Memᴰ}
use Prim.Native.Nat.{ℕ, zero, suc, ◌≤◌, ◌<◌}
use native.Mathlib.Omega.{arith}
use lib.Dec.{leb, ltb}
use lib.IntN.{ℤ}
use lib.ListN.{length, take, get_or}
use lib.Seq.{get_or-take, length-take-le}
use borrow.Author.Tests.{ltb-true, ltb-false, le-leb}
use Rattle.integers.proofs.Bools.{and_left, and_right, and_both, clash}
use Rattle.words.specs.Word.{num}
use Rattle.plane.specs.Profile.{profile_of}
use Rattle.plane.specs.Point.{id_at}
use Rattle.sheet.specs.Layout.{edition}
use Rattle.sheet.specs.Places.{points_of}
use Rattle.list.specs.declared.Pair.{Pair}
use Rattle.list.specs.declared.Source.{Source}
use Rattle.list.specs.declared.Terms.{Terms}
use Rattle.list.specs.Contractor.{mine}
use Rattle.list.specs.Rows.{row, at_least}
use Rattle.list.specs.RingList.{ring_pair_by, pair_by}
use Rattle.list.specs.Terms.{with_by, of_contractor, pair_for, listed_for, list_for}
use Rattle.list.proofs.RowLaws.{by_id}
use Rattle.list.proofs.TermsLaws.{for_iff, for_only}
use Rattle.join.proofs.Meaning.{points_sound}
use Rattle.ring.specs.Page.{source_of}
use Rattle.book.specs.declared.Book.{Book}
use Rattle.depot.specs.declared.Form.{Form}
use Rattle.depot.specs.declared.Depot.{Depot}
use Rattle.depot.specs.Forms.{form_of}
use Rattle.depot.specs.Depot.{same_form}
use Rattle.depot.proofs.KeyLaws.{same_of_key}
use Rattle.demands.specs.World.{Editions, PumpSheet, ChamberSheet, pumps_of, chambers_of, book_list, History}
use Rattle.orders.specs.Firsts.{firsts}
use Rattle.orders.specs.Deliveries.{Handed, handed_in, Under, OrderOf, Arrived, NeverFull, EachCame, EachTaken, OneOrderEach}
use Rattle.orders.proofs.GenuineLaws.{form_under}
use Rattle.orders.proofs.Orders.{in_order, keys_once, held_once, room_for_all, came_taken, depot_holds_taken, depot_holds_only, full_is}

-- a form of a list stands at some place of it, and what stands at a place is of it
place_of : (l : List Form) (x f : Form) → Memᴰ f l → (k : ℕ) × (k < length l) × (get_or l k x ≡ f)
place_of [] x f x3 = elim x3 [ ]
place_of (g ∷ l) x f (mathlib.Core.List.Memᴰ.head e) = (0, omega arith, sym e)
place_of (g ∷ l) x f (mathlib.Core.List.Memᴰ.tail m) = let r = place_of l x f m in (suc r.0, omega (arith, r.1), r.2)

at_place : (l : List Form) (x : Form) (k : ℕ) → k < length l → Memᴰ (get_or l k x) l
at_place [] x k h = absurd (omega arith)
at_place (g ∷ l) x zero h = mathlib.Core.List.Memᴰ.head refl
at_place (g ∷ l) x (suc k) h = mathlib.Core.List.Memᴰ.tail (at_place l x k (omega arith))

module _ (w : Editions) (n : ℕ) where
  -- The whole way, for any book with no t, of two sheets or of a self join: exactly one order for each ring pair of its list.
  module _ {b : Book} {s : List Pair} (h : History w b s) (closed : b.closed ≡ true) (t : b.source.terms.threshold ≡ 0) {d : Depot} {slots : List Form} {log : List Handed} (a : Arrived w n d slots log) where
    -- where each form was taken at least once, whatever the slices were
    pub one_order_each_taken : EachTaken b s log → OneOrderEach w b (take d.held slots)
    one_order_each_taken taken =
        record {
          none_missing = depot_holds_taken w n h closed a taken;
          none_twice = held_once w n a;
          none_other = λ f m u. let z = depot_holds_only w n h a f m u in (z.0, subst (Memᴰ z.0) (full_is w b t) z.1, z.2);
        }

    -- where each was handed in at least once and none was refused by 16
    pub one_order_each_unrefused : NeverFull log → EachCame b s log → OneOrderEach w b (take d.held slots)
    one_order_each_unrefused never came = one_order_each_taken (λ f m. came_taken w n a never f (came f m))

    -- where each was handed in at least once and each slice had room for all
    pub one_order_each : length (firsts (handed_in log)) ≤ n → EachCame b s log → OneOrderEach w b (take d.held slots)
    one_order_each room = one_order_each_unrefused (room_for_all w n a room)

  -- The whole way, for the two sheets of a town and the book of their full list, of either profile, undivided or of one contractor: of c. P and Q are sheets of this world, and the
  -- book's are their editions.
  module _ (g : Bool) (c : ℕ) (P Q : List ℤ) (pumps : PumpSheet w P) (chambers : ChamberSheet w Q) {b : Book} {s : List Pair} (h : History w b s) (of : b.source ≡ source_of P Q (of_contractor c (with_by g 0)))
      (closed : b.closed ≡ true) {d : Depot} {slots : List Form} {log : List Handed} (a : Arrived w n d slots log) where
    abbrev Terms-of : Terms
    Terms-of = of_contractor c (with_by g 0)

    -- the owner bytes of the chambers' edition
    abbrev Owners : List ℕ
    Owners = w.owners (num (edition Q))

    -- the book's list is that of these points
    list_is : book_list w b ≡ list_for Terms-of Owners (points_of P) (points_of Q)
    list_is = ap (λ (x : Source). list_for x.terms (w.owners x.q_edition) (pumps_of w x) (chambers_of w x)) of ∙ of_sheets
      where
        of_sheets : list_for (source_of P Q Terms-of).terms (w.owners (source_of P Q Terms-of).q_edition) (pumps_of w (source_of P Q Terms-of)) (chambers_of w (source_of P Q Terms-of)) ≡ list_for Terms-of Owners (points_of P) (points_of Q)
        of_sheets = unfold source_of in ap₂ (list_for Terms-of Owners) (sym pumps.same) (sym chambers.same)

    no_t : b.source.terms.threshold ≡ 0
    no_t = ap (λ (x : Source). x.terms.threshold) of ∙ (unfold source_of in refl)

    -- two orders of one chamber and one pump house have one key
    one_key : (q p : ℕ) (f f' : Form) → OrderOf (source_of P Q Terms-of) q p f → OrderOf (source_of P Q Terms-of) q p f' → same_form f f' ≡ true
    one_key q p f f' x y =
        same_of_key f f'
        (record {
          p_edition_is = x.under.p_edition ∙ sym y.under.p_edition;
          q_edition_is = x.under.q_edition ∙ sym y.under.q_edition;
          own_is = x.under.kind ∙ sym y.under.kind;
          contractor_is = x.under.contractor ∙ sym y.under.contractor;
          grid_is = x.under.profile ∙ sym y.under.profile;
          q_is = x.q_is ∙ sym y.q_is;
          p_is = x.p_is ∙ sym y.p_is;
        })

    module _ (x : Form) (j i : ℕ) (j_in : j < length (points_of Q)) (i_in : i < length (points_of P)) where
      -- the order of the chamber at position j of Q and the pump house at position i of P, in a slot
      abbrev Here : ℕ → Type 0
      Here k = OrderOf (source_of P Q Terms-of) (id_at (points_of Q) j) (id_at (points_of P) i) (get_or slots k x)

      -- the chamber is the contractor's, as each is of the undivided list, and the two are a ring pair
      abbrev Visit : Type 0
      Visit = (ring_pair_by (profile_of g) (points_of P) (points_of Q) j i ≡ true) × (mine c Owners j ≡ true)

      rule_of : Visit → listed_for Terms-of Owners (points_of P) (points_of Q) j i ≡ true
      unfolding listed_for at_least pair_for
      rule_of z =
          let r = ring_pair_by (profile_of g) (points_of P) (points_of Q) j i in
          let n = length (row (pair_for Terms-of (points_of P) (points_of Q)) (pair_by (profile_of g) (points_of P) (points_of Q)) j (length (points_of P)) 0) in
          and_both (mine c Owners j) (r && leb 0 n) z.1 (and_both r (leb 0 n) z.0 (le-leb 0 n (omega arith)))

      of_rule : listed_for Terms-of Owners (points_of P) (points_of Q) j i ≡ true → Visit
      unfolding listed_for at_least pair_for
      of_rule e =
          let r = ring_pair_by (profile_of g) (points_of P) (points_of Q) j i in
          (and_left r _ (and_right (mine c Owners j) _ e), and_left (mine c Owners j) _ e)

      ordered : OneOrderEach w b (take d.held slots) → Visit → (k : ℕ) × (k < d.held) × Here k
      unfolding form_of
      ordered each e =
          let v = pair_by (profile_of g) (points_of P) (points_of Q) j i in
          let m : Memᴰ v (book_list w b) = subst (Memᴰ v) (sym list_is) ((for_iff Terms-of Owners (points_of P) (points_of Q) (points_sound P pumps.opens).rising (points_sound Q chambers.opens).rising j i j_in i_in).1 (rule_of e)) in
          let z = place_of (take d.held slots) x (form_of b.source v) (each.none_missing v m) in
          let few : z.0 < d.held = omega (arith, z.1, length-take-le d.held slots (in_order w n a).0) in
          let is : form_of b.source v ≡ get_or slots z.0 x = sym z.2 ∙ get_or-take d.held slots z.0 x few in
          let u : Under (source_of P Q Terms-of) (form_of b.source v) = subst (λ (y : Source). Under y (form_of b.source v)) of (form_under w b.source v) in
          (z.0, few, subst (OrderOf (source_of P Q Terms-of) (id_at (points_of Q) j) (id_at (points_of P) i)) is (record { under = u; q_is = refl; p_is = refl }))

      paired : OneOrderEach w b (take d.held slots) → (k : ℕ) → k < d.held → Here k → Visit
      unfolding form_of
      paired each k few o =
          let f = get_or slots k x in
          let m : Memᴰ f (take d.held slots) = subst (λ (y : Form). Memᴰ y (take d.held slots)) (get_or-take d.held slots k x few) (at_place (take d.held slots) x k (omega (arith, length-take-le d.held slots (in_order w n a).0))) in
          let z = each.none_other f m (subst (λ (y : Source). Under y f) (sym of) o.under) in
          let rq = (points_sound Q chambers.opens).rising in
          let rp = (points_sound P pumps.opens).rising in
          let y = for_only Terms-of Owners (points_of P) (points_of Q) rp rq z.0 (subst (Memᴰ z.0) list_is z.1) in
          let qs : id_at (points_of Q) y.at_q ≡ id_at (points_of Q) j = sym (ap (λ (v : Pair). v.q) y.is) ∙ sym (ap (λ (y : Form). y.q) z.2) ∙ o.q_is in
          let ps : id_at (points_of P) y.at_p ≡ id_at (points_of P) i = sym (ap (λ (v : Pair). v.p) y.is) ∙ sym (ap (λ (y : Form). y.p) z.2) ∙ o.p_is in
          let ej : y.at_q ≡ j = by_id (id_at (points_of Q)) (length (points_of Q)) rq y.at_q j y.q_in j_in qs in
          let ei : y.at_p ≡ i = by_id (id_at (points_of P)) (length (points_of P)) rp y.at_p i y.p_in i_in ps in
          of_rule (subst (λ (u : ℕ). listed_for Terms-of Owners (points_of P) (points_of Q) j u ≡ true) ei (subst (λ (u : ℕ). listed_for Terms-of Owners (points_of P) (points_of Q) u y.at_p ≡ true) ej y.holds))

      -- they are a ring pair exactly if the depot holds an order for the two, and it never holds two of them
      abbrev Once : Type 0
      Once = (Visit ↔ ((k : ℕ) × (k < d.held) × Here k)) × ((k l : ℕ) → k < d.held → l < d.held → Here k → Here l → k ≡ l)

      -- where each form was taken at least once, whatever the slices were
      pub each_visit_once_taken : EachTaken b s log → Once
      each_visit_once_taken taken = ((ordered each, λ o. paired each o.0 o.1 o.2), once)
        where
          each : OneOrderEach w b (take d.held slots)
          each = one_order_each_taken h closed no_t a taken

          two : (k l : ℕ) → k < l → l < d.held → Here k → Here l → ⊥
          two k l less few y z = clash (one_key (id_at (points_of Q) j) (id_at (points_of P) i) (get_or slots k x) (get_or slots l x) y z) (keys_once w n a x k l less few)

          once : (k l : ℕ) → k < d.held → l < d.held → Here k → Here l → k ≡ l
          once k l hk hl y z = go (ltb k l) (ltb l k) refl refl
            where
              go : (t u : Bool) → ltb k l ≡ t → ltb l k ≡ u → k ≡ l
              go true u e f = absurd (two k l (ltb-true k l e) hl y z)
              go false true e f = absurd (two l k (ltb-true l k f) hk z y)
              go false false e f = omega (arith, ltb-false k l e, ltb-false l k f)

      -- where each was handed in at least once and none was refused by 16
      pub each_visit_once_unrefused : NeverFull log → EachCame b s log → Once
      each_visit_once_unrefused never came = each_visit_once_taken (λ f m. came_taken w n a never f (came f m))

      -- where each was handed in at least once and each slice had room for all
      pub each_visit_once : length (firsts (handed_in log)) ≤ n → EachCame b s log → Once
      each_visit_once room = each_visit_once_unrefused (room_for_all w n a room)
