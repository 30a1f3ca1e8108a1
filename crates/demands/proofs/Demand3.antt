-- Demand 3: "Pages may be lost, repeated, late or out of order, but not altered or invented; P sheets with one edition number hold the same points, and Q sheets likewise;
-- nobody else writes the book or hands in an older state of it. Then a book begun empty always holds exactly the first so many pairs of its list, calls itself closed only
-- when it holds all, and while it is open with room for all, each page that answers its own next request adds a pair or closes it."
--
-- The premises are in specs/World: `History w b s` is a book b with its slots s after any such history, every step of which is an answer that the promise of a shipped
-- call admits (`Book::begin`, `ring::pages::page`, `ring::own::own_page`, `Book::take`). `book_list w b` is the list of the book's terms, of the points of its editions: "demand 3 holds for
-- each t's list", of a self join "the three demands hold for it", and "Demands 2 and 3 hold for each contractor's list, the owner bytes being the same under one chamber edition".
--
--     held_prefix     it holds the first so many pairs of its list
--     held_size       each with the size of the places of its two records, by its profile
--     own_kind        no page of a self join enters a two-sheet book, nor one of two sheets a self join's: 22
--     own_contractor  nor one of another contractor: 28
--     own_profile     nor one of the other profile: 30
--     closed_all      it is closed only when it holds all
--     progress        its own page is given, is taken, and adds a pair or closes it
--     closes          so a book that goes on asking is closed after at most one request more than pairs are missing
--     next_is_last    its next key is its last pair
--     can_ask, can_close    where there is a sheet of each of its editions, a book can ask, and so be closed
-- Assumes nothing. [O6]
use mathlib.Core.Path.{◌≡◌, refl, sym, ap, ap₂, subst, ◌∙◌}
use mathlib.Core.Bool.{Bool, true, false, cond}
use mathlib.Core.Logic.{◌⊎◌, ⊎_elim}
use mathlib.Core.List.Memᴰ
use mathlib.Core.List.{List, [], Memᴰ}
use Prim.Native.Nat.{ℕ, zero, suc, ◌+◌, ◌≤◌, ◌<◌}
use native.Mathlib.Omega.{arith}
use lib.IntN.{ℤ}
use lib.ListN.{length, take, drop, replicate, take-append-drop, length-replicate}
use lib.Dec.{eqb}
use borrow.Author.Tests.{eq-eqb, eqb-true}
use Rattle.std.specs.Prelude.{Ok}
use Rattle.integers.proofs.Bools.{decide, clash}
use Rattle.words.specs.Range.{last_id}
use Rattle.plane.specs.Point.{Point, id_at, spot_at}
use Rattle.words.specs.Word.{num}
use Rattle.sheet.specs.Layout.{edition, points}
use Rattle.sheet.specs.Places.{points_of}
use Rattle.sheet.specs.Open.{sheet_no}
use Rattle.list.specs.declared.Key.{Key}
use Rattle.list.specs.declared.Pair.{Pair}
use Rattle.list.specs.declared.Source.{Source}
use Rattle.list.specs.declared.Page.{Page}
use Rattle.list.specs.Pairs.{start, last_or}
use Rattle.list.specs.Pages.{same_kind, owners_no, shown, page_of, same_profile}
use Rattle.list.specs.declared.Terms.{Terms}
use Rattle.list.specs.RingList.{Reached as InReachOf}
use Rattle.list.specs.Rows.{Rising}
use Rattle.list.specs.Terms.{request_of, list_for, profile_for}
use Rattle.list.proofs.ContractorLaws.{undivided_any}
use Rattle.list.proofs.Order.{last_holds}
use Rattle.list.proofs.PageLaws.{shown_count, length_padded}
use Rattle.list.proofs.TermsLaws.{for_size, for_keys}
use Rattle.join.proofs.Meaning.{points_sound}
use Rattle.ring.specs.Numbers.{grid_no}
use Rattle.ring.proofs.PageLaws.{forms_reach}
use Rattle.ring.specs.Lent.{need}
use Rattle.ring.specs.Page.{source_of, page_given, page_answer, page_bits}
use Rattle.ring.specs.Own.{own_answer, own_bits}
use Rattle.ring.specs.declared.Paged.{Paged}
use Rattle.book.specs.declared.Book.{Book}
use Rattle.book.specs.declared.Asked.{Asked}
use Rattle.book.specs.declared.Taken.{Taken}
use Rattle.book.specs.Rules.{last_key, asked, take_no, taken, taken_slots}
use Rattle.book.specs.World as of-world
use Rattle.book.specs.World.{World, Honest, Reached, list_of, own_page, InReach}
use Rattle.book.proofs.Story as of-story
use Rattle.book.proofs.SliceLaws as of-slice
use Rattle.book.proofs.TakeLaws as of-take
use Rattle.demands.specs.Promises as of-promise
use Rattle.demands.specs.Promises.{Place, TermsAnswers, NextAnswers, TakeAnswers}
use Rattle.demands.specs.World.{Editions, OfKind, Sheets, HandsIn, pumps_of, chambers_of, book_list, Answered, History, began, took, lent, Asks, OwnPage, Asking, stops, asks}
use Rattle.demands.proofs.Demand2 as demand2

module _ (w : Editions) where
  -- ids ascend and points stand where a sheet's points may, since the sheets open
  abbrev world_of : World
  world_of =
      record {
        pumps = λ e. points_of (w.pumps e);
        chambers = λ e. points_of (w.chambers e);
        owners = w.owners;
        pumps_sound = λ e. points_sound (w.pumps e) (w.pumps_open e);
        chambers_sound = λ e. points_sound (w.chambers e) (w.chambers_open e);
        assets = λ e. points_of (w.assets e);
        assets_sound = λ e. points_sound (w.assets e) (w.assets_open e);
      }

  -- the sheets of a request open, and hold the points of their editions
  module _ (a : Terms) (P Q : List ℤ) (sheets : Sheets w a P Q) where
    p_opens : sheet_no P ≡ 0
    p_opens = go a.own sheets
      where
        go : (k : Bool) → OfKind w k P Q → sheet_no P ≡ 0
        go false x = x.0.opens
        go true x = x.0.opens

    q_opens : sheet_no Q ≡ 0
    q_opens = go a.own sheets
      where
        go : (k : Bool) → OfKind w k P Q → sheet_no Q ≡ 0
        go false x = x.1.opens
        go true x = x.1.opens

    q_points : of-world.chambers_of world_of (source_of P Q a) ≡ points_of Q
    unfolding source_of
    q_points = go a.own sheets
      where
        go : (k : Bool) → OfKind w k P Q → cond k (points_of (w.assets (num (edition Q)))) (points_of (w.chambers (num (edition Q)))) ≡ points_of Q
        go false x = sym x.1.same
        go true x = sym x.1.same

    -- so are the owner bytes that a request hands in, as far as its list asks for them
    owners_are : (o : List ℕ) → HandsIn w a Q o → a.contractor ≤ 2 → (X Y : List Point) → list_for a o X Y ≡ list_for a (w.owners (num (edition Q))) X Y
    owners_are o handed most X Y =
        ⊎_elim
        (λ (e : eqb a.contractor 2 ≡ true). undivided_any a (eqb-true a.contractor 2 e) o (w.owners (num (edition Q))) X Y)
        (λ (e : eqb a.contractor 2 ≡ false). ap (λ (x : List ℕ). list_for a x X Y) (handed.divided (below a.contractor most e)))
        (decide (eqb a.contractor 2))
      where
        below : (c : ℕ) → c ≤ 2 → eqb c 2 ≡ false → c < 2
        below c h e = let ne : c ≡ 2 → ⊥ = λ x. clash (eq-eqb c 2 x) e in omega (arith, ne)

    module _ (o : List ℕ) (handed : HandsIn w a Q o) (key : Key) (size : ℕ) (bits : List ℕ) (r : Paged) (bits' : List ℕ) (answers : TermsAnswers a o P Q key size bits r bits') where
      p_points : of-world.pumps_of world_of (source_of P Q a) ≡ points_of P
      unfolding source_of
      p_points = go a.own sheets answers
        where
          go : (k : Bool) → OfKind w k P Q → of-promise.OfKind k a o P Q key size bits r bits' → cond k (points_of (w.assets (num (edition Q)))) (points_of (w.pumps (num (edition P)))) ≡ points_of P
          go false x y = sym x.0.same
          go true x y = sym (x.0.same ∙ ap (λ (z : List ℤ). points_of (w.assets (num (edition z)))) y.0)

      -- so a page that was answered is of the list of its source
      pub page_of_lem : r.number ≡ 0 → (1 ≤ size) × (size ≤ 16) × (r.page ≡ page_of (source_of P Q a) (list_of world_of (source_of P Q a)) key size)
      unfolding page_given source_of
      page_of_lem fine =
          let z = demand2.answered P Q p_opens q_opens a o key size bits r bits' answers fine in (
            z.0,
            z.1,
            ap (λ (x : Paged). x.page) z.3
                ∙ ap (λ (l : List Pair). page_of (source_of P Q a) l key size) (owners_are o handed z.2 (points_of P) (points_of Q))
                ∙ ap₂ (λ (x y : List Point). page_of (source_of P Q a) (list_for a (w.owners (num (edition Q))) x y) key size) (sym p_points) (sym q_points),
          )

  -- "not altered or invented": a page that was answered is honest [J7, D9]
  pub honest : (g : Page) → Answered w g → Honest world_of g
  honest g x =
      let z = page_of_lem x.terms x.P x.Q x.sheets x.o x.handed x.key x.size x.bits x.r x.bits' x.answers x.given in
      record { of = source_of x.P x.Q x.terms; after = x.key; size = x.size; some = omega (arith, z.0); most = z.1; is = x.is ∙ z.2 }

  reached : {b : Book} {s : List Pair} → History w b s → Reached world_of b s
  reached (began s b slots a) = of-world.began s b slots (sym a.promised)
  reached (took {b} {slots} g r slots' h a t) =
      subst
      (λ (x : Taken). Reached world_of x.book slots')
      (sym t.0)
      (subst (λ (x : List Pair). Reached world_of (taken b slots g).book x) (sym t.1) (of-world.took g (reached h) (honest g a)))
  reached (lent other h e f) = of-world.lent other (reached h) e f

  -- "Then a book begun empty always holds exactly the first so many pairs of its list" [K9, Z2, T6, J6, A10, U12, D4, D9]
  pub held_prefix : {b : Book} {s : List Pair} → History w b s
      → (b.held ≤ length s) × (b.held ≤ length (book_list w b)) × (take b.held s ≡ take b.held (book_list w b))
  held_prefix h = of-story.book_held_prefix world_of (reached h)

  -- the ids in either place of a book's list ascend
  pub pumps_rise : (s : Source) → Rising (id_at (pumps_of w s)) (length (pumps_of w s))
  pumps_rise s = go s.terms.own
    where
      go : (k : Bool) → Rising (id_at (cond k (points_of (w.assets s.q_edition)) (points_of (w.pumps s.p_edition)))) (length (cond k (points_of (w.assets s.q_edition)) (points_of (w.pumps s.p_edition))))
      go true = (world_of.assets_sound s.q_edition).rising
      go false = (world_of.pumps_sound s.p_edition).rising

  pub chambers_rise : (s : Source) → Rising (id_at (chambers_of w s)) (length (chambers_of w s))
  chambers_rise s = go s.terms.own
    where
      go : (k : Bool) → Rising (id_at (cond k (points_of (w.assets s.q_edition)) (points_of (w.chambers s.q_edition)))) (length (cond k (points_of (w.assets s.q_edition)) (points_of (w.chambers s.q_edition))))
      go true = (world_of.assets_sound s.q_edition).rising
      go false = (world_of.chambers_sound s.q_edition).rising

  -- a held pair is one of its list
  in_list : {b : Book} {s : List Pair} → History w b s → (v : Pair) → Memᴰ v (take b.held s) → Memᴰ v (list_of world_of b.source)
  in_list {b} h v m =
      let l = book_list w b in
      subst (Memᴰ v) (take-append-drop b.held l) (Memᴰ.append_left (drop b.held l) (subst (Memᴰ v) (held_prefix h).2 m))

  -- "What a book holds is still the first so many of the list, sizes included": of each pair that it holds, the size is that of the places of its two records by its profile
  -- [Z1, Z2]
  pub held_size : {b : Book} {s : List Pair} → History w b s → (v : Pair) → Memᴰ v (take b.held s)
      → (j i : ℕ) → j < length (chambers_of w b.source) → i < length (pumps_of w b.source)
      → id_at (chambers_of w b.source) j ≡ v.q → id_at (pumps_of w b.source) i ≡ v.p
      → v.size ≡ (profile_for b.source.terms).size (spot_at (chambers_of w b.source) j) (spot_at (pumps_of w b.source) i)
  held_size {b} h v m = for_size b.source.terms _ _ _ (pumps_rise b.source) (chambers_rise b.source) v (in_list h v m)

  -- "calls itself closed only when it holds all" [K9, T6, J6, A10, U12, D5]
  pub closed_all : {b : Book} {s : List Pair} → History w b s → b.closed ≡ true
      → (b.held ≡ length (book_list w b)) × (take b.held s ≡ book_list w b)
  closed_all h e = of-story.book_closed_all world_of (reached h) e

  -- "Its next key is its last pair." [K4]
  pub next_is_last : {b : Book} {s : List Pair} → History w b s → (r : Asked) → NextAnswers b s r → r.next ≡ Ok (last_or start (take b.held s))
  next_is_last {b} {s} h r a = ap (λ (x : Asked). x.next) a ∙ of-slice.book_next_is_last b s (held_prefix h).0

  -- ---- a book's own page

  -- the keys of the book's list are in range
  keys_in : (b : Book) (v : Pair) → Memᴰ v (book_list w b) → (v.q ≤ last_id) × (v.p ≤ last_id)
  keys_in b v m = for_keys b.source.terms (w.owners b.source.q_edition) (pumps_of w b.source) (chambers_of w b.source) (pumps_rise b.source) (chambers_rise b.source) v m

  module _ {b : Book} {s : List Pair} (h : History w b s) {g : Page} (o : OwnPage w b s g) where
    key_last : o.key ≡ last_or start (take b.held s)
    key_last = let z = sym o.next_is ∙ next_is_last h o.asked o.asks in cc

    key_due : o.key ≡ last_key b.held s
    key_due = key_last ∙ sym (of-slice.last_held b.held s (held_prefix h).0)

    in_range : demand2.InRange o.key o.size b.source.terms.threshold
    in_range =
        let l = book_list w b in
        let z = last_holds (λ k. (k.q ≤ last_id) × (k.p ≤ last_id)) start (take b.held l) (omega arith, omega arith) (λ v m. keys_in b v (subst (Memᴰ v) (take-append-drop b.held l) (Memᴰ.append_left (drop b.held l) m))) in
        let k : o.key ≡ last_or start (take b.held l) = key_last ∙ ap (last_or start) (held_prefix h).2 in
        record {
          q_in = omega (arith, ap (λ (x : Key). x.q) k, z.0);
          p_in = omega (arith, ap (λ (x : Key). x.p) k, z.1);
          some = o.some;
          most = o.most;
          fair = (of-story.begun_fair world_of (reached h)).t_most;
        }

    -- the request is served, with the page of the book's list
    given : (o.r.number ≡ 0) × (o.r.page ≡ page_of b.source (list_of world_of b.source) o.key o.size)
    given =
        let q = o.request in
        let fine = demand2.page_served q.P q.Q (p_opens b.source.terms q.P q.Q q.sheets) (q_opens b.source.terms q.P q.Q q.sheets) b.source.terms q.o o.key o.size q.bits o.r q.bits' q.answers in_range (record { whose = (of-story.begun_fair world_of (reached h)).whose; bytes = q.whose }) q.forms q.enough in
        (fine, (page_of_lem b.source.terms q.P q.Q q.sheets q.o q.handed o.key o.size q.bits o.r q.bits' q.answers fine).2 ∙ ap (λ (x : Source). page_of x (list_of world_of x) o.key o.size) q.of_book)

    -- so it is a page that was answered
    own_answered : Answered w g
    own_answered =
        let q = o.request in
        record { terms = b.source.terms; P = q.P; Q = q.Q; sheets = q.sheets; o = q.o; handed = q.handed; key = o.key; size = o.size; bits = q.bits; r = o.r; bits' = q.bits'; answers = q.answers; given = given.0; is = o.is }

    own_is : g ≡ own_page world_of b s o.size
    own_is = o.is ∙ given.1 ∙ ap (λ (k : Key). page_of b.source (list_of world_of b.source) k o.size) key_due

    own_long : length g.pairs ≡ 16
    own_long =
        ap (λ (x : Page). length x.pairs) own_is
        ∙ (unfold page_of in length_padded (shown (book_list w b) (last_key b.held s) o.size) (omega (arith, o.most, shown_count (book_list w b) (last_key b.held s) o.size)))

    -- the points of its list stand in reach of its profile, since the sheets that were asked are of the forms that it takes
    near : InReach world_of b.source
    unfolding source_of
    near =
        let q = o.request in
        let a = b.source.terms in
        let z = forms_reach a.grid q.P q.Q (p_opens a q.P q.Q q.sheets) (q_opens a q.P q.Q q.sheets) q.forms in
        subst (InReach world_of) q.of_book
        (record {
          pumps_in = subst (InReachOf (profile_for a)) (sym (p_points a q.P q.Q q.sheets q.o q.handed o.key o.size q.bits o.r q.bits' q.answers)) z.0;
          chambers_in = subst (InReachOf (profile_for a)) (sym (q_points a q.P q.Q q.sheets)) z.1;
        })

    -- "and while it is open with room for all, each page that answers its own next request adds a pair or closes it": the page request serves it, and the book takes it.
    -- [K9, T6, J6, A10, U12, D6]
    pub progress : b.closed ≡ false → length (book_list w b) ≤ length s → (r : Taken) (s' : List Pair) → TakeAnswers b s g r s'
        → (o.r.number ≡ 0) × (r.number ≡ 0) × ((b.held < r.book.held) ⊎ (r.book.closed ≡ true))
    progress still room r s' t =
        let z = of-story.book_progress world_of (reached h) near still room o.size o.some o.most in
        let e : r ≡ taken b s (own_page world_of b s o.size) = t.0 ∙ ap (taken b s) own_is in
        (given.0, ap (λ (x : Taken). x.number) e ∙ of-take.book_take_no b s (own_page world_of b s o.size) ∙ z.0, subst (λ (x : Taken). (b.held < x.book.held) ⊎ (x.book.closed ≡ true)) (sym e) z.1)

  -- a closed book stays closed
  stays_closed : {k : ℕ} {b b' : Book} {s s' : List Pair} → Asking w k b s b' s' → b.closed ≡ true → b'.closed ≡ true
  stays_closed (stops b s) e = e
  stays_closed (asks {b = b} {slots = s} g r s' o t more) e =
      stays_closed more (ap (λ (x : Taken). x.book.closed) t.0 ∙ ap (λ (x : Book). x.closed) (of-take.refused_book b s g (of-take.closed_no b s g e)) ∙ e)

  -- So a book with room for its list that goes on asking is closed after at most one request more than pairs are missing. [T6, J6, U12, D6]
  pub closes : {k : ℕ} {b b' : Book} {s s' : List Pair} → History w b s → length (book_list w b) ≤ length s → length (book_list w b) < b.held + k → Asking w k b s b' s' → b'.closed ≡ true
  closes h room n (stops b s) = absurd (omega (arith, (held_prefix h).1))
  closes h room n (asks {b = b} {slots = s} g r s' o t more) =
      let l : length (book_list w r.book) ≡ length (book_list w b) = ap (λ (x : Taken). length (list_of world_of x.book.source)) t.0 ∙ ap (λ (x : Source). length (list_of world_of x)) (of-take.same_book_source b s g) in
      let long : length s' ≡ length s = ap length t.1 ∙ of-take.same_length b s g (own_long h o) in
      ⊎_elim
      (λ (e : b.closed ≡ true). stays_closed (asks g r s' o t more) e)
      (λ (e : b.closed ≡ false).
      ⊎_elim
      (λ (x : b.held < r.book.held). closes (took g r s' h (own_answered h o) t) (omega (arith, l, long)) (omega (arith, l)) more)
      (λ (x : r.book.closed ≡ true). stays_closed more x)
      (progress h o e room r s' t).2)
      (decide b.closed)

  -- what asks and takes goes on from one history to the next, with one list
  pub goes_on : {k : ℕ} {b b' : Book} {s s' : List Pair} → History w b s → Asking w k b s b' s' → History w b' s' × (b'.source ≡ b.source)
  goes_on h (stops b s) = (h, refl)
  goes_on h (asks {b = b} {slots = s} g r s' o t more) =
      let m = goes_on (took g r s' h (own_answered h o) t) more in
      (m.0, m.1 ∙ ap (λ (x : Taken). x.book.source) t.0 ∙ of-take.same_book_source b s g)

  -- None of this is empty talk: where there is a sheet of each of its two editions, or one of a self join's edition, a book can ask any number of times, and so it can be closed.
  ask_on : (k : ℕ) {b : Book} {s : List Pair} → History w b s → (size : ℕ) → 1 ≤ size → size ≤ 16 → (of : Source) → b.source ≡ of → ((key : Key) → (r : Paged) × Asks w of key size r)
      → (b' : Book) × (s' : List Pair) × Asking w k b s b' s'
  ask_on zero {b} {s} h size some most of e serve = (b, s, stops b s)
  ask_on (suc k) {b} {s} h size some most of e serve =
      let key = last_key b.held s in
      let a = serve key in
      let r = a.0 in
      let o : OwnPage w b s r.page =
      record {
        asked = asked b s;
        key = key;
        asks = refl;
        next_is = of-slice.next_after b s (held_prefix h).0;
        size = size;
        some = some;
        most = most;
        r = r;
        request = subst (λ (x : Source). Asks w x key size r) (sym e) a.1;
        is = refl;
      } in
      let t = taken b s r.page in
      let s' = taken_slots b s r.page in
      let m = ask_on k (took r.page t s' h (own_answered h o) (refl, refl)) size some most of (of-take.same_book_source b s r.page ∙ e) serve in
      (m.0, m.1, asks r.page t s' o (refl, refl) m.2)

  -- any page request on such sheets is answered, with as many words lent as are needed
  somewhere : Place
  somewhere = record { address = (0, 0); name = 0 }

  serves : (of : Source) (size : ℕ) (P Q : List ℤ) → Sheets w of.terms P Q → (o : List ℕ) → HandsIn w of.terms Q o → owners_no of.terms.contractor o (points Q) ≡ 0 → grid_no of.terms.grid P Q ≡ 0 → (of.terms.own ≡ true → (P ≡ Q) × (of.terms.threshold ≡ 0) × (of.terms.contractor ≡ 2)) → source_of P Q of.terms ≡ of → (key : Key) → (r : Paged) × Asks w of key size r
  serves of size P Q sheets o handed bytes forms alike e key =
      let x = go of.terms.own alike in
      (x.0, record { P = P; Q = Q; sheets = sheets; of_book = e; o = o; handed = handed; whose = bytes; forms = forms; bits = lent_words; enough = omega (arith, length-replicate {A = ℕ} (need P) 0); bits' = x.1; answers = x.2 })
    where
      lent_words : List ℕ
      lent_words = replicate (need P) 0

      go : (k : Bool) → (k ≡ true → (P ≡ Q) × (of.terms.threshold ≡ 0) × (of.terms.contractor ≡ 2)) → (r : Paged) × (bits' : List ℕ) × of-promise.OfKind k of.terms o P Q key size lent_words r bits'
      go false f =
          let ask = request_of of.terms key size in
          (page_answer P Q o ask (length lent_words), page_bits P Q o ask lent_words, record { κs = ([], ([], ([], ([], tt)))); p_at = somewhere; q_at = somewhere; o_at = somewhere; b_at = somewhere; promised = (refl, refl) })
      go true f = (own_answer P key size of.terms.grid (length lent_words), own_bits P key size of.terms.grid lent_words, ((f refl).0, (f refl).1, (f refl).2, handed.undivided (f refl).2, record { κs = ([], ([], tt)); w_at = somewhere; b_at = somewhere; promised = (refl, refl) }))

  pub can_ask : (k : ℕ) {b : Book} {s : List Pair} → History w b s → (P Q : List ℤ) → Sheets w b.source.terms P Q → (o : List ℕ) → HandsIn w b.source.terms Q o → owners_no b.source.terms.contractor o (points Q) ≡ 0 → grid_no b.source.terms.grid P Q ≡ 0 → (b.source.terms.own ≡ true → P ≡ Q) → source_of P Q b.source.terms ≡ b.source
      → (size : ℕ) → 1 ≤ size → size ≤ 16 → (b' : Book) × (s' : List Pair) × Asking w k b s b' s'
  can_ask k {b} h P Q sheets o handed bytes forms alike e size some most =
      let fair = of-story.begun_fair world_of (reached h) in
      ask_on k h size some most b.source refl (serves b.source size P Q sheets o handed bytes forms (λ x. (alike x, fair.no_t x, fair.own_undivided x)) e)

  -- [J6, D6]
  pub can_close : {b : Book} {s : List Pair} → History w b s → length (book_list w b) ≤ length s → (P Q : List ℤ) → Sheets w b.source.terms P Q → (o : List ℕ) → HandsIn w b.source.terms Q o → owners_no b.source.terms.contractor o (points Q) ≡ 0 → grid_no b.source.terms.grid P Q ≡ 0 → (b.source.terms.own ≡ true → P ≡ Q) → source_of P Q b.source.terms ≡ b.source
      → (b' : Book) × (s' : List Pair) × Asking w (suc (length (book_list w b))) b s b' s' × (b'.closed ≡ true)
  can_close {b} h room P Q sheets o handed bytes forms alike e =
      let m = can_ask (suc (length (book_list w b))) h P Q sheets o handed bytes forms alike e 16 (omega arith) (omega arith) in
      (m.0, m.1, m.2, closes h room (omega arith) m.2)

-- "Pages and books now say their kind, so that no self join's page enters a two-sheet book": where the kinds differ, an open book that its slots can hold refuses a page by 22.
-- [J10, J11]
pub own_kind : (b : Book) (s : List Pair) (g : Page) → b.held ≤ length s → b.closed ≡ false → same_kind b.source g.source ≡ false → (r : Taken) (s' : List Pair) → TakeAnswers b s g r s' → (r.number ≡ 22) × (r.book ≡ b) × (s' ≡ s)
own_kind b s g room still other r s' t =
    let no : take_no b s g ≡ 22 = of-take.kind_no b s g room still other in
    let some : take_no b s g ≡ 0 → ⊥ = λ z. omega arith in
    (ap (λ (x : Taken). x.number) t.0 ∙ of-take.book_take_no b s g ∙ no, ap (λ (x : Taken). x.book) t.0 ∙ of-take.refused_book b s g some, t.1 ∙ of-take.refused_slots b s g some)

-- "28 page of another contractor, after 22": an open book that its slots can hold refuses a page of its kind and of another contractor by 28. [U15]
pub own_contractor : (b : Book) (s : List Pair) (g : Page) → b.held ≤ length s → b.closed ≡ false → same_kind b.source g.source ≡ true → (b.source.terms.contractor ≡ g.source.terms.contractor → ⊥) → (r : Taken) (s' : List Pair) → TakeAnswers b s g r s' → (r.number ≡ 28) × (r.book ≡ b) × (s' ≡ s)
own_contractor b s g room still kind other r s' t =
    let no : take_no b s g ≡ 28 = of-take.contractor_no b s g room still kind other in
    let some : take_no b s g ≡ 0 → ⊥ = λ z. omega arith in
    (ap (λ (x : Taken). x.number) t.0 ∙ of-take.book_take_no b s g ∙ no, ap (λ (x : Taken). x.book) t.0 ∙ of-take.refused_book b s g some, t.1 ∙ of-take.refused_slots b s g some)

-- "Pages and books carry the profile": an open book that its slots can hold refuses a page of its kind and contractor, and of the other profile by 30. [A14]
pub own_profile : (b : Book) (s : List Pair) (g : Page) → b.held ≤ length s → b.closed ≡ false → same_kind b.source g.source ≡ true → b.source.terms.contractor ≡ g.source.terms.contractor → same_profile b.source g.source ≡ false → (r : Taken) (s' : List Pair) → TakeAnswers b s g r s' → (r.number ≡ 30) × (r.book ≡ b) × (s' ≡ s)
own_profile b s g room still kind whose other r s' t =
    let no : take_no b s g ≡ 30 = of-take.profile_no b s g room still kind whose other in
    let some : take_no b s g ≡ 0 → ⊥ = λ z. omega arith in
    (ap (λ (x : Taken). x.number) t.0 ∙ of-take.book_take_no b s g ∙ no, ap (λ (x : Taken). x.book) t.0 ∙ of-take.refused_book b s g some, t.1 ∙ of-take.refused_slots b s g some)
