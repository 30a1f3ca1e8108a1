-- "Forms may be lost, repeated or reordered on the way, but not altered or invented; the depot is begun empty and nobody else writes it or hands in an older state of it. The
-- depot never holds two forms with one key, and its slice holds the forms in the order in which each key was first taken. If it has room for all and each form of a closed book
-- that demand 3 speaks of arrives at least once, it holds exactly that book's orders, beside those of other books."
--
-- The premises are in specs/Deliveries: `Arrived w n d slots log` is a depot d with its slots after any such history, every step of which is an answer that the promise of a
-- shipped call admits (`depot::forms`, `Depot::begin`, `Depot::take`, and those of demand 3's `History`); `log` is all that was handed in, each with what was answered; each
-- slice that was lent has at least n slots.
--
--     keys_once      it never holds two forms with one key
--     in_order       its slice holds the forms in the order in which each key was first taken; those are the forms answered `issued`, and where none was refused for want of a
--                    slot they are, each key once, all that were handed in
--     room_for_all   with room for all that were handed in, no form is refused for want of a slot; and no genuine form is refused by 11 or 15
--     one_form       genuine forms with one key are one form, sizes too
--     depot_holds_taken    where each form of a closed book was taken at least once, it holds them all, whatever the slices were
--     depot_holds_unrefused   the same where each was handed in at least once and none was refused for want of a slot
--     depot_holds_all      the same with room for all, and each handed in at least once
--     depot_holds_only     what it holds under a book's editions, kind, contractor and profile is an order of the full list under them: where the book's t is 0, an order of that
--                    book; with a t, an order of the book or of a book of another t
--
-- t is no part of the key: a pair of the full list and the same pair of the list of t = 3 are one order, which the second time is `known`. The contractor is: an undivided book
-- (contractor 2) beside a contractor's book of the same town has two keys for one pair, and the depot holds two orders then. So are the editions: a new edition has new keys.
-- Assumes nothing.
use mathlib.Core.Path.{◌≡◌, refl, sym, ap, subst, ◌∙◌}
use mathlib.Core.Bool.{Bool, true, false}
use mathlib.Core.Logic.{⊎_elim}
use mathlib.Core.List.{List, [], ◌∷◌, ◌++◌, Memᴰ}
use Prim.Native.Nat.{ℕ, ◌≤◌, ◌<◌}
use native.Mathlib.Omega.{arith}
use lib.ListN.{length, take, get_or, length-append}
use lib.Seq.{get_or-take, length-take-le}
use Rattle.std.specs.Prelude.{Result, Ok, Err}
use Rattle.list.specs.declared.Pair.{Pair}
use Rattle.list.specs.declared.Terms.{Terms}
use Rattle.list.specs.Terms.{list_for}
use Rattle.book.specs.declared.Book.{Book}
use Rattle.depot.specs.declared.Receipt.{Receipt}
use Rattle.depot.specs.declared.Receipt.TheVariants.{Issued, Known}
use Rattle.depot.specs.declared.Form.{Form}
use Rattle.depot.specs.declared.Depot.{Depot}
use Rattle.depot.specs.declared.Stored.{Stored}
use Rattle.depot.specs.Forms.{form_of}
use Rattle.depot.specs.Depot.{Verdict, begun_depot, same_form, key_in, is_known, store_no, verdict, stored, stored_slots}
use Rattle.depot.proofs.KeyLaws.{key_of_same}
use Rattle.depot.proofs.TakeLaws.{Numbered, is_11, is_15, is_16, is_known_lem, is_new, numbered, sixteen, Judged, new, known, no, judging, known_same, issued_last, refused_leaves, stored_long}
use Rattle.demands.specs.World.{Editions, pumps_of, chambers_of, book_list, History}
use Rattle.demands.proofs.Demand3.{closed_all}
use Rattle.orders.specs.Firsts.{firsts}
use Rattle.orders.specs.Deliveries.{Handed, handed_in, if_issued, if_taken, issued_of, taken_of, NeverFull, EachCame, EachTaken, Under, no_t, full_list, Genuine, Arrived, began, took, lent}
use Rattle.orders.proofs.FirstsLaws.{append_none, taken_handed, key_firsts, firsts_new, firsts_known, firsts_grow, firsts_once, firsts_in, in_firsts, handed_more, issued_more, taken_more}
use Rattle.orders.proofs.GenuineLaws.{in_forms, formed, genuine_ok, same_form_lem, under_listed}

module _ (w : Editions) where
  -- genuine forms with one key are one form: the two books had the same editions and kind, so their lists are of the same points, and the size is theirs
  pub one_form : (f g : Form) → Genuine w f → Genuine w g → same_form f g ≡ true → f ≡ g
  one_form f g x y e = same_form_lem w f g (formed w f x) (formed w g y) (key_of_same f g e)

  module _ (n : ℕ) where
    -- what each step keeps true
    record Keeps (d : Depot) (slots : List Form) (log : List Handed) : Type 0 where
      pub room : d.held ≤ length slots
      pub least : n ≤ length slots
      pub same : take d.held slots ≡ issued_of log
      pub order : issued_of log ≡ firsts (taken_of log)
      pub real : (f : Form) → Memᴰ f (handed_in log) → Genuine w f
      pub all_taken : NeverFull log → taken_of log ≡ handed_in log

    -- what is known is what was taken before
    known_is : (d : Depot) (slots : List Form) (log : List Handed) (f : Form) → Keeps d slots log → is_known d slots f ≡ key_in (taken_of log) f
    unfolding is_known
    known_is d slots log f k = ap (λ (l : List Form). key_in l f) (k.same ∙ k.order) ∙ key_firsts (taken_of log) f

    module _ (d : Depot) (slots : List Form) (log : List Handed) (f : Form) (k : Keeps d slots log) (g : Genuine w f) where
      abbrev r : Stored
      r = stored d slots f

      abbrev last : Result Receipt ℕ → Handed
      last o = record { form = f; outcome = o }

      real_more : (o : Result Receipt ℕ) (e : Form) → Memᴰ e (handed_in (log ++ (last o ∷ []))) → Genuine w e
      real_more o e m =
          ⊎_elim
          (λ (a : Memᴰ e (handed_in log)). k.real e a)
          (λ (a : Memᴰ e (f ∷ [])). subst (Genuine w) (sym (mathlib.Core.List.Memᴰ.eq_of_singleton a)) g)
          (mathlib.Core.List.Memᴰ.append_cases (handed_in log) (subst (Memᴰ e) (handed_more log (last o)) m))

      before : (o : Result Receipt ℕ) → NeverFull (log ++ (last o ∷ [])) → NeverFull log
      before o c h m = c h (mathlib.Core.List.Memᴰ.append_left (last o ∷ []) m)

      -- one that is taken: the form is one more of those taken, and of those handed in
      counted : (o : Result Receipt ℕ) → if_taken o f ≡ f ∷ [] → NeverFull (log ++ (last o ∷ [])) → taken_of (log ++ (last o ∷ [])) ≡ handed_in (log ++ (last o ∷ []))
      counted o t c =
          taken_more log (last o) ∙ ap (λ (l : List Form). taken_of log ++ l) t ∙ ap (λ (l : List Form). l ++ (f ∷ [])) (k.all_taken (before o c)) ∙ sym (handed_more log (last o))

      if_new : r.outcome ≡ Ok Issued → Keeps r.depot (stored_slots d slots f) (log ++ (last (Ok Issued) ∷ []))
      unfolding if_issued if_taken
      if_new e =
          let z = issued_last d slots f e in
          let long = stored_long d slots f in
          record {
            room = omega (arith, z.2, z.3, long);
            least = omega (arith, k.least, long);
            same = ap (λ (i : ℕ). take i (stored_slots d slots f)) z.3 ∙ z.5 ∙ ap (λ (l : List Form). l ++ (f ∷ [])) k.same ∙ sym (issued_more log (last (Ok Issued)));
            order = issued_more log (last (Ok Issued))
                ∙ ap (λ (l : List Form). l ++ (f ∷ [])) k.order ∙ sym (firsts_new (taken_of log) f (sym (known_is d slots log f k) ∙ z.0))
                ∙ sym (ap firsts (taken_more log (last (Ok Issued))));
            real = real_more (Ok Issued);
            all_taken = counted (Ok Issued) refl;
          }

      if_known : r.outcome ≡ Ok Known → Keeps r.depot (stored_slots d slots f) (log ++ (last (Ok Known) ∷ []))
      unfolding if_issued if_taken
      if_known e =
          let z = known_same d slots f e in
          let h : r.depot.held ≡ d.held = ap (λ (x : Depot). x.held) z.3 in
          record {
            room = omega (arith, h, ap length z.4, k.room);
            least = omega (arith, k.least, ap length z.4);
            same = ap (λ (i : ℕ). take i (stored_slots d slots f)) h ∙ ap (take d.held) z.4 ∙ k.same ∙ sym (issued_more log (last (Ok Known)) ∙ append_none (issued_of log));
            order = issued_more log (last (Ok Known)) ∙ append_none (issued_of log) ∙ k.order
                ∙ sym (ap firsts (taken_more log (last (Ok Known))) ∙ firsts_known (taken_of log) f (sym (known_is d slots log f k) ∙ z.0));
            real = real_more (Ok Known);
            all_taken = counted (Ok Known) refl;
          }

      -- a genuine form is refused only for want of a slot
      only_16 : (store_no d slots f ≡ 0 → ⊥) → store_no d slots f ≡ 16
      only_16 ne = go _ (numbered d slots f) ne
        where
          go : (m : ℕ) → Numbered d slots f m → (m ≡ 0 → ⊥) → m ≡ 16
          go _ (is_11 h) ne = absurd (omega (arith, k.room))
          go _ (is_15 h o) ne = let z : ◌≡◌ {A = Bool} true false = sym (genuine_ok w f g) ∙ o in let y : ◌≡◌ {A = ℕ} 0 1 = cc in absurd (omega arith)
          go _ (is_16 h o u v) ne = refl
          go _ (is_known_lem h o u) ne = absurd (ne refl)
          go _ (is_new o u h) ne = absurd (ne refl)

      if_no : (m : ℕ) → m ≡ 16 → r.outcome ≡ Err m → Keeps r.depot (stored_slots d slots f) (log ++ (last (Err m) ∷ []))
      unfolding if_issued if_taken
      if_no m full e =
          let z = refused_leaves d slots f m e in
          let h : r.depot.held ≡ d.held = ap (λ (x : Depot). x.held) z.1 in
          record {
            room = omega (arith, h, ap length z.2, k.room);
            least = omega (arith, k.least, ap length z.2);
            same = ap (λ (i : ℕ). take i (stored_slots d slots f)) h ∙ ap (take d.held) z.2 ∙ k.same ∙ sym (issued_more log (last (Err m)) ∙ append_none (issued_of log));
            order = issued_more log (last (Err m)) ∙ append_none (issued_of log) ∙ k.order ∙ sym (ap firsts (taken_more log (last (Err m)) ∙ append_none (taken_of log)));
            real = real_more (Err m);
            all_taken = λ c. absurd (c (last (Err m)) (mathlib.Core.List.Memᴰ.append_right log (mathlib.Core.List.Memᴰ.head refl)) (ap Err full));
          }

      keeps_take : Keeps r.depot (stored_slots d slots f) (log ++ (last r.outcome ∷ []))
      keeps_take = go (judging d slots f)
        where
          said : (v : Verdict) → verdict d slots f ≡ v → r.outcome ≡ v.stored.outcome
          said v e = unfold stored in ap (λ (x : Verdict). x.stored.outcome) e

          told : (o : Result Receipt ℕ) → r.outcome ≡ o → Keeps r.depot (stored_slots d slots f) (log ++ (last o ∷ [])) → Keeps r.depot (stored_slots d slots f) (log ++ (last r.outcome ∷ []))
          told o e x = subst (λ (y : Result Receipt ℕ). Keeps r.depot (stored_slots d slots f) (log ++ (last y ∷ []))) (sym e) x

          go : Judged d slots f → Keeps r.depot (stored_slots d slots f) (log ++ (last r.outcome ∷ []))
          go (new v h o u) = told _ (said _ v) (if_new (said _ v))
          go (known v h o u) = told _ (said _ v) (if_known (said _ v))
          go (no v ne) = told _ (said _ v) (if_no _ (only_16 ne) (said _ v))

    keeps : {d : Depot} {slots : List Form} {log : List Handed} → Arrived w n d slots log → Keeps d slots log
    unfolding begun_depot handed_in issued_of taken_of firsts
    keeps (began d slots a long) =
        let e : d.held ≡ 0 = ap (λ (x : Depot). x.held) a.promised in
        record {
          room = omega arith;
          least = long;
          same = ap (λ (i : ℕ). take i slots) e;
          order = refl;
          real = λ f m. absurd (mathlib.Core.List.Memᴰ.not-nil m);
          all_taken = λ c. refl;
        }
    keeps (took {d} {slots} {log} f r slots' h g t) =
        subst
        (λ (x : Stored). Keeps x.depot slots' (log ++ (record { form = f; outcome = x.outcome } ∷ [])))
        (sym t.0)
        (subst (λ (x : List Form). Keeps (stored d slots f).depot x (log ++ (record { form = f; outcome = (stored d slots f).outcome } ∷ []))) (sym t.1) (keeps_take d slots log f (keeps h) g))
    keeps (lent other h long fits same) =
        let k = keeps h in
        record { room = fits; least = long; same = same ∙ k.same; order = k.order; real = k.real; all_taken = k.all_taken }

    -- ---- what the slice holds

    module _ {d : Depot} {slots : List Form} {log : List Handed} (a : Arrived w n d slots log) where
      -- "its slice holds the forms in the order in which each key was first taken": of the forms taken, each key once. They are the forms that were answered `issued`, and where
      -- none was refused by 16, they are of all that were handed in each key once.
      pub in_order : (d.held ≤ length slots) × (take d.held slots ≡ firsts (taken_of log)) × (take d.held slots ≡ issued_of log) × (NeverFull log → take d.held slots ≡ firsts (handed_in log))
      in_order = let k = keeps a in (k.room, k.same ∙ k.order, k.same, λ c. k.same ∙ k.order ∙ ap firsts (k.all_taken c))

      -- "The depot never holds two forms with one key": of two held forms, in slots i and j, the keys are not one
      pub keys_once : (x : Form) (i j : ℕ) → i < j → j < d.held → same_form (get_or slots i x) (get_or slots j x) ≡ false
      keys_once x i j h u =
          let k = keeps a in
          let e : take d.held slots ≡ firsts (taken_of log) = k.same ∙ k.order in
          let long : length (firsts (taken_of log)) ≡ d.held = ap length (sym e) ∙ length-take-le d.held slots k.room in
          let at : (i : ℕ) → i < d.held → get_or (firsts (taken_of log)) i x ≡ get_or slots i x = λ i g. ap (λ (l : List Form). get_or l i x) (sym e) ∙ get_or-take d.held slots i x g in
          sym (λ t. same_form (at i (omega arith) t) (at j u t)) ∙ firsts_once (taken_of log) x i j h (omega arith)

      -- the same of the forms that it holds, as a list
      pub held_once : (x : Form) (i j : ℕ) → i < j → j < length (take d.held slots) → same_form (get_or (take d.held slots) i x) (get_or (take d.held slots) j x) ≡ false
      held_once x i j h u =
          let e = in_order.1 in
          subst (λ (l : List Form). same_form (get_or l i x) (get_or l j x) ≡ false) (sym e) (firsts_once (taken_of log) x i j h (omega (arith, ap length e)))

      -- what it holds was handed in, and is genuine
      pub held_real : (f : Form) → Memᴰ f (take d.held slots) → Genuine w f
      held_real f m =
          let k = keeps a in
          k.real f (taken_handed log f (firsts_in (taken_of log) f (subst (Memᴰ f) in_order.1 m)))

    -- "If it has room for all": with as many slots in each slice as keys are handed in, no form is refused for want of a slot
    pub room_for_all : {d : Depot} {slots : List Form} {log : List Handed} → Arrived w n d slots log → length (firsts (handed_in log)) ≤ n → NeverFull log
    room_for_all (began d slots a long) few h m full = absurd (mathlib.Core.List.Memᴰ.not-nil m)
    room_for_all (took {d} {slots} {log} f r slots' a g t) few h m full =
        let k = keeps a in
        let o : Handed = record { form = f; outcome = r.outcome } in
        let more : firsts (handed_in (log ++ (o ∷ []))) ≡ firsts (handed_in log ++ (f ∷ [])) = ap firsts (handed_more log o) in
        let c : NeverFull log = λ h m full. room_for_all a (omega (arith, ap length more, firsts_grow (handed_in log) f)) h m full in
        ⊎_elim
        (λ (x : Memᴰ h log). c h x full)
        (λ (x : Memᴰ h (o ∷ [])).
        let said : (stored d slots f).outcome ≡ Err 16 = sym (ap (λ (y : Stored). y.outcome) t.0) ∙ sym (ap (λ (y : Handed). y.outcome) (mathlib.Core.List.Memᴰ.eq_of_singleton x)) ∙ full in
        let z = (sixteen d slots f).0 (sym (refused_leaves d slots f 16 said).0) in
        let gone : key_in (handed_in log) f ≡ false = ap (λ (l : List Form). key_in l f) (sym (k.all_taken c)) ∙ sym (known_is d slots log f k) ∙ z.2 in
        let long : length (firsts (handed_in log)) ≡ d.held = ap length (sym ((in_order a).3 c)) ∙ length-take-le d.held slots k.room in
        omega (arith, ap length (more ∙ firsts_new (handed_in log) f gone), length-append (firsts (handed_in log)) (f ∷ []), k.least, z.0))
        (mathlib.Core.List.Memᴰ.append_cases log m)
    room_for_all (lent other a long fits same) few h m full = room_for_all a few h m full

    -- where no form was refused by 16, each that was handed in was taken
    pub came_taken : {d : Depot} {slots : List Form} {log : List Handed} → Arrived w n d slots log → NeverFull log → (f : Form) → Memᴰ f (handed_in log) → Memᴰ f (taken_of log)
    came_taken a never f = subst (Memᴰ f) (sym ((keeps a).all_taken never))

    -- ---- a closed book's orders

    module _ {b : Book} {s : List Pair} (h : History w b s) (closed : b.closed ≡ true) {d : Depot} {slots : List Form} {log : List Handed} (a : Arrived w n d slots log) where
      -- Where each form of a closed book that demand 3 speaks of was taken at least once, it holds each of them. Nothing is asked of the slices: they may grow, and a form that was
      -- refused by 16 may have been taken later.
      pub depot_holds_taken : EachTaken b s log → (v : Pair) → Memᴰ v (book_list w b) → Memᴰ (form_of b.source v) (take d.held slots)
      depot_holds_taken taken v m =
          let k = keeps a in
          let f = form_of b.source v in
          let held : Memᴰ v (take b.held s) = subst (Memᴰ v) (sym (closed_all w h closed).1) m in
          let mine : Memᴰ f (taken_of log) = taken f (in_forms b s v held) in
          let z = in_firsts (taken_of log) f mine in
          let real : (e : Form) → Memᴰ e (taken_of log) → Genuine w e = λ e l. k.real e (taken_handed log e l) in
          let one : z.0 ≡ f = one_form z.0 f (real z.0 (firsts_in (taken_of log) z.0 z.1)) (real f mine) z.2 in
          subst (λ (x : Form). Memᴰ x (take d.held slots)) one (subst (Memᴰ z.0) (sym (in_order a).1) z.1)

      -- so it does where each form was handed in at least once and none was refused by 16, however the slices grew
      pub depot_holds_unrefused : NeverFull log → EachCame b s log → (v : Pair) → Memᴰ v (book_list w b) → Memᴰ (form_of b.source v) (take d.held slots)
      depot_holds_unrefused never came = depot_holds_taken (λ f m. came_taken a never f (came f m))

      -- "If it has room for all and each form of a closed book that demand 3 speaks of arrives at least once": it holds each of them
      pub depot_holds_all : length (firsts (handed_in log)) ≤ n → EachCame b s log → (v : Pair) → Memᴰ v (book_list w b) → Memᴰ (form_of b.source v) (take d.held slots)
      depot_holds_all room = depot_holds_unrefused (room_for_all a room)

    -- "it holds exactly that book's orders, beside those of other books": what it holds under a book's editions, kind, contractor and profile is the order of a pair of the full
    -- list under them, of this book or of a book of another t
    pub depot_holds_only : {b : Book} {s : List Pair} → History w b s → {d : Depot} {slots : List Form} {log : List Handed} → Arrived w n d slots log
        → (f : Form) → Memᴰ f (take d.held slots) → Under b.source f → (v : Pair) × Memᴰ v (full_list w b) × (f ≡ form_of b.source v)
    depot_holds_only {b} h a f m u = under_listed w b f (formed w f (held_real a f m)) u

  -- of a book with no t, the full list is the book's
  pub full_is : (b : Book) → b.source.terms.threshold ≡ 0 → full_list w b ≡ book_list w b
  full_is b e = ap (λ (x : Terms). list_for x (w.owners b.source.q_edition) (pumps_of w b.source) (chambers_of w b.source)) same
    where
      same : no_t b.source.terms ≡ b.source.terms
      same = λ i. record { threshold = sym e i; contractor = b.source.terms.contractor; own = b.source.terms.own; grid = b.source.terms.grid }
