-- The premises can be had: a history of a depot that is not empty. The document's editions 7 and 9 are taken to three pairs and closed (`document_closed` of demands); their three
-- forms are made; a depot with room for three is handed the third, the first, the third once more and the second (`document_delivered`). Another depot begins with one slot, refuses
-- the first form by 16, is lent three slots, and is sent that form again (`document-regrown`). And every book can be delivered, whatever its terms (`can-deliver`): those of the street
-- grid, of a self join, of sheets of form 2 and of each contractor that `Worlds` of demands has. So nothing that is said of such histories is said of none.
-- Assumes nothing.
use mathlib.Core.Path.{◌≡◌, refl, sym, ap, ap₂, subst, ◌∙◌}
use mathlib.Core.Bool.{true, false}
use mathlib.Core.List.Memᴰ
use mathlib.Core.List.{List, [], ◌∷◌, ◌++◌, map, append_assoc, Memᴰ}
use Prim.Native.Nat.{ℕ, ◌≤◌}
use native.Mathlib.Omega.{arith}
use lib.ListN.{length, take, drop, replicate, length-replicate}
use lib.Seq.{take_at}
use Rattle.std.specs.Prelude.{Ok, Err}
use Rattle.words.specs.Range.{id_ok, edition_ok}
use Rattle.words.specs.First.{given, first, answer}
use Rattle.list.specs.declared.Pair.{Pair}
use Rattle.list.specs.declared.Source.{Source}
use Rattle.list.specs.Terms.{with_by, alone_by}
use Rattle.book.specs.declared.Book.{Book}
use Rattle.depot.specs.declared.Receipt.TheVariants.{Issued, Known}
use Rattle.depot.specs.declared.Form.{Form}
use Rattle.depot.specs.declared.Depot.{Depot}
use Rattle.depot.specs.Forms.{form_of, forms_answer, forms_of, forms_out}
use Rattle.depot.specs.Depot.{begun_depot, same_form, key_in, form_ok, store_no_at, judged, is_known, verdict, stored, stored_slots}
use Rattle.depot.proofs.FormLaws.{blank}
use Rattle.depot.proofs.TakeLaws.{forms_given, forms_made}
use Rattle.demands.specs.World.{Editions, book_list, History}
use Rattle.demands.proofs.Demand3.{held_prefix, closed_all}
use Rattle.demands.proofs.Worlds.{ClosedWith, source, document_world, document_of, document_source, three_pairs, document_closed, document_divided, street_pairs, streets_closed, alone_pairs, alone_closed, wide_world, wide_pairs, wide_closed}
use Rattle.orders.specs.Firsts.{without, firsts}
use Rattle.orders.specs.Deliveries.{Handed, handed_in, if_taken, taken_of, EachCame, EachTaken, Genuine, Arrived, began, took, lent}
use Rattle.orders.proofs.FirstsLaws.{append_none, firsts_few, handed_more}
use Rattle.orders.proofs.GenuineLaws.{forms_long}
use Rattle.orders.proofs.EndToEnd.{one_order_each}

-- ---- any book can be delivered

module _ (w : Editions) where
  -- each form of a book that demand 3 speaks of is genuine: `forms` makes it, with as many places as the book holds pairs
  made_genuine : {b : Book} {s : List Pair} → History w b s → (f : Form) → Memᴰ f (forms_of b s) → Genuine w f
  made_genuine {b} {s} h f m =
      let out : List Form = replicate b.held blank in
      let room = (held_prefix w h).0 in
      let fine = forms_given b s out room (omega (arith, length-replicate b.held blank)) in
      let z = forms_made b s out fine in
      let made : take (forms_answer b s out).count (forms_out b s out) ≡ forms_of b s =
      ap (λ (k : ℕ). take k (forms_out b s out)) z.0 ∙ ap (take b.held) z.1 ∙ take_at (forms_of b s) (drop b.held out) b.held (forms_long b s room) in
      record { b = b; slots = s; history = h; out = out; r = forms_answer b s out; out' = forms_out b s out; makes = (refl, refl); given = fine; among = subst (Memᴰ f) (sym made) m }

  -- genuine forms are handed in one after the other, whatever the depot says of each
  hand_in : (n : ℕ) (l : List Form) → ((f : Form) → Memᴰ f l → Genuine w f) → {d : Depot} {slots : List Form} {log : List Handed} → Arrived w n d slots log
      → (d' : Depot) × (slots' : List Form) × (log' : List Handed) × Arrived w n d' slots' log' × (handed_in log' ≡ handed_in log ++ l)
  hand_in n [] real {d} {slots} {log} a = (d, slots, log, a, sym (append_none (handed_in log)))
  hand_in n (f ∷ l) real {d} {slots} {log} a =
      let r = stored d slots f in
      let h : Handed = record { form = f; outcome = r.outcome } in
      let z = hand_in n l (λ e m. real e (Memᴰ.tail m)) (took f r (stored_slots d slots f) a (real f (Memᴰ.head refl)) (refl, refl)) in
      (z.0, z.1, z.2, z.3, z.4 ∙ ap (λ (x : List Form). x ++ l) (handed_more log h) ∙ append_assoc (handed_in log) (f ∷ []) l)

  -- Each form of a book came to a depot that had room for all of them: the premises of the theorems from end to end, of what is delivered.
  abbrev pub Delivered : Book → List Pair → Type 0
  Delivered b s = (d : Depot) × (slots : List Form) × (log : List Handed) × Arrived w b.held d slots log × (length (firsts (handed_in log)) ≤ b.held) × EachCame b s log

  -- They can be had of every book, of whatever terms and of sheets of either form: as many slots as it holds pairs, and its forms handed in one after the other.
  pub can_deliver : {b : Book} {s : List Pair} → History w b s → Delivered b s
  unfolding begun_depot handed_in
  can_deliver {b} {s} h =
      let l = forms_of b s in
      let start : Arrived w b.held begun_depot (replicate b.held blank) [] = began begun_depot (replicate b.held blank) (record { promised = refl }) (omega (arith, length-replicate b.held blank)) in
      let z = hand_in b.held l (made_genuine h) start in
      let all : handed_in z.2 ≡ l = z.4 in
      let few : length (firsts (handed_in z.2)) ≤ b.held = omega (arith, firsts_few (handed_in z.2), ap length all, forms_long b s (held_prefix w h).0) in
      (z.0, z.1, z.2, z.3, few, λ f m. subst (Memᴰ f) (sym all) m)

  -- So a book that came to be closed with some pairs, and has no t, comes to be delivered with exactly one order for each pair of its list.
  abbrev pub Ordered : Source → List Pair → Type 0
  Ordered of pairs = (d : Depot) × (slots : List Form) × ((v : Pair) → Memᴰ v pairs → Memᴰ (form_of of v) (take d.held slots))

  orders_of : (of : Source) (pairs : List Pair) → of.terms.threshold ≡ 0 → ClosedWith w of pairs → Ordered of pairs
  orders_of of pairs t c =
      let b = c.0 in
      let s = c.1 in
      let z = can_deliver c.2 in
      let each = one_order_each w b.held c.2 c.3 (ap (λ (x : Source). x.terms.threshold) c.6 ∙ t) z.3 z.4 z.5 in
      let l : book_list w b ≡ pairs = sym (closed_all w c.2 c.3).1 ∙ ap (λ (k : ℕ). take k s) c.4 ∙ c.5 in
      (z.0, z.1, λ v m. subst (λ (x : Source). Memᴰ (form_of x v) (take z.0.held z.1)) c.6 (each.none_missing v (subst (Memᴰ v) (sym l) m)))

-- The books that `Worlds` of demands has closed, each not empty, come to be delivered: of the street grid, of a self join, of two sheets of form 2, of each contractor.
pub streets_delivered : Ordered document_world (source 7 9 (with_by true 0)) street_pairs
streets_delivered = orders_of document_world _ _ refl streets_closed

pub alone_delivered : Ordered document_world (source 9 9 (alone_by false)) alone_pairs
alone_delivered = orders_of document_world _ _ refl alone_closed

pub wide_delivered : Ordered wide_world document_source wide_pairs
wide_delivered = orders_of wide_world _ _ refl wide_closed

pub divided_delivered : Ordered document_world (document_of 0) (take 2 three_pairs) × Ordered document_world (document_of 1) (drop 2 three_pairs)
divided_delivered = (orders_of document_world _ _ refl document_divided.0, orders_of document_world _ _ refl document_divided.1)

-- ---- lost, repeated, out of order: the document's three forms

-- the forms of the document's three pairs
abbrev order : ℕ → ℕ → ℕ → Form
order q p size = record { p_edition = 7; q_edition = 9; own = false; contractor = 2; grid = false; q = q; p = p; size = size }

abbrev first_form : Form
first_form = order 5 1 16

abbrev second_form : Form
second_form = order 5 2 36

abbrev third_form : Form
third_form = order 6 2 37

three : map (form_of document_source) three_pairs ≡ first_form ∷ second_form ∷ third_form ∷ []
unfolding form_of
three = refl

abbrev out : List Form
out = blank ∷ blank ∷ blank ∷ []

-- the closed book, and what `forms` makes of it
abbrev b : Book
b = document_closed.0

abbrev s : List Pair
s = document_closed.1

abbrev history : History document_world b s
history = document_closed.2

held_is : b.held ≡ 3
held_is = document_closed.4

forms_are_three : forms_of b s ≡ first_form ∷ second_form ∷ third_form ∷ []
unfolding forms_of
forms_are_three =
    ap (λ (k : ℕ). map (form_of b.source) (take k s)) held_is ∙ ap₂ (λ (x : Source) (l : List Pair). map (form_of x) l) document_closed.6 document_closed.5 ∙ three

genuine : (f : Form) → Memᴰ f (forms_of b s) → Genuine document_world f
genuine = made_genuine document_world history

genuine_1 : Genuine document_world first_form
genuine_1 = genuine first_form (subst (Memᴰ first_form) (sym forms_are_three) (Memᴰ.head refl))

genuine_2 : Genuine document_world second_form
genuine_2 = genuine second_form (subst (Memᴰ second_form) (sym forms_are_three) (Memᴰ.tail (Memᴰ.head refl)))

genuine_3 : Genuine document_world third_form
genuine_3 = genuine third_form (subst (Memᴰ third_form) (sym forms_are_three) (Memᴰ.tail (Memᴰ.tail (Memᴰ.head refl))))

-- the depot so far
abbrev holding : ℕ → Depot
holding n = record { held = n }

abbrev said_of : Form → Handed
said_of f = record { form = f; outcome = Ok Issued }

abbrev log : List Handed
log = said_of third_form ∷ said_of first_form ∷ record { form = third_form; outcome = Ok Known } ∷ said_of second_form ∷ []

abbrev full_slots : List Form
full_slots = third_form ∷ first_form ∷ second_form ∷ []

after_1 : Arrived document_world 3 (holding 1) (third_form ∷ blank ∷ blank ∷ []) (said_of third_form ∷ [])
unfolding begun_depot stored stored_slots verdict is_known judged store_no_at key_in same_form form_ok id_ok edition_ok first given answer
after_1 = took third_form (record { outcome = Ok Issued; depot = holding 1 }) (third_form ∷ blank ∷ blank ∷ []) (began (holding 0) out (record { promised = refl }) (omega arith)) genuine_3 (refl, refl)

after_2 : Arrived document_world 3 (holding 2) (third_form ∷ first_form ∷ blank ∷ []) (said_of third_form ∷ said_of first_form ∷ [])
unfolding stored stored_slots verdict is_known judged store_no_at key_in same_form form_ok id_ok edition_ok first given answer
after_2 = took first_form (record { outcome = Ok Issued; depot = holding 2 }) (third_form ∷ first_form ∷ blank ∷ []) after_1 genuine_1 (refl, refl)

after_3 : Arrived document_world 3 (holding 2) (third_form ∷ first_form ∷ blank ∷ []) (said_of third_form ∷ said_of first_form ∷ record { form = third_form; outcome = Ok Known } ∷ [])
unfolding stored stored_slots verdict is_known judged store_no_at key_in same_form form_ok id_ok edition_ok first given answer
after_3 = took third_form (record { outcome = Ok Known; depot = holding 2 }) (third_form ∷ first_form ∷ blank ∷ []) after_2 genuine_3 (refl, refl)

after_4 : Arrived document_world 3 (holding 3) full_slots log
unfolding stored stored_slots verdict is_known judged store_no_at key_in same_form form_ok id_ok edition_ok first given answer
after_4 = took second_form (record { outcome = Ok Issued; depot = holding 3 }) full_slots after_3 genuine_2 (refl, refl)

-- what was handed in, each key once: no more than there are slots
few : length (firsts (handed_in log)) ≤ 3
unfolding handed_in firsts without same_form
few = omega arith

all_came : EachCame b s log
unfolding handed_in
all_came f m = go (subst (Memᴰ f) forms_are_three m)
  where
    go : Memᴰ f (first_form ∷ second_form ∷ third_form ∷ []) → Memᴰ f (third_form ∷ first_form ∷ third_form ∷ second_form ∷ [])
    go (Memᴰ.head e) = Memᴰ.tail (Memᴰ.head e)
    go (Memᴰ.tail (Memᴰ.head e)) = Memᴰ.tail (Memᴰ.tail (Memᴰ.tail (Memᴰ.head e)))
    go (Memᴰ.tail (Memᴰ.tail (Memᴰ.head e))) = Memᴰ.head e
    go (Memᴰ.tail (Memᴰ.tail (Memᴰ.tail m))) = absurd (Memᴰ.not-nil m)

-- All premises of the theorem from end to end, at once: a closed book with no t, a depot with room for all, each form of the book handed in, one of them twice and none in the
-- book's order. It holds three orders then, in the order in which they came.
pub document_delivered : History document_world b s × (b.closed ≡ true) × (b.source.terms.threshold ≡ 0) × Arrived document_world 3 (holding 3) full_slots log
    × (length (firsts (handed_in log)) ≤ 3) × EachCame b s log
document_delivered = (history, document_closed.3, ap (λ (x : Source). x.terms.threshold) document_closed.6, after_4, few, all_came)

-- ---- a depot whose slice grows

abbrev full_said : Handed
full_said = record { form = first_form; outcome = Err 16 }

abbrev short_log : List Handed
short_log = said_of third_form ∷ full_said ∷ []

-- all that was handed in, the refused form too
abbrev grown_log : List Handed
grown_log = said_of third_form ∷ full_said ∷ said_of first_form ∷ record { form = third_form; outcome = Ok Known } ∷ said_of second_form ∷ []

-- one slot: the third form is taken, the first is refused by 16
short_1 : Arrived document_world 1 (holding 1) (third_form ∷ []) (said_of third_form ∷ [])
unfolding begun_depot stored stored_slots verdict is_known judged store_no_at key_in same_form form_ok id_ok edition_ok first given answer
short_1 = took third_form (record { outcome = Ok Issued; depot = holding 1 }) (third_form ∷ []) (began (holding 0) (blank ∷ []) (record { promised = refl }) (omega arith)) genuine_3 (refl, refl)

short_2 : Arrived document_world 1 (holding 1) (third_form ∷ []) short_log
unfolding stored stored_slots verdict is_known judged store_no_at key_in same_form form_ok id_ok edition_ok first given answer
short_2 = took first_form (record { outcome = Err 16; depot = holding 1 }) (third_form ∷ []) short_1 genuine_1 (refl, refl)

-- two slots more: what was refused is sent again, and taken
grown_0 : Arrived document_world 1 (holding 1) (third_form ∷ blank ∷ blank ∷ []) short_log
grown_0 = lent (third_form ∷ blank ∷ blank ∷ []) short_2 (omega arith) (omega arith) refl

grown_1 : Arrived document_world 1 (holding 2) (third_form ∷ first_form ∷ blank ∷ []) (said_of third_form ∷ full_said ∷ said_of first_form ∷ [])
unfolding stored stored_slots verdict is_known judged store_no_at key_in same_form form_ok id_ok edition_ok first given answer
grown_1 = took first_form (record { outcome = Ok Issued; depot = holding 2 }) (third_form ∷ first_form ∷ blank ∷ []) grown_0 genuine_1 (refl, refl)

grown_2 : Arrived document_world 1 (holding 2) (third_form ∷ first_form ∷ blank ∷ []) (said_of third_form ∷ full_said ∷ said_of first_form ∷ record { form = third_form; outcome = Ok Known } ∷ [])
unfolding stored stored_slots verdict is_known judged store_no_at key_in same_form form_ok id_ok edition_ok first given answer
grown_2 = took third_form (record { outcome = Ok Known; depot = holding 2 }) (third_form ∷ first_form ∷ blank ∷ []) grown_1 genuine_3 (refl, refl)

grown_3 : Arrived document_world 1 (holding 3) full_slots grown_log
unfolding stored stored_slots verdict is_known judged store_no_at key_in same_form form_ok id_ok edition_ok first given answer
grown_3 = took second_form (record { outcome = Ok Issued; depot = holding 3 }) full_slots grown_2 genuine_2 (refl, refl)

all_taken : EachTaken b s grown_log
unfolding taken_of if_taken
all_taken f m = go (subst (Memᴰ f) forms_are_three m)
  where
    go : Memᴰ f (first_form ∷ second_form ∷ third_form ∷ []) → Memᴰ f (third_form ∷ first_form ∷ third_form ∷ second_form ∷ [])
    go (Memᴰ.head e) = Memᴰ.tail (Memᴰ.head e)
    go (Memᴰ.tail (Memᴰ.head e)) = Memᴰ.tail (Memᴰ.tail (Memᴰ.tail (Memᴰ.head e)))
    go (Memᴰ.tail (Memᴰ.tail (Memᴰ.head e))) = Memᴰ.head e
    go (Memᴰ.tail (Memᴰ.tail (Memᴰ.tail m))) = absurd (Memᴰ.not-nil m)

-- All premises of the theorems that ask nothing of the slices, at once, where those that ask for room do not hold: a depot of one slot, to which a form was sent that it refused by
-- 16, and again when it had three. The same three orders stand in it then.
pub document_regrown : History document_world b s × (b.closed ≡ true) × (b.source.terms.threshold ≡ 0) × Arrived document_world 1 (holding 3) full_slots grown_log
    × Memᴰ full_said grown_log × EachTaken b s grown_log
document_regrown = (history, document_closed.3, ap (λ (x : Source). x.terms.threshold) document_closed.6, grown_3, Memᴰ.tail (Memᴰ.head refl), all_taken)
