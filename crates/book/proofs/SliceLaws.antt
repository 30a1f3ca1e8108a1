-- The book and the slice lent to it, of every state: the next key is the last held pair; a slice too short is refused by 11; a full one still takes the end; a longer one goes
-- on after 16.
-- Assumes nothing.
use mathlib.Core.Path.{◌≡◌, refl, sym, ap, ◌∙◌}
use mathlib.Core.Bool.{Bool, true, false, not}
use mathlib.Core.List.{List}
use Prim.Native.Nat.{ℕ, zero, suc, ◌+◌, ◌≤◌, ◌<◌}
use native.Mathlib.Omega.{arith}
use lib.ListN.{length, take}
use lib.Seq.{paste, paste-zero}
use lib.Dec.{ltb}
use borrow.Author.Tests.{ltb-false, lt-ltb, le-ltb}
use Rattle.std.specs.Prelude.{Ok, Err}
use Rattle.words.specs.First.{given, answer}
use Rattle.words.proofs.FirstLaws.{first_skips, given_no, given_other, given_failed, given_held, answer_given}
use Rattle.list.specs.declared.Key.{Key}
use Rattle.list.specs.declared.Pair.{Pair}
use Rattle.list.specs.declared.Page.{Page}
use Rattle.list.specs.Pairs.{start, ascends, last_or}
use Rattle.list.specs.Pages.{page_pairs}
use Rattle.list.proofs.Order.{last_at}
use Rattle.list.proofs.SourceLaws.{source_same, source_other}
use Rattle.book.specs.declared.Book.{Book}
use Rattle.book.specs.declared.Decided.{Decided}
use Rattle.book.specs.Rules.{last_key, next_no, asked_at, asked, pairs_ok, same_key, page_bad, take_no_at, take_no, advanced, accepted, refused, taken, taken_slots}
use Rattle.book.proofs.TakeLaws.{same_key_lem, decided_yes, decided_no, refused_slots, taken_slots_lem, no_refusal_at, no_refusal}
use Rattle.book.proofs.CoreLaws.{is_11}

-- ---- the next key

-- "Its next key is its last pair", of every state that the slice has room for
pub last_held : (h : ℕ) (s : List Pair) → h ≤ length s → last_key h s ≡ last_or start (take h s)
unfolding last_key last_or
last_held zero s e = refl
last_held (suc n) s e = sym (last_at start s n (omega arith))

pub next_after : (b : Book) (s : List Pair) → b.held ≤ length s → (asked b s).next ≡ Ok (last_key b.held s)
unfolding asked asked_at next_no
next_after b s h = answer_given _ Err _ (given_no 11 (le-ltb (length s) b.held h))

pub book_next_is_last : (b : Book) (s : List Pair) → b.held ≤ length s → (asked b s).next ≡ Ok (last_or start (take b.held s))
book_next_is_last b s h = next_after b s h ∙ ap Ok (last_held b.held s h)

-- ---- a slice that is too short: 11, and nothing changes

pub short_next : (b : Book) (s : List Pair) → length s < b.held → asked b s ≡ record { next = Err 11; book = b }
unfolding asked asked_at next_no given answer
short_next b s h = rw (lt-ltb (length s) b.held h)

short_no_lem : (b : Book) (s : List Pair) (g : Page) → length s < b.held → take_no b s g ≡ 11
unfolding take_no
short_no_lem b s g h = sym (is_11 b (length s) (last_key b.held s) g h)

pub short_take : (b : Book) (s : List Pair) (g : Page) → length s < b.held → (taken b s g ≡ record { number = 11; book = b }) × (taken_slots b s g ≡ s)
unfolding taken refused
short_take b s g h =
    let e = short_no_lem b s g h in
    let no : take_no b s g ≡ 0 → ⊥ = λ z. let y : ◌≡◌ {A = ℕ} 11 0 = sym e ∙ z in omega arith in (
      ap (λ (d : Decided). d.taken) (decided_no b s g no) ∙ ap (λ (n : ℕ). record { number = n; book = b }) e,
      refused_slots b s g no,
    )

-- ---- "A full book still takes an empty page with the end mark."

empty_good : (g : Page) → g.count ≡ 0 → g.end ≡ true → page_bad g ≡ false
unfolding page_bad page_pairs pairs_ok ascends
empty_good g c e = rw (c, e)

pub full_end : (b : Book) (s : List Pair) (g : Page) → b.held ≡ length s → b.closed ≡ false → b.source ≡ g.source → g.key ≡ last_key b.held s → g.count ≡ 0 → g.end ≡ true
    → (taken b s g ≡ record { number = 0; book = record { held = b.held; closed = true; source = b.source } }) × (taken_slots b s g ≡ s)
unfolding taken accepted advanced
full_end b s g full still one_source due c e =
    let ok : take_no b s g ≡ 0 = no_refusal b s g (omega arith) still (source_same b.source g.source one_source) due (empty_good g c e) (omega arith) in
    let z : b.held + g.count ≡ b.held = omega arith in (
      ap (λ (d : Decided). d.taken) (decided_yes b s g ok) ∙ (cc),
      taken_slots_lem b s g ok ∙ ap (λ (n : ℕ). paste s b.held g.pairs n) c ∙ sym (paste-zero s b.held g.pairs),
    )

-- ---- after 16, a longer slice with the same held pairs takes the page

room_at : (b : Book) (len m : ℕ) (k : Key) (g : Page) → take_no_at b len k g ≡ 16 → b.held + g.count ≤ m → (b.held ≤ len) × (take_no_at b m k g ≡ 0)
unfolding take_no_at
room_at b len m k g e h =
    let other : (n : ℕ) → (n ≡ 16 → ⊥) → (t : Bool) → given t n ≡ 16 → given t n ≡ 0 = λ n ne t. given_other t n 16 ne in
    let e1 = first_skips _ _ 16 (other 11 (λ z. omega arith) (ltb len b.held)) e in
    let e2 = first_skips _ _ 16 (other 12 (λ z. omega arith) b.closed) e1.1 in
    let e3 = first_skips _ _ 16 (source_other b.source g.source 16 (λ z. omega arith) (λ z. omega arith) (λ z. omega arith) (λ z. omega arith) (λ z. omega arith)) e2.1 in
    let e4 = first_skips _ _ 16 (other 14 (λ z. omega arith) (not (same_key g.key k))) e3.1 in
    let e5 = first_skips _ _ 16 (other 15 (λ z. omega arith) (page_bad g)) e4.1 in (
      ltb-false len b.held (given_failed _ e1.0),
      no_refusal_at b m k g (omega arith) (given_failed _ e2.0) e3.0 (same_key_lem g.key k (given_held _ e4.0)) (given_failed _ e5.0) (omega arith),
    )

pub longer_takes : (b : Book) (s t : List Pair) (g : Page) → take_no b s g ≡ 16 → b.held + g.count ≤ length t → take b.held t ≡ take b.held s → take_no b t g ≡ 0
unfolding take_no
longer_takes b s t g e h same =
    let x = room_at b (length s) (length t) (last_key b.held s) g e h in
    let k : last_key b.held t ≡ last_key b.held s = last_held b.held t (omega arith) ∙ ap (last_or start) same ∙ sym (last_held b.held s x.0) in
    ap (λ (k : Key). take_no_at b (length t) k g) k ∙ x.1
