-- What the page maker's functions find, from what their calls answered: laws over plain values.
-- Assumes nothing.
use mathlib.Core.Path.{◌≡◌, refl, sym, ap, ◌∙◌}
use mathlib.Core.Bool.{Bool, true, false, cond, not, ◌&&◌}
use mathlib.Core.List.{List}
use Prim.Native.Nat.{ℕ, ◌+◌, ◌*◌, ◌≤◌, ◌<◌}
use native.Mathlib.Omega.{arith}
use native.Mathlib.Nat.{mul-le-mul, le_antisymm}
use lib.IntN.{ℤ}
use lib.ListN.{length}
use lib.Dec.{ltb}
use borrow.Author.Tests.{not-true, not-false, lt-ltb, le-ltb}
use Rattle.words.proofs.AllLaws.{first_none, first_more, first_stop}
use Rattle.plane.specs.declared.Spot.{Spot}
use Rattle.plane.specs.Rule.{SpotIn}
use Rattle.plane.specs.Profile.{Profile, profile_of}
use Rattle.plane.specs.Point.{id_at}
use Rattle.plane.proofs.ProfileLaws.{profile_lawful}
use Rattle.sheet.specs.Places.{spot_of, points_of}
use Rattle.sheet.specs.Open.{Opens}
use Rattle.sheet.proofs.SheetLaws.{by_counts}
use Rattle.sheet.proofs.RangeLaws.{spot_in}
use Rattle.bits.specs.Set.{kept}
use Rattle.walk.specs.FilterWalk.{keeps_by, keeps_opened}
use Rattle.walk.proofs.Meaning.{keeps_opened_at_most_m, pair_opened}
use Rattle.list.specs.declared.Key.{Key}
use Rattle.list.specs.declared.Pair.{Pair}
use Rattle.list.specs.Pairs.{key_of, follows}
use Rattle.list.specs.RingList.{pair_by, pair_at}
use Rattle.join.specs.declared.Draft.{Draft}
use Rattle.join.specs.declared.Tried.{Tried}
use Rattle.join.specs.Walks.{Walks, Agrees}
use Rattle.join.specs.Work.{first_from}
use Rattle.join.specs.Maker.{spent, found, with_tried, tried, chamber}
use Rattle.list.specs.declared.Terms.{Terms}
use Rattle.join.specs.Sheets.{walks_by, walks_of}
use Rattle.join.specs.Threshold.{walks_for, on_words}
use Rattle.join.proofs.TurnLaws.{Capped, all_words}

-- ---- the first chamber from the key on: none of the first j is one

module _ (qid : ℕ → ℕ) (key : Key) where
  pub scan_start : first_from qid key 0 ≡ 0
  unfolding first_from
  scan_start = first_none (λ j. not (ltb (qid j) key.q))

  pub scan_on : (j a : ℕ) → first_from qid key j ≡ j → a ≡ qid j → a < key.q → first_from qid key (j + 1) ≡ j + 1
  unfolding first_from
  scan_on j a e i h = first_more (λ j. not (ltb (qid j) key.q)) j e (ap not (lt-ltb (qid j) key.q (omega arith)))

  pub scan_stop : (j nq a : ℕ) → first_from qid key j ≡ j → a ≡ qid j → key.q ≤ a → j < nq → j ≡ first_from qid key nq
  unfolding first_from
  scan_stop j nq a e i h l = first_stop (λ j. not (ltb (qid j) key.q)) j nq e (ap not (le-ltb (qid j) key.q (omega arith))) l

  pub scan_end : (j nq : ℕ) → first_from qid key j ≡ j → j ≤ nq → nq ≤ j → j ≡ first_from qid key nq
  scan_end j nq e l g = let z : j ≡ nq = le_antisymm l g in sym e ∙ ap (first_from qid key) z

-- ---- a kept partner

-- its key is read from the sheets
pub late_is : (P Q : List ℤ) (key : Key) (j i a b : ℕ) → a ≡ id_at (points_of Q) j → b ≡ id_at (points_of P) i → (t : Bool) → t ≡ follows key (record { q = a; p = b }) → t ≡ follows key (key_of (pair_at (points_of P) (points_of Q) j i))
late_is P Q key j i a b ea eb t et = et ∙ ap (follows key) (λ s. record { q = ea s; p = eb s })

module _ (w : Walks) (key : Key) (j i : ℕ) (t : Bool) (et : t ≡ follows key (key_of (w.pair j i))) where
  pub tried_early : not t ≡ true → record { finds = false; opened = 0 } ≡ tried w key j i
  unfolding tried
  tried_early n =
      let f : follows key (key_of (w.pair j i)) ≡ false = sym et ∙ not-true t n in
      let x : false ≡ (follows key (key_of (w.pair j i)) && w.clear j i) = sym (ap (λ (y : Bool). y && w.clear j i) f) in
      let z : 0 ≡ cond (follows key (key_of (w.pair j i))) (w.clear_opened j i) 0 = sym (ap (λ (y : Bool). cond y (w.clear_opened j i) 0) f) in
      λ s. record { finds = x s; opened = z s }

  pub tried_walked : not t ≡ false → (c : Bool) (o : ℕ) → c ≡ w.clear j i → o ≡ w.clear_opened j i → record { finds = c; opened = o } ≡ tried w key j i
  unfolding tried
  tried_walked n c o ec eo =
      let f : follows key (key_of (w.pair j i)) ≡ true = sym et ∙ not-false t n in
      let x : c ≡ (follows key (key_of (w.pair j i)) && w.clear j i) = ec ∙ sym (ap (λ (y : Bool). y && w.clear j i) f) in
      let z : o ≡ cond (follows key (key_of (w.pair j i))) (w.clear_opened j i) 0 = eo ∙ sym (ap (λ (y : Bool). cond y (w.clear_opened j i) 0) f) in
      λ s. record { finds = x s; opened = z s }

pub with_yes : (size : ℕ) (v w : Pair) (t u : Tried) (d r : Draft) → v ≡ w → t ≡ u → t.finds ≡ true → r ≡ found size v (spent t.opened d) → r ≡ with_tried size w u d
unfolding with_tried
with_yes size v w t u d r x e y f = rw (← x, ← e, y) f

pub with_no : (size : ℕ) (v : Pair) (t u : Tried) (d : Draft) → t ≡ u → t.finds ≡ false → spent t.opened d ≡ with_tried size v u d
unfolding with_tried
with_no size v t u d e n = rw (← e, n)

-- a pair of words that hold what is to be shown: it is, where it is after the key
pub spent_none : (d : Draft) → d ≡ spent 0 d
spent_none d = let e : d.opened ≡ d.opened + 0 = omega arith in λ s. record { pairs = d.pairs; count = d.count; more = d.more; opened = e s }

module _ (φ : Profile) (ws : List ℕ) (P Q : List ℤ) (key : Key) (size j i : ℕ) (t : Bool) (et : t ≡ follows key (key_of (pair_at (points_of P) (points_of Q) j i))) (d r : Draft) where
  pub show_late : t ≡ true → (v : Pair) → v ≡ pair_by φ (points_of P) (points_of Q) j i → r ≡ found size v d → r ≡ with_tried size (pair_by φ (points_of P) (points_of Q) j i) (tried (on_words φ ws P Q) key j i) d
  unfolding with_tried tried
  show_late y v ev e = rw (sym et ∙ y) (e ∙ ap (λ (x : Pair). found size x d) ev ∙ ap (found size (pair_by φ (points_of P) (points_of Q) j i)) (spent_none d))

  pub show_early : t ≡ false → r ≡ d → r ≡ with_tried size (pair_by φ (points_of P) (points_of Q) j i) (tried (on_words φ ws P Q) key j i) d
  unfolding with_tried tried
  show_early n e = rw (sym et ∙ n) (e ∙ spent_none d)

pub on_words_lem : (φ : Profile) (ws : List ℕ) (P Q : List ℤ) → Capped (on_words φ ws P Q) 0 0
on_words_lem φ ws P Q = record { filter = λ j. omega arith; ring = λ j i. omega arith }

-- ---- the words of what is kept, and room

pub words_on : (φ : Profile) (P Q : List ℤ) (j : ℕ) (ws : List ℕ) → Agrees (on_words φ ws P Q) j 0 ws
words_on φ P Q j ws = all_words (on_words φ ws P Q) j ws (λ i. refl)

module _ (P Q : List ℤ) (j : ℕ) (z : Spot) (ez : z ≡ spot_of Q j) (b : ℕ) where
  -- words that were lent for the q at j, b of them, hold what is kept for it
  pub words_are : (φ : Profile) (ws : List ℕ) → length ws ≡ b → ((i : ℕ) → kept ws i ≡ keeps_by φ b P z i) → (i : ℕ) → keeps_by φ (length ws) P (spot_of Q j) i ≡ kept ws i
  words_are φ ws el e i = sym (e i ∙ ap (λ (l : ℕ). keeps_by φ l P z i) (sym el) ∙ ap (λ (y : Spot). keeps_by φ (length ws) P y i) ez)

-- so many words, or as many
pub chamber_same : (c : Terms) (P Q : List ℤ) (key : Key) (size n t j : ℕ) (d r : Draft) (a b : ℕ) → a ≡ b → r ≡ chamber (walks_for (walks_by c a P Q) n t) key size n j d → r ≡ chamber (walks_for (walks_by c b P Q) n t) key size n j d
chamber_same c P Q key size n t j d r a b e f = f ∙ ap (λ (x : ℕ). chamber (walks_for (walks_by c x P Q) n t) key size n j d) e

pub keeps_few : {P : List ℤ} {np mp : ℕ} → Opens P np mp → (φ : Profile) (words : ℕ) (z : Spot) (o : ℕ) → o ≡ keeps_opened φ words P z → o ≤ mp
keeps_few {P} c φ words z o e = omega (arith, c.m_is, keeps_opened_at_most_m φ words P z (by_counts c))

pub join_spot_fits : {Q : List ℤ} {nq mq : ℕ} → Opens Q nq mq → (j : ℕ) (z : Spot) → j < nq → z ≡ spot_of Q j → SpotIn z
join_spot_fits o j z h e = rw e (spot_in o j h)

module _ {P Q : List ℤ} {np mp nq mq : ℕ} (o : Opens P np mp) (o' : Opens Q nq mq) where
  pub capped : (g : Bool) (words : ℕ) → Capped (walks_of g words P Q) mp (mp + mq)
  capped g words =
      record {
        filter = λ j. omega (arith, o.m_is, keeps_opened_at_most_m (profile_of g) words P (spot_of Q j) (by_counts o));
        ring = λ j i. omega (arith, o.m_is, o'.m_is, pair_opened (profile_of g) (profile_lawful g) P Q (by_counts o) (by_counts o') j i);
      }

  -- the count of a chamber's ring walks fits
  pub walks_room : np * (mp + mq) ≤ 2880000000
  walks_room = mul-le-mul {n₁ = np} {m₁ = mp + mq} {n₂ = 60000} {m₂ = 48000} o.n_le (omega (arith, o.m_le, o'.m_le))

  -- the count of a page fits
  pub page_room : nq * (mp + np * (mp + mq)) < 9223372036854775808
  page_room =
      let a = walks_room in
      let b : nq * (mp + np * (mp + mq)) ≤ 60000 * 2880024000 = mul-le-mul {n₁ = nq} {m₁ = mp + np * (mp + mq)} {n₂ = 60000} {m₂ = 2880024000} o'.n_le (omega (arith, o.m_le)) in
      omega arith
