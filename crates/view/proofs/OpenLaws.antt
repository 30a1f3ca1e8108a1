-- What an opened view shows, from the head of its words and the part of them that it covers.
-- Assumes nothing.
use mathlib.Core.Path.{◌≡◌, refl, sym, ap, subst, ◌∙◌}
use mathlib.Core.List.{List, []}
use Prim.Native.Nat.{ℕ, zero, suc, ◌≤◌, zero-le}
use native.Mathlib.Nat.{le_refl}
use lib.IntN.{ℤ}
use lib.ListN.{length, take}
use lib.Seq.{take-length}
use denote.Ref.{Bor}
use Rattle.words.specs.First.{answer}
use Rattle.sheet.specs.Layout.{points, nodes}
use Rattle.sheet.specs.Open.{sheet_no}
use Rattle.ring.specs.Answers.{head_of}
use Rattle.ring.specs.declared.Head.{Head}
use Rattle.view.specs.Shown.{Shown, shown, open_of}
use Rattle.view.specs.declared.Opened.{Opened}

-- the first `k` words of s, where they stand
abbrev pub Part : Bor (List ℤ) → ℕ → Bor (List ℤ) → Type 0
Part s k r = (r.now ≡ take k s.now) × (r.ref_ptr ≡ s.ref_ptr)

-- a view of the part r, with the counts of the head h
abbrev pub seen : Head → Bor (List ℤ) → Opened
seen h r = record { number = h.number; sheet = record { words = r; n = h.n; m = h.m } }

-- what the check finds of the words w with the number k
abbrev found : List ℤ → ℕ → Head
found w k = answer k (record { number = 0; len = length w; n = points w; m = nodes w }) (λ n. record { number = n; len = 0; n = 0; m = 0 })

-- the words covered are words handed in
pub head_len : (w : List ℤ) (h : Head) → h ≡ head_of w → h.len ≤ length w
unfolding head_of answer
head_len w h e = go (sheet_no w) e
  where
    go : (k : ℕ) → h ≡ found w k → h.len ≤ length w
    go zero f = subst (λ (g : Head). g.len ≤ length w) (sym f) (le_refl (length w))
    go (suc k) f = subst (λ (g : Head). g.len ≤ length w) (sym f) zero-le

pub open_shown : (s r : Bor (List ℤ)) (h : Head) → h ≡ head_of s.now → Part s h.len r → shown (seen h r) ≡ open_of s
unfolding open_of head_of answer
open_shown s r h e part = go (sheet_no s.now) e
  where
    go : (k : ℕ) → h ≡ found s.now k
        → shown (seen h r) ≡ answer k (record { number = 0; start = s.ref_ptr; covers = s.now; n = points s.now; m = nodes s.now }) (λ n. record { number = n; start = s.ref_ptr; covers = []; n = 0; m = 0 })
    go zero f =
        let c = part.0 ∙ ap (λ (g : Head). take g.len s.now) f ∙ take-length s.now in
        λ i. record { number = (f i).number; start = part.1 i; covers = c i; n = (f i).n; m = (f i).m }
    go (suc k) f =
        let c = part.0 ∙ ap (λ (g : Head). take g.len s.now) f in
        λ i. record { number = (f i).number; start = part.1 i; covers = c i; n = (f i).n; m = (f i).m }

-- what an opened view shows, as the head of its words
pub shown_head : (s : Bor (List ℤ)) (o : Opened) → shown o ≡ open_of s → record { number = o.number; len = length o.sheet.words.now; n = o.sheet.n; m = o.sheet.m } ≡ head_of s.now
unfolding open_of head_of answer
shown_head s o e = ap headed e ∙ go (sheet_no s.now)
  where
    headed : Shown → Head
    headed x = record { number = x.number; len = length x.covers; n = x.n; m = x.m }

    go : (k : ℕ)
        → headed (answer k (record { number = 0; start = s.ref_ptr; covers = s.now; n = points s.now; m = nodes s.now }) (λ n. record { number = n; start = s.ref_ptr; covers = []; n = 0; m = 0 })) ≡ found s.now k
    go zero = refl
    go (suc k) = refl
