-- Laws of `tab`: its length, what stands at each index, and a loop that writes it from the front.
-- Assumes nothing.
use mathlib.Core.Path.{◌≡◌, refl, sym, ap, subst, ◌∙◌}
use mathlib.Core.List.{List, [], ◌∷◌, ◌++◌, append-nil}
use mathlib.Core.Logic.{⊎_elim}
use Prim.Native.Nat.{ℕ, zero, suc, ◌+◌, ◌<◌}
use native.Mathlib.Numerals.{add-one}
use native.Mathlib.Omega.{arith}
use lib.ListN.{length, get_or, set, drop, length-append, get_or-append, drop_of_length-le}
use lib.Seq.{drop-cons, set_at, get_or_at, append_snoc}
use Rattle.words.specs.All.{tab}
use Rattle.words.proofs.AllLaws.{below_suc}

module _ {A : Type 0} where
  pub length_tab : (n : ℕ) (f : ℕ → A) → length (tab n f) ≡ n
  unfolding tab
  length_tab zero f = refl
  length_tab (suc n) f = simp length-append (omega (arith, length_tab n f))

  pub at_tab : (n : ℕ) (f : ℕ → A) (z : A) (i : ℕ) → i < n → get_or (tab n f) i z ≡ f i
  unfolding tab
  at_tab zero f z i h = absurd (omega arith)
  at_tab (suc n) f z i h =
      ⊎_elim
      (λ (e : i ≡ n). subst (λ (k : ℕ). get_or (tab n f ++ (f n ∷ [])) k z ≡ f k) (sym e) (get_or_at (tab n f) (f n) [] z n (length_tab n f)))
      (λ (l : i < n). get_or-append (tab n f) (f n ∷ []) z i (omega (arith, length_tab n f)) ∙ at_tab n f z i l)
      (below_suc i n h)

  -- two functions that agree below n make the same list
  pub tab_same : (n : ℕ) (f g : ℕ → A) → ((i : ℕ) → i < n → f i ≡ g i) → tab n f ≡ tab n g
  unfolding tab
  tab_same zero f g e = refl
  tab_same (suc n) f g e = ap (λ (l : List A). l ++ (f n ∷ [])) (tab_same n f g (λ i h. e i (omega arith))) ∙ ap (λ (x : A). tab n g ++ (x ∷ [])) (e n (omega arith))

  -- one more is written
  pub tab_more : (f : ℕ → A) (d : List A) (z : A) (i : ℕ) → i < length d → set (tab i f ++ drop i d) i (f i) ≡ tab (i + 1) f ++ drop (i + 1) d
  unfolding tab
  tab_more f d z i h =
      rw (add-one, drop-cons d i z h)
      (set_at (tab i f) (get_or d i z) (drop (suc i) d) (f i) i (length_tab i f) ∙ sym (append_snoc (tab i f) (f i) (drop (suc i) d)))

  -- the list is written
  pub tab_done : (f : ℕ → A) (d : List A) (i n : ℕ) → i ≡ n → length d ≡ n → tab i f ++ drop i d ≡ tab n f
  tab_done f d i n e h =
      subst (λ (k : ℕ). tab k f ++ drop k d ≡ tab n f) (sym e) (rw (drop_of_length-le d {i = n} (omega arith)) (append-nil (tab n f)))
