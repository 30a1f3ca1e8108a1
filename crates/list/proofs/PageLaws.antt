-- The pages of a list that ascends: what a page shows, its end mark, and that following the pages gives the list.
-- Assumes nothing.
use mathlib.Core.Path.{◌≡◌, refl, sym, ap, subst, ◌∙◌}
use mathlib.Core.Bool.{Bool, true, false, cond, not}
use mathlib.Core.Logic.{⊎_elim}
use mathlib.Core.List.Memᴰ
use mathlib.Core.List.{List, [], ◌∷◌, ◌++◌, map, append-nil, Memᴰ}
use Prim.Native.Nat.{ℕ, zero, suc, ◌-◌, ◌≤◌, ◌<◌}
use native.Mathlib.Omega.{arith}
use lib.ListN.{length, take, drop, replicate, take-append-drop, length-append, length-take, length-drop, length-map, length-replicate}
use lib.Seq.{take-append_seam, take_all}
use lib.Dec.{ltb, leb}
use borrow.Author.Tests.{ltb-true, ltb-false, lt-ltb, le-ltb, leb-true, le-leb, not-false}
use Rattle.integers.proofs.Bools.{decide, and_left, and_right}
use Rattle.words.specs.First.{given}
use Rattle.words.proofs.FirstLaws.{given_held}
use Rattle.list.specs.declared.Key.{Key}
use Rattle.list.specs.declared.Pair.{Pair}
use Rattle.list.specs.declared.Source.{Source}
use Rattle.list.specs.declared.Page.{Page}
use Rattle.list.specs.Pairs.{start, none, key_of, follows, ascends, after, last_or, is_none}
use Rattle.list.specs.Pages.{size_no, padded, shown, page_of, page_pairs, followed}
use Rattle.list.proofs.Order.{asc_left, last_from, last_holds, after_asc, after_all, after_last, after_after}

-- a size that is not refused is 1 to 16, and no such size is
pub size_fits : (size : ℕ) → size_no size ≡ 0 → (1 ≤ size) × (size ≤ 16)
unfolding size_no
size_fits size e =
    let f = given_held _ e in
    (leb-true 1 size (and_left (leb 1 size) (leb size 16) f), leb-true size 16 (and_right (leb 1 size) (leb size 16) f))

pub size_taken : (size : ℕ) → 1 ≤ size → size ≤ 16 → size_no size ≡ 0
unfolding size_no given
size_taken size a b = rw (le-leb 1 size a, le-leb size 16 b)

-- what follows the last pair shown is what was not shown
pub after_shown : (k key : Key) (l : List Pair) (n : ℕ) → ascends k l ≡ true → after (last_or key (shown l key n)) l ≡ drop n (after key l)
unfolding shown
after_shown k key l n e =
    let t = after key l in
    let a = take n t in
    let b = drop n t in
    let g : ascends key (a ++ b) ≡ true = rw (take-append-drop n t) (after_asc key k l e) in
    sym (after_after key (last_or key a) l (last_from key a (asc_left key a b g)))
    ∙ ap (λ (u : List Pair). after (last_or key a) u) (sym (take-append-drop n t))
    ∙ after_last key a b g

pub none_drop : (n : ℕ) (l : List Pair) → is_none (drop n l) ≡ not (ltb n (length l))
unfolding is_none
none_drop n l = go (drop n l) refl
  where
    go : (d : List Pair) → drop n l ≡ d → is_none (drop n l) ≡ not (ltb n (length l))
    go [] e = let h = ap length e in rw (e, le-ltb n (length l) (omega (arith, length-drop n l)))
    go (v ∷ d) e = let h = ap length e in rw (e, lt-ltb n (length l) (omega (arith, length-drop n l)))

-- the end mark: set exactly when the pairs after the key are at most `size`, so a full last page has it too
pub end_mark : (k key : Key) (s : Source) (l : List Pair) (n : ℕ) → ascends k l ≡ true → (page_of s l key n).end ≡ not (ltb n (length (after key l)))
unfolding page_of
end_mark k key s l n e = ap is_none (after_shown k key l n e) ∙ none_drop n (after key l)

pub page_shows : (key : Key) (s : Source) (l : List Pair) (n : ℕ) → page_pairs (page_of s l key n) ≡ shown l key n
unfolding page_pairs page_of padded
page_shows key s l n = take-append_seam (shown l key n) (replicate (16 - length (shown l key n)) none)

pub shown_count : (l : List Pair) (key : Key) (n : ℕ) → length (shown l key n) ≤ n
unfolding shown
shown_count l key n = omega (arith, length-take n (after key l))

pub length_padded : (l : List Pair) → length l ≤ 16 → length (padded l) ≡ 16
unfolding padded
length_padded l h = length-append l (replicate (16 - length l) none) ∙ (omega (arith, length-replicate (16 - length l) none))

shown_cut : (l : List Pair) (key : Key) (n : ℕ) → shown l key n ++ drop n (after key l) ≡ after key l
unfolding shown
shown_cut l key n = take-append-drop n (after key l)

shown_whole : (l : List Pair) (key : Key) (n : ℕ) → length (after key l) ≤ n → shown l key n ++ [] ≡ after key l
unfolding shown
shown_whole l key n h = append-nil (take n (after key l)) ∙ take_all n (after key l) h

-- following the pages from a key gives what follows the key, each pair once, in order
pub pages_after : (f : ℕ) (sizes : ℕ → ℕ) (s : Source) (k key : Key) (l : List Pair) → ((i : ℕ) → 0 < sizes i) → ascends k l ≡ true → length (after key l) ≤ f
    → followed f sizes (page_of s l) key ≡ after key l
unfolding followed
pages_after zero sizes s k key l some e h = go (after key l) refl
  where
    go : (t : List Pair) → after key l ≡ t → [] ≡ after key l
    go [] d = sym d
    go (v ∷ t) d = let z = ap length d in absurd (omega arith)
pages_after (suc f) sizes s k key l some e h =
    let t = after key l in
    let n = sizes 0 in
    rw (page_shows key s l n, end_mark k key s l n e)
    (⊎_elim
    (λ (x : ltb n (length t) ≡ true).
    let y = after_shown k key l n e in
    let h' : length (after (last_or key (shown l key n)) l) ≤ f = rw y (omega (arith, length-drop n t, ltb-true n (length t) x, some 0)) in
    rw x (ap (λ (u : List Pair). shown l key n ++ u) (pages_after f (λ i. sizes (suc i)) s k (last_or key (shown l key n)) l (λ i. some (suc i)) e h' ∙ y) ∙ shown_cut l key n))
    (λ (x : ltb n (length t) ≡ false). rw x (shown_whole l key n (ltb-false n (length t) x)))
    (decide (ltb n (length t))))

-- following the pages from (0, 0), whatever their sizes, gives the list: at most as many requests as it has pairs
pub list_pages_list : (sizes : ℕ → ℕ) (s : Source) (l : List Pair) → ((i : ℕ) → 0 < sizes i) → ascends start l ≡ true → followed (length l) sizes (page_of s l) start ≡ l
list_pages_list sizes s l some e =
    let z = after_all start l e in
    pages_after (length l) sizes s start start l some e (rw z (omega arith)) ∙ z

-- a page's array of pairs is kept as a list of what makes them: it is as long
pub long_of : {X Y : Type 0} (f : X → Y) (l : List X) (n : ℕ) → length (map f l) ≡ n → length l ≡ n
long_of f l n e = sym (length-map l f) ∙ e

-- ---- pages that are asked for, not computed

after_member : (k : Key) (v : Pair) (l : List Pair) → Memᴰ v (after k l) → Memᴰ v l
unfolding after
after_member k v [] m = m
after_member k v (w ∷ l) m = go (after_member k v l) (follows k (key_of w)) m
  where
    go : (Memᴰ v (after k l) → Memᴰ v l) → (t : Bool) → Memᴰ v (cond t (w ∷ after k l) (after k l)) → Memᴰ v (w ∷ l)
    go ih true n = ⊎_elim (λ (x : v ≡ w). Memᴰ.head x) (λ (x : Memᴰ v (after k l)). Memᴰ.tail (ih x)) (Memᴰ.cases_cons n)
    go ih false n = Memᴰ.tail (ih n)

-- what a page shows stands in the list
pub shown_member : (l : List Pair) (key : Key) (n : ℕ) (v : Pair) → Memᴰ v (shown l key n) → Memᴰ v l
unfolding shown
shown_member l key n v m =
    let t = after key l in
    after_member key v l (subst (Memᴰ v) (take-append-drop n t) (Memᴰ.append_left (drop n t) m))

-- where `ask` gives the list's pages for the keys of X, to which every pair's belongs, following it is following them
pub asked_pages : (X : Key → Type 0) (ask : Key → ℕ → Page) (s : Source) (l : List Pair) → ((v : Pair) → Memᴰ v l → X (key_of v)) → (f : ℕ) (sizes : ℕ → ℕ) (key : Key) → X key
    → ((i : ℕ) (k : Key) → X k → ask k (sizes i) ≡ page_of s l k (sizes i)) → followed f sizes ask key ≡ followed f sizes (page_of s l) key
unfolding followed
asked_pages X ask s l all zero sizes key x is = refl
asked_pages X ask s l all (suc f) sizes key x is =
    let n = sizes 0 in
    let next = last_or key (page_pairs (page_of s l key n)) in
    let inside : X next = rw (page_shows key s l n) (last_holds X key (shown l key n) x (λ v m. all v (shown_member l key n v m))) in
    rw (is 0 key x)
    (ap (λ (t : List Pair). page_pairs (page_of s l key n) ++ cond (page_of s l key n).end [] t) (asked_pages X ask s l all f (λ i. sizes (suc i)) next inside (λ i k y. is (suc i) k y)))

-- a full page with nothing behind it has the end mark
pub full_last : (s : Source) (l : List Pair) (key : Key) (n : ℕ) → ascends start l ≡ true → length (after key l) ≡ n → (page_of s l key n).end ≡ true
full_last s l key n e h = end_mark start key s l n e ∙ ap not (le-ltb n (length (after key l)) (omega arith))

-- a page without it shows `size` pairs, and another follows
pub no_end : (s : Source) (l : List Pair) (key : Key) (n : ℕ) → ascends start l ≡ true → (page_of s l key n).end ≡ false → (length (shown l key n) ≡ n) × (n < length (after key l))
unfolding shown
no_end s l key n e f =
    let x : n < length (after key l) = ltb-true n (length (after key l)) (not-false (ltb n (length (after key l))) (sym (end_mark start key s l n e) ∙ f)) in
    (omega (arith, length-take n (after key l)), x)
