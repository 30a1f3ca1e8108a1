-- The order of keys and pairs: "by q id, then p id". What follows a key in a list that ascends, and that no pair stands there twice.
-- Assumes nothing.
use mathlib.Core.Path.{◌≡◌, refl, sym, ap, ◌∙◌}
use mathlib.Core.Bool.{Bool, true, false, cond, ◌&&◌, ◌||◌, true≢false}
use mathlib.Core.Logic.{◌⊎◌, inl, inr, ⊎_elim}
use mathlib.Core.List.Memᴰ
use mathlib.Core.List.{List, [], ◌∷◌, ◌++◌, Memᴰ}
use Prim.Native.Nat.{ℕ, zero, suc, ◌<◌}
use native.Mathlib.Omega.{arith}
use lib.ListN.{length, take, get_or}
use lib.Dec.{eqb, ltb}
use borrow.Author.Tests.{ltb-true, eqb-true, lt-ltb, eq-eqb}
use Rattle.integers.proofs.Bools.{decide, and_left, and_right, and_both, clash}
use Rattle.list.specs.declared.Key.{Key}
use Rattle.list.specs.declared.Pair.{Pair}
use Rattle.list.specs.Pairs.{none, key_of, follows, ascends, after, last_or}

or_cases : (a b : Bool) → (a || b) ≡ true → (a ≡ true) ⊎ (b ≡ true)
or_cases true b e = inl refl
or_cases false b e = inr e

or_left : (a b : Bool) → a ≡ true → (a || b) ≡ true
or_left true b e = refl
or_left false b e = absurd (true≢false (sym e))

or_right : (a b : Bool) → b ≡ true → (a || b) ≡ true
or_right true b e = refl
or_right false b e = e

-- ---- the order

pub later : (a b : Key) → follows a b ≡ true → (a.q < b.q) ⊎ ((a.q ≡ b.q) × (a.p < b.p))
unfolding follows
later a b e =
    ⊎_elim
    (λ (f : ltb a.q b.q ≡ true). inl (ltb-true _ _ f))
    (λ (f : (eqb a.q b.q && ltb a.p b.p) ≡ true). inr (eqb-true a.q b.q (and_left (eqb a.q b.q) (ltb a.p b.p) f), ltb-true a.p b.p (and_right (eqb a.q b.q) (ltb a.p b.p) f)))
    (or_cases (ltb a.q b.q) (eqb a.q b.q && ltb a.p b.p) e)

pub by_q : (a b : Key) → a.q < b.q → follows a b ≡ true
unfolding follows
by_q a b h = or_left (ltb a.q b.q) (eqb a.q b.q && ltb a.p b.p) (lt-ltb _ _ h)

pub by_p : (a b : Key) → a.q ≡ b.q → a.p < b.p → follows a b ≡ true
unfolding follows
by_p a b e h =
    or_right (ltb a.q b.q) (eqb a.q b.q && ltb a.p b.p) (and_both (eqb a.q b.q) (ltb a.p b.p) (eq-eqb _ _ e) (lt-ltb _ _ h))

pub follows_trans : (a b c : Key) → follows a b ≡ true → follows b c ≡ true → follows a c ≡ true
follows_trans a b c e f =
    ⊎_elim
    (λ (x : a.q < b.q).
    ⊎_elim (λ (y : b.q < c.q). by_q a c (omega arith)) (λ (y : (b.q ≡ c.q) × (b.p < c.p)). by_q a c (omega (arith, y.0))) (later b c f))
    (λ (x : (a.q ≡ b.q) × (a.p < b.p)).
    ⊎_elim
    (λ (y : b.q < c.q). by_q a c (omega (arith, x.0)))
    (λ (y : (b.q ≡ c.q) × (b.p < c.p)). by_p a c (x.0 ∙ y.0) (omega (arith, x.1, y.1)))
    (later b c f))
    (later a b e)

-- nothing follows itself, nor what follows it
pub never : (a b : Key) → (a ≡ b) ⊎ (follows a b ≡ true) → follows b a ≡ false
never a b s =
    ⊎_elim
    (λ (e : follows b a ≡ true). absurd (no_loop (⊎_elim (λ (p : a ≡ b). rw p at (rw (← p) at e)) (λ (f : follows a b ≡ true). follows_trans b a b e f) s)))
    (λ (e : follows b a ≡ false). e)
    (decide (follows b a))
  where
    no_loop : follows b b ≡ true → ⊥
    no_loop e =
        ⊎_elim (λ (x : b.q < b.q). omega arith) (λ (x : (b.q ≡ b.q) × (b.p < b.p)). omega (arith, x.1)) (later b b e)

-- ---- ascending lists

pub asc_weaken : (k v : Key) (l : List Pair) → follows k v ≡ true → ascends v l ≡ true → ascends k l ≡ true
unfolding ascends
asc_weaken k v [] e f = refl
asc_weaken k v (w ∷ l) e f =
    let u = key_of w in
    and_both (follows k u) (ascends u l) (follows_trans k v u e (and_left (follows v u) (ascends u l) f)) (and_right (follows v u) (ascends u l) f)

pub asc_after : (key k : Key) (l : List Pair) → ascends k l ≡ true → ascends k (after key l) ≡ true
unfolding ascends after
asc_after key k [] e = refl
asc_after key k (v ∷ l) e =
    let a = and_left (follows k (key_of v)) (ascends (key_of v) l) e in
    let b = asc_after key (key_of v) l (and_right (follows k (key_of v)) (ascends (key_of v) l) e) in
    ⊎_elim
    (λ (f : follows key (key_of v) ≡ true). rw f (and_both (follows k (key_of v)) (ascends (key_of v) (after key l)) a b))
    (λ (f : follows key (key_of v) ≡ false). rw f (asc_weaken k (key_of v) (after key l) a b))
    (decide (follows key (key_of v)))

-- what follows a key ascends from it
pub after_asc : (key k : Key) (l : List Pair) → ascends k l ≡ true → ascends key (after key l) ≡ true
unfolding ascends after
after_asc key k [] e = refl
after_asc key k (v ∷ l) e =
    let b = and_right (follows k (key_of v)) (ascends (key_of v) l) e in
    ⊎_elim
    (λ (f : follows key (key_of v) ≡ true). rw f (and_both (follows key (key_of v)) (ascends (key_of v) (after key l)) f (asc_after key (key_of v) l b)))
    (λ (f : follows key (key_of v) ≡ false). rw f (after_asc key (key_of v) l b))
    (decide (follows key (key_of v)))

pub after_all : (k : Key) (l : List Pair) → ascends k l ≡ true → after k l ≡ l
unfolding ascends after
after_all k [] e = refl
after_all k (v ∷ l) e =
    let a = and_left (follows k (key_of v)) (ascends (key_of v) l) e in
    let b = and_right (follows k (key_of v)) (ascends (key_of v) l) e in
    rw a (ap (λ (t : List Pair). v ∷ t) (after_all k l (asc_weaken k (key_of v) l a b)))

pub after_append : (k : Key) (a b : List Pair) → after k (a ++ b) ≡ after k a ++ after k b
unfolding after
after_append k [] b = refl
after_append k (v ∷ a) b =
    ⊎_elim
    (λ (f : follows k (key_of v) ≡ true). rw f (ap (λ (t : List Pair). v ∷ t) (after_append k a b)))
    (λ (f : follows k (key_of v) ≡ false). rw f (after_append k a b))
    (decide (follows k (key_of v)))

pub asc_append : (k : Key) (a b : List Pair) → ascends k a ≡ true → ascends (last_or k a) b ≡ true → ascends k (a ++ b) ≡ true
unfolding ascends last_or
asc_append k [] b e f = f
asc_append k (v ∷ a) b e f =
    and_both (follows k (key_of v)) (ascends (key_of v) (a ++ b)) (and_left (follows k (key_of v)) (ascends (key_of v) a) e) (asc_append (key_of v) a b (and_right (follows k (key_of v)) (ascends (key_of v) a) e) f)

pub asc_left : (k : Key) (a b : List Pair) → ascends k (a ++ b) ≡ true → ascends k a ≡ true
unfolding ascends
asc_left k [] b e = refl
asc_left k (v ∷ a) b e =
    and_both (follows k (key_of v)) (ascends (key_of v) a) (and_left (follows k (key_of v)) (ascends (key_of v) (a ++ b)) e) (asc_left (key_of v) a b (and_right (follows k (key_of v)) (ascends (key_of v) (a ++ b)) e))

-- the last of an ascending list is the key or follows it
pub last_from : (k : Key) (a : List Pair) → ascends k a ≡ true → (last_or k a ≡ k) ⊎ (follows k (last_or k a) ≡ true)
unfolding ascends last_or
last_from k [] e = inl refl
last_from k (v ∷ a) e =
    let f = and_left (follows k (key_of v)) (ascends (key_of v) a) e in
    ⊎_elim
    (λ (x : last_or (key_of v) a ≡ (key_of v)). inr (rw x f))
    (λ (x : follows (key_of v) (last_or (key_of v) a) ≡ true). inr (follows_trans k (key_of v) (last_or (key_of v) a) f x))
    (last_from (key_of v) a (and_right (follows k (key_of v)) (ascends (key_of v) a) e))

-- the last of some keys is one of them: what holds of each holds of it
pub last_holds : (X : Key → Type 0) (k : Key) (a : List Pair) → X k → ((v : Pair) → Memᴰ v a → X (key_of v)) → X (last_or k a)
unfolding last_or
last_holds X k [] x f = x
last_holds X k (v ∷ a) x f = last_holds X (key_of v) a (f v (Memᴰ.head refl)) (λ w m. f w (Memᴰ.tail m))

-- the last of the first n + 1 pairs
pub last_at : (k : Key) (l : List Pair) (n : ℕ) → n < length l → last_or k (take (suc n) l) ≡ key_of (get_or l n none)
unfolding last_or
last_at k [] n h = absurd (omega arith)
last_at k (v ∷ l) zero h = refl
last_at k (v ∷ l) (suc n) h = last_at (key_of v) l n (omega arith)

-- what follows the last of a first part is the rest
pub after_last : (k : Key) (a b : List Pair) → ascends k (a ++ b) ≡ true → after (last_or k a) (a ++ b) ≡ b
unfolding ascends last_or after
after_last k [] b e = after_all k b e
after_last k (v ∷ a) b e =
    let g = and_right (follows k (key_of v)) (ascends (key_of v) (a ++ b)) e in
    let z : follows (last_or (key_of v) a) (key_of v) ≡ false = never (key_of v) (last_or (key_of v) a) (⊎_elim (λ (x : last_or (key_of v) a ≡ (key_of v)). inl (sym x)) (λ (x : follows (key_of v) (last_or (key_of v) a) ≡ true). inr x) (last_from (key_of v) a (asc_left (key_of v) a b g))) in
    rw z (after_last (key_of v) a b g)

-- from a later key on, an earlier one makes no difference
pub after_after : (key k : Key) (l : List Pair) → (k ≡ key) ⊎ (follows key k ≡ true) → after k (after key l) ≡ after k l
unfolding after
after_after key k [] s = refl
after_after key k (v ∷ l) s =
    ⊎_elim
    (λ (f : follows key (key_of v) ≡ true).
    rw f (ap (λ (t : List Pair). cond (follows k (key_of v)) (v ∷ t) t) (after_after key k l s)))
    (λ (f : follows key (key_of v) ≡ false).
    let z : follows k (key_of v) ≡ false =
    ⊎_elim
    (λ (g : follows k (key_of v) ≡ true).
    ⊎_elim (λ (p : k ≡ key). clash (rw p at g) f) (λ (p : follows key k ≡ true). clash (follows_trans key k (key_of v) p g) f) s)
    (λ (g : follows k (key_of v) ≡ false). g)
    (decide (follows k (key_of v))) in
    rw (f, z) (after_after key k l s))
    (decide (follows key (key_of v)))

-- ---- each pair once

pub at_member : (l : List Pair) (i : ℕ) → i < length l → Memᴰ (get_or l i none) l
at_member [] i h = absurd (omega arith)
at_member (v ∷ l) zero h = Memᴰ.head refl
at_member (v ∷ l) (suc i) h = Memᴰ.tail (at_member l i (omega arith))

pub asc_member : (k : Key) (v : Pair) (l : List Pair) → ascends k l ≡ true → Memᴰ v l → follows k (key_of v) ≡ true
unfolding ascends
asc_member k v [] e m = absurd (Memᴰ.not-nil m)
asc_member k v (w ∷ l) e m =
    let a = and_left (follows k (key_of w)) (ascends (key_of w) l) e in
    let b = and_right (follows k (key_of w)) (ascends (key_of w) l) e in
    ⊎_elim
    (λ (x : v ≡ w). rw x a)
    (λ (x : Memᴰ v l). follows_trans k (key_of w) (key_of v) a (asc_member (key_of w) v l b x))
    (Memᴰ.cases_cons m)

-- an earlier place holds an earlier pair: so no pair stands twice
pub asc_places : (k : Key) (l : List Pair) → ascends k l ≡ true → (i j : ℕ) → i < j → j < length l → follows (key_of (get_or l i none)) (key_of (get_or l j none)) ≡ true
unfolding ascends
asc_places k [] e i j h g = absurd (omega arith)
asc_places k (v ∷ l) e i zero h g = absurd (omega arith)
asc_places k (v ∷ l) e zero (suc j) h g = asc_member (key_of v) (get_or l j none) l (and_right (follows k (key_of v)) (ascends (key_of v) l) e) (at_member l j (omega arith))
asc_places k (v ∷ l) e (suc i) (suc j) h g = asc_places (key_of v) l (and_right (follows k (key_of v)) (ascends (key_of v) l) e) i j (omega arith) (omega arith)

-- no two pairs have the same ids ..
pub once_key : (k : Key) (l : List Pair) → ascends k l ≡ true → (i j : ℕ) → i < j → j < length l → key_of (get_or l i none) ≡ key_of (get_or l j none) → ⊥
once_key k l e i j h g d = true≢false (sym (asc_places k l e i j h g) ∙ never (key_of (get_or l j none)) (key_of (get_or l i none)) (inl (sym d)))

-- .. so none stands there twice
pub once : (k : Key) (l : List Pair) → ascends k l ≡ true → (i j : ℕ) → i < j → j < length l → get_or l i none ≡ get_or l j none → ⊥
once k l e i j h g d = once_key k l e i j h g (ap key_of d)
