-- Laws for the code that gives the points one after another.
-- Assumes nothing.
use mathlib.Core.Path.{◌≡◌, refl, sym, ap, subst, ◌∙◌}
use mathlib.Core.Bool.{Bool, true, false, ◌&&◌, true≢false}
use mathlib.Core.List.{List, [], ◌∷◌, ◌++◌, append_assoc, append-nil}
use Prim.Native.Nat.{ℕ, suc, ◌+◌, ◌-◌, ◌<◌, ◌≤◌}
use native.Mathlib.Omega.{arith}
use native.Mathlib.Numerals.{add-one}
use lib.Dec.{ltb}
use lib.IntN.{ℤ}
use lib.ListN.{length, set, take, drop, replicate, length-set, take-append-drop}
use lib.Seq.{length-take-le, take_all, take_at, take-suc-set, drop-set-lt, drop-drop}
use borrow.Author.Tests.{ltb-false}
use Rattle.plane.specs.declared.Spot.{Spot}
use Rattle.sheet.specs.Layout.{points, nodes}
use Rattle.sheet.specs.Open.{Opens}
use Rattle.outward.specs.Waiting.{with_covered}
use Rattle.outward.specs.NearWalk.{near_all, root_waits, near_order}
use Rattle.outward.specs.Room.{zero_filled, listed, Heaped, Taken, Past}
use Rattle.outward.proofs.NearLaws.{steps_keep}
use Rattle.outward.proofs.WaitingLaws.{past_same}
use Rattle.outward.proofs.WalkCode.{load, Going, going_start, going_less, going_meet, going_under, going_open, going_end}

module _ (w : List ℤ) (n m : ℕ) (q : Spot) where
  abbrev passes : ℕ → List ℕ → Bool
  passes j s = false

  abbrev same : List ℕ → List ℕ
  same s = s

  abbrev gives : ℕ → List ℕ → List ℕ
  gives i s = s ++ (i ∷ [])

  order_is : points w ≡ n → nodes w ≡ m → near_all w n m q passes same gives [] ≡ near_order w q
  unfolding near_order
  order_is x y = ap (λ (i : ℕ). near_all w i m q passes same gives []) (sym x) ∙ ap (λ (i : ℕ). near_all w (points w) i q passes same gives []) (sym y)

  -- so far: the first positions, and what waits
  pub record Giving (ws₀ ws : List ℕ) (c : ℕ) (at : List ℕ) (got : ℕ) : Type 0 where
    pub going : Going w n m q passes same gives (near_order w q) ws₀ ws c (take got at)
    pub full : length at ≡ 16
    pub blank : drop got at ≡ replicate (16 - got) 0

  module _ (o : Opens w n m) where
    pub giving_start : (ws₀ ws : List ℕ) (c : ℕ) → listed w n m q ws c ≡ root_waits m → Heaped w n m q ws c → Past m ws₀ ws → Giving ws ws c (replicate 16 0) 0
    giving_start ws₀ ws c e t p =
        let g = going_start w n m q passes same gives o ws ws c [] e t (past_same m ws) in
        record { going = subst (λ (r : List ℕ). Going w n m q passes same gives r ws ws c []) (order_is o.n_is o.m_is) g; full = refl; blank = refl }

    module _ (ws₀ ws : List ℕ) (c : ℕ) (at : List ℕ) (got : ℕ) (x : Giving ws₀ ws c at got) where
      -- what is given stays the beginning of what will be
      ahead : (t : List ℕ) × (near_order w q ≡ take got at ++ t)
      ahead =
          let s = take got at in
          let y =
          steps_keep w n m q passes same gives o (λ l s'. (t : List ℕ) × (s' ≡ s ++ t))
          (λ j h l s' a t z. absurd (true≢false (sym t)))
          (λ j h l s' a t z. z)
          (λ i h l s' a z. (z.0 ++ (i ∷ []), ap (λ (v : List ℕ). v ++ (i ∷ [])) z.1 ∙ append_assoc s z.0 (i ∷ [])))
          (load w n m q ws c) (listed w n m q ws c) s x.going.kinds (omega arith) ([], sym (append-nil s))
          in
          (y.0, sym x.going.to_do ∙ y.1)

      module _ (size : ℕ) (most : got ≤ size) (few : size ≤ 16) where
        got_length : length (take got at) ≡ got
        got_length = length-take-le got at (omega (arith, x.full))

        given_all : take size (near_order w q) ≡ take got at → (at ≡ zero_filled (take size (near_order w q))) × (got ≡ length (take size (near_order w q)))
        unfolding zero_filled
        given_all e =
            let z : length (take size (near_order w q)) ≡ got = ap length e ∙ got_length in (
              sym (take-append-drop got at) ∙ ap (λ (v : List ℕ). take got at ++ v) x.blank ∙ ap (λ (k : ℕ). take got at ++ replicate (16 - k) 0) (sym z) ∙ ap (λ (v : List ℕ). v ++ replicate (16 - length (take size (near_order w q))) 0) (sym e),
              sym z,
            )

        -- nothing waits any more
        giving_end : c ≤ 0 → (at ≡ zero_filled (take size (near_order w q))) × (got ≡ length (take size (near_order w q)))
        giving_end h =
            let e : take got at ≡ near_order w q = going_end w n m q passes same gives o (near_order w q) ws₀ ws c (take got at) x.going h in
            given_all (ap (take size) (sym e) ∙ take_all size (take got at) (omega (arith, got_length)))

        -- so many are given as are wanted
        giving_full : size ≤ got → (at ≡ zero_filled (take size (near_order w q))) × (got ≡ length (take size (near_order w q)))
        giving_full h =
            let a = ahead in
            given_all (ap (take size) a.1 ∙ take_at (take got at) a.0 size (omega (arith, got_length)))

        -- the loop has ended, by one or the other
        pub giving_done : (ltb 0 c && ltb got size) ≡ false → (at ≡ zero_filled (take size (near_order w q))) × (got ≡ length (take size (near_order w q)))
        giving_done t = go (ltb 0 c) refl t
          where
            go : (b : Bool) → ltb 0 c ≡ b → (b && ltb got size) ≡ false → (at ≡ zero_filled (take size (near_order w q))) × (got ≡ length (take size (near_order w q)))
            go true e u = giving_full (ltb-false got size u)
            go false e u = giving_end (ltb-false 0 c e)

      -- e is taken out
      module _ (ws₁ : List ℕ) (e : ℕ) (taken : Taken w n m q ws ws₁ c e) where
        pub giving_less : load w n m q ws₁ (c - 1) < load w n m q ws c
        giving_less = going_less w n m q passes same gives o _ ws₀ ws c _ x.going ws₁ e taken

        pub giving_meet : got < 16 → m + 1 ≤ e → Giving ws₀ ws₁ (c - 1) (set at got (e - (m + 1))) (got + 1)
        giving_meet b u =
            let i = e - (m + 1) in
            let z : take (got + 1) (set at got i) ≡ take got at ++ (i ∷ []) = ap (λ (k : ℕ). take k (set at got i)) (add-one got) ∙ take-suc-set at got i (omega (arith, x.full)) in
            record {
              going = subst (λ (s : List ℕ). Going w n m q passes same gives (near_order w q) ws₀ ws₁ (c - 1) s) (sym z) (going_meet w n m q passes same gives o _ ws₀ ws c _ x.going ws₁ e taken u);
              full = length-set at got i ∙ x.full;
              blank =
                  let y : 16 - got ≡ suc (16 - (got + 1)) = omega arith in
                  drop-set-lt (got + 1) at got i (omega arith) ∙ sym (drop-drop 1 got at) ∙ ap (drop 1) (x.blank ∙ ap (λ (k : ℕ). replicate k 0) y);
            }

        module _ (u : e < m + 1) (ws' : List ℕ) (c' : ℕ) (y : listed w n m q ws' c' ≡ with_covered w n m q (e - 1) (listed w n m q ws₁ (c - 1))) where
          pub giving_under : load w n m q ws' c' < load w n m q ws c
          giving_under = going_under w n m q passes same gives o _ ws₀ ws c _ x.going ws₁ e taken u ws' c' y

          pub giving_open : Heaped w n m q ws' c' → Past (n + m) ws₁ ws' → Giving ws₀ ws' c' at got
          giving_open g p = record { going = going_open w n m q passes same gives o _ ws₀ ws c _ x.going ws₁ e taken u ws' c' y refl g p; full = x.full; blank = x.blank }
