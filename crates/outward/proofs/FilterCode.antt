-- Laws for the code of the filter walk that goes nearest first.
-- Assumes nothing.
use mathlib.Core.Path.{◌≡◌, refl, sym, ap, subst, ◌∙◌}
use mathlib.Core.Bool.{Bool, true, false}
use mathlib.Core.Logic.{⊎_elim}
use mathlib.Core.List.{List}
use Prim.Native.Nat.{ℕ, ◌+◌, ◌-◌, ◌<◌, ◌≤◌}
use native.Mathlib.Omega.{arith}
use lib.Dec.{ltb}
use lib.IntN.{ℤ}
use lib.ListN.{length}
use borrow.Author.Tests.{ltb-true, ltb-false}
use Rattle.integers.proofs.Bools.{decide}
use Rattle.plane.specs.declared.Spot.{Spot}
use Rattle.sheet.specs.Layout.{points, nodes}
use Rattle.sheet.specs.Open.{Opens}
use Rattle.bits.specs.Set.{none, some, Finds, wiped}
use Rattle.bits.proofs.SomeLaws.{finds_some}
use Rattle.walk.specs.FilterWalk.{Kept, so_far, shut, consider}
use Rattle.outward.specs.Waiting.{with_covered}
use Rattle.outward.specs.NearWalk.{near_all, root_waits, near_kept}
use Rattle.outward.specs.Room.{listed, Heaped, Taken, Past}
use Rattle.outward.proofs.WaitingLaws.{past_same, past_wider, past_past, wiped_past}
use Rattle.outward.proofs.WalkCode.{load, Going, going_start, going_less, going_meet, going_skip, going_under, going_open, going_end}

-- what a search of the kept set finds says whether there is any
pub finds_any : (ws : List ℕ) (p : ℕ → Bool) (n r : ℕ) → Finds ws p n r → some ws p n 0 ≡ ltb r n
finds_any ws p n r f =
    ⊎_elim
    (λ (t : ltb r n ≡ true). finds_some ws p n r f (ltb-true r n t) ∙ sym t)
    (λ (t : ltb r n ≡ false). f.none_left (ltb-false r n t) ∙ sym t)
    (decide (ltb r n))

module _ (w : List ℤ) (n m : ℕ) (q : Spot) where
  abbrev skips : ℕ → Kept → Bool
  skips j k = shut w n q j k.bits

  abbrev opens : Kept → Kept
  opens k = so_far k.bits (k.opened + 1)

  abbrev meets : ℕ → Kept → Kept
  meets i k = so_far (consider w n q i k.bits) k.opened

  kept_is : (words : ℕ) → points w ≡ n → nodes w ≡ m → near_all w n m q skips opens meets (so_far (none words) 0) ≡ near_kept words w q
  unfolding near_kept
  kept_is words x y =
      ap (λ (i : ℕ). near_all w i m q (λ j k. shut w i q j k.bits) opens (λ a k. so_far (consider w i q a k.bits) k.opened) (so_far (none words) 0)) (sym x)
      ∙ ap (λ (i : ℕ). near_all w (points w) i q (λ j k. shut w (points w) q j k.bits) opens (λ a k. so_far (consider w (points w) q a k.bits) k.opened) (so_far (none words) 0)) (sym y)

  -- so far: the kept set, what waits, and the nodes opened
  pub record Sifting (bits₀ ws₀ bits ws : List ℕ) (c opened : ℕ) : Type 0 where
    pub going : Going w n m q skips opens meets (near_kept (length bits₀) w q) ws₀ ws c (so_far bits opened)
    pub long : length bits ≡ length bits₀
    pub count : opened + load w n m q ws c ≤ n + m

  module _ (o : Opens w n m) where
    pub sifting_start : (words : ℕ) (bits ws₀ ws : List ℕ) (c : ℕ) → bits ≡ none words → length bits ≡ words → listed w n m q ws c ≡ root_waits m → Heaped w n m q ws c → Past m ws₀ ws → Sifting bits ws bits ws c 0
    sifting_start words bits ws₀ ws c b h e t p =
        let g = going_start w n m q skips opens meets o ws ws c (so_far (none words) 0) e t (past_same m ws) in
        let r : near_all w n m q skips opens meets (so_far (none words) 0) ≡ near_kept (length bits) w q = kept_is words o.n_is o.m_is ∙ ap (λ (k : ℕ). near_kept k w q) (sym h) in
        record {
          going = subst (λ (k : Kept). Going w n m q skips opens meets k ws ws c (so_far bits 0)) r (subst (λ (x : List ℕ). Going w n m q skips opens meets (near_all w n m q skips opens meets (so_far (none words) 0)) ws ws c (so_far x 0)) (sym b) g);
          long = refl;
          count = omega (arith, g.few);
        }

    module _ (bits₀ ws₀ bits ws : List ℕ) (c opened : ℕ) (x : Sifting bits₀ ws₀ bits ws c opened) where
      pub sifting_end : (words : ℕ) → length bits₀ ≡ words → c ≤ 0 → (bits ≡ (near_kept words w q).bits) × (opened ≡ (near_kept words w q).opened)
      sifting_end words h z =
          let e : so_far bits opened ≡ near_kept words w q = going_end w n m q skips opens meets o _ ws₀ ws c (so_far bits opened) x.going z ∙ ap (λ (k : ℕ). near_kept k w q) h in
          (ap (λ (k : Kept). k.bits) e, ap (λ (k : Kept). k.opened) e)

      -- e is taken out
      module _ (ws₁ : List ℕ) (e : ℕ) (taken : Taken w n m q ws ws₁ c e) where
        pub sifting_less : load w n m q ws₁ (c - 1) < load w n m q ws c
        sifting_less = going_less w n m q skips opens meets o _ ws₀ ws c _ x.going ws₁ e taken

        pub sifting_skip : e < m + 1 → shut w n q (e - 1) bits ≡ true → Sifting bits₀ ws₀ bits ws₁ (c - 1) opened
        sifting_skip u t = record { going = going_skip w n m q skips opens meets o _ ws₀ ws c _ x.going ws₁ e taken u t; long = x.long; count = omega (arith, sifting_less, x.count) }

        pub sifting_meet : m + 1 ≤ e → (bits' : List ℕ) → length bits' ≡ length bits → bits' ≡ consider w n q (e - (m + 1)) bits → Sifting bits₀ ws₀ bits' ws₁ (c - 1) opened
        sifting_meet u bits' l z =
            record {
              going = subst (λ (b : List ℕ). Going w n m q skips opens meets (near_kept (length bits₀) w q) ws₀ ws₁ (c - 1) (so_far b opened)) (sym z) (going_meet w n m q skips opens meets o _ ws₀ ws c _ x.going ws₁ e taken u);
              long = l ∙ x.long;
              count = omega (arith, sifting_less, x.count);
            }

        module _ (u : e < m + 1) (ws' : List ℕ) (c' : ℕ) (y : listed w n m q ws' c' ≡ with_covered w n m q (e - 1) (listed w n m q ws₁ (c - 1))) where
          pub sifting_under : load w n m q ws' c' < load w n m q ws c
          sifting_under = going_under w n m q skips opens meets o _ ws₀ ws c _ x.going ws₁ e taken u ws' c' y

          pub sifting_open : shut w n q (e - 1) bits ≡ false → Heaped w n m q ws' c' → Past (n + m) ws₁ ws' → Sifting bits₀ ws₀ bits ws' c' (opened + 1)
          sifting_open t g p = record { going = going_open w n m q skips opens meets o _ ws₀ ws c _ x.going ws₁ e taken u ws' c' y t g p; long = x.long; count = omega (arith, sifting_under, x.count) }

-- what is wiped at the end is what was lent, wiped
pub wiped_all : (n m : ℕ) (ws ws₀ ws' ws'' : List ℕ) → Past m ws ws₀ → Past (n + m) ws₀ ws' → ws'' ≡ wiped (n + m) ws' → ws'' ≡ wiped (n + m) ws
wiped_all n m ws ws₀ ws' ws'' p r e = e ∙ wiped_past (n + m) ws ws' (past_past (n + m) ws ws₀ ws' (past_wider m (n + m) ws ws₀ (omega arith) p) r)
