-- Laws for the loop of the walk that goes nearest first, for any state: what is left to do with so much waiting in the lent numbers.
-- Assumes nothing.
use mathlib.Core.Path.{◌≡◌, sym, ap, subst, ◌∙◌}
use mathlib.Core.Bool.{Bool, true, false, cond}
use mathlib.Core.List.{List, ◌∷◌}
use Prim.Native.Nat.{ℕ, suc, ◌+◌, ◌-◌, ◌<◌, ◌≤◌}
use native.Mathlib.Omega.{arith}
use lib.IntN.{ℤ}
use lib.ListN.{length}
use Rattle.plane.specs.declared.Spot.{Spot}
use Rattle.sheet.specs.Nodes.{first_of, count_of}
use Rattle.sheet.specs.Open.{Opens}
use Rattle.outward.specs.Waiting.{box_entry, point_entry, covered, with_covered}
use Rattle.outward.specs.NearWalk.{near_steps, root_waits, near_all}
use Rattle.outward.specs.Room.{listed, Heaped, Taken, Kind, Each, Past}
use Rattle.outward.proofs.ListLaws.{each_head, each_tail, total, run_length}
use Rattle.outward.proofs.NearLaws.{weight, weight_some, length_weight, covers_total, covers_kind, root_kinds, root_load, steps_none, step_box, step_point, steps_enough}
use Rattle.outward.proofs.WaitingLaws.{listed_length, past_wider, past_past, kind_box}

-- what waits weighs so much
abbrev pub load : List ℤ → ℕ → ℕ → Spot → List ℕ → ℕ → ℕ
load w n m q ws c = total (weight w n m) (listed w n m q ws c)

pub covers_length : (w : List ℤ) (n m : ℕ) (q : Spot) (j : ℕ) (l : List ℕ) → length (with_covered w n m q j l) ≡ length l + count_of w n j
unfolding with_covered
covers_length w n m q j l = run_length w n m q (covered w n m j) (count_of w n j) (first_of w n j) l

module _ {S : Type 0} (w : List ℤ) (n m : ℕ) (q : Spot) (skip : ℕ → S → Bool) (opened : S → S) (meet : ℕ → S → S) where
  -- with the first c of the lent numbers waiting, s is what there is so far of the walk that ends in r
  pub record Going (r : S) (ws₀ ws : List ℕ) (c : ℕ) (s : S) : Type 0 where
    pub kinds : Each (Kind n m) (listed w n m q ws c)
    pub few : load w n m q ws c ≤ n + m
    pub to_do : near_steps w n m q skip opened meet (load w n m q ws c) (listed w n m q ws c) s ≡ r
    pub heap : Heaped w n m q ws c
    pub past : Past (n + m) ws₀ ws

  module _ (o : Opens w n m) where
    pub going_start : (ws₀ ws : List ℕ) (c : ℕ) (s : S) → listed w n m q ws c ≡ root_waits m → Heaped w n m q ws c → Past m ws₀ ws → Going (near_all w n m q skip opened meet s) ws₀ ws c s
    unfolding near_all
    going_start ws₀ ws c s e g p =
        let z : load w n m q ws c ≡ n + m = ap (total (weight w n m)) e ∙ root_load w n m o in
        record {
          kinds = subst (Each (Kind n m)) (sym e) (root_kinds w n m o);
          few = omega arith;
          to_do = ap (λ (k : ℕ). near_steps w n m q skip opened meet k (listed w n m q ws c) s) z ∙ ap (λ (l : List ℕ). near_steps w n m q skip opened meet (n + m) l s) e;
          heap = g;
          past = past_wider m (n + m) ws₀ ws (omega arith) p;
        }

    module _ (r : S) (ws₀ ws : List ℕ) (c : ℕ) (s : S) (x : Going r ws₀ ws c s) where
      -- no more wait than there is room for
      pub going_fits : c ≤ n + m
      going_fits = omega (arith, length_weight w n m o (listed w n m q ws c) x.kinds, listed_length w n m q ws c, x.few)

      pub going_end : c ≤ 0 → s ≡ r
      unfolding listed
      going_end h =
          let z : c ≡ 0 = omega arith in
          sym (steps_none w n m q skip opened meet (load w n m q ws c) s) ∙ ap (λ (k : ℕ). near_steps w n m q skip opened meet (load w n m q ws c) (listed w n m q ws k) s) (sym z) ∙ x.to_do

      -- e is taken out
      module _ (ws₁ : List ℕ) (e : ℕ) (taken : Taken w n m q ws ws₁ c e) where
        abbrev l : List ℕ
        l = listed w n m q ws₁ (c - 1)

        first : listed w n m q ws c ≡ e ∷ l
        first = taken.first

        went : Past (n + m) ws₀ ws₁
        went = past_past (n + m) ws₀ ws ws₁ x.past taken.past

        all : Each (Kind n m) (e ∷ l)
        all = subst (Each (Kind n m)) first x.kinds

        load_is : load w n m q ws c ≡ total (weight w n m) (e ∷ l)
        load_is = ap (total (weight w n m)) first

        left : near_steps w n m q skip opened meet (total (weight w n m) (e ∷ l)) (e ∷ l) s ≡ r
        left =
            ap (λ (k : ℕ). near_steps w n m q skip opened meet k (e ∷ l) s) (sym load_is) ∙ ap (λ (y : List ℕ). near_steps w n m q skip opened meet (load w n m q ws c) y s) (sym first) ∙ x.to_do

        pub going_kind : Kind n m e
        going_kind = each_head all

        -- once it is taken out, less is left
        pub going_less : load w n m q ws₁ (c - 1) < load w n m q ws c
        unfolding total
        going_less = omega (arith, load_is, weight_some w n m o e going_kind)

        rest_few : load w n m q ws₁ (c - 1) ≤ n + m
        rest_few = omega (arith, going_less, x.few)

        -- one step: so many steps and one more from here are what is left
        again : (k : ℕ) → total (weight w n m) (e ∷ l) ≤ suc k → near_steps w n m q skip opened meet (suc k) (e ∷ l) s ≡ r
        again k u = steps_enough w n m q skip opened meet o (suc k) (total (weight w n m) (e ∷ l)) (e ∷ l) s all u (omega arith) ∙ left

        enough : (k : ℕ) (l' : List ℕ) (s' : S) → Each (Kind n m) l' → total (weight w n m) l' ≤ k → near_steps w n m q skip opened meet k l' s' ≡ r → near_steps w n m q skip opened meet (total (weight w n m) l') l' s' ≡ r
        enough k l' s' a u y = steps_enough w n m q skip opened meet o (total (weight w n m) l') k l' s' a (omega arith) u ∙ y

        -- a point is looked at
        pub going_meet : m + 1 ≤ e → Going r ws₀ ws₁ (c - 1) (meet (e - (m + 1)) s)
        going_meet u =
            let k = load w n m q ws c in
            let z : e ≡ point_entry m (e - (m + 1)) = omega arith in
            let step = step_point w n m q skip opened meet k (e - (m + 1)) l s in
            record {
              kinds = each_tail all;
              few = rest_few;
              to_do = enough k l _ (each_tail all) (omega (arith, going_less)) (sym step ∙ ap (λ (v : ℕ). near_steps w n m q skip opened meet (suc k) (v ∷ l) s) (sym z) ∙ again k (omega (arith, load_is)));
              heap = taken.heap;
              past = went;
            }

        module _ (u : e < m + 1) where
          abbrev j : ℕ
          j = e - 1

          pub going_node : (0 < e) × (j < m)
          going_node = kind_box going_kind u

          is_entry : e ≡ box_entry j
          is_entry = omega (arith, going_node.0)

          boxed : (k : ℕ) → near_steps w n m q skip opened meet (suc k) (e ∷ l) s ≡ cond (skip j s) (near_steps w n m q skip opened meet k l s) (near_steps w n m q skip opened meet k (with_covered w n m q j l) (opened s))
          boxed k = ap (λ (v : ℕ). near_steps w n m q skip opened meet (suc k) (v ∷ l) s) is_entry ∙ step_box w n m q skip opened meet k j l s going_node.1

          -- a box is skipped
          pub going_skip : skip j s ≡ true → Going r ws₀ ws₁ (c - 1) s
          going_skip t =
              let k = load w n m q ws c in
              record {
                kinds = each_tail all;
                few = rest_few;
                to_do =
                    enough k l s (each_tail all) (omega (arith, going_less))
                    (ap (λ (b : Bool). cond b (near_steps w n m q skip opened meet k l s) (near_steps w n m q skip opened meet k (with_covered w n m q j l) (opened s))) (sym t) ∙ sym (boxed k) ∙ again k (omega (arith, load_is)));
                heap = taken.heap;
                past = went;
              }

          covers_load : suc (total (weight w n m) (with_covered w n m q j l)) ≡ load w n m q ws c
          covers_load =
              let y = covers_total w n m o q j going_node.1 (λ i. 1) (λ i. 1) l in
              let v : total (weight w n m) (e ∷ l) ≡ total (weight w n m) (box_entry j ∷ l) = ap (λ (a : ℕ). total (weight w n m) (a ∷ l)) is_entry in
              omega (arith, load_is)

          -- a box is opened: there is room for what its node covers
          pub going_room : c - 1 + count_of w n j ≤ n + m
          going_room =
              omega (arith, covers_load, x.few, length_weight w n m o (with_covered w n m q j l) (covers_kind w n m o q j going_node.1 l (each_tail all)), covers_length w n m q j l, listed_length w n m q ws₁ (c - 1))

          module _ (ws' : List ℕ) (c' : ℕ) (y : listed w n m q ws' c' ≡ with_covered w n m q j l) where
            pub going_under : load w n m q ws' c' < load w n m q ws c
            going_under = let v : load w n m q ws' c' ≡ total (weight w n m) (with_covered w n m q j l) = ap (total (weight w n m)) y in omega (arith, covers_load)

            pub going_open : skip j s ≡ false → Heaped w n m q ws' c' → Past (n + m) ws₁ ws' → Going r ws₀ ws' c' (opened s)
            going_open t g p =
                let k = load w n m q ws c in
                let kinds' : Each (Kind n m) (listed w n m q ws' c') = subst (Each (Kind n m)) (sym y) (covers_kind w n m o q j going_node.1 l (each_tail all)) in
                record {
                  kinds = kinds';
                  few = omega (arith, going_under, x.few);
                  to_do =
                      enough k (listed w n m q ws' c') (opened s) kinds' (omega (arith, going_under))
                      (ap (λ (v : List ℕ). near_steps w n m q skip opened meet k v (opened s)) y
                      ∙ ap (λ (b : Bool). cond b (near_steps w n m q skip opened meet k l s) (near_steps w n m q skip opened meet k (with_covered w n m q j l) (opened s))) (sym t) ∙ sym (boxed k) ∙ again k (omega (arith, load_is)));
                  heap = g;
                  past = past_past (n + m) ws₀ ws₁ ws' went p;
                }
