-- `marker::mark` meets its contract. Assumes nothing.
use borrow.Author.Tests.{not-true, not-false}
use mathlib.Core.Path.{◌≡◌, sym, ap, subst, ◌∙◌}
use mathlib.Core.Bool.{not, true, false}
use Prim.Native.Nat.{ℕ}
use lib.IntN.{ℤ, ◌+ℤ◌}
use mir.Facts.{to_z-of_z}
use Rattle.std.specs.Prelude.{Ok, Err}
use Rattle.words.specs.First.{given}
use Rattle.marker.specs.Half.{HalfOf}
use Rattle.marker.specs.Mark.{on_map, mark_no, MiddleAt}
use Rattle.marker.proofs.Coordinates.{each, read_back}
use Rattle.marker.proofs.mark.Goals as goal

-- the number where the test failed, and where it held
no-5 : (ax ay bx by : ℤ) → on_map ax ay bx by ≡ false → 5 ≡ mark_no ax ay bx by
unfolding mark_no given
no-5 ax ay bx by e = rw e

no-0 : (ax ay bx by : ℤ) → on_map ax ay bx by ≡ true → 0 ≡ mark_no ax ay bx by
unfolding mark_no given
no-0 ax ay bx by e = rw e

pub returns-then-not-on_map : goal.returns-then-not-on_map
returns-then-not-on_map c =
    let on : let a = c.args in c.on_map.result ≡ on_map a.ax a.ay a.bx a.by = let f = c.ranges in
    c.on_map.ensures ∙ (λ i. on_map (to_z-of_z f.ax i) (to_z-of_z f.ay i) (to_z-of_z f.bx i) (to_z-of_z f.by i)) in
    let a = c.args in
    let e = no-5 a.ax a.ay a.bx a.by (sym on ∙ not-true _ (ap not c.if-not-on_map.true)) in
    record { number = e; marker = subst (λ (n : ℕ). MiddleAt n a.ax a.ay a.bx a.by (Err 5)) e tt }

pub sum-requires : goal.sum-requires
sum-requires c =
    let all = each _ _ _ _ (sym c.on_map.ensures ∙ not-false _ (ap not c.if-not-on_map.false)) in
    record { a_value = all.0; b_value = all.2 }

pub sum-requires-2 : goal.sum-requires-2
sum-requires-2 c =
    let all = each _ _ _ _ (sym c.on_map.ensures ∙ not-false _ (ap not c.if-not-on_map.false)) in
    record { a_value = all.1; b_value = all.3 }

pub returns : goal.returns
returns c =
    let f = c.ranges in
    let a = c.args in
    let on : c.on_map.result ≡ on_map a.ax a.ay a.bx a.by =
    c.on_map.ensures ∙ (λ i. on_map (to_z-of_z f.ax i) (to_z-of_z f.ay i) (to_z-of_z f.bx i) (to_z-of_z f.by i)) in
    let x = read_back c.sum.ensures.0 c.sum.ensures.1 ∙ (λ i. to_z-of_z f.ax i +ℤ to_z-of_z f.bx i) in
    let y = read_back c.sum-2.ensures.0 c.sum-2.ensures.1 ∙ (λ i. to_z-of_z f.ay i +ℤ to_z-of_z f.by i) in
    let n = no-0 a.ax a.ay a.bx a.by (sym on ∙ not-false _ (ap not c.if-not-on_map.false)) in
    record {
      number = n;
      marker =
          subst (λ (k : ℕ). MiddleAt k a.ax a.ay a.bx a.by (Ok record { x = c.half-x.result; y = c.half-y.result })) n
          record {
            x = subst (λ (z : ℤ). HalfOf z c.half-x.result) x c.half-x.ensures;
            y = subst (λ (z : ℤ). HalfOf z c.half-y.result) y c.half-y.ensures;
          };
    }
