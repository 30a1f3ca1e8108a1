use mathlib.Core.Path.{◌≡◌, refl, ap, sym, ◌∙◌}
use mathlib.Core.Bool.{Bool}
use mathlib.Core.List.{List}
use Prim.Native.Nat.{ℕ, suc, ◌+◌, ◌-◌}
use native.Mathlib.Numerals.{add-one}
use native.Mathlib.Omega.{arith}
use lib.ListN.{length, set, get_or}
use Rattle.std.proofs.lemmas.List.{get_or_default}
use Rattle.sorting.specs.declared.Firsts.{Firsts}
use Rattle.sorting.specs.Firsts.{put_among}
use Rattle.sorting.proofs.HeldLaws.{shift_start, shift_on, shift_stop, shift_end}
use Rattle.sorting.proofs.Firsts.put.Goals as goal

-- it is stored, and one more is held
stored : {A : Type 0} (C R : List A) (v : A) (j i a n : ℕ) → j ≡ i → set C i v ≡ R → a ≡ n + 1 → ◌≡◌ {A = Firsts A} (record { rows = set C j v; count = a }) (record { rows = R; count = suc n })
stored C R v j i a n e p q = λ t. record { rows = (ap (λ (k : ℕ). set C k v) e ∙ p) t; count = (q ∙ add-one n) t }

said : (r b t : Bool) → r ≡ b → r ≡ t → b ≡ t
said r b t e f = sym e ∙ f

pub loop-i-init : goal.loop-i-init
loop-i-init g c = (shift_start g.O.Comparison.before g.O.Comparison.unused _ _ _, refl)

pub returns-then-not-is_before : goal.returns-then-not-is_before
unfolding put_among
returns-then-not-is_before g c =
    let m = c.loop-i.invariant.0 in
    let long : length c.args.self.rows ≡ 16 = omega arith in
    let place : c.loop-i.i - 1 + 1 ≡ c.loop-i.i = omega arith in
    stored c.loop-i.r.rows _ c.args.v (c.loop-i.i - 1 + 1) c.loop-i.i c.loop-i.r.count c.args.n place
    (shift_stop g.O.Comparison.before g.O.Comparison.unused c.args.v c.args.self.rows c.args.n c.loop-i.r.rows c.loop-i.i (c.loop-i.i - 1) (omega arith) m _
    (get_or_default c.loop-i.r.rows (c.loop-i.i - 1) c.index-r-i.result g.O.Comparison.unused (omega (arith, m.long))) (omega (arith, m.upto)) g.met.O.Comparison.lawful c.requires.1
    (said c.is_before.result (g.O.Comparison.before c.args.v (get_or c.loop-i.r.rows (c.loop-i.i - 1) c.index-r-i.result)) _ c.is_before.ensures c.if-not-is_before.true))
    c.loop-i.invariant.1

pub loop-i-preserved : goal.loop-i-preserved
loop-i-preserved g c =
    let m = c.loop-i.invariant.0 in
    let long : length c.args.self.rows ≡ 16 = omega arith in
    let place : c.loop-i.i - 1 + 1 ≡ c.loop-i.i = omega arith in (
      rw place
          (shift_on g.O.Comparison.before g.O.Comparison.unused c.args.v c.args.self.rows c.args.n c.loop-i.r.rows c.loop-i.i (c.loop-i.i - 1) (omega arith) m _
          (get_or_default c.loop-i.r.rows (c.loop-i.i - 1) c.index-r-i.result g.O.Comparison.unused (omega (arith, m.long))) (omega (arith, m.upto))
          (said c.is_before.result (g.O.Comparison.before c.args.v (get_or c.loop-i.r.rows (c.loop-i.i - 1) c.index-r-i.result)) _ c.is_before.ensures c.if-not-is_before.false)),
      c.loop-i.invariant.1,
    )

pub returns : goal.returns
unfolding put_among
returns g c =
    let long : length c.args.self.rows ≡ 16 = omega arith in
    stored c.loop-i.r.rows _ c.args.v 0 0 c.loop-i.r.count c.args.n refl
    (shift_end g.O.Comparison.before g.O.Comparison.unused c.args.v c.args.self.rows c.args.n c.loop-i.r.rows c.loop-i.i (omega arith) c.loop-i.invariant.0 (omega arith))
    c.loop-i.invariant.1
