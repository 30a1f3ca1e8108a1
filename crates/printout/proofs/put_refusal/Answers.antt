-- `printout::put_refusal` meets its contract. Assumes nothing.
use mathlib.Core.Path.{◌≡◌, sym, subst}
use mathlib.Core.List.{List}
use Prim.Native.Nat.{ℕ}
use native.Mathlib.Omega.{arith}
use Rattle.text.specs.Text.{Grown}
use Rattle.printout.specs.Outcome.{refusal}
use Rattle.printout.specs.declared.Outcome.{Outcome}
use Rattle.printout.proofs.LineLaws.{no_line}
use Rattle.printout.proofs.put_refusal.Goals as goal

-- the text that was put is that of the outcome
alike : {o v : Outcome} {b : List ℕ} {at : ℕ} {a : List ℕ} {r : ℕ} → o ≡ v → Grown b at a r (refusal v) → Grown b at a r (refusal o)
alike {o} {v} {b} {at} {a} {r} e g = subst (λ (w : Outcome). Grown b at a r (refusal w)) (sym e) g

pub returns-in-BadInput : goal.returns-in-BadInput
unfolding refusal
returns-in-BadInput c =
    let p = c.put_input.ensures in
    record { grown = alike c.in-BadInput.is p.grown; upper_bound = omega (arith, p.upper_bound) }

pub returns-in-BadQ : goal.returns-in-BadQ
unfolding refusal
returns-in-BadQ c =
    let p = c.put_refused.ensures in
    record { grown = alike c.in-BadQ.is p.grown; upper_bound = p.upper_bound }

pub returns-in-BadP : goal.returns-in-BadP
unfolding refusal
returns-in-BadP c =
    let p = c.put_refused-in-BadP.ensures in
    record { grown = alike c.in-BadP.is p.grown; upper_bound = p.upper_bound }

pub returns-in-Listed : goal.returns-in-Listed
unfolding refusal
returns-in-Listed c = record { grown = alike c.in-Listed.is (no_line _ _); upper_bound = omega arith }
