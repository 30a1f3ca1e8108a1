-- `printout::list_got` meets its contract. Assumes nothing.
use mathlib.Core.Path.{sym, ap, ◌∙◌}
use Rattle.std.proofs.Common.{Result, ℕ}
use Rattle.input.specs.declared.ReadFailed.{ReadFailed}
use Rattle.printout.specs.Outcome.{got_outcome}
use Rattle.printout.proofs.list_got.Goals as goal

pub returns-in-Ok : goal.returns-in-Ok
unfolding got_outcome
returns-in-Ok g c = c.list_bytes.ensures ∙ sym (ap (λ (v : Result ℕ ReadFailed). got_outcome v c.args.room.now) c.in-Ok.is)

pub returns-in-Err : goal.returns-in-Err
unfolding got_outcome
returns-in-Err g c = sym (ap (λ (v : Result ℕ ReadFailed). got_outcome v c.args.room.now) c.in-Err.is)
