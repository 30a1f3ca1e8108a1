use native.Mathlib.Omega.{arith}
use Rattle.pack.proofs.PackedLaws.{order_put}
use Rattle.pack.proofs.write.put_order.Goals as goal

pub returns : goal.returns
returns c = λ p h. order_put p _ _ _ _ _ c.copy.ensures.after c.requires.1 (omega arith) h
