-- What the walks by hand over slices of pairs share: pairs and pages as rows and as machine values, and the bytes of a pair.
--     width        the bytes of a pair in memory.        scaled       a slot's offset in bytes fits.        none_is      three zeros are a pair
-- Assumes nothing.
use mathlib.Core.Path.{refl}
use Prim.Native.Nat.{ℕ, ◌*◌, ◌<◌, ◌^◌}
use native.Mathlib.Omega.{arith}
use mathlib.Core.List.{List}
use lib.Dec.{lit<}
use mir.Syntax.{Ty, w64, ty_int}
use mir.Val.{Val}
use denote.RattleType.{RattleType}
use denote.Laws.{Is}
use denote.Struct.Laws as LL
use Rattle.list.specs.declared.Pair.{Pair}
use Rattle.list.specs.declared.Page.{Page}
use Rattle.list.specs.Pairs.{none}
use Rattle.list.specs.contracts.Pair as T
use Rattle.list.proofs.Pair.TheLaws as T'
use Rattle.list.specs.contracts.Page as G
use Rattle.list.proofs.Page.TheLaws as G'

abbrev pub word : Ty
word = ty_int w64

abbrev pub P : RattleType
P = T.the_row

abbrev pub pv : Pair → List Val
pv = LL.vals T.the_type T'.the_laws

abbrev pub pval : Pair → Val
pval = LL.val T.the_type T'.the_laws

abbrev pub gval : Page → Val
gval = LL.val G.the_type G'.the_laws

abbrev pub width : ℕ
width = 16

pub scaled : (n m : ℕ) → n < m → m * width < 2 ^ 63 → n * width < 2 ^ 64
scaled n m l r = omega arith

pub none_is : Is P none (pv none)
none_is = LL.owes T.the_type T'.the_laws none ((refl, lit< tt), ((refl, lit< tt), ((refl, lit< tt), tt)))
