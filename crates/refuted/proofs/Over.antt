-- Wrong answers over C.
use mathlib.Core.Path.{◌≡◌, refl}
use mathlib.Core.Bool.{true, false}
use Prim.Native.Nat.{ℕ}
use lib.IntN.{pos}
use lib.Ieee.{fin}
use Rattle.std.specs.Prelude.{Ok, Err}
use Rattle.list.specs.Pairs.{start}
use Rattle.list.specs.Terms.{full}
use Rattle.walk.specs.declared.Edge.{Edge}
use Rattle.walk.specs.declared.Hit.TheVariants.{Side}
use Rattle.ring.specs.declared.Asset.{Asset}
use Rattle.book.specs.declared.Book.{Book}
use Rattle.marker.specs.declared.Marker.{Marker}
use Rattle.ffi.specs.declared.BookAnswer.{BookAnswer}
use Rattle.ffi.specs.declared.KeyAnswer.{KeyAnswer}
use Rattle.ffi.specs.declared.MarkAnswer.{MarkAnswer}
use Rattle.ffi.specs.declared.PointAnswer.{PointAnswer}
use Rattle.ffi.specs.declared.WalkAnswer.{WalkAnswer}
use Rattle.ffi.specs.Over.{point_over, hit_over, book_over, next_over, mark_over}
use Rattle.refuted.proofs.Cases.{key}

-- The record has y for x. The document's chamber 5 stands at (4, 0).
abbrev chamber5 : Asset
chamber5 = record { id = 5; x = pos 4; y = pos 0 }

abbrev point_turned : Asset → PointAnswer
point_turned a = record { number = 0; id = a.id; x = a.y; y = a.x }

pub point_turned_wrong : ((point_turned chamber5).x ≡ pos 0) × ((point_over (Ok chamber5)).x ≡ pos 4)
point_turned_wrong = (refl, refl)

-- Where a box side blocks, the answer has the set for the side. "Where a box side blocks, the answer shall also name the side": here the top of a box of set 1. [E1]
abbrev set_for_side : Edge → ℕ → WalkAnswer
set_for_side e c = record { number = 0; kind = 2; set = e.set; side = e.set; at = e.node; opened = c }

abbrev top : Edge
top = record { set = 1; side = 3; node = 0 }

pub set_for_side_wrong : ((set_for_side top 2).side ≡ 1) × ((hit_over (Side top) 2).side ≡ 3)
set_for_side_wrong = (refl, refl)

-- A book that is begun has a number of refusal.
abbrev opened : Book
opened = record { held = 0; closed = false; source = record { p_edition = 7; q_edition = 9; terms = full } }

abbrev begun_refused : Book → BookAnswer
begun_refused b = record { number = 3; book = b }

pub begun_refused_wrong : ((begun_refused opened).number ≡ 3) × ((book_over (Ok opened)).number ≡ 0)
begun_refused_wrong = (refl, refl)

-- A refused answer has a key that is not (0, 0).
abbrev refused_key : ℕ → Book → KeyAnswer
refused_key n b = record { number = n; key = key 0 1; book = b }

pub refused_key_wrong : ((refused_key 12 opened).key ≡ key 0 1) × ((next_over (Err 12) opened).key ≡ start)
refused_key_wrong = (refl, refl)

-- The marker has y for x: here it is the middle (1, -1).
abbrev middle : Marker
middle = record { x = fin false 1 (pos 0); y = fin true 1 (pos 0) }

abbrev mark_turned : Marker → MarkAnswer
mark_turned m = record { number = 0; x = m.y; y = m.x }

pub mark_turned_wrong : ((mark_turned middle).x ≡ fin true 1 (pos 0)) × ((mark_over (Ok middle)).x ≡ fin false 1 (pos 0))
mark_turned_wrong = (refl, refl)
