-- What reading to the end gives.
use Rattle.std.specs.Prelude.{List, ℕ, ◌≡◌, ◌<◌, min, length, take, Option, Result, Ok, Err}
use Rattle.std.specs.Counts.{IsPrefixLen}
use Rattle.std.specs.Io.KnownBytes.{Keeps, Consumes, IsAtEnd}
use Rattle.input.specs.declared.ReadFailed.{ReadFailed}

-- what a read has answered of a read into a room of so many bytes: how many it has put there, or that it failed [X10]
unfoldable pub told_by : {E : Type 0} → Result ℕ E → ℕ → Result ℕ ReadFailed
told_by (Ok k) most = Ok (min k most)
told_by (Err e) most = Err (record {})

-- the bytes that were read stand at the start of the room lent for them; of a read that failed nothing is said [X10]
abbrev pub Within : Result ℕ ReadFailed → List ℕ → Type 0
Within (Ok n) room = IsPrefixLen n room
Within (Err e) room = Unit {0}

-- what one read does to the bytes that a reader has left, where those are known: what it puts into the room it takes from them, none only where none is left; a read
-- that fails takes none [X10]
abbrev pub ReadsSome : Option (List ℕ) → Option (List ℕ) → Result ℕ ReadFailed → List ℕ → Type 0
ReadsSome old new (Ok n) room = Consumes old new (take n room) × (n ≡ 0 → 0 < length room → IsAtEnd new)
ReadsSome old new (Err e) room = Keeps old new

-- what reading to the end does to them: the bytes at the start of the room are the first of them, and where they do not fill the room none is left [X10]
abbrev pub ReadsAll : Option (List ℕ) → Option (List ℕ) → Result ℕ ReadFailed → List ℕ → Type 0
ReadsAll old new (Ok n) room = Consumes old new (take n room) × (n < length room → IsAtEnd new)
ReadsAll old new (Err e) room = Unit {0}
