-- The proofs behind the walk that goes nearest first.
--     MassLaws      the weight of what stands below a node; that of the root
--     ListLaws      lists of what waits, and what is put in
--     HeapLaws      what waits as a heap: numbers change places, the first comes first, one goes up or down
--     EntryLaws     what waits: a box or a point, what it weighs, what stands below it
--     NearLaws      any such walk: one step, its end, what each step keeps true
--     OrderLaws     the order in which it comes to the points
--     FilterLaws    what its filter brings about
--     Meaning       the theorems, for a reader
--     WaitingLaws, WalkCode, OrderCode, FilterCode      what the code keeps true
pub mod MassLaws
pub mod ListLaws
pub mod HeapLaws
pub mod EntryLaws
pub mod NearLaws
pub mod OrderLaws
pub mod FilterLaws
pub mod Meaning
pub mod WaitingLaws
pub mod WalkCode
pub mod FilterCode
pub mod OrderCode
