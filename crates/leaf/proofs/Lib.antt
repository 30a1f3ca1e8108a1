-- The laws of a leaf run; `RunLaws` has the theorems for a reader.
--     LeafLaws      a ring partner of a chamber is kept for it
--     FilterCode    what the code of the walk goes by
--     RunLaws       the runs of all leaves are the list, each pair once
--     RunCode       what the code of the run goes by
pub mod LeafLaws
pub mod RunLaws
pub mod FilterCode
pub mod RunCode
