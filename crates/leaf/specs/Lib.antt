-- One run per leaf: the filter walk for all chambers of a leaf of Q, and the ring pairs of the leaf.
--     LeafWalk    the walk: a kept set for each chamber
--     LeafRun     the pairs of a leaf, and the count of nodes opened
--     Room        what the functions of this crate ask
pub mod LeafWalk
pub mod LeafRun
pub mod Room
