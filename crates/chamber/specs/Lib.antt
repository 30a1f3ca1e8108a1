-- The pairs of one chamber, to a size.
--     Sized      the list to a size
--     Clear      what a walk tells of the records below a node
--     Chamber    a chamber's pairs, as the code keeps them
pub mod Sized
pub mod Clear
pub mod Chamber
