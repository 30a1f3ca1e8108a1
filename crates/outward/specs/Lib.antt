-- The walk of a packed sheet that goes nearest first.
--     Waiting       what waits, and in which order
--     NearWalk      the walk, and its two uses: the points one after another, and the filter
--     Room          the lent numbers in which the walk keeps what waits
--     Claims        what the theorems speak of
pub mod Waiting
pub mod NearWalk
pub mod Room
pub mod Claims
