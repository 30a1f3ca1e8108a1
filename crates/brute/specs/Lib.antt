-- The second join, read from the points alone.
--     Brute    the ring rule as distances, the street grid's on a turned map, and the next pair from a place on
pub mod Brute
