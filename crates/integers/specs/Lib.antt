-- What is asked of an integer. There is no function here; the laws stand in proofs/.
--     Bounds    a number within a bound
pub mod Bounds
