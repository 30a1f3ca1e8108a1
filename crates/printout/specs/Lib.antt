-- What the listing program prints, of what it has read.
--     Split      where the input is split
--     Listing    the listing of two sets of points, line by line
--     Outcome    which outcome an input has, and what is printed of it
pub mod Split
pub mod Listing
pub mod Outcome
