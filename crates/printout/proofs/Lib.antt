-- What the proofs of several functions use.
--     SplitLaws     where the input is split
--     FormLaws      sheets of form 1: they open, and have at most 1,000 points
--     LineLaws      where a listed record stands, the lines of a chamber's kept pairs, and the size that a line ends with
--     CountLaws     chamber after chamber: the pairs kept are the ring pairs, and how many they are
--     OutcomeLaws   which outcome an input has
--     Whole         the chambers' lines, one after the other, and the last line are the listing
pub mod SplitLaws
pub mod FormLaws
pub mod LineLaws
pub mod CountLaws
pub mod OutcomeLaws
pub mod Whole
