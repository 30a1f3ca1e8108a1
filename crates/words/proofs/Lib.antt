-- What the proofs of several functions use, here and in the crates above.
--     Signs        what a test of a word says of its number
--     AllLaws      loops that test every index, or look for the first
--     TabLaws      a list by its indices, and the loop that writes it
--     RangeLaws    ids, editions and coordinates: the test of a word, and of its number
--     FirstLaws    the first number that applies, and the answer by its number
--     ContainsLaws    what `contains` answers at a range
pub mod Signs
pub mod AllLaws
pub mod TabLaws
pub mod RangeLaws
pub mod FirstLaws
pub mod ContainsLaws
