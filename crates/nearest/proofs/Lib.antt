-- The proofs behind the calls that go nearest first.
--     ChamberLaws    what is found of two sheets and an id
--     AnswerLaws     the answers by their numbers, and the lent numbers after them
--     Meaning        what the answers mean, from the promises alone
pub mod ChamberLaws
pub mod AnswerLaws
pub mod Meaning
