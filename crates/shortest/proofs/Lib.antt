-- The shortest circles of a list.
--     OrderLaws      the order by size, then q id, then p id
--     SearchLaws     chamber by chamber, pair by pair
--     AnswerLaws     the call's answer, number by number
--     Meaning        the theorems: what the k shortest pairs of a list are
pub mod OrderLaws
pub mod SearchLaws
pub mod AnswerLaws
pub mod Meaning
