-- Lists in an order.
--     RankingLaws    the first k of any list in any order, gathered from its front on
--     HeldLaws       those held, in an array of sixteen
--     FirstsLaws     those held, as the code has them
--     LexLaws        orders by a number first
--     FirstMeaning   what the first k of a list in an order are
pub mod RankingLaws
pub mod HeldLaws
pub mod FirstsLaws
pub mod LexLaws
pub mod FirstMeaning
