-- Lists in an order.
--     Ranking    the first k of any list in any order
--     Firsts     those held, as the code has them
pub mod Ranking
pub mod Firsts
