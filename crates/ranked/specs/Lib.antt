-- The first of a list in an order.
--     Busiest    the busiest chambers and pump houses: the calls' numbers and answers
--     Urgent     the most urgent visits: the call's number and answer
--     Orders     these are orders
--     Blind      the scores of chambers in two runs
--     Ranks      the ranks held, as the code has them
--     Visits     the visits held, as the code has them
pub mod Busiest
pub mod Urgent
pub mod Orders
pub mod Blind
pub mod Ranks
pub mod Visits
