-- The shortest circles of a list of pairs.
--     Order     shorter, and the first k pairs of a list in this order
--     Lawful    this is an order
--     Answer    the call: its number, and its answer
--     Search    the pairs held, as the code has them
pub mod Order
pub mod Lawful
pub mod Answer
pub mod Search
