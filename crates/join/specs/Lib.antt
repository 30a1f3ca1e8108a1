-- The page maker: what it is told by the walks, what it makes of that, and the count that it must come to.
--     Walks     what the walks say, by positions
--     Work      the count of nodes opened, as the document says it
--     Maker     the page in the making, step by step
--     Sheets    what the walks of two sheets say, and of a self join
--     Threshold the walks of a page of t
--     Only      the walks of a contractor's page
pub mod Walks
pub mod Work
pub mod Maker
pub mod Sheets
pub mod Threshold
pub mod Only
