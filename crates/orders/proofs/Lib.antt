-- The roof of the depot. specs/Deliveries has the premises; the theorems start from these.
--     FirstsLaws     each key once, in the order first met
--     GenuineLaws    where a genuine form comes from, and that its key says all of it
--     Orders         what the depot holds, whatever is lost, repeated or reordered
--     EndToEnd       from the sheets to the orders: exactly one for each ring pair
--     Delivered      the premises can be had
pub mod FirstsLaws
pub mod GenuineLaws
pub mod Orders
pub mod EndToEnd
pub mod Delivered
