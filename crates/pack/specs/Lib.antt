-- The packer.
--     Tree      the tree that it makes
--     Order     the order list, and refusal 6
--     Packed    the sheet that it writes, word by word
--     Pack      its number, and the lent words after it
--     Claims    what the theorems speak of
--     Work      what the functions say of their work; no promise cites it
pub mod Tree
pub mod Order
pub mod Packed
pub mod Pack
pub mod Claims
pub mod Work
