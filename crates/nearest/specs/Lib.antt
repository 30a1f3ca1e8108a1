-- Nearest first: the calls for a single chamber.
--     Nearest    the numbers of refusal, the answers, and the lent numbers after a call
pub mod Nearest
