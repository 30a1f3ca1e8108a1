-- Many pairs of a list at once.
--     Many       the calls' numbers and answers
--     Checked    what a check hands on
--     Cursor     from one pair to the next
--     Step       the work of `pairs`, a pair at a time
pub mod Many
pub mod Checked
pub mod Cursor
pub mod Step
