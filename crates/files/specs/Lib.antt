-- The bytes of words in a file.
--     Files    four bytes a word, the lowest first
pub mod Files
