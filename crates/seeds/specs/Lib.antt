-- The candidates for one chamber.
--     Places    the places of droppers, in a list
--     Line      the droppers in hand
--     Scan      words that are 0
--     Covers    what is promised of the candidates, and what the walks bring about
pub mod Places
pub mod Line
pub mod Scan
pub mod Covers
