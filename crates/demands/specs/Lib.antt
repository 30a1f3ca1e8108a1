-- What the theorems of the roof are said of.
--     Promises    what each shipped call promises, read from its `ensures`
--     Lent        the calls that are lent words, in one
--     World       the premises of demand 3: editions that keep their points, answers of the shipped calls, the histories of a book
--     Many        the list to a size, and calls for many pairs that follow each other
--     OverC       what each call over C promises
pub mod Promises
pub mod Lent
pub mod World
pub mod Many
pub mod OverC
