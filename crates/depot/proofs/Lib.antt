-- What the depot does with a form, of every state, and the forms that are made from a book.
--     FormLaws     what making forms decides; the forms stored one after the other
--     DepotLaws    what taking a form decides; the loop that looks for its key
--     TakeLaws     what each answer means and leaves; one input, one answer
--     KeyLaws      forms with one key
--     FormRows     the first so many of 64 forms, lent
pub mod FormLaws
pub mod DepotLaws
pub mod TakeLaws
pub mod KeyLaws
pub mod FormRows
