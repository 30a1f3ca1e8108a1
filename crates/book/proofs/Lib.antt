-- What the book does with a page, of every state, and its story.
--     TakeLaws     what a taken page has passed, what a refused one leaves
--     CoreLaws     what the functions find
--     SliceLaws    the book and the slice lent to it
--     Once         one input, one answer, one final state of the slots
--     Story        demand 3 over histories
--     Examples     the book on small values, by computation
pub mod TakeLaws
pub mod CoreLaws
pub mod SliceLaws
pub mod Once
pub mod Story
pub mod Examples
