-- What a reader of a descriptor may rely on, and what the proofs of reading use.
--     GotLaws     the bytes that were read stand in the room lent for them
--     ReadLaws    what reads do to the bytes that a reader has left
pub mod GotLaws
pub mod ReadLaws
