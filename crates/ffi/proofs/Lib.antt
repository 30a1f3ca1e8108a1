-- What the proofs of the calls over C share.
--     OpenLaws    a check of words over C
--     MarkLaws    the marker over C
pub mod OpenLaws
pub mod MarkLaws
