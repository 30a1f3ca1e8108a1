-- What reading a descriptor gives.
--     Got    the bytes that were read stand in the room lent for them
pub mod Got
