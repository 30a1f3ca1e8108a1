-- That nothing is lost in a file.
--     Back    what is decoded from the bytes of words is the words again
pub mod Back
