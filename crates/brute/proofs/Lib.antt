-- What the proofs of several functions use.
--     Distances    clipped words and distances
--     Turned       why the map is turned: the street grid's rule is the document's
--     Runs         runs of positions: what a loop has passed
pub mod Distances
pub mod Turned
pub mod Runs
