-- What a part says of its whole.
--     ReachLaws     how far a circle reaches on either axis
--     BorderLaws    the border theorem: pairs, lists, margins; chambers that have all that is outside behind records
--     SettledLaws   chambers that are settled in a part: their pairs are those of the whole
pub mod ReachLaws
pub mod BorderLaws
pub mod SettledLaws
