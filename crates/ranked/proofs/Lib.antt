-- The first of a list in an order.
--     RanksLaws      the ranks of chambers one after the other, and the k busiest of them
--     AskedLaws      the calls' numbers
--     BusyLaws       what the code counts is what the list has; the ends of a pair change places
--     ScoresLaws     the test of scores, and the greatest
--     VisitsLaws     the visits of chambers one after the other, and the k most urgent of them
--     BlindLaws      two runs that differ in the ids and scores of the other contractor's chambers
pub mod RanksLaws
pub mod AskedLaws
pub mod BusyLaws
pub mod ScoresLaws
pub mod VisitsLaws
pub mod BlindLaws
