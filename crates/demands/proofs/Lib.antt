-- The roof. specs/Promises names what each shipped call promises; the theorems start from these.
--     Takes       no call asks anything of its arguments
--     Demand1     every input is answered, by the number that is defined
--     Lent        what is left in the words that are lent for kept sets
--     Demand2     the list is that of the ring rule, and the calls answer for it
--     ByRow       in what order a list by rows has its pairs
--     Shortest    the shortest circles of the list, in order
--     Nearest     the pump houses nearest first, and the filter that goes so
--     SizedLaws   the list to a size, as a list of points makes it
--     Many        many pairs at once, to a size, and how many there are
--     Ranked      the busiest chambers and pump houses, the most urgent visits
--     Found       how many words a sheet of n points has, and where the record with an id stands
--     Demand3     the book's story, with the pages that the shipped page request answers
--     Blind       what one contractor is handed does not depend on the ids of the other's chambers
--     Worlds      the premises of demand 3 can be had
--     Border      beyond one sheet: what the sheets of a province say of the whole country
--     Says        where a promise is stated anew, it is the `ensures` of its call
--     Alike       calls through views, and on arrays, answer as those on slices do, so the theorems hold of them too
--     OverC       the calls over C: what crosses is the answer of the call, so the theorems hold of it too
--     Once        one input, one answer, one final state of what was lent
pub mod Says
pub mod Alike
pub mod Takes
pub mod Once
pub mod Demand1
pub mod Lent
pub mod ByRow
pub mod Demand2
pub mod Shortest
pub mod Nearest
pub mod Found
pub mod SizedLaws
pub mod Many
pub mod Ranked
pub mod Demand3
pub mod Blind
pub mod OverC
pub mod Worlds
pub mod Border
