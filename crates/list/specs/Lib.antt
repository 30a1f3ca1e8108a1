-- The list of ring pairs and its pages, of points alone.
--     Pairs       keys and pairs, their order, what follows a key
--     Pages       a page of a list; following the pages; the numbers of a page's size, threshold, contractor, owner bytes and source
--     Rows        the list that any rule on positions makes
--     RingList    the ring rule on two sets of points, and its list; sets of points as sheets hold them
--     Contractor  whose a chamber is, by owner bytes; two runs that differ in the ids of the other's chambers
--     Terms       the list of any terms: the full list, that of t, a contractor's, the self join of one set
--     Nearest     the couples at the least distance
--     Lent        a part of an array, lent
pub mod Pairs
pub mod Pages
pub mod Rows
pub mod RingList
pub mod Contractor
pub mod Terms
pub mod Nearest
pub mod Lent
