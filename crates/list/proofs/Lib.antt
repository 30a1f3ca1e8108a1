-- What holds of every list of pairs, and of the ring pairs' list.
--     Order         lists that ascend: what follows a key, the last pair, each pair once
--     PageLaws      what a page shows, its end mark, following the pages
--     SourceLaws    what list a page is of, and the numbers 22, 28, 30, 13 and 31
--     RowLaws       the list that a rule makes: it ascends and holds what the rule does; the ring list, and the ids in it
--     NearestLaws   couples at the least distance are pairs, so the list of two sets that are not empty is not empty
--     ThresholdLaws of any list, the chambers with at least t pairs, with all their pairs
--     TermsLaws     the list of any terms: of t, and the self join of one set
--     ContractorLaws whose a chamber is; a contractor's list, and the undivided one
--     BlindLaws     a contractor's list does not depend on the ids of the other's chambers
--     Examples      the document's listing and its pages, by computation
--     PairRows      pairs and pages as rows and as machine values, for walks by hand
--     LentLaws      how many of its slots are lent
pub mod Order
pub mod PageLaws
pub mod SourceLaws
pub mod RowLaws
pub mod NearestLaws
pub mod ThresholdLaws
pub mod TermsLaws
pub mod ContractorLaws
pub mod BlindLaws
pub mod Examples
pub mod PairRows
pub mod LentLaws
