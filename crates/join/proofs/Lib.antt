-- The page made is the list's, and its count is the walks'.
--     MakerLaws    the page made is the page of the list
--     WorkLaws     the count is that of the walks
--     TurnLaws     the loops, turn by turn
--     CallLaws     what the functions find, from what their calls answered
--     ThresholdLaws the walks of a page of t, and a chamber of it
--     CountLaws     a chamber's ring partners: those that stay kept, and how many they are
--     OnlyLaws      the walks of a contractor's page
--     Meaning      the theorems: `page_pairs_lem`, `page_opened_lem`, `list_by_points`
--     KindLaws     the walks of the terms, whichever the kind
pub mod MakerLaws
pub mod WorkLaws
pub mod TurnLaws
pub mod CallLaws
pub mod ThresholdLaws
pub mod CountLaws
pub mod OnlyLaws
pub mod Meaning
pub mod KindLaws
