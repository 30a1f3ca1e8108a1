-- The pairs of one chamber, to a size.
--     ClearLaws     what is told of the places that a node covers, and of a whole sheet
--     KeepLaws      a chamber's candidates, judged one after the other; rows
--     ListedLaws    chambers one after the other: what each adds to the list
--     WholeLaws     to a size that no pair exceeds: the rule of the terms; a chamber's ring partners
pub mod ClearLaws
pub mod KeepLaws
pub mod ListedLaws
pub mod WholeLaws
