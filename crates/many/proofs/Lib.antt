-- Many pairs of a list at once.
--     CheckLaws     the numbers of the calls, and their answers by them
--     CursorLaws    from one pair to the next: what is left of a chamber and of the list
--     StepLaws      the work of `pairs`, a pair at a time; the list after a key
--     PairsLaws     what `pairs` stores and answers
--     Meaning       the list to the greatest size is the list of the terms
pub mod CheckLaws
pub mod CursorLaws
pub mod StepLaws
pub mod PairsLaws
pub mod Meaning
