-- The laws of the packer; `ReturnTrip` has the theorem for a reader.
--     Examples      node counts and the document's sheet, by computation
--     PlanLaws      the tree level by level
--     TableLaws     its table passes refusal 7's test
--     OrderLaws     the order list holds each position once
--     SeenLaws      the loop that marks each position
--     PackedLaws    the words of a packed sheet, part by part
--     PackLaws      what `pack` answers
--     ReturnTrip    pack, then open, gives the same points
--     Once          one input, one answer and one final state
pub mod Examples
pub mod PlanLaws
pub mod TableLaws
pub mod OrderLaws
pub mod SeenLaws
pub mod PackedLaws
pub mod PackLaws
pub mod ReturnTrip
pub mod Once
