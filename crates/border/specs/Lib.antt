-- The part of a whole that stands in a box of the map, and the circles that lie in the box. Of points alone.
--     Border    a part, a circle in a box, a core with its margin; chambers that are settled in a part
pub mod Border
