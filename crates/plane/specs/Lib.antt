-- Places and boxes: the rules of the ring join, and what a set of points is.
--     Rule        the ring rule, the half-plane rule, rules (1) and (2) of boxes
--     Profile     the circle and the street grid: what blocks, the rules of boxes and the size, of either
--     Point       a record of a set: its id and where it stands
--     Examples    the starred examples that speak of places and boxes, as one table
pub mod Rule
pub mod Profile
pub mod Point
pub mod Examples
