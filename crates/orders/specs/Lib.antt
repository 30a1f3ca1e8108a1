-- What the theorems on the depot are said of.
--     Firsts        a list of forms, each key once, in the order in which it was first met
--     Deliveries    forms that are not altered or invented, and the histories of a depot
pub mod Firsts
pub mod Deliveries
