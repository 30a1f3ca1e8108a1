-- What a view shows.
--     OpenLaws    what an opened view shows
--     Once        one input, one answer
pub mod OpenLaws
pub mod Once
