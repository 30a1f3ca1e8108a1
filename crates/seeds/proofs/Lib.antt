-- The candidates for one chamber.
--     LineLaws      the droppers in hand, as they change
--     ScanLaws      words that are 0, passed over
--     CoverLaws     walks that deal with places, whatever the droppers; and that the candidates have every ring partner
pub mod LineLaws
pub mod ScanLaws
pub mod CoverLaws
