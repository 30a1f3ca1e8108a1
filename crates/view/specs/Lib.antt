-- Views of a sheet.
--     Shown    what an opened view shows: its number, its words and where they stand, its counts
pub mod Shown
