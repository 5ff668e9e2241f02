-- A whole site sheet, as paper 01 writes it: `Site` is what is answered to it, and `Accepted` what the record of an accepted sheet
-- holds. What its rows say, and when each number is given, is in crate `site_lines`.
pub mod Site
pub mod Accepted
