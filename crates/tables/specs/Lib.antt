-- The site's rules, as paper 01 writes them: `Tables` has the plan and reads the tables, `Below` says what holds below a number,
-- `Way` is the way out of a location, `Rules` are the rules that an accepted site obeys, `Tests` what the code computes of them,
-- and `Zero` which places of the tables are 0.
pub mod Tables
pub mod Below
pub mod Way
pub mod Rules
pub mod Tests
pub mod Zero
