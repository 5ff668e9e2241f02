-- What is wrong with a row of a site sheet, or nothing. 01, "Numbers given back".
pub data Fault : Type 0 where
  -- nothing
  Sound : Fault
  -- 2: "row of bad form, unknown kind"
  Form : Fault
  -- 5: "first data row is absent or not `site`"
  NoSite : Fault
  -- 3: "a number outside the ranges above, a door from a location to itself, a 65th door"
  Range : Fault
  -- 4: "second `site`, second exit of a location, same right again"
  Twice : Fault
