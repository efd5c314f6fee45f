-- What the loop of `fine_coordinates` keeps.
mod Glancing
