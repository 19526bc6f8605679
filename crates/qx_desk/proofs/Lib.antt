-- a program in a world and in its user's view
pub mod Views
-- all inputs of a front
pub mod Desks
-- one program after another
pub mod Comings
-- what a desk in code comes to at an input
pub mod Turns
-- what is kept of the users at first
pub mod Begun
-- a step that is taken at a session in code
pub mod Takings
