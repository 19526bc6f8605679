-- lists of nodes with one put in or taken out
pub mod ListLemmas
-- maps, one entry changed
pub mod MapLemmas
-- links that lead through the nodes of a list
pub mod PathLemmas
-- rings, joined
pub mod RingLemmas
-- what the links show, call by call
pub mod ShowsLemmas
-- facts of tables for the crates above
pub mod TableFacts
-- values of nodes
pub mod ValueLemmas
-- walking a list from node to node
pub mod WalkLemmas
