-- The null manager's user stays one of those whose events are kept.
pub mod NullLemmas
