-- tables of rows: reads and changes of one place
pub mod RowLemmas
