-- Lemmas on tasks from lists.
pub mod Filing
