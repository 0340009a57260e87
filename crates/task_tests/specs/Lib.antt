-- Definitions of the kind of priority that is declared here.
pub mod Deadlines
