-- The format of a journal (reqlock's own): a line of compact JSON (RFC 8259) for the header, and one for each step. Versions 1, 2 and 3 are
-- read, and versions 2 and 3 are written.
pub mod Forms
pub mod Entries
pub mod Lines
pub mod Written
pub mod VersionOne
pub mod Tied
