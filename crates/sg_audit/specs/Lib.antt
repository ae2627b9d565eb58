pub mod Reading
pub mod Auditing
pub mod AuditLaws
pub mod WholeLines
pub mod Examples
pub mod steps
