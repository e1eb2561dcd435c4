pub mod ActionRows
pub mod Conflicts
pub mod Found
pub mod Meetings
pub mod Shifts
pub mod Verdicts
