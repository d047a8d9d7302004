pub mod DeepPrograms0
pub mod DeepPrograms1
pub mod DeepSessions0
pub mod DeepSessions1
