pub mod begin
pub mod entries
pub mod leaders
pub mod order_state
pub mod ways
