-- Stays: what no question changes. Laws: what each return of the code comes to. Given: an emitter that asks.
pub mod Stays
pub mod Laws
pub mod Given
