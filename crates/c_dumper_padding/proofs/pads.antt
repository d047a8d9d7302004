-- Laws: what each return of the code comes to. Placing: in placing mode.
pub mod Laws
pub mod Placing
