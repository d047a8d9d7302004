-- Laws: what each return of the code comes to.
pub mod Laws
