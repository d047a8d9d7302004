-- Products: a law of products. Laws: what each return of the code comes to. Depth: of chains of typedefs, 512 calls pass and the next is refused.
pub mod Products
pub mod Laws
pub mod Depth
