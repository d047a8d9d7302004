-- Laws: what each return of emit_bit_padding comes to.
pub mod Laws
