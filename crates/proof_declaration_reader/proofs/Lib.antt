-- What the definitions of the reader come to.
pub mod Samples
pub mod Shapes
pub mod Grammar
pub mod Lexing
pub mod RoundTrip
pub mod Natural
pub mod AtPlaces
pub mod Parses
pub mod Bound
pub mod Laid
pub mod Decoding
pub mod Rules
