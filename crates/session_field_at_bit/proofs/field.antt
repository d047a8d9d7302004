-- Laws: a law for each return of the code. Sound: what a path that is found says. Unique: there is no other. Claims: refusals, 21, and what a call leaves. Samples: a small table.
pub mod Laws
pub mod Sound
pub mod Unique
pub mod Claims
pub mod Samples
