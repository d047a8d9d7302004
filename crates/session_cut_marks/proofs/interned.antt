-- Laws: of the code. Probes: where a name is found. Places: where it stands. Right: what the filled table says is so. Found: what is found in it.
-- Props: what ghost fields owe.
pub mod Laws
pub mod Probes
pub mod Places
pub mod Right
pub mod Found
pub mod Props
