-- Laws: what this crate's own tests say. The others are what callers' proofs cite: the order of floats, rounding and how both keep it, values as whole
-- numbers of the format's smallest, which results are numbers, the points of a bracket, values between powers of two, the largest finite value.
pub mod Laws
pub mod Order
pub mod Rounding
pub mod Monotone
pub mod Units
pub mod Numbers
pub mod Bracket
pub mod Bracket64
pub mod Powers
pub mod Largest
