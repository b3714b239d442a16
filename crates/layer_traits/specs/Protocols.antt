-- Which CPU may do a section at a lock after which sections, and what its words' logs say of that.
pub mod Protocol
pub mod WordsProtocol
pub mod GrantProtocol
pub mod OneLock
pub mod AsGrants
