-- What a reader must believe: Histories, what a history of any rules is; for one effect History, its domain and its histories,
-- Terms, document 01's terms written out, and Claim, what is claimed of every history; for two effects History2, Terms2, Claim2.
pub mod Histories
pub mod History
pub mod Terms
pub mod Claim
pub mod History2
pub mod Terms2
pub mod Claim2
