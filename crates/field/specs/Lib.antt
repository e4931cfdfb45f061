pub mod Arithmetic
pub mod Laws
pub mod Powers
pub mod Space
pub mod Forms
-- Proofs of the laws that the impls of a kind of symbol give, which may cite specs/ alone. There is nothing to believe below: the check reads them.
pub mod Entries
pub mod Linear
pub mod Tested
pub mod Products
pub mod FormSymbolLemmas
pub mod BytesSpace
