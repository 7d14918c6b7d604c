-- Words of the contracts.
pub mod KeyLists
pub mod Walking
pub mod Mappings
pub mod Living
pub mod Written
pub mod MergedNorms
pub mod LivingNorms
pub mod LivingSlots
pub mod MemberStores
pub mod Members
pub mod MergedTerm
pub mod MergedTerms
pub mod MergedFields
pub mod ToldFields
