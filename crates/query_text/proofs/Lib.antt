mod Signs
pub mod ClauseLists
pub mod JsonTerms
pub mod NamedFields
pub mod ReadValues
pub mod SeveralQueries
pub mod Written
