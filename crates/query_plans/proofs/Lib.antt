pub mod ClausePlans
pub mod JoinedClauses
pub mod PlanLaws
pub mod RaisedUnions
pub mod RequiredClauses
pub mod SummedQueries
