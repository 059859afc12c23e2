pub mod CheapestTrain
pub mod TrainCounts
pub mod Steps
pub mod Aid
pub mod RaiseLemmas
pub mod SalesKeepPresidency
pub mod HasBought
