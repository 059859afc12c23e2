-- Which broken rules others can mend.
pub mod CompanyStays
pub mod MapStays
pub mod Mending
pub mod OpeningStays
pub mod Stays
pub mod Written
