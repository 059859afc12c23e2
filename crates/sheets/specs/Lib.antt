-- What an order file says: its lines, its sheets and their parts, and how they are collected and
-- taken.
pub mod Limits
pub mod Text
pub mod Reading
pub mod File
pub mod Before
pub mod Collecting
pub mod Sheet
pub mod Part
pub mod CompanyOrders
pub mod Place
pub mod Taken
pub mod Laws
