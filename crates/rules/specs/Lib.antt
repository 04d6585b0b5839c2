-- The scope paper as definitions, in its order; what a request changed or added stands beside the rule that it is about. Lists has the words about lists,
-- Views the state as the code holds it, Ranks the orders and look-aheads by numbers.
pub mod Views
pub mod Refusals
pub mod Lists
pub mod Pages
pub mod Readers
pub mod Valid
pub mod UseTimes
pub mod Orders
pub mod Ranks
pub mod Calls
pub mod Run
pub mod Schedules
pub mod Third
pub mod Listings
pub mod Questions
pub mod Image
pub mod Entries
pub mod Lines
