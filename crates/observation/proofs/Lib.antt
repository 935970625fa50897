-- What every call keeps: the tables carry the accepted versions. From it, what the answers mean: rising versions and counts, `previous`, `next`,
-- `newly_observed_by`, `first_observer`.

pub mod Carried
pub mod CarriedAppends
pub mod CarriedPrunes
pub mod CarriedRaises
pub mod Kept
pub mod Held
pub mod Previous
pub mod Next
pub mod Accepted
pub mod FirstAnswers
pub mod First
pub mod Newly
