-- What documents 01 and 02 promise, for every input.
-- the walk of an admitted input ends, in sound states, with eligible pairs open
pub mod Admitted
pub mod Ended
pub mod Eligible
-- what it does to points and faces
pub mod Fixed
pub mod Fair
pub mod Border
-- why it closed pairs
pub mod Reasons
-- the table of answers, exactly
pub mod Says
pub mod Words
pub mod Rows
pub mod ExactlyWhen
pub mod Refused
pub mod Floats
pub mod FloatsRoot
pub mod FloatsSquares
pub mod Bounded
pub mod Finite
pub mod ErrorsPlanes
pub mod ErrorsQuadrics
pub mod Weights
pub mod WeightsStart
pub mod Errors
