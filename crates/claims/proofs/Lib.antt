-- What the replies mean, of runs, steps and formulas with real identifiers.
pub mod Rooms
pub mod Replays
pub mod Least
pub mod RowsTold
pub mod Claims
pub mod StepsBetween
pub mod One
pub mod Notations
pub mod Meaning
pub mod Told
pub mod ReplyNumbers
pub mod SampleReplies
