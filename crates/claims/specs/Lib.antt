-- What the contracts of the public calls cite.
pub mod Files
pub mod Reachable
pub mod Truth
pub mod AnswerNumbers
pub mod ReachReply
pub mod AskReply
pub mod Replaying
pub mod StepReplies
pub mod Demand
pub mod Editor
pub mod SampleReplies
