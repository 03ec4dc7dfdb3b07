-- What the contracts of the reader of questions cite, which is to be believed.
pub mod QuestionRules
pub mod Question
pub mod QuestionReply
