-- What the contracts that name a refusal cite.
pub mod Judged
