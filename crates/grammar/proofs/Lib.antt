-- The theorems that other crates cite.
pub mod TextRows
pub mod ParserLaws
pub mod NumberTexts
pub mod GrammarRead
pub mod TextsRead
pub mod TextExamples
