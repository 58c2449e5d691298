pub mod LanguageRows
pub mod LanguageTable
pub mod TextParser
pub mod Feature
pub mod FeatureText
pub mod FeatureGrammar
