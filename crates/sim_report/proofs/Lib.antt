pub mod Common
pub mod Examples
pub mod KnownTemplates
pub mod Kept
pub mod TemplateLines
