pub mod Common
pub mod CommandLimits
pub mod LandLimits
pub mod Falls
pub mod TemplateLimits
pub mod CommandIds
pub mod SourceLimits
pub mod Examples
