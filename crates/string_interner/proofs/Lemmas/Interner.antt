pub mod InternsEach
pub mod Extends
pub mod InternsInto
pub mod IsSoundInterner
pub mod StandsFor
