pub mod IsCut
