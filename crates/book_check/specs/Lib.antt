pub mod ImageOf
