-- What the calls that write records as texts promise.
pub mod Writer
