pub mod FirstFailures
