pub mod AddressLemmas
pub mod ArgumentLemmas
pub mod KindLemmas
pub mod ValueLemmas
pub mod WordLemmas
