pub mod HeldPartLemmas
pub mod HeldTokenLemmas
pub mod KindLemmas
pub mod NumberLemmas
pub mod OpenLemmas
pub mod PlaceLemmas
pub mod TextLemmas
pub mod TokenValues
