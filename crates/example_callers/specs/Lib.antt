pub mod PackedTexts
pub mod RelativeTime
pub mod CompactUnits
pub mod Store
pub mod RangeLabels
pub mod Notice
