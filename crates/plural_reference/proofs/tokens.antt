-- How a text is cut into pieces and tokens: the scan of its bytes and the pieces of the grammar
-- agree.
pub mod ScanComplete
pub mod ScanSound
pub mod ScanSize
pub mod CutOnce
pub mod Walk
pub mod Alone
pub mod FirstBytes
pub mod LargeNumbers
pub mod OpenNumbers
pub mod TokensFit
