-- the outline of a document of rules
mod SameNames
mod OutlineFound
mod OutlineStays
mod OutlineServes
