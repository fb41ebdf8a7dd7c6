mod LinePieces
mod NoFloats
mod ReadReports
mod NotedLines
