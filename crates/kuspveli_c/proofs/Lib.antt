mod Slices
mod Results
mod Told
mod SetInHandles
mod LinesAndCarets
