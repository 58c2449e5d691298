pub mod KhmerPermuted
pub mod KhmerMoves
pub mod KhmerSteps
pub mod KhmerRuns
pub mod KhmerScan
pub mod KhmerWalk
