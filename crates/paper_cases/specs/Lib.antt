-- `Cases`: the paper's twelve cases. `WholeRun`: the run that it prints.
pub mod Cases
pub mod WholeRun
