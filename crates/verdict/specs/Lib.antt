-- `Verdict`: what is said of a site sheet. `Numbers`: the number of a verdict and the places that are told with it.
pub mod Verdict
pub mod Numbers
