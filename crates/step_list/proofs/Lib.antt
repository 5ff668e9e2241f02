-- The loop that runs a list of steps.
mod Running
