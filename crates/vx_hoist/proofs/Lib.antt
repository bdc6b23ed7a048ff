mod Grows
mod GrowRuns
mod GrowFlow
