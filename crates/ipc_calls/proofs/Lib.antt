mod Opened
mod Towers
mod CallRuns
