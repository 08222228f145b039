mod Together
mod LineRun
