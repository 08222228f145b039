mod Growth
mod Phase
mod Whole
mod Steps
mod Results
