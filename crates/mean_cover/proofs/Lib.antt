mod Growth
mod Clusters
mod Steps
mod Results
