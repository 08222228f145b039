mod Heights
mod Climbs
mod Near
mod PlanLaws
mod CostLaws
mod Nearer
mod NearLines
