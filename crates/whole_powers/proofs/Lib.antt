mod Inequalities
