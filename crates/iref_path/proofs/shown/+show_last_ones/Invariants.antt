use Rattle.iref_path.proofs.shown.+show_last_ones.Given as goal

abbrev pub decreases-show_last_ones : goal.decreases-show_last_ones
decreases-show_last_ones g l = l.count
