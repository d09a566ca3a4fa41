-- Each figure is what its definition computes to.
use Rattle.std.proofs.Common.{refl}
use Rattle.duty.specs.Demand.{demand}
use Rattle.figures.specs.Boards.{BoardFigures}
use Rattle.figures.specs.Figures.{Figures}

board_figures : BoardFigures
board_figures = record {
  board_one = refl;
  board_two = refl;
  all_at_zero = refl;
  ten-ticks = refl;
  clock_readings = refl;
  great_again = refl;
  too_soon_number = refl;
  great_after_cancel = refl;
}

pub figures : Figures
unfolding demand
figures = record {
  demands_of_one = refl;
  pair_at_six = refl;
  limit_at_six = refl;
  pair_passes = refl;
  trio_at_eight = refl;
  limit_at_eight = refl;
  trio_fails = refl;
  trio_exact = refl;
  trio_densities = refl;
  trio_dense = refl;
  one_busy = refl;
  two_busy = refl;
  boards = board_figures;
}
