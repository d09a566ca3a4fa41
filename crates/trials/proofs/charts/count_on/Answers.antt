use Rattle.std.proofs.Common.{rules}
use Rattle.trials.proofs.Counts.{on_board_counts}
use Rattle.trials.proofs.charts.count_on.Goals as goal

pub returns : goal.returns
returns c = search (rules, on_board_counts c.args.board)
