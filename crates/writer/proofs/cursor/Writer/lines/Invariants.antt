use Rattle.std.proofs.Common.{take}
use Rattle.std.specs.List.{flat_map, AllByRecursion}
use Rattle.columns.specs.Texts.{line_text}
use Rattle.writer.specs.Puts.{Appended, Sized}
use Rattle.writer.proofs.cursor.Writer.lines.Given as goal

-- the lines so far are put
abbrev pub invariant-loop-row : goal.invariant-loop-row
invariant-loop-row l = record {
  wrote : Appended (flat_map (line_text l.form) (take l.row-index l.records)) l.initial.self l.self;
  sized : AllByRecursion Sized (take l.row-index l.records);
}
