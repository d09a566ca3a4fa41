use Rattle.std.proofs.Common.{ℕ, Ok, Err, ap, ◌∙◌}
use Rattle.std.proofs.lemmas.Result.{err_from_is_err_and}
use Rattle.columns.specs.declared.forms.Form.TheVariants as form
use Rattle.duty.specs.declared.records.Record.{Record}
use Rattle.duty.specs.declared.timings.Timing.{Timing}
use Rattle.columns.specs.Lines.{duty_row}
use Rattle.reader.specs.declared.lines.NamePart.{NamePart}
use Rattle.reader.specs.Cases.{case}
use Rattle.reader.specs.Views.{part, rest}
use Rattle.reader.proofs.Recorded.{case_record, case_refused, no_header}
use Rattle.reader.proofs.cursor.Reader.duty_record.Goals as goal
use Rattle.reader.proofs.cursor.Reader.duty_record.Goals.{in-Table, in-Plan}

pub returns-in_err-name-clause-answer : goal.returns-in_err-name-clause-answer
returns-in_err-name-clause-answer c =
    let s = c.args.self.now in
    let m = duty_row c.args.form c.args.cycle s.pos s.line (rest s) in
    let p = err_from_is_err_and c.from_residual.result c.from_residual.ensures.1 in
    p.1 ∙ ap Err p.2 ∙ case_refused m c.args.form _ c.in_err-name.ensures.answer

pub unreachable-requires : goal.unreachable-requires
unreachable-requires c =
    let s = c.args.self.now in
    let m = duty_row c.args.form c.args.cycle s.pos s.line (rest s) in
    no_header m c.args.form _ _ (ap case c.in-Header.is) c.in_ok-name.ensures.answer

-- the record of a name, a timing and a board
abbrev stored : NamePart × Timing × ℕ → Record
stored held = record { name = record { bytes = held.0.bytes.now }; timing = held.1; board = held.2 }

pub returns-clause-answer : goal.returns-clause-answer
returns-clause-answer c =
    let s = c.args.self.now in
    let m = duty_row c.args.form c.args.cycle s.pos s.line (rest s) in
    let told = c.in_ok-name.ensures in
    elim c.match-branch-2.branch [
      | in-Table w ↦
          ap (λ h. Ok (stored h)) w.board-is ∙ case_record m c.args.form form.Table _ (record { name = part w.in-Table.name; timing = w.in-Table.timing; board = 0 }) (ap case w.in-Table.is) told.answer
      | in-Plan w ↦
          ap (λ h. Ok (stored h)) w.board-is ∙ case_record m c.args.form form.Plan _ (record { name = part w.in-Plan.name; timing = w.in-Plan.timing; board = w.in-Plan.board }) (ap case w.in-Plan.is) told.answer
    ]
