use Rattle.std.proofs.Common.{◌≡◌, ◌≤◌, List, ◌++◌, length, drop, Ok, Err, sym, ap, ◌∙◌, arith}
use Rattle.std.proofs.lemmas.List.{length-take-le}
use Rattle.std.proofs.lemmas.Result.{err_from_is_err_and}
use Rattle.duty.specs.declared.records.Record.{Record}
use Rattle.duty.specs.Heads.{head}
use Rattle.columns.specs.Tables.{head_in, filled}
use Rattle.reader.specs.Views.{headers}
use Rattle.reader.proofs.Turns.{sheet_then}
use Rattle.reader.proofs.cursor.Reader.sheet.Goals as goal

pub returns-in_err-records : goal.returns-in_err-records
returns-in_err-records c =
    let h = c.in_ok-header.header in
    let told = c.in_ok-header.ensures in
    let n = c.duties-duties.ensures in
    let fits : h.duties ≤ length c.args.records.now = omega (arith, c.if-records-duties.false, n) in
    let is = err_from_is_err_and c.from_residual-in_err-records.result c.from_residual-in_err-records.ensures.1 in
    let e = sheet_then c.args.form _ c.args.self.now.text.now (head h) _ _ told.answer c.requires.start.0 c.requires.start.1 fits
    (Err _) _ _ _ _ _ c.in_err-records.ensures (length-take-le _ _ (omega (arith, n, h.few_duties)) ∙ n) c.cycle.ensures told.moves.text told.moves.pos told.moves.line in
    record { answer = ap headers (is.1 ∙ ap Err is.2) ∙ sym (ap head_in e); after = sym (ap (λ r. filled r c.args.records.now) e) }

pub returns : goal.returns
returns c =
    let h = c.in_ok-header.header in
    let told = c.in_ok-header.ensures in
    let n = c.duties-duties.ensures in
    let fits : h.duties ≤ length c.args.records.now = omega (arith, c.if-records-duties.false, n) in
    let rows = c.records.new.records in
    let e = sheet_then c.args.form _ c.args.self.now.text.now (head h) _ _ told.answer c.requires.start.0 c.requires.start.1 fits
    (Ok rows) _ _ _ _ _ c.in_ok-records.ensures (length-take-le _ _ (omega (arith, n, h.few_duties)) ∙ n) c.cycle.ensures told.moves.text told.moves.pos told.moves.line in
    let count : c.duties-duties.result ≡ length rows = sym (c.records.auto.records ∙ length-take-le _ _ (omega (arith, n, h.few_duties))) in
    record {
      answer = sym (ap head_in e);
      after =
          ap (λ (l : List Record). l ++ drop c.duties-duties.result c.args.records.now) c.copy_from_slice.ensures.after
          ∙ ap (λ k. rows ++ drop k c.args.records.now) count
          ∙ sym (ap (λ r. filled r c.args.records.now) e);
    }
