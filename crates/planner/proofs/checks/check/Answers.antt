use Rattle.std.proofs.Common.{Err, sym, ap, ◌∙◌}
use Rattle.std.proofs.lemmas.Result.{err_from_is_err_and}
use Rattle.duty.specs.Heads.{head}
use Rattle.planner.proofs.Checking.{checks_law, unread_fault, read_fault}
use Rattle.planner.proofs.checks.check.Goals as goal

-- src/checks.rt:19:18
pub returns-in_err-header : goal.returns-in_err-header
returns-in_err-header c =
    let bs = c.args.text.now in
    let old = c.args.records.now in
    let p = err_from_is_err_and c.from_residual.result c.from_residual.ensures.1 in
    let told = c.in_err-header.ensures in
    let answer = p.1 ∙ ap Err p.2 ∙ sym (unread_fault bs old c.in_err-header.field-0.0 told.answer) in
    record { answer = answer; law = checks_law bs old _ answer; records = told.after }

-- src/checks.rt:14:1
pub returns : goal.returns
returns c =
    let bs = c.args.text.now in
    let old = c.args.records.now in
    let read = c.in_ok-header.ensures in
    let answer = c.check_closing.ensures.answer ∙ sym (read_fault bs old (head c.in_ok-header.header) c.read.new.records read.answer read.after) in
    record { answer = answer; law = checks_law bs old _ answer; records = c.check_closing.ensures.same ∙ read.after }
