use Rattle.std.proofs.Common.{◌≡◌, ◌-◌, ◌<◌, ◌≤◌, length, Ok, Err, sym, ap, ◌∙◌, arith, length-drop}
use Rattle.std.proofs.lemmas.List.{set-get_or, take_all}
use Rattle.std.proofs.lemmas.Result.{err_from_is_err_and}
use Rattle.reader.specs.Sheets.{answered}
use Rattle.reader.specs.Views.{rest}
use Rattle.reader.proofs.Turns.{turn, turn_refused, bytes_left, none_left}
use Rattle.reader.proofs.cursor.Reader.records.Goals as goal

pub returns-in_err-record : goal.returns-in_err-record
returns-in_err-record c =
    let s = c.loop-record.self in
    let p = err_from_is_err_and c.from_residual.result c.from_residual.ensures.1 in
    ap (answered c.from_residual.result) (set-get_or c.loop-record.records c.loop-record.record-index _)
    ∙ ap (λ r. answered r c.loop-record.records) (p.1 ∙ ap Err p.2)
    ∙ sym (turn_refused c.args.form c.args.cycle (length c.args.records.now) c.loop-record.record-index s.pos s.line (rest s) c.loop-record.records _ c.loop-record-test.true c.in_err-record.ensures.answer)
    ∙ c.loop-record.invariant

pub loop-record-preserved : goal.loop-record-preserved
loop-record-preserved c =
    let s = c.loop-record.self in
    let t = c.duty_record.new.self in
    let told = c.in_ok-record.ensures in
    turn c.args.form c.args.cycle (length c.args.records.now) c.loop-record.record-index s.pos s.line t.pos t.line s.text.now t.text.now c.loop-record.records _ c.loop-record-test.true (omega arith) told.answer told.moves.text told.moves.pos told.moves.line
    ∙ c.loop-record.invariant

pub returns-then-self : goal.returns-then-self
returns-then-self c =
    let s = c.loop-record.self in
    let none : length c.args.records.now - c.loop-record.record-index ≡ 0 = omega arith in
    let some : 0 < length (rest s) = omega (arith, length-drop s.pos s.text.now) in
    ap Err c.refusal.ensures ∙ sym (bytes_left c.args.form c.args.cycle s.pos s.line _ _ some) ∙ rw none at c.loop-record.invariant

pub returns : goal.returns
returns c =
    let s = c.loop-record.self in
    let none : length c.args.records.now - c.loop-record.record-index ≡ 0 = omega arith in
    let over : length (rest s) ≤ 0 = omega (arith, length-drop s.pos s.text.now) in
    ap Ok (sym (take_all c.loop-record.record-index c.loop-record.records (omega arith)))
    ∙ sym (none_left c.args.form c.args.cycle s.pos s.line _ _ over)
    ∙ rw none at c.loop-record.invariant
