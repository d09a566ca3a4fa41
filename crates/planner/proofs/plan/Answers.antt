use Rattle.std.proofs.Common.{length, Err, sym, ap, ◌∙◌}
use Rattle.std.proofs.lemmas.Result.{err_from_is_err_and}
use Rattle.duty.specs.Heads.{head}
use Rattle.columns.specs.declared.forms.Form.TheVariants.{Plan}
use Rattle.columns.specs.Tables.{filled}
use Rattle.gauge.specs.Letters.{letter_passed}
use Rattle.placing.specs.Outcome.{place_answer, place_after}
use Rattle.writer.specs.Written.{write_of, length_in, out_in}
use Rattle.planner.proofs.Chaining.{none_made, unread_scratch, read_scratch, unread, unread_text, unread_records, read_records, unplaced_text, placed_text_is}
use Rattle.planner.proofs.PlansLaw.{plans_law}
use Rattle.planner.proofs.plan.Goals as goal

pub returns-in_err-header : goal.returns-in_err-header
returns-in_err-header c =
    let bs = c.args.text.now in
    let old = c.args.records.now in
    let scratch = length c.args.scratch.now in
    let room = length c.args.out.now in
    let p = err_from_is_err_and c.from_residual.result c.from_residual.ensures.1 in
    let f = c.in_err-header.field-0.0 in
    let told = c.in_err-header.ensures in
    let text = unread_text bs old scratch room f told.answer in
    let answer = p.1 ∙ ap Err p.2 ∙ sym (ap length_in text) in
    let out = sym (ap (λ r. out_in r c.args.out.now) text) in
    record {
      answer = answer;
      out = out;
      law = plans_law bs old scratch c.args.out.now _ _ answer out;
      within = none_made c.from_residual.result _ _ p.1;
      records = told.after ∙ ap (λ m. filled m old) (unread bs old scratch room f told.answer) ∙ sym (unread_records bs old scratch room f told.answer);
      scratch = unread_scratch bs old scratch room f told.answer c.args.scratch.now;
    }

pub returns-in_err-place : goal.returns-in_err-place
returns-in_err-place c =
    let bs = c.args.text.now in
    let old = c.args.records.now in
    let scratch = length c.args.scratch.now in
    let room = length c.args.out.now in
    let h = head c.in_ok-header.header in
    let rs = c.read.new.records in
    let read = c.in_ok-header.ensures in
    let told = c.in_err-place.ensures in
    let letter = c.letter.ensures in
    let p = err_from_is_err_and c.from_residual-in_err-place.result c.from_residual-in_err-place.ensures.1 in
    let refused = told.answer ∙ ap (λ l. place_answer (letter_passed l) h rs scratch) letter in
    let text = unplaced_text bs old rs scratch room h read.answer read.after _ refused in
    let answer = p.1 ∙ ap Err p.2 ∙ sym (ap length_in text) in
    let out = sym (ap (λ r. out_in r c.args.out.now) text) in
    record {
      answer = answer;
      out = out;
      law = plans_law bs old scratch c.args.out.now _ _ answer out;
      within = none_made c.from_residual-in_err-place.result _ _ p.1;
      records = told.after ∙ ap (λ l. place_after (letter_passed l) h rs scratch) letter ∙ sym (read_records bs old rs scratch room h read.answer read.after);
      scratch = read_scratch bs old rs scratch room h read.answer read.after _ _ told.scratch;
    }

pub returns : goal.returns
returns c =
    let bs = c.args.text.now in
    let old = c.args.records.now in
    let scratch = length c.args.scratch.now in
    let room = length c.args.out.now in
    let h = head c.in_ok-header.header in
    let rs = c.read.new.records in
    let read = c.in_ok-header.ensures in
    let told = c.in_ok-place.ensures in
    let letter = c.letter.ensures in
    let after = told.after ∙ ap (λ l. place_after (letter_passed l) h rs scratch) letter in
    let taken = told.answer ∙ ap (λ l. place_answer (letter_passed l) h rs scratch) letter in
    let text = ap (λ xs. write_of Plan h xs room) after ∙ sym (placed_text_is bs old rs scratch room h read.answer read.after taken) in
    let answer = c.write.ensures.answer ∙ ap length_in text in
    let out = c.write.ensures.after ∙ ap (λ r. out_in r c.args.out.now) text in
    record {
      answer = answer;
      out = out;
      law = plans_law bs old scratch c.args.out.now _ _ answer out;
      within = c.write.ensures.within;
      records = after ∙ sym (read_records bs old rs scratch room h read.answer read.after);
      scratch = read_scratch bs old rs scratch room h read.answer read.after _ _ told.scratch;
    }
