use Rattle.std.proofs.Common.{◌≡◌, ℕ, length, take, Ok, sym, ap, ◌∙◌, subst, arith}
use Rattle.std.specs.List.{AllByRecursion}
use Rattle.std.proofs.lemmas.List.{take_at}
use Rattle.duty.specs.Heads.{head}
use Rattle.columns.specs.Checks.{records_fault}
use Rattle.columns.specs.Texts.{text, text_length}
use Rattle.writer.specs.Puts.{put, Sized}
use Rattle.writer.specs.Written.{whole, sheet, length_in, out_in}
use Rattle.writer.proofs.Accepted.{limits_kept, length_rows, all_fitting, write_ok}
use Rattle.writer.proofs.Back.{length_whole, text_back}
use Rattle.writer.proofs.Parts.{put_first}
use Rattle.writer.proofs.texts.write.Goals as goal

pub fill-requires : goal.fill-requires
fill-requires c =
    let h = head c.args.header.now in
    let rs = c.args.records.now in
    let ok : records_fault h rs ≡ Ok tt = sym c.check_records.ensures ∙ c.in_ok-check_records.was in
    let due = c.text_length-length.ensures ∙ ap (text_length c.args.form) c.duties-duties.ensures in
    let long = ap (text_length c.args.form) (length_rows h rs ok) in
    rw c.duties-duties.ensures (record { fits = all_fitting h rs ok; room = omega arith })

pub returns : goal.returns
returns c =
    let form = c.args.form in
    let h = head c.args.header.now in
    let rs = c.args.records.now in
    let out = c.args.out.now in
    let whole_text = text form (sheet h rs) in
    let ok : records_fault h rs ≡ Ok tt = sym c.check_records.ensures ∙ c.in_ok-check_records.was in
    let limits = limits_kept c.args.header.now in
    let duties = c.duties-duties.ensures in
    let sized = subst (λ (n : ℕ). AllByRecursion Sized (take n rs)) duties c.fill.ensures.sized in
    let value = c.fill.ensures.value ∙ ap (λ (n : ℕ). put 0 (text form (whole h (take n rs))) out) duties ∙ put_first whole_text out in
    let due = c.text_length-length.ensures ∙ ap (text_length form) duties in
    let full = length_whole form h rs limits ok sized ∙ sym due in
    let e = write_ok h rs ok form (length out) (omega arith) in
    record {
      answer = ap Ok (sym full) ∙ sym (ap length_in e);
      after = value ∙ sym (ap (λ r. out_in r out) e);
      within = omega arith;
      back = text_back form h rs limits ok sized (take c.text_length-length.result c.fill.new.out) (ap (take c.text_length-length.result) value ∙ take_at whole_text _ _ full);
    }
