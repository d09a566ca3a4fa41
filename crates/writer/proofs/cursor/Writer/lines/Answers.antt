use Rattle.std.proofs.Common.{◌≡◌, ℕ, ◌+◌, List, [], ◌++◌, get_or, take, sym, refl, ap, ◌∙◌, subst, arith}
use Rattle.std.specs.List.{flat_map, AllByRecursion}
use Rattle.std.proofs.ByRecursion.{All-get_or, All-more}
use Rattle.std.proofs.lemmas.List.{take_all, take_more, flat_map_more}
use Rattle.duty.specs.declared.records.Record.{Record}
use Rattle.columns.specs.Texts.{line_text}
use Rattle.writer.specs.Puts.{Appended, Fitting, Sized}
use Rattle.writer.proofs.Parts.{put_nothing, appended}
use Rattle.writer.proofs.Lines.{blank, line_room}
use Rattle.writer.proofs.cursor.Writer.lines.Goals as goal

pub loop-row-init : goal.loop-row-init
loop-row-init c = record {
  wrote = record { holds = sym (put_nothing _ _); stands = omega arith; long = refl; same = refl };
  sized = tt;
}

pub line-requires : goal.line-requires
line-requires c =
    let rs = c.args.records.now in
    let i = c.loop-row.row-index in
    let v = c.loop-row.invariant in
    let room = line_room c.args.form rs i c.loop-row-test.true c.requires.fits v.sized in
    record { fits = All-get_or Fitting rs i blank c.loop-row-test.true c.requires.fits; room = omega arith }

pub loop-row-preserved : goal.loop-row-preserved
loop-row-preserved c =
    let rs = c.args.records.now in
    let i = c.loop-row.row-index in
    let v = c.loop-row.invariant in
    let start = c.args.self.now in
    let text = line_text c.args.form in
    let more : flat_map text (take i rs) ++ text (get_or rs i blank) ≡ flat_map text (take (i + 1) rs) = flat_map_more text [] (take i rs) _ ∙ ap (flat_map text) (sym (take_more rs i blank c.loop-row-test.true)) in
    record {
      wrote = subst (λ (l : List ℕ). Appended l start c.line.new.self) more (appended start c.loop-row.self c.line.new.self _ _ v.wrote c.line.ensures.wrote (omega arith));
      sized = All-more Sized rs i blank c.loop-row-test.true v.sized c.line.ensures.sized;
    }

pub returns : goal.returns
returns c =
    let rs = c.args.records.now in
    let v = c.loop-row.invariant in
    let all = take_all c.loop-row.row-index rs c.loop-row-test.false in
    record {
      wrote = subst (λ (l : List Record). Appended (flat_map (line_text c.args.form) l) c.args.self.now c.loop-row.self) all v.wrote;
      sized = subst (AllByRecursion Sized) all v.sized;
    }
