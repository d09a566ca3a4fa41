use Rattle.std.proofs.Common.{sym, refl, ap, ◌∙◌, subst}
use Rattle.gauge.proofs.Shortage.{refused_lists_leave_a_job_short}
use Rattle.model.specs.Boards.{Board}
use Rattle.model.specs.Promises.{Promises}
use Rattle.model.specs.Steps.{run}
use Rattle.board.specs.Loads.{list_of}
use Rattle.board.specs.Runs.{calls}
use Rattle.board.proofs.runs.run.Goals as goal

pub returns : goal.returns
returns g c =
    let ok = c.in_default.ensures in
    let start = c.load-running.ensures in
    let played = c.play.ensures in
    let before = calls c.args.events.now in
    let ds = list_of c.args.plan.now c.args.number in
    record {
      answer = ok;
      ran = record {
        answers = played ∙ ap (λ (b : Board). run b before) start.start;
        promises = subst (Promises ds) (sym played) (start.promises before);
        emptied = c.unload.ensures;
      };
      refused_lists = refused_lists_leave_a_job_short;
    }

pub returns-in-Err : goal.returns-in-Err
returns-in-Err g c = record { answer = c.in-Err.ensures; ran = record { events = refl; same_queue = refl }; refused_lists = refused_lists_leave_a_job_short }
