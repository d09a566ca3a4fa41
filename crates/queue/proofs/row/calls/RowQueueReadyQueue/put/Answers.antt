use Rattle.queue.proofs.Scanning.{refused_keeps}
use Rattle.queue.proofs.row.calls.RowQueueReadyQueue.put.Goals as goal

pub returns-in_err-check-clause-after : goal.returns-in_err-check-clause-after
returns-in_err-check-clause-after c =
    let q = c.args.self.now in
    refused_keeps q.slots c.args.place _ _ q.wide c.in_err-check.ensures
