use Rattle.std.proofs.Common.{◌≡◌, rules, sym, subst, arith}
use Rattle.queue.specs.First.{earliest, Foremost}
use Rattle.queue.proofs.Foremosts.{foremost}
use Rattle.queue.proofs.Scanning.{scan_more, scan_all}
use Rattle.queue.proofs.row.calls.RowQueueReadyQueue.first.Goals as goal

pub loop-place-preserved : goal.loop-place-preserved
loop-place-preserved c =
    scan_more c.args.self.now.slots c.loop-place.place _ _ _ _ (omega arith) c.loop-place.invariant c.better-best.ensures

pub returns-clause-relation : goal.returns-clause-relation
returns-clause-relation c =
    let held = c.args.self.now.slots in
    let answer : c.map.result ≡ earliest held = search (rules, scan_all held c.loop-place.place) in
    subst (Foremost held) (sym answer) (foremost held)
