-- What a fair list keeps, as orders of numbers.
use Rattle.std.specs.Prelude.{◌≡◌, ℕ, ◌*◌, ◌/◌, ◌%◌, ◌<◌, ◌≤◌, true, List, length, get_or, ◌==◌, nat_le, slice_index_or}
use Rattle.std.proofs.Common.{div-add-mod', arith}
use Rattle.std.specs.List.{AllByRecursion}
use Rattle.std.proofs.ByRecursion.{All-weaker, All-get_or}
use Rattle.std.proofs.lemmas.Bool.{and_parts, leb-true, eqb-true}
use Rattle.duty.specs.declared.timings.Timing.{Timing}
use Rattle.duty.specs.Limits.{longest, most_duties}
use Rattle.duty.specs.Timely.{timely}
use Rattle.gauge.specs.Each.{each}
use Rattle.gauge.specs.Fair.{fair_timing, in_limits, fair}
use Rattle.gauge.specs.Eaches.{all_from_each, each_weaker}

-- a duty's timing
pub record Timed (d : Timing) : Type 0 where
  pub positive : 1 ≤ d.cost
  pub feasible : d.cost ≤ d.deadline
  pub constrained : d.deadline ≤ d.spacing
  pub bounded : d.spacing ≤ longest

pub timed : (d : Timing) → timely d ≡ true → Timed d
timed d e =
    let a = and_parts (nat_le 1 d.cost) _ e in
    let b = and_parts (nat_le d.cost d.deadline) _ a.1 in
    let c = and_parts (nat_le d.deadline d.spacing) _ b.1 in
    record {
      positive = leb-true _ _ a.0;
      feasible = leb-true _ _ b.0;
      constrained = leb-true _ _ c.0;
      bounded = leb-true _ _ c.1;
    }

-- a duty's timing, and the cycle is a number of its spacings
pub record Fair (cycle : ℕ) (d : Timing) : Type 0 where
  pub is : Timed d
  pub rounds : cycle / d.spacing * d.spacing ≡ cycle

fair_parts : (cycle : ℕ) (d : Timing) → fair_timing cycle d ≡ true → Fair cycle d
fair_parts cycle d e =
    let a = and_parts (timely d) (cycle % d.spacing == 0) e in
    let none : cycle % d.spacing ≡ 0 = eqb-true _ _ a.1 in
    record { is = timed d a.0; rounds = omega (arith, div-add-mod' cycle d.spacing) }

pub record FairList (ds : List Timing) (cycle : ℕ) : Type 0 where
  pub few : length ds ≤ most_duties
  pub some : 1 ≤ cycle
  pub short : cycle ≤ longest
  pub each_timely : each timely ds ≡ true
  pub each_fair : AllByRecursion (Fair cycle) ds

pub fair_list : (ds : List Timing) (cycle : ℕ) → fair ds cycle ≡ true → FairList ds cycle
fair_list ds cycle e =
    let a = and_parts (in_limits (length ds) cycle) (each (fair_timing cycle) ds) e in
    let b = and_parts (nat_le (length ds) most_duties) _ a.0 in
    let c = and_parts (nat_le 1 cycle) (nat_le cycle longest) b.1 in
    record {
      few = leb-true _ _ b.0;
      some = leb-true _ _ c.0;
      short = leb-true _ _ c.1;
      each_timely = each_weaker (fair_timing cycle) timely (λ d h. (and_parts (timely d) _ h).0) ds a.1;
      each_fair = All-weaker (λ d. fair_timing cycle d ≡ true) (Fair cycle) (fair_parts cycle) ds (all_from_each (fair_timing cycle) ds a.1);
    }

pub all_timed : (ds : List Timing) → each timely ds ≡ true → AllByRecursion Timed ds
all_timed ds e = All-weaker (λ d. timely d ≡ true) Timed timed ds (all_from_each timely ds e)

-- one duty of a list of duties
module _ (ds : List Timing) (i : ℕ) (d : Timing) (within : i < length ds) (e : each timely ds ≡ true) where
  timed_at : Timed (slice_index_or ds i d)
  timed_at = All-get_or Timed ds i d within (all_timed ds e)

  pub deadline_at : 1 ≤ (get_or ds i d).deadline
  deadline_at = let k = timed_at in omega (arith, k.positive, k.feasible)

  pub spacing_at : 1 ≤ (get_or ds i d).spacing
  spacing_at = let k = timed_at in omega (arith, deadline_at, k.constrained)
