-- The density gauge keeps the law.
use Rattle.std.specs.Prelude.{◌≡◌, ℕ, ◌+◌, ◌-◌, ◌*◌, ◌/◌, ◌<◌, ◌≤◌, true, List, length, nat_le}
use Rattle.std.proofs.Common.{ap, mul_comm, mul_assoc, mul-le-mul_right, le_of_mul-le-mul_right, div-lt_iff_lt-mul, add-mul, one-mul, arith}
use Rattle.std.proofs.Math.Nat.{lt-div-mul-add}
use Rattle.std.specs.List.{AllByRecursion}
use Rattle.std.proofs.ByRecursion.{All-weaker}
use Rattle.std.proofs.lemmas.Bool.{and_parts, leb-true}
use Rattle.duty.specs.declared.timings.Timing.{Timing}
use Rattle.duty.specs.Demand.{demand, demands}
use Rattle.duty.specs.Sums.{total}
use Rattle.gauge.specs.Density.{whole, density, density_passed, DensitiesRoundUp}
use Rattle.gauge.specs.Fair.{fair}
use Rattle.gauge.specs.Totals.{total_le, total_times, total_most}
use Rattle.gauge.specs.Fairness.{Timed, fair_list, all_timed}
use Rattle.gauge.specs.Demands.{demand_dense}

-- a ÷ b rounded up is at most m wherever a is at most m × b
rounded_least : (a b m : ℕ) → 0 < b → a ≤ m * b → (a + (b - 1)) / b ≤ m
rounded_least a b m some h =
    let low : (a + (b - 1)) / b < m + 1 = (div-lt_iff_lt-mul {k = b} {x = a + (b - 1)} {y = m + 1} some).1 (omega (arith, add-mul m 1 b, one-mul b)) in
    omega arith

rounded_enough : (a b : ℕ) → 0 < b → a ≤ (a + (b - 1)) / b * b
rounded_enough a b some = omega (arith, lt-div-mul-add {a = a + (b - 1)} {b = b} some)

pub densities_round_up : DensitiesRoundUp
densities_round_up d some = record {
  enough = rounded_enough (d.cost * whole) d.deadline some;
  least = λ m h. rounded_least (d.cost * whole) d.deadline m some h;
}

pub density_most : (d : Timing) → Timed d → density d ≤ whole
density_most d k =
    let a : d.cost * whole ≤ d.deadline * whole = mul-le-mul_right whole k.feasible in
    rounded_least (d.cost * whole) d.deadline whole (omega (arith, k.positive, k.feasible)) (omega (arith, mul_comm d.deadline whole))

pub densities_most : (ds : List Timing) → AllByRecursion Timed ds → total density ds ≤ length ds * whole
densities_most ds h = total_most density whole ds (All-weaker Timed (λ d. density d ≤ whole) density_most ds h)

-- n × deadline ≤ cost × t, and cost ÷ deadline is at most m ÷ w: so n is at most m × t ÷ w
crossed : (n c d m w t : ℕ) → 0 < d → n * d ≤ c * t → c * w ≤ m * d → n * w ≤ m * t
crossed n c d m w t some h g =
    let a : n * d * w ≤ c * t * w = mul-le-mul_right w h in
    let b : c * w * t ≤ m * d * t = mul-le-mul_right t g in
    let e₁ : n * d * w ≡ n * w * d = turned n d w in
    let e₂ : c * t * w ≡ c * w * t = turned c t w in
    let e₃ : m * d * t ≡ m * t * d = turned m d t in
    le_of_mul-le-mul_right {m = n * w} {n = m * t} {k = d} (omega arith) some
  where
    turned : (x y z : ℕ) → x * y * z ≡ x * z * y
    turned x y z = omega (arith, mul_assoc x y z, mul_assoc x z y, ap (λ (k : ℕ). x * k) (mul_comm y z))

demand_density : (t : ℕ) (d : Timing) → Timed d → demand d t * whole ≤ density d * t
demand_density t d k =
    let some : 1 ≤ d.deadline = omega (arith, k.positive, k.feasible) in
    crossed (demand d t) d.cost d.deadline (density d) whole t some (demand_dense d t k) (densities_round_up d some).enough

pub density_bounded : (ds : List Timing) (cycle : ℕ) → density_passed ds cycle ≡ true → (t : ℕ) → demands ds t ≤ t
density_bounded ds cycle e t =
    let a = and_parts (fair ds cycle) (nat_le (total density ds) whole) e in
    let k = all_timed ds (fair_list ds cycle a.0).each_timely in
    let each = All-weaker Timed (λ d. demand d t * whole ≤ density d * t) (demand_density t) ds k in
    let sums = total_le (λ d. demand d t * whole) (λ d. density d * t) ds each in
    let top : total density ds * t ≤ whole * t = mul-le-mul_right t (leb-true _ _ a.1) in
    omega (arith, sums, total_times (λ d. demand d t) whole ds, total_times density t ds)
