-- A chain of iterators that adds up what f gives of each element of xs.
use Rattle.std.proofs.Common.{◌≡◌, ℕ, ◌+◌, ◌<◌, List, map, Option, ◌∙◌, arith}
use Rattle.std.specs.Prelude.{fold}
use Rattle.std.specs.Bool.{⊤}
use Rattle.std.specs.Iterator.{Drains}
use Rattle.std.specs.Iterator.Runs.{EachRunFrom}
use Rattle.std.proofs.lemmas.Iterator.{YieldsList}
use Rattle.std.proofs.lemmas.Iterator.Consumers.{sum_by_from_yields_List, fits_by_from_yields_list}
use Rattle.duty.specs.Sums.{total}
use Rattle.gauge.specs.Totals.{sum_by_total}

module _ {S A : Type 0} {steps : S → Option ℕ → S → Type 0} {s : S} (f : A → ℕ) (xs : List A) (road : YieldsList steps (λ x. x) s (map f xs)) where
  pub chain_fits : {m : ℕ} → total f xs < m → EachRunFrom steps s (λ p. fold (λ a x. a + x) 0 p.items < m)
  chain_fits {m} under = fits_by_from_yields_list f xs s m road (omega (arith, sum_by_total f xs))

  pub chain_total : {r : ℕ} → ((ys : List ℕ) × (⊤ → Drains steps s ys) × (r ≡ fold (λ a x. a + x) 0 ys)) → r ≡ total f xs
  chain_total {r} ran = sum_by_from_yields_List f xs s r ran road ∙ sum_by_total f xs
