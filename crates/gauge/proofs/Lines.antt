-- The lines of a list, drawn one by one, and their heights added up.
use Rattle.std.proofs.Common.{◌≡◌, ℕ, ◌+◌, ◌^◌, ◌<◌, ◌≤◌, true, List, [], ◌∷◌, ◌++◌, map, length, get_or, take, set, sym, ap, ◌∙◌, arith}
use Rattle.std.proofs.lemmas.List.{take_all, take_more_set, map_more}
use Rattle.duty.specs.declared.timings.Timing.{Timing}
use Rattle.duty.specs.Sums.{total}
use Rattle.gauge.specs.declared.drawing.Line.{Line}
use Rattle.gauge.specs.Fair.{fair}
use Rattle.gauge.specs.Lines.{line, height_at}
use Rattle.gauge.specs.Slope.{slope_sum}
use Rattle.gauge.specs.Totals.{total_map}
use Rattle.gauge.specs.Fairness.{fair_list}
use Rattle.gauge.specs.Slopes.{slopes_fit}

-- a loop that writes f of each element to its place
module _ {A B : Type 0} (f : A → B) (xs : List A) (ys : List B) (i : ℕ) (so_far : take i ys ≡ map f (take i xs)) where
  pub written_more : (d : A) (y : B) → i < length xs → i < length ys → y ≡ f (get_or xs i d) → take (i + 1) (set ys i y) ≡ map f (take (i + 1) xs)
  written_more d y within room e =
      take_more_set ys i y room ∙ ap (λ l. l ++ y ∷ []) so_far ∙ ap (λ z. map f (take i xs) ++ z ∷ []) e ∙ sym (map_more f xs i d within)

  pub written_all : length xs ≤ i → i ≤ length xs → take (length xs) ys ≡ map f xs
  written_all past upto =
      let end : length xs ≡ i = omega arith in
      ap (λ (n : ℕ). take n ys) end ∙ so_far ∙ ap (map f) (take_all i xs past)

-- a fair list and its lines
module _ (ds : List Timing) (lines : List Line) (cycle : ℕ) (drawn : lines ≡ map (line cycle) ds) where
  pub heights : (t : ℕ) → total (height_at t) lines ≡ slope_sum ds cycle t
  heights t = ap (total (height_at t)) drawn ∙ total_map (height_at t) (line cycle) ds

  pub heights_fit : fair ds cycle ≡ true → (t : ℕ) → t < 2 ^ 32 → total (height_at t) lines < 2 ^ 64
  heights_fit judged t near = omega (arith, heights t, slopes_fit ds cycle (fair_list ds cycle judged) t near)
