-- The ticks of a way, counted by the places and rounds that get them.
use Rattle.std.proofs.Common.{◌≡◌, ℕ, suc, ◌+◌, ◌≤◌, cond, ◌&&◌, eqb, ltb, leb, [], ◌∷◌, length, Some, None, Option, refl, arith}
use Rattle.std.proofs.lemmas.Bool.Decides.{nat_tests}
use Rattle.duty.specs.Sums.{total}
use Rattle.gauge.specs.Shortage.{Job, Way, share, ticks}

abbrev pub job_of : ℕ → ℕ → Job
job_of p k = record { place = p; round = k }

-- what the first k jobs of the place p get of one tick
abbrev pub share_of_first : ℕ → ℕ → Option Job → ℕ
share_of_first p k None = 0
share_of_first p k (Some given) = cond (eqb given.place p && ltb given.round k) 1 0

-- what the places from p on get of one tick
abbrev pub share_from : ℕ → Option Job → ℕ
share_from p None = 0
share_from p (Some given) = cond (leb p given.place) 1 0

share_more : (p k : ℕ) (o : Option Job) → share_of_first p (suc k) o ≡ share_of_first p k o + share (job_of p k) o
share_more p k None = refl
share_more p k (Some given) = grind (arith, nat_tests)

share_apart : (p k : ℕ) (o : Option Job) → share_of_first p k o + share_from (suc p) o ≤ share_from p o
share_apart p k None = omega arith
share_apart p k (Some given) = grind (arith, nat_tests)

share_once : (p : ℕ) (o : Option Job) → share_from p o ≤ 1
share_once p None = omega arith
share_once p (Some given) = grind (arith, nat_tests)

-- one job more
pub first_more : (p k : ℕ) (way : Way) → total (share_of_first p (suc k)) way ≡ total (share_of_first p k) way + ticks (job_of p k) way
first_more p k [] = refl
first_more p k (o ∷ way) = omega (arith, share_more p k o, first_more p k way)

-- no tick goes to two places
pub places_apart : (p k : ℕ) (way : Way) → total (share_of_first p k) way + total (share_from (suc p)) way ≤ total (share_from p) way
places_apart p k [] = omega arith
places_apart p k (o ∷ way) = omega (arith, share_apart p k o, places_apart p k way)

-- no more ticks are given out than there are
pub places_share : (p : ℕ) (way : Way) → total (share_from p) way ≤ length way
places_share p [] = omega arith
places_share p (o ∷ way) = omega (arith, share_once p o, places_share p way)
