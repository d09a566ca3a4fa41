-- What the first place of a board's deadlines says of the jobs.
use Rattle.std.proofs.Common.{◌≡◌, ℕ, zero, suc, ◌≤◌, List, [], ◌∷◌, get_or, Some, None, Option, sym, refl, subst, ⊎_elim, arith}
use Rattle.std.specs.List.{slice_get, AllByRecursion}
use Rattle.queue.specs.First.{earliest, Foremost}
use Rattle.queue.proofs.Foremosts.{foremost}
use Rattle.model.specs.declared.jobs.Job.{Job}
use Rattle.model.specs.Boards.{Place, due, dues}
use Rattle.model.proofs.Lists.{none_some, some_same}

-- nothing is due before e
abbrev pub NoneBefore : ℕ → Option ℕ → Type 0
NoneBefore e None = Unit {0}
NoneBefore e (Some d) = e ≤ d

-- the place p has the job that goes first
pub record Leads (xs : List Place) (p : ℕ) : Type 0 where
  pub place : Place
  pub job : Job
  pub there : slice_get xs p ≡ Some place
  pub waits : place.job ≡ Some job
  pub earliest_due : AllByRecursion (λ (x : Place). NoneBefore job.deadline (due x.job)) xs

-- what is said of the first place: no job waits, or it has the one that goes first
abbrev pub Told : List Place → Option ℕ → Type 0
Told xs None = AllByRecursion (λ (x : Place). due x.job ≡ None) xs
Told xs (Some p) = Leads xs p

-- what holds of each place's deadline holds of each job's
all_dues : (P : Option ℕ → Type 0) (xs : List Place) → ((q : ℕ) → P (get_or (dues xs) q None)) → AllByRecursion (λ (x : Place). P (due x.job)) xs
all_dues P [] h = tt
all_dues P (x ∷ xs) h = (h 0, all_dues P xs (λ q. h (suc q)))

record WaitsAt (xs : List Place) (p d : ℕ) : Type 0 where
  place : Place
  job : Job
  there : slice_get xs p ≡ Some place
  waits : place.job ≡ Some job
  due_is : job.deadline ≡ d

waits_at : (xs : List Place) (p d : ℕ) → get_or (dues xs) p None ≡ Some d → WaitsAt xs p d
waits_at [] p d h = absurd (none_some h)
waits_at (x ∷ xs) zero d h = go x.job refl h
  where
    go : (o : Option Job) → x.job ≡ o → due o ≡ Some d → WaitsAt (x ∷ xs) zero d
    go None e q = absurd (none_some q)
    go (Some j) e q = record { place = x; job = j; there = refl; waits = e; due_is = some_same q }
waits_at (x ∷ xs) (suc p) d h =
    let w = waits_at xs p d h in
    record { place = w.place; job = w.job; there = w.there; waits = w.waits; due_is = w.due_is }

pub told : (xs : List Place) → Told xs (earliest (dues xs))
told xs = go (earliest (dues xs)) (foremost (dues xs))
  where
    go : (o : Option ℕ) → Foremost (dues xs) o → Told xs o
    go None f = all_dues (λ (d : Option ℕ). d ≡ None) xs f
    go (Some p) f =
        let w = waits_at xs p f.deadline f.has in
        record {
          place = w.place;
          job = w.job;
          there = w.there;
          waits = w.waits;
          earliest_due = subst (λ (e : ℕ). AllByRecursion (λ (x : Place). NoneBefore e (due x.job)) xs) (sym w.due_is) (all_dues (NoneBefore f.deadline) xs (λ q. later q (get_or (dues xs) q None) refl));
        }
      where
        later : (q : ℕ) (d : Option ℕ) → get_or (dues xs) q None ≡ d → NoneBefore f.deadline d
        later q None h = tt
        later q (Some e) h = ⊎_elim (λ l. omega (arith, l)) (λ l. omega (arith, l.0)) (f.others q e h)
