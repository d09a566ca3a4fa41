-- Duties are given places one after another, as many as there are places.
use Rattle.std.proofs.Common.{◌≡◌, ℕ, zero, suc, ◌+◌, ◌<◌, ◌≤◌, List, [], ◌∷◌, ◌++◌, map, length, get_or, take, sym, refl, ap, ◌∙◌, arith}
use Rattle.std.proofs.lemmas.List.{length-take-le, take-map, take_all, map_push, map_more}
use Rattle.duty.specs.declared.duties.Duty.{Duty}
use Rattle.duty.specs.declared.timings.Timing.{Timing}
use Rattle.queue.specs.Places.{places as width}
use Rattle.model.specs.Boards.{Place, Board, fresh, loaded}
use Rattle.board_state.specs.BoardOf.{seating}
use Rattle.board_state.specs.Views.{timing_of}

-- one element more, where the first n are taken
take_push : {A : Type 0} (n : ℕ) (xs : List A) (y : A) → take n (take n xs ++ y ∷ []) ≡ take n (xs ++ y ∷ [])
take_push zero xs y = refl
take_push (suc n) [] y = refl
take_push {A} (suc n) (x ∷ xs) y = ap (λ (l : List A). x ∷ l) (take_push n xs y)

-- a board loaded with as many duties as there are places, and one duty more
pub seated : (ds : List Timing) (d : Timing) → seating (loaded (take width ds)) d ≡ loaded (take width (ds ++ d ∷ []))
seated ds d =
    ap (λ (l : List Place). record { clock = 0; places = l })
    (ap (λ (l : List Place). take width (l ++ fresh d ∷ [])) (sym (take-map fresh width ds))
    ∙ take_push width (map fresh ds) (fresh d)
    ∙ ap (take width) (sym (map_push fresh ds d))
    ∙ take-map fresh width (ds ++ d ∷ []))

-- a loop that gives each duty a place
module _ (b : Board) (ds : List Duty) (i : ℕ) (so_far : b ≡ loaded (take width (map timing_of (take i ds)))) where
  pub seated_more : (b' : Board) (d : Duty) → i < length ds → b' ≡ seating b (get_or ds i d).timing → b' ≡ loaded (take width (map timing_of (take (i + 1) ds)))
  seated_more b' d within one =
      one
      ∙ ap (λ (x : Board). seating x (get_or ds i d).timing) so_far
      ∙ seated (map timing_of (take i ds)) (get_or ds i d).timing
      ∙ ap (λ (l : List Timing). loaded (take width l)) (sym (map_more timing_of ds i d within))

  pub seated_all : length ds ≤ i → b ≡ loaded (map timing_of (take width ds))
  seated_all past =
      so_far
      ∙ ap (λ (l : List Duty). loaded (take width (map timing_of l))) (take_all i ds past)
      ∙ ap loaded (take-map timing_of width ds)

-- the duties that there are places for
pub first_length : (ds : List Duty) → width < length ds → width ≡ length (take width ds)
first_length ds many = sym (length-take-le width ds (omega (arith, many)))

pub first_all : (ds : List Duty) → length ds ≤ width → ds ≡ take width ds
first_all ds few = sym (take_all width ds few)
