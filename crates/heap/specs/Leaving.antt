-- How entries leave a heap that is in heap order.
use Rattle.std.specs.Prelude.{◌≡◌, Bool, List, ◌∷◌, ◌++◌, map, IfSome, Some, None, Option}
use Rattle.std.specs.List.{AllByRecursion}
use Rattle.heap.specs.Order.{Heaped, Least}
use Rattle.heap.specs.Sorted.{Ascending, keys_in_order}

-- the answer's key, if there is one, before the others
abbrev pub leads : {X K : Type 0} → (X → K) → Option X → List K → List K
leads key None ks = ks
leads key (Some x) ks = key x ∷ ks

-- the answer is an entry that may leave before all that were held; the rest are a heap; and of the keys in order its key is the first
pub record Leaves {X K : Type 0} (key : X → K) (upto : X → X → Bool) (before : List X) (answer : Option X) (after : List X) : Type 0 where
  pub least : IfSome answer (λ x. Least upto x before)
  pub heaped : Heaped upto after
  pub in_turn : keys_in_order key upto before ≡ leads key answer (keys_in_order key upto after)

-- `gone` left one after another: in ascending order, each before all that stay, and with the first of the keys in order
pub record InOrder {X K : Type 0} (key : X → K) (upto : X → X → Bool) (before gone after : List X) : Type 0 where
  pub ascending : Ascending upto gone
  pub ahead : AllByRecursion (λ x. Least upto x after) gone
  pub heaped : Heaped upto after
  pub in_turn : keys_in_order key upto before ≡ map key gone ++ keys_in_order key upto after
